-- Laws of rows of words: put, read back, and what a write leaves of the others.
use Prim.Native.Nat.{ℕ, zero, suc, ◌+◌, ◌-◌, ◌*◌, ◌≤◌, ◌<◌}
use mathlib.Core.Bool.{Bool, true, not, ◌&&◌, ◌||◌}
use mathlib.Core.Logic.{⊎_elim}
use mathlib.Core.Path.{◌≡◌, refl, sym, ap, ◌∙◌}
use mathlib.Core.List.{List, [], ◌∷◌, ◌++◌, append_assoc}
use native.Mathlib.Omega.{arith}
use native.Mathlib.Nat.{add-zero, mul-suc, mul-le-mul_left}
use borrow.Author.Tests.{ltb-true, leb-true, eqb-false, not-true}
use lib.Dec.{ltb, leb, eqb}
use lib.ListN.{length, get_or, take, drop, set, length-set, length-take, length-drop, take-append-drop}
use lib.Seq.{get_or-set_same, get_or-set_other, get_or-take, get_or-drop, drop_at, take_at, take-add, length-take-le}
use lib.Seq.{ext_get_or}
use lib.Seq.{sets}
use lib.Seq.{sets-eq, length-sets}
use Rattle.rules.specs.Words.{row}
use Rattle.tables.specs.Rows.{move_words}
use Rattle.tables.specs.Table.{But}
use Rattle.rules.proofs.BoolLaws.{and_left, and_right, or_cases}

-- a row ends where the next begins
pub row_within : (w b k n : ℕ) → k < n → b + w * k + w ≤ b + w * n
row_within w b k n h = omega (arith, mul-suc w k, mul-le-mul_left w h)

pub length-row : (b w k : ℕ) (ws : List ℕ) → b + w * k + w ≤ length ws → length (row b w ws k) ≡ w
unfolding row
length-row b w k ws h = length-take-le w (drop (b + w * k) ws) (omega (arith, length-drop (b + w * k) ws))

-- a row as the code lends it: from its first word up to the next row's
pub lent_row : (b w k : ℕ) (ws : List ℕ) → take (b + w * k + w - (b + w * k)) (drop (b + w * k) ws) ≡ row b w ws k
unfolding row
lent_row b w k ws = let e : b + w * k + w - (b + w * k) ≡ w = omega arith in ap (λ n. take n (drop (b + w * k) ws)) e

-- its words
pub row_word : (b w k j : ℕ) (ws : List ℕ) → j < w → get_or (row b w ws k) j 0 ≡ get_or ws (b + w * k + j) 0
unfolding row
row_word b w k j ws h = get_or-take w (drop (b + w * k) ws) j 0 h ∙ get_or-drop (b + w * k) ws j 0

-- a row that is put is read back
pub row_put : (b w k : ℕ) (ws r : List ℕ) → length r ≡ w → b + w * k + w ≤ length ws
    → row b w (sets ws (b + w * k) r) k ≡ r
unfolding row
row_put b w k ws r e h =
    let o = b + w * k in
    ap (λ l. take w (drop o l)) (sets-eq r ws o (omega arith) ∙ append_assoc (take o ws) r (drop (o + length r) ws))
    ∙ ap (take w) (drop_at (take o ws) (r ++ drop (o + length r) ws) o (length-take-le o ws (omega arith)))
    ∙ take_at r (drop (o + length r) ws) w e

-- one word more is put
pub put_more : (r ws : List ℕ) (o k : ℕ) → k < length r
    → set (sets ws o (take k r)) (o + k) (get_or r k 0) ≡ sets ws o (take (suc k) r)
put_more [] ws o k h = absurd (omega arith)
put_more (x ∷ r) ws o zero h = ap (λ j. set ws j x) (add-zero o)
put_more (x ∷ r) ws o (suc k) h =
    let e : o + suc k ≡ suc o + k = omega arith in
    ap (λ j. set (sets (set ws o x) (suc o) (take k r)) j (get_or r k 0)) e
    ∙ put_more r (set ws o x) (suc o) k (omega arith)

-- the words before those that are put, and behind them
pub sets_other : (r ws : List ℕ) (o j : ℕ) → (o ≤ j → o + length r ≤ j) → get_or (sets ws o r) j 0 ≡ get_or ws j 0
sets_other [] ws o j h = refl
sets_other (x ∷ r) ws o j h =
    sets_other r (set ws o x) (suc o) j (λ l. let u = h (omega arith) in omega arith)
    ∙ get_or-set_other ws o j x 0 (λ e. let u = h (omega arith) in omega arith)

-- those that are put
pub sets_in : (r ws : List ℕ) (o j : ℕ) → j < length r → o + length r ≤ length ws
    → get_or (sets ws o r) (o + j) 0 ≡ get_or r j 0
sets_in [] ws o j h l = absurd (omega arith)
sets_in (x ∷ r) ws o zero h l =
    ap (λ k. get_or (sets (set ws o x) (suc o) r) k 0) (add-zero o)
    ∙ sets_other r (set ws o x) (suc o) o (λ q. absurd (omega arith)) ∙ get_or-set_same ws o x 0 (omega arith)
sets_in (x ∷ r) ws o (suc j) h l =
    let e : o + suc j ≡ suc o + j = omega arith in
    ap (λ k. get_or (sets (set ws o x) (suc o) r) k 0) e
    ∙ sets_in r (set ws o x) (suc o) j (omega arith) (omega (arith, length-set ws o x))

-- words that are moved, where they stand then
pub moved_word : (ws : List ℕ) (f t n j : ℕ) → t ≤ f → f + n ≤ length ws → j < n
    → get_or (move_words ws f t n) (t + j) 0 ≡ get_or ws (f + j) 0
moved_word ws f t n j h l p =
    let long = length-take-le n (drop f ws) (omega (arith, length-drop f ws)) in
    sets_in (take n (drop f ws)) ws t j (omega arith) (omega arith) ∙ get_or-take n (drop f ws) j 0 p
    ∙ get_or-drop f ws j 0

-- words that are moved to the front: those that are still to be moved stand where they stood
pub move_more : (ws : List ℕ) (f t n k : ℕ) → t ≤ f → f + n ≤ length ws → k < n
    → set (move_words ws f t k) (t + k) (get_or (move_words ws f t k) (f + k) 0) ≡ move_words ws f t (suc k)
move_more ws f t n k h l p =
    let long = length-drop f ws in
    ap (set (move_words ws f t k) (t + k))
    (sets_other (take k (drop f ws)) ws t (f + k) (λ q. omega (arith, length-take-le k (drop f ws) (omega arith)))
    ∙ sym (get_or-drop f ws k 0))
    ∙ put_more (drop f ws) ws t k (omega arith)

-- and words that stay
pub move_same : (ws : List ℕ) (o n : ℕ) → o + n ≤ length ws → move_words ws o o n ≡ ws
move_same ws o n h =
    let long = length-take-le n (drop o ws) (omega (arith, length-drop o ws)) in
    sets-eq (take n (drop o ws)) ws o (omega arith)
    ∙ ap (λ j. take o ws ++ take n (drop o ws) ++ drop (o + j) ws) long
    ∙ ap (λ l. l ++ drop (o + n) ws) (sym (take-add o n ws))
    ∙ take-append-drop (o + n) ws

-- ---- words that are the same but for some
pub but_then : {c lo hi : ℕ} {a b d : List ℕ} → But c lo hi a b → But c lo hi b d → But c lo hi a d
but_then p q = record { long = p.long ∙ q.long; same = λ j n h. p.same j n h ∙ q.same j n h }

pub but_wider : {c lo hi m : ℕ} {a b : List ℕ} → m ≤ hi → But c lo m a b → But c lo hi a b
but_wider h p = record { long = p.long; same = λ j n r. p.same j n (λ l. let u = r l in omega arith) }

module _ (c lo hi : ℕ) where
  pub but_set : (ws : List ℕ) (v : ℕ) → But c lo hi (set ws c v) ws
  but_set ws v = record { long = length-set ws c v; same = λ j n h. get_or-set_other ws c j v 0 n }

  pub but_sets : (ws : List ℕ) (o : ℕ) (r : List ℕ) → lo ≤ o → o + length r ≤ hi → But c lo hi (sets ws o r) ws
  but_sets ws o r p q =
      record {
        long = length-sets ws o r;
        same = λ j n h. sets_other r ws o j (λ l. let u = h (omega arith) in omega arith);
      }

-- whether the word at j is none of those, and it is the same then
abbrev pub clear : ℕ → ℕ → ℕ → ℕ → Bool
clear c lo hi j = not (eqb j c) && (ltb j lo || leb hi j)

module _ {c lo hi : ℕ} {ws ws₀ : List ℕ} (b : But c lo hi ws ws₀) where
  pub word_kept : (j : ℕ) → clear c lo hi j ≡ true → get_or ws j 0 ≡ get_or ws₀ j 0
  word_kept j h =
      b.same j (eqb-false j c (not-true (eqb j c) (and_left (not (eqb j c)) (ltb j lo || leb hi j) h)))
      (λ l. ⊎_elim (λ e. let u = ltb-true j lo e in omega arith) (λ e. leb-true hi j e)
      (or_cases (ltb j lo) (leb hi j) (and_right (not (eqb j c)) (ltb j lo || leb hi j) h)))

-- a row that has none of those words is the same
pub row_same : {c lo hi : ℕ} {ws ws₀ : List ℕ} → But c lo hi ws ws₀ → (b w k : ℕ) → c < b
    → ((j : ℕ) → b + w * k ≤ j → j < b + w * k + w → lo ≤ j → hi ≤ j)
    → row b w ws k ≡ row b w ws₀ k
unfolding row
row_same {ws = ws} {ws₀ = ws₀} p b w k h out =
    let o = b + w * k in
    ext_get_or 0 (take w (drop o ws)) (take w (drop o ws₀)) (simp (length-take, length-drop, p.long))
    (λ i l. let q : i < w = omega (arith, length-take w (drop o ws)) in
    get_or-take w (drop o ws) i 0 q
    ∙ get_or-drop o ws i 0
    ∙ p.same (o + i) (λ e. omega arith) (out (o + i) (omega arith) (omega arith))
    ∙ sym (get_or-drop o ws₀ i 0)
    ∙ sym (get_or-take w (drop o ws₀) i 0 q))
