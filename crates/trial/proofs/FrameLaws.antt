-- A frame written in front of 28 bytes; the counts of a pane, written behind those of the panes before it.
use Prim.Native.Nat.{ℕ, zero, suc, ◌+◌, ◌*◌, ◌≤◌}
use mathlib.Core.Bool.{true, cond}
use mathlib.Core.Path.{◌≡◌, refl, sym, ap, ap₂, ◌∙◌}
use mathlib.Core.List.{List, [], ◌∷◌, ◌++◌}
use native.Mathlib.Omega.{arith}
use borrow.Author.Tests.{le-leb}
use lib.Dec.{leb}
use lib.ListN.{length, take, drop, set, length-take, length-append, length-set, length-drop}
use lib.Seq.{take_at, drop-append-add, drop-drop, sets-eq}
use Rattle.rules.specs.Lists.{joined}
use Rattle.rules.specs.Frame.{Frame, frame_bytes}
use Rattle.rules.specs.Words.{up_to}
use Rattle.codec.specs.Area.{FramePut}
use Rattle.trial.specs.declared.Progress.{Progress}
use Rattle.trial.specs.Progress.{at, counts_at}
use Rattle.trial.proofs.UpToMore.{joined_more}

-- no frame has more
frame_short : (f : Frame) → length (frame_bytes f) ≤ 28
unfolding frame_bytes
frame_short f = simp length-take (omega arith)

pub put_front : (f : Frame) (old new : List ℕ) (n : ℕ) → length old ≡ 28 → FramePut f old new n
    → (take n new ≡ frame_bytes f) × (n ≤ length new)
put_front f old new n long p =
    let bs = frame_bytes f in
    let room : leb (length bs) (length old) ≡ true =
    le-leb (length bs) (length old) (omega (arith, frame_short f, long)) in
    let bytes = p.bytes ∙ ap (λ b. cond b (bs ++ drop (length bs) old) old) room in
    let count = p.count ∙ ap (λ b. cond b (length bs) 0) room in (
      ap₂ (λ k l. take k l) count bytes ∙ take_at bs (drop (length bs) old) (length bs) refl,
      omega (arith, count, ap (λ (l : List ℕ). length l) bytes, length-append bs (drop (length bs) old)),
    )

-- three words behind the front
three_more : (xs old : List ℕ) (n a b c : ℕ) → length xs ≡ n → n + 3 ≤ length old
    → set (set (set (xs ++ drop n old) n a) (n + 1) b) (n + 2) c ≡ (xs ++ (a ∷ b ∷ c ∷ [])) ++ drop (n + 3) old
three_more xs old n a b c e h =
    let l = xs ++ drop n old in
    let one : n + 1 ≡ suc n = omega arith in
    let two : n + 2 ≡ suc (suc n) = omega arith in
    let long : n + 3 ≤ length l = omega (arith, length-append xs (drop n old), length-drop n old, e, h) in
    ap₂ (λ i j. set (set (set l n a) i b) j c) one two
    ∙ sets-eq (a ∷ b ∷ c ∷ []) l n long
    ∙ ap₂ (λ x y. (x ++ (a ∷ b ∷ c ∷ [])) ++ y) (take_at xs (drop n old) n e)
    (ap (λ k. drop (k + 3) l) (sym e) ∙ drop-append-add xs (drop n old) 3 ∙ drop-drop 3 n old)

-- the counts of the first panes stand in front
abbrev front : List Progress → ℕ → List ℕ
front xs n = joined (up_to (λ i. counts_at (at xs i)) n)

front_length : (xs : List Progress) (n : ℕ) → length (front xs n) ≡ 3 * n
front_length xs zero = refl
front_length xs (suc n) =
    ap (λ (l : List ℕ). length l) (joined_more (up_to (λ i. counts_at (at xs i)) n) (counts_at (at xs n)))
    ∙ length-append (front xs n) (counts_at (at xs n))
    ∙ omega (arith, front_length xs n)

pub record Fronted (xs : List Progress) (old : List ℕ) (n : ℕ) (new : List ℕ) : Type 0 where
  pub counts : new ≡ front xs n ++ drop (3 * n) old
  pub size : length new ≡ length old

pub fronted_none : {xs : List Progress} {old : List ℕ} → Fronted xs old 0 old
fronted_none = record { counts = refl; size = refl }

pub fronted_more : {xs : List Progress} {old new : List ℕ} {n : ℕ} → Fronted xs old n new → 3 * n + 3 ≤ length old
    → Fronted xs old (n + 1)
    (set (set (set new (3 * n) (at xs n).commits) (3 * n + 1) (at xs n).exceptions) (3 * n + 2) (at xs n).nothings)
fronted_more {xs} {old} {new} {n} f h =
    let x = at xs n in
    let is : n + 1 ≡ suc n = omega arith in
    let far : 3 * n + 3 ≡ 3 * (n + 1) = omega arith in
    record {
      counts =
          ap (λ l. set (set (set l (3 * n) x.commits) (3 * n + 1) x.exceptions) (3 * n + 2) x.nothings)
          f.counts
          ∙ three_more (front xs n) old (3 * n) x.commits x.exceptions x.nothings (front_length xs n) h
          ∙ ap₂ (λ l k. l ++ drop k old)
          (sym (joined_more (up_to (λ i. counts_at (at xs i)) n) (counts_at x)) ∙ ap (front xs) (sym is)) far;
      size = simp length-set f.size;
    }
