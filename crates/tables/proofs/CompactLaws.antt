-- A table that is gone through row by row: some rows are kept, changed, and moved to the front.
use Prim.Native.Nat.{ℕ, ◌+◌, ◌≤◌, ◌<◌}
use mathlib.Core.Bool.{Bool, true, false, cond}
use mathlib.Core.Path.{◌≡◌, refl, sym, ap, ap₂, ◌∙◌, subst}
use mathlib.Core.List.{List, [], ◌∷◌, ◌++◌, map, map-append, map-id, append-nil}
use native.Mathlib.Omega.{arith}
use native.Mathlib.Nat.{mul-le-mul_left}
use native.Mathlib.Numerals.{add-one}
use lib.Dec.{lit≤}
use lib.ListN.{length, set}
use lib.Seq.{sets}
use Rattle.rules.specs.Lists.{filterb}
use Rattle.rules.proofs.ListLaws.{filter-append}
use Rattle.rules.specs.Words.{row}
use Rattle.tables.specs.Rows.{move_words}
use Rattle.tables.specs.Table.{Table, at, cell, first, count, all, end, But, Turned}
use Rattle.tables.proofs.RowLaws.{row_within, length-row, row_put, row_same, but_then, but_set, but_sets}
use Rattle.tables.proofs.RowLaws.{but_wider}
use Rattle.tables.proofs.UpToLaws.{up_to_ext}
use Rattle.tables.proofs.Table.{counted, other_rows}

-- some elements are kept, and changed
module _ {A B : Type 0} (keep : A → Bool) (change : A → B) where
  abbrev pub compacted : List A → List B
  compacted xs = map change (filterb keep xs)

  pub more_kept : (xs : List A) (x : A) → keep x ≡ true → compacted (xs ++ (x ∷ [])) ≡ compacted xs ++ (change x ∷ [])
  more_kept xs x t =
      ap (map change) (filter-append keep xs (x ∷ []) ∙ ap (λ c. filterb keep xs ++ cond c (x ∷ []) []) t)
      ∙ map-append change (filterb keep xs) (x ∷ [])

  pub more_passed : (xs : List A) (x : A) → keep x ≡ false → compacted (xs ++ (x ∷ [])) ≡ compacted xs
  more_passed xs x t =
      ap (map change) (filter-append keep xs (x ∷ []) ∙ ap (λ c. filterb keep xs ++ cond c (x ∷ []) []) t
      ∙ append-nil (filterb keep xs))

-- the first i rows of a table are gone through, and the n that are kept stand in front
pub record Compacting {A : Type 0} (t : Table A) (keep : A → Bool) (change : A → A) (ws₀ ws : List ℕ) (i n : ℕ)
    : Type 0 where
  pub but : But t.count_at t.base (at t i) ws ws₀
  pub done : first t n ws ≡ compacted keep change (first t i ws₀)
  pub behind : n ≤ i

module _ {A : Type 0} {t : Table A} {keep : A → Bool} {change : A → A} where
  pub compact_start : {ws : List ℕ} → Compacting t keep change ws ws 0 0
  compact_start = record { but = record { long = refl; same = λ j n h. refl }; done = refl; behind = lit≤ tt }

  module _ {ws₀ ws : List ℕ} {i n : ℕ} (c : Compacting t keep change ws₀ ws i n) {x : A} (e : x ≡ cell t ws i) where
    -- the row that is read has not been written yet
    unwritten : x ≡ cell t ws₀ i
    unwritten = e ∙ ap t.read (row_same c.but t.base t.width i t.ahead (λ j p q r. p))

    next : But t.count_at t.base (at t (i + 1)) ws ws₀
    next = but_wider (omega (arith, mul-le-mul_left {m = i} {n = i + 1} t.width (omega arith))) c.but

    pub compact_passed : keep x ≡ false → Compacting t keep change ws₀ ws (i + 1) n
    compact_passed f =
        record {
          but = next;
          done =
              rw add-one (c.done ∙ sym (more_passed keep change (first t i ws₀) (cell t ws₀ i)
              (ap keep (sym unwritten) ∙ f)));
          behind = omega (arith, c.behind);
        }

    -- one more is kept: it stands, changed, in row n
    one_more : (ws' : List ℕ) → keep x ≡ true → first t n ws' ≡ first t n ws → cell t ws' n ≡ change x
        → first t (n + 1) ws' ≡ compacted keep change (first t (i + 1) ws₀)
    one_more ws' f p q =
        rw (add-one n, add-one i)
        (ap₂ {C = List A} (λ l y. l ++ (y ∷ [])) (p ∙ c.done) (q ∙ ap change unwritten)
        ∙ sym (more_kept keep change (first t i ws₀) (cell t ws₀ i) (ap keep (sym unwritten) ∙ f)))

    -- the row stays where it is and as it is: nothing is written
    pub compact_same : keep x ≡ true → n ≡ i → change x ≡ x → Compacting t keep change ws₀ ws (i + 1) (n + 1)
    compact_same f p q =
        record {
          but = next;
          done = one_more ws f refl (ap (cell t ws) p ∙ sym e ∙ sym q);
          behind = omega (arith, c.behind);
        }

    module _ (f : keep x ≡ true) (h : i < t.most) (l : end t ≤ length ws₀) {ws' : List ℕ} where
      -- or it is put
      pub compact_put : (r : List ℕ) → ws' ≡ sets ws (at t n) r → length r ≡ t.width → t.read r ≡ change x
          → Compacting t keep change ws₀ ws' (i + 1) (n + 1)
      compact_put r p w q =
          let low = row_within t.width t.base n (i + 1) (omega (arith, c.behind)) in
          let room = row_within t.width t.base n t.most (omega (arith, c.behind)) in
          subst (λ v. Compacting t keep change ws₀ v (i + 1) (n + 1)) (sym p)
          (record {
            but =
                but_then (but_sets t.count_at t.base (at t (i + 1)) ws (at t n) r (omega arith) (omega arith))
                next;
            done =
                one_more (sets ws (at t n) r) f (up_to_ext (cell t (sets ws (at t n) r)) (cell t ws) n
                (λ k d. other_rows t ws n r w k (λ s. omega arith)))
                (ap t.read (row_put t.base t.width n ws r w (omega (arith, c.but.long))) ∙ q);
            behind = omega (arith, c.behind);
          })

      -- or moved, as it is
      pub compact_moved : ws' ≡ move_words ws (at t i) (at t n) t.width → change x ≡ x
          → Compacting t keep change ws₀ ws' (i + 1) (n + 1)
      unfolding row
      compact_moved p q =
          let long = length-row t.base t.width i ws
          (omega (arith, c.but.long, row_within t.width t.base i t.most h)) in
          compact_put (row t.base t.width ws i) p long (sym e ∙ sym q)

  -- whatever stands in the rows meanwhile, the other tables stay
  pub compact_mid : {ws₀ ws : List ℕ} {i n : ℕ} → Compacting t keep change ws₀ ws i n → i ≤ t.most
      → Turned t ws ws₀ (all t ws)
  compact_mid {i = i} c h =
      record {
        but = but_wider (omega (arith, mul-le-mul_left {m = i} {n = t.most} t.width h)) c.but;
        now = refl;
      }

  -- the count is set
  pub compact_done : {ws₀ ws ws' : List ℕ} {i n : ℕ} → Compacting t keep change ws₀ ws i n
      → ws' ≡ set ws t.count_at n → i ≡ count t ws₀ → end t ≤ length ws₀
      → Turned t ws' ws₀ (compacted keep change (all t ws₀))
  compact_done {ws₀} {ws} {ws'} {i} {n} c p e l =
      subst (λ v. Turned t v ws₀ (compacted keep change (all t ws₀))) (sym p)
      (record {
        but =
            but_then (but_set t.count_at t.base (end t) ws n)
            (but_wider (omega (arith, mul-le-mul_left {m = i} {n = t.most} t.width (omega arith))) c.but);
        now =
            counted t ws n (omega (arith, c.behind)) (omega (arith, c.but.long)) ∙ c.done
            ∙ ap (λ k. compacted keep change (first t k ws₀)) e;
      })

-- ---- some rows leave, and the others stay as they are
abbrev pub Leaving : {A : Type 0} → Table A → (A → Bool) → List ℕ → List ℕ → ℕ → ℕ → Type 0
Leaving t stays ws₀ ws i n = Compacting t stays (λ x. x) ws₀ ws i n

pub leaving_done : {A : Type 0} {t : Table A} {stays : A → Bool} {ws₀ ws ws' : List ℕ} {i n : ℕ}
    → Leaving t stays ws₀ ws i n
    → ws' ≡ set ws t.count_at n → i ≡ count t ws₀ → end t ≤ length ws₀ → Turned t ws' ws₀ (filterb stays (all t ws₀))
leaving_done {t = t} {stays = stays} {ws₀ = ws₀} {ws' = ws'} c p e l =
    subst (Turned t ws' ws₀) (map-id (filterb stays (all t ws₀))) (compact_done c p e l)
