-- A pass over the entries, row by row.
use Prim.Native.Nat.{ℕ, zero, suc, ◌≤◌, ◌<◌}
use mathlib.Core.Bool.{Bool, true, false, cond, not, ◌||◌}
use mathlib.Core.Path.{◌≡◌, refl, sym, ap, ap₂, ◌∙◌, subst, subst⁻¹}
use mathlib.Core.List.{List, [], ◌∷◌, ◌++◌, map, map-append}
use native.Mathlib.Omega.{arith}
use native.Mathlib.Numerals.{add-one}
use lib.ListN.{length, set, take, drop, take-append-drop}
use lib.Seq.{take_all, take-append-le}
use Rattle.rules.specs.declared.Entry.{Entry}
use Rattle.rules.specs.Lists.{filterb}
use Rattle.rules.specs.Words.{row, up_to, entries_at, entry_width, entry_count, entry_count_at, entries, view}
use Rattle.rules.specs.Words.{space_words}
use Rattle.rules.proofs.ListLaws.{filter-append}
use Rattle.tables.specs.Rows.{entry_row, FitsWord}
use Rattle.tables.specs.Tables.{entry_table}
use Rattle.tables.proofs.UpToLaws.{length-up_to, take-up_to}
use Rattle.tables.proofs.CompactLaws.{Compacting, compact_start, compact_same, compact_done}
use Rattle.tables.proofs.Tables.{view-entries, end_read}
use Rattle.std.specs.Prelude.{Option, Some, None, unwrap_or}
use Rattle.holds.specs.Search.{IsRow, Stops}
use lib.Dec.{eqb}
use Rattle.rules.specs.Holds.{drop_reader}
use Rattle.rules.specs.Template.{bit}
use Rattle.rules.specs.Time.{reached}
use Rattle.rules.specs.Transactions.{is_private_to, is_taken_by}
use Rattle.rules.proofs.BoolLaws.{cond_cases, or_left, or_right}
use Rattle.available.specs.Live.{no_slot}
use Rattle.available.specs.Readers.{drop_at}
use Rattle.holds.specs.Sweep.{Spares, passed, released_at, has_part, swept, sweep_model, SameBefore}

-- a row that is found is one of them
pub found_within : (ws : List ℕ) (r : Option ℕ) {n x : ℕ} → IsRow ws r → n ≡ entry_count ws → x ≡ unwrap_or r n
    → x ≤ n
found_within ws (Some i) s e q = omega (arith, s, e, q)
found_within ws None s e q = omega (arith, q)

module _ (keep : Entry → Bool) (change : Entry → Entry) where
  -- the first i entries are gone through, and the n that are kept stand in front
  abbrev pub Sweeping : List ℕ → List ℕ → ℕ → ℕ → Type 0
  Sweeping ws₀ ws i n = Compacting entry_table keep change ws₀ ws i n

  -- every row before r is kept, as it is
  abbrev pub Still : List ℕ → ℕ → Type 0
  Still ws r = (k : ℕ) → k < r → (keep (entry_row ws k) ≡ true) × (change (entry_row ws k) ≡ entry_row ws k)

  -- the rows that stay as they are are gone through
  pub sweep_still : (ws : List ℕ) (r : ℕ) → Still ws r → Sweeping ws ws r r
  sweep_still ws zero h = compact_start
  sweep_still ws (suc r) h =
      let a = h r (omega arith) in
      rw (sym (add-one r)) (compact_same (sweep_still ws r (λ k l. h k (omega arith))) refl a.0 refl a.1)

  -- what becomes of an entry
  pub passed_some : (e : Entry) {x : Entry} → passed keep change e ≡ Some x → (keep e ≡ true) × (change e ≡ x)
  passed_some e {x} q = go (keep e) q
    where
      go : (b : Bool) → cond b (Some (change e)) None ≡ Some x → (b ≡ true) × (change e ≡ x)
      go true r = (refl, cc)
      go false r = absurd cc

  pub passed_none : (e : Entry) → passed keep change e ≡ None → keep e ≡ false
  passed_none e q = go (keep e) q
    where
      go : (b : Bool) → cond b (Some (change e)) None ≡ None → b ≡ false
      go true r = absurd cc
      go false r = refl

  -- its row can hold what becomes of it
  pub passed_fits : {touch : Entry → Bool} → Spares touch keep change → (ws : List ℕ) (i : ℕ) {e x : Entry}
      → e ≡ entry_row ws i → change e ≡ x → FitsWord x.end
  passed_fits laws ws i {e} {x} is q =
      let fits : Entry → Type 0 = λ y. FitsWord y.end in
      let read : fits e = subst⁻¹ fits is (end_read (row entries_at entry_width ws i)) in
      subst fits q (subst⁻¹ FitsWord (laws.same_end e) read)

  -- rows before the first that is touched stay as they are
  pub still_before : (touch : Entry → Bool) → Spares touch keep change → (ws : List ℕ) (r : Option ℕ) {n x : ℕ}
      → Stops touch ws r → n ≡ entry_count ws → x ≡ unwrap_or r n → Still ws x
  still_before touch laws ws (Some i) {n} {x} s e q =
      λ k l. laws.spared (entry_row ws k) (s.1 k (omega (arith, q)))
  still_before touch laws ws None {n} {x} s e q =
      λ k l. laws.spared (entry_row ws k) (s k (omega (arith, e, q)))

  -- rows that stay as they are stand in front
  swept-append : (xs ys : List Entry) → swept keep change (xs ++ ys) ≡ swept keep change xs ++ swept keep change ys
  swept-append xs ys =
      ap (map change) (filter-append keep xs ys) ∙ map-append change (filterb keep xs) (filterb keep ys)

  swept-still : (f : ℕ → Entry) (r : ℕ) → ((k : ℕ) → k < r → (keep (f k) ≡ true) × (change (f k) ≡ f k))
      → swept keep change (up_to f r) ≡ up_to f r
  swept-still f zero h = refl
  swept-still f (suc r) h =
      let a = h r (omega arith) in
      swept-append (up_to f r) (f r ∷ [])
      ∙ ap₂ (λ xs b. xs ++ map change (cond b (f r ∷ []) [])) (swept-still f r (λ k l. h k (omega arith))) a.0
      ∙ ap (λ x. up_to f r ++ (x ∷ [])) a.1

  pub same_before : (ws : List ℕ) (r : ℕ) → r ≤ entry_count ws → Still ws r
      → SameBefore r (view ws) (sweep_model keep change (view ws))
  unfolding sweep_model view entries
  same_before ws r l h =
      let f = entry_row ws in
      let n = entry_count ws in
      let s = swept keep change in
      let front = take-up_to f n r l in
      let parts = sym (take-append-drop r (up_to f n)) ∙ ap (λ xs. xs ++ drop r (up_to f n)) front in
      ap (λ xs. take r (s xs)) parts
      ∙ ap (take r) (swept-append (up_to f r) (drop r (up_to f n)))
      ∙ ap (λ xs. take r (xs ++ s (drop r (up_to f n)))) (swept-still f r h)
      ∙ take-append-le r (up_to f r) (s (drop r (up_to f n))) (omega (arith, length-up_to f r))
      ∙ take_all r (up_to f r) (omega (arith, length-up_to f r))
      ∙ sym front

  -- the count is set, and the pass is done
  pub sweep_done : {ws₀ ws ws' : List ℕ} {i n : ℕ} → Sweeping ws₀ ws i n → length ws₀ ≡ space_words
      → i ≡ entry_count ws₀ → ws' ≡ set ws entry_count_at n → view ws' ≡ sweep_model keep change (view ws₀)
  unfolding sweep_model view entries
  sweep_done w l e p = view-entries _ _ (compact_done w p e (omega arith))

-- ---- the three passes
pub ended_spared : (clock : ℕ) → Spares (λ e. reached clock e.end) (λ e. not (reached clock e.end)) (λ e. e)
ended_spared clock = record { spared = λ e q. (ap not q, refl); same_end = λ e. refl }

module _ (t p : ℕ) where
  module _ (e : Entry) (q : has_part t p e ≡ false) where
    own : is_private_to t e ≡ false
    own = or_left (is_private_to t e) _ (or_left (is_private_to t e || is_taken_by t e) _ q)

    taken : is_taken_by t e ≡ false
    taken = or_right (is_private_to t e) _ (or_left (is_private_to t e || is_taken_by t e) _ q)

    -- a transaction that has nothing of the entry releases nothing
    released-same : released_at t p e ≡ e
    unfolding released_at drop_reader
    released-same =
        let same : drop_at p e.readers ≡ e.readers =
        cond_cases (λ x. x ≡ e.readers) (eqb p no_slot) (λ h. refl)
        (λ h. rw (or_right (is_private_to t e || is_taken_by t e) (bit p e.readers) q)) in
        rw (own, taken, same)

  released-end : (e : Entry) → (released_at t p e).end ≡ e.end
  unfolding released_at
  released-end e = refl

  pub commit_spared : Spares (has_part t p) (λ e. not (is_taken_by t e)) (released_at t p)
  commit_spared = record { spared = λ e q. (ap not (taken e q), released-same e q); same_end = released-end }

  pub abort_spared : Spares (has_part t p) (λ e. not (is_private_to t e)) (released_at t p)
  abort_spared = record { spared = λ e q. (ap not (own e q), released-same e q); same_end = released-end }
