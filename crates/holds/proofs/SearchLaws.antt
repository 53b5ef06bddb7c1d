-- Where a search of the entries row by row stops.
use Prim.Native.Nat.{ℕ, ◌<◌}
use mathlib.Core.Bool.{Bool, true, false}
use mathlib.Core.Path.{◌≡◌, sym, ap, ◌∙◌}
use mathlib.Core.List.{List}
use native.Mathlib.Omega.{arith}
use lib.ListN.{length, get_or}
use Rattle.std.specs.Prelude.{Option, Some, None}
use Rattle.std.specs.List.{AllWithin, HoldsAt}
use Rattle.std.specs.Option.{MatchOption}
use Rattle.rules.specs.declared.Entry.{Entry}
use Rattle.rules.specs.Words.{up_to, view, entry_count}
use Rattle.tables.specs.Rows.{entry_row}
use Rattle.tables.proofs.Tables.{length-entries}
use Rattle.tables.proofs.UpToLaws.{length-up_to, get_or-up_to}
use Rattle.holds.specs.Search.{IsRow, Stops}

-- the entries are few
pub few : (ws : List ℕ) (xs : List Entry) → xs ≡ (view ws).entries → length xs < 18446744073709551616
few ws xs e = omega (arith, ap length e, length-entries ws)

module _ (ws : List ℕ) where
  abbrev es : List Entry
  es = up_to (entry_row ws) (entry_count ws)

  below : {i : ℕ} → i < length es → i < entry_count ws
  below l = omega (arith, l, length-up_to (entry_row ws) (entry_count ws))

  at : (i : ℕ) → i < entry_count ws → get_or es i (entry_row ws i) ≡ entry_row ws i
  at i l = get_or-up_to (entry_row ws) (entry_count ws) i (entry_row ws i) l

  -- what the search by position says of the rows
  module _ (Yes No : Entry → Type 0) where
    abbrev pub Found : Option ℕ → Type 0
    Found r =
        MatchOption r (AllWithin No es 0 (length es)) (λ i. (i < length es) × HoldsAt Yes es i × AllWithin No es 0 i)

    pub is_row : (r : Option ℕ) → Found r → IsRow ws r
    is_row (Some i) h = below h.0
    is_row None h = tt

  pub stops : (q : Entry → Bool) (r : Option ℕ) → Found (λ e. q e ≡ true) (λ e. q e ≡ false) r → Stops q ws r
  stops q (Some i) h = (
    ap q (sym (at i (below h.0))) ∙ h.1 (entry_row ws i),
    λ k b. ap q (sym (at k (omega (arith, below h.0)))) ∙ h.2 k (entry_row ws k) (omega arith) b,
  )
  stops q None h = λ k b.
      ap q (sym (at k b))
      ∙ h k (entry_row ws k) (omega arith) (omega (arith, length-up_to (entry_row ws) (entry_count ws)))
