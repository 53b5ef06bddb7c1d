-- Trays handed in one after another (document 02, T-14): what a call ensures, `Added`, fixes the report and every
-- number returned, for every list of trays.
use Rattle.std.specs.Prelude.{◌≡◌, ℕ, zero, suc, ◌*◌, List, [], ◌∷◌, take}
use Rattle.rules.specs.Numbers.{sittings_refused}
use Rattle.rules.specs.Tray.{tray_refusal}
use Rattle.sittings.specs.Report.{max_sittings, report_of, Added}

-- from a report to a report, with what each call returned
pub data HandedIn : List ℕ → List (List ℕ) → List ℕ → List ℕ → Type 0 where
  no_more : (report : List ℕ) → HandedIn report [] [] report
  one_more : {before tray now after returned : List ℕ} {trays : List (List ℕ)} {n : ℕ} → Added before tray n now
      → HandedIn now trays returned after → HandedIn before (tray ∷ trays) (n ∷ returned) after

-- what is returned while so many may still be handed in: "25 when more than 64 trays are handed in"
unfoldable pub returned_for : ℕ → List (List ℕ) → List ℕ
returned_for k [] = []
returned_for zero (tray ∷ trays) = 65536 * sittings_refused ∷ returned_for zero trays
returned_for (suc k) (tray ∷ trays) = 65536 * tray_refusal tray ∷ returned_for k trays

-- "Over up to 64 trays": from the report of none on, it is that of the first 64, whatever comes behind them
unfoldable pub EveryList : Type 0
EveryList = (trays : List (List ℕ)) (returned after : List ℕ) → HandedIn (report_of []) trays returned after
    → (returned ≡ returned_for max_sittings trays) × (after ≡ report_of (take max_sittings trays))
