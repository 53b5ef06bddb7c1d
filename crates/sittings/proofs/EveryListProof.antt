-- The report after every list of trays, call by call.
use Rattle.std.proofs.Common.{◌≡◌, ℕ, zero, suc, ◌+◌, List, [], ◌∷◌, ◌++◌, length, take, sym, refl, ap, ◌∙◌, subst, ap₂}
use Rattle.std.proofs.Common.{append_assoc, append-nil, arith, length-append}
use Rattle.sittings.specs.Report.{max_sittings, report_of}
use Rattle.sittings.specs.EveryList.{HandedIn, no_more, one_more, returned_for, EveryList}
use Rattle.sittings.proofs.ReportLaws.{report-first}

abbrev Fixed : ℕ → List (List ℕ) → List (List ℕ) → List ℕ → List ℕ → Type 0
Fixed k done trays returned after =
    (returned ≡ returned_for k trays) × (after ≡ report_of (done ++ take k trays))

-- so many more may be handed in
from_here : (k : ℕ) (done trays : List (List ℕ)) {returned after : List ℕ} → k + length done ≡ max_sittings
    → HandedIn (report_of done) trays returned after → Fixed k done trays returned after
unfolding returned_for
from_here zero done [] e (no_more _) = (refl, ap report_of (sym (append-nil done)))
from_here (suc k) done [] e (no_more _) = (refl, ap report_of (sym (append-nil done)))
from_here zero done (tray ∷ trays) e (one_more {after = after} {returned} a h) =
    let full = a.full (omega (arith, e, report-first done)) in
    let rest = from_here zero done trays e (subst (λ r. HandedIn r trays returned after) full.1 h) in
    (ap₂ (λ n ns. n ∷ ns) full.0 rest.0, rest.1)
from_here (suc k) done (tray ∷ trays) e (one_more {after = after} {returned} a h) =
    let here = a.report done (omega (arith, e)) refl in
    let rest = from_here k (done ++ (tray ∷ [])) trays (omega (arith, e, length-append done (tray ∷ [])))
    (subst (λ r. HandedIn r trays returned after) here h) in (
      ap₂ (λ n ns. n ∷ ns) (a.number (omega (arith, e, report-first done))) rest.0,
      rest.1 ∙ ap report_of (append_assoc done (tray ∷ []) (take k trays)),
    )

pub every_list : EveryList
unfolding EveryList
every_list trays returned after h = from_here max_sittings [] trays refl h
