-- The log of one frame more, and what is counted of it.
use Prim.Native.Nat.{ℕ, ◌+◌}
use mathlib.Core.Bool.{Bool, ◌&&◌}
use mathlib.Core.Path.{◌≡◌, sym, ap, ◌∙◌}
use mathlib.Core.List.{List, [], ◌∷◌, ◌++◌, append_assoc, map, map-append}
use lib.Dec.{eqb}
use Rattle.rules.specs.declared.Record.{Record}
use Rattle.rules.specs.Lists.{joined}
use Rattle.rules.specs.Numbers.{step_area}
use Rattle.rules.specs.State.{Model, empty}
use Rattle.rules.specs.Step.{step}
use Rattle.rules.specs.SerialRun.{Logged}
use Rattle.rules.specs.Log.{log_from, records_of}
use Rattle.rules.proofs.ListLaws.{count, count-append}
use Rattle.trial.specs.Trial.{tally}
use Rattle.trial.proofs.UpToMore.{joined_more}

-- the frames sent lead to a space: whatever is sent next is logged behind theirs
abbrev pub Logs : List (List ℕ) → Model → Type 0
Logs sent m = (more : List (List ℕ)) → log_from empty (sent ++ more) ≡ log_from empty sent ++ log_from m more

abbrev pub logged : Model → List ℕ → Logged
logged m f = record { frame = f; records = (step m f step_area).records }

pub log-one : (sent : List (List ℕ)) (m : Model) → Logs sent m → (f : List ℕ)
    → log_from empty (sent ++ (f ∷ [])) ≡ log_from empty sent ++ (logged m f ∷ [])
unfolding log_from
log-one sent m logs f = logs (f ∷ [])

pub log_more : (sent : List (List ℕ)) (m : Model) → Logs sent m → (f : List ℕ)
    → Logs (sent ++ (f ∷ [])) (step m f step_area).model
unfolding log_from
log_more sent m logs f more =
    let rest = log_from (step m f step_area).model more in
    ap (log_from empty) (append_assoc sent (f ∷ []) more)
    ∙ logs (f ∷ more)
    ∙ sym (append_assoc (log_from empty sent) (logged m f ∷ []) rest)
    ∙ ap (λ l. l ++ rest) (sym (log-one sent m logs f))

pub records_more : (log : List Logged) (l : Logged) → records_of (log ++ (l ∷ [])) ≡ records_of log ++ l.records
unfolding records_of
records_more log l =
    ap joined (map-append (λ (x : Logged). x.records) log (l ∷ []))
    ∙ joined_more (map (λ (x : Logged). x.records) log) l.records

pub tally_more : (kind party : ℕ) (log : List Logged) (l : Logged)
    → tally kind party (log ++ (l ∷ []))
    ≡ tally kind party log + count (λ (a : Record). eqb a.kind kind && eqb a.party party) l.records
unfolding tally
tally_more kind party log l =
    let wanted : Record → Bool = λ a. eqb a.kind kind && eqb a.party party in
    ap (count wanted) (records_more log l) ∙ count-append wanted (records_of log) l.records
