-- Bells: what registrations hear of in a step, by how much of it each matches.
use Rattle.std.specs.Prelude.{ℕ, not, List, [], ◌∷◌, map, eqb}
use Rattle.rules.specs.declared.Record.{Record}
use Rattle.rules.specs.declared.Registration.{Registration}
use Rattle.rules.specs.Done.{Done, ending_with}
use Rattle.rules.specs.Lists.{filterb}
use Rattle.rules.specs.Records.{rung}
use Rattle.rules.specs.State.{Model, with_registrations}
use Rattle.holds.specs.Registry.{heard_once}
use Rattle.finish.specs.From.{service_from}

-- each registration beside its count, and a record for each whose count is not 0
abbrev pub beside : List ℕ → List Registration → List (ℕ × Registration)
beside [] gs = []
beside (c ∷ cs) [] = []
beside (c ∷ cs) (g ∷ gs) = (c, g) ∷ beside cs gs

unfoldable pub rung_by : List ℕ → List Registration → List Record
rung_by cs gs = map (λ x. rung x.0 x.1) (filterb (λ x. not (eqb x.0 0)) (beside cs gs))

-- where v tells how much each matches: the registrations that have heard, and their records
abbrev pub heard_for : (Registration → ℕ) → Model → Model
heard_for v m =
    with_registrations (map (λ g. heard_once m.next_entry (v g) g) m.registrations) m

abbrev pub rung_for : (Registration → ℕ) → Model → List Record
rung_for v m =
    map (λ g. rung (v g) (heard_once m.next_entry (v g) g)) (filterb (λ g. not (eqb (v g) 0)) m.registrations)

-- service from row k on, once what v counts is made public
unfoldable pub served_and_rung : (Registration → ℕ) → ℕ → Model → Done
served_and_rung v k m = ending_with (rung_for v m) (service_from k (heard_for v m))
