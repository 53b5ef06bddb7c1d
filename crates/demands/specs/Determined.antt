-- No wrong space meets the demands.
use Rattle.std.specs.Prelude.{◌≡◌, List, [], ◌∷◌, length}
use Rattle.rules.specs.State.{Model, empty}
use Rattle.rules.specs.Step.{step}
use Rattle.rules.specs.Allowed.{Answered}
use Rattle.rules.specs.SerialRun.{Logged}
use Rattle.demands.specs.Machine.{Handed, Machine, answered_by}
use Rattle.demands.specs.History.{handed_of, answers_of, Made}
use Rattle.demands.specs.Demands.{Demand1, Demand2, Demand3}

-- what the rules answer to frames that are handed in one after another
unfoldable pub ruled : Model → List Handed → List Answered
ruled m [] = []
ruled m (h ∷ hs) =
    let o = step m h.frame (length h.area) in
    answered_by o h.area ∷ ruled o.model hs

-- Any space that meets demands 1 and 2 answers exactly as the rules do: over every history, records, counts, numbers
-- and each byte of the answers areas. (That it answers is demand 1.)
unfoldable pub Determined : Type 1
Determined = (S : Machine) → Demand1 S → Demand2 S → (log : List Logged) (t : S.State) (made : Made S log t)
    → answers_of made.2 ≡ ruled empty (handed_of made.2)

-- So demand 3 follows from the other two.
unfoldable pub ThirdFollows : Type 1
ThirdFollows = (S : Machine) → Demand1 S → Demand2 S → Demand3 S
