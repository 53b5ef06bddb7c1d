-- "It .. is the difference of the two clocks after those frames" (document 02, T-14): what frames and records tell of a
-- wait is what the space's own clock says.
use Rattle.std.specs.Prelude.{◌≡◌, ℕ, ◌+◌, cond, List, [], ◌∷◌}
use Rattle.rules.specs.Lists.{anyb}
use Rattle.rules.specs.Numbers.{step_area}
use Rattle.rules.specs.State.{Model}
use Rattle.rules.specs.Step.{step}
use Rattle.rules.specs.Log.{log_from}
use Rattle.rules.specs.Sound.{Sound}
use Rattle.demands.specs.Answers.{closes}
use Rattle.sittings.specs.Waits.{waited}

-- the space's clock after the first frame that closes a look-up of a party in a transaction, or after the last one
unfoldable pub clock_at_end : ℕ → ℕ → Model → List (List ℕ) → ℕ
clock_at_end p t m [] = m.clock
clock_at_end p t m (f ∷ later) =
    let o = step m f step_area in
    let rest = clock_at_end p t o.model later in
    cond (anyb (closes p t) o.records) o.model.clock rest

-- in every space that frames made (`Sound`), whatever frames come: its clock and the wait give the clock at the end
unfoldable pub DifferenceOfClocks : Type 0
DifferenceOfClocks = (m : Model) → Sound m → (p t : ℕ) (later : List (List ℕ))
    → m.clock + waited p t (log_from m later) ≡ clock_at_end p t m later
