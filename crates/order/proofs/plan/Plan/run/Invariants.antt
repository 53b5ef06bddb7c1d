-- What is left to carry out, from what is present then, comes out as all of it does from the start.
use Rattle.std.proofs.Common.{◌≡◌, length, drop}
use Rattle.order.specs.Reading.{slots}
use Rattle.order.specs.Search.{after_steps}
use Rattle.order.proofs.plan.Plan.run.Given as goal

abbrev pub invariant-loop-step : goal.invariant-loop-step
invariant-loop-step l =
    (length l.present ≡ slots)
    × (after_steps l.step-items l.initial.present ≡ after_steps (drop l.step-index l.step-items) l.present)
