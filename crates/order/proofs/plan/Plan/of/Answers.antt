use Rattle.std.proofs.Common.{arith}
use Rattle.order.proofs.PlannedLaws.{twice, ordered, is_planned}
use Rattle.order.proofs.plan.Plan.of.Goals as goal

pub returns-in_err-steps : goal.returns-in_err-steps
returns-in_err-steps c =
    rw c.from_residual-in_err-steps.ensures (twice c.in_ok-export.ensures c.in_err-steps.ensures)

pub invariant_of-result : goal.invariant_of-result
invariant_of-result c =
    let e = c.in_ok-export.ensures in
    record {
      few = omega (arith, e.as_many, e.few.transactions);
      placed = c.in_ok-steps.ensures.placed;
      within = e.holds.within;
      ordered = ordered e;
    }

pub returns : goal.returns
returns c = is_planned c.in_ok-export.ensures c.in_ok-steps.ensures
