use Rattle.std.proofs.Common.{arith}
use Rattle.rules.specs.Closing.{close_waits}
use Rattle.finish.proofs.FinishLaws.{none-closed}
use Rattle.finish.proofs.closing.close_waits.Goals as goal

pub returns-then-done-count : goal.returns-then-done-count
returns-then-done-count c =
    let put = c.put_nothings-done in
    record { model = none-closed _ (omega (arith, put.ensures.counts, c.if-done-count.true)); adds = put.ensures }

pub returns : goal.returns
unfolding close_waits
returns c = record { model = c.leave_over.ensures; adds = c.put_nothings-done.ensures }
