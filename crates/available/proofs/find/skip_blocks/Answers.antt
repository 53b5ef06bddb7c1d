use Rattle.std.proofs.Common.{arith}
use Rattle.available.proofs.FindLaws.{passes_on}
use Rattle.available.proofs.find.skip_blocks.Goals as goal

pub returns-in-Some : goal.returns-in-Some
returns-in-Some c = passes_on c.loop-i.invariant.1 c.in-Some.ensures.1

pub loop-i-preserved : goal.loop-i-preserved
loop-i-preserved c = (omega arith, passes_on c.loop-i.invariant.1 c.in_default.ensures)
