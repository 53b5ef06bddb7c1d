use Rattle.std.proofs.Common.{arith}
use borrow.Author.Tests.{ne_eqb}
use Rattle.available.proofs.FindLaws.{passes_none, passes_on, passes_more}
use Rattle.available.proofs.find.row_in_block.Goals as goal

pub loop-k-init : goal.loop-k-init
loop-k-init c = passes_none (omega arith)

pub loop-k-preserved : goal.loop-k-preserved
loop-k-preserved c =
    passes_more c.loop-k.invariant (rw (← c.field_at.ensures) (ne_eqb _ _ c.if-field_at-a.false)) (omega arith)

pub returns : goal.returns
returns c = passes_on c.loop-k.invariant (passes_none (omega arith))
