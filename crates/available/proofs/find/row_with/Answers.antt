use Rattle.std.proofs.Common.{refl, rules}
use borrow.Author.Tests.{ne_eqb}
use Rattle.available.proofs.FindLaws.{passes_less, passes_more}
use Rattle.available.proofs.find.row_with.Goals as goal

pub loop-i-preserved : goal.loop-i-preserved
loop-i-preserved c =
    passes_more c.loop-i.invariant (rw (← c.field_at.ensures) (ne_eqb _ _ c.if-field_at-a.false)) refl

pub returns : goal.returns
returns c =
    let begun = c.skip_blocks-first.ensures.begun in
    passes_less c.loop-i.invariant (search rules) (search rules)
