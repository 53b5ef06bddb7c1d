use Rattle.std.proofs.Common.{◌∙◌, length-set, arith}
use Rattle.trial.specs.Progress.{held_by}
use Rattle.trial.proofs.HeardLaws.{held_more}
use Rattle.trial.proofs.hearing.hold_all.Goals as goal

pub loop-x-preserved : goal.loop-x-preserved
unfolding held_by
loop-x-preserved c =
    let l = c.loop-x in
    let i = l.invariant in
    let more = held_more _ l.panes l.x-index (omega (arith, i.0)) (rw c.ticked-x.ensures) (i.1, i.2) in
    (length-set _ _ _ ∙ i.0, more.0, more.1)
