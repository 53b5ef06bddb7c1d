use Rattle.std.proofs.Common.{◌≡◌, refl, arith}
use Rattle.trial.specs.Progress.{follows}
use Rattle.trial.proofs.HeardLaws.{each_more, room-less}
use Rattle.trial.proofs.hearing.hear_all.Goals as goal

pub loop-i-init : goal.loop-i-init
unfolding follows
loop-i-init c = (record { each = λ i h. refl }, λ i h. omega (arith, c.requires.1 i h))

pub hear_record-requires : goal.hear_record-requires
hear_record-requires c = λ i h. omega (arith, c.loop-i.invariant.1 i h)

pub loop-i-preserved : goal.loop-i-preserved
loop-i-preserved c =
    let l = c.loop-i in
    let one = c.hear_record.ensures in
    (each_more _ _ _ l.invariant.0 c.record_at.ensures one, room-less _ _ _ one l.invariant.1 (omega arith))

pub returns : goal.returns
returns c =
    let l = c.loop-i in
    let done : l.i ≡ c.args.count = omega arith in
    rw done at l.invariant.0
