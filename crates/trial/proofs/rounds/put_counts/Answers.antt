use Rattle.std.proofs.Common.{◌≡◌, arith}
use Rattle.trial.proofs.FrameLaws.{fronted_none, fronted_more}
use Rattle.trial.proofs.rounds.put_counts.Goals as goal

pub loop-i-init : goal.loop-i-init
loop-i-init c = fronted_none

pub loop-i-preserved : goal.loop-i-preserved
loop-i-preserved c = fronted_more c.loop-i.invariant (omega arith)

pub returns : goal.returns
returns c =
    let l = c.loop-i in
    let done : l.i ≡ c.args.count = omega arith in
    rw done at l.invariant.counts
