use Rattle.std.proofs.Common.{◌≡◌, ◌+◌, ◌*◌, sym, ap, add-one, arith}
use Rattle.trial.specs.Setup.{rounds_in}
use Rattle.trial.specs.Trial.{rounds}
use Rattle.trial.proofs.TryingLaws.{underway_on, goes_none, goes_then, goes_as}
use Rattle.trial.proofs.rounds.Trial.run_rounds.Goals as goal

pub loop-i-init : goal.loop-i-init
unfolding rounds
loop-i-init c = goes_none 0

pub round-requires : goal.round-requires
round-requires c =
    let l = c.loop-i in
    underway_on (5 * l._i) 5 c.requires l.invariant (omega (arith, c.rounds-count.ensures))

pub loop-i-preserved : goal.loop-i-preserved
unfolding rounds
loop-i-preserved c =
    let i = c.loop-i._i in
    goes_as (5 * (i + 1)) (λ r. ap (λ n. rounds n r) (sym (add-one i)))
    (goes_then (5 * i) 5 (5 * (i + 1)) c.loop-i.invariant c.round.ensures (omega arith))

pub returns : goal.returns
returns c =
    let l = c.loop-i in
    let done : l._i ≡ rounds_in c.args.self.now.setup.words.now = omega (arith, c.rounds-count.ensures) in
    rw done at l.invariant
