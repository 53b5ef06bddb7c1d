use Rattle.std.proofs.Common.{refl, arith}
use Rattle.trial.specs.Trial.{tick, round}
use Rattle.trial.proofs.TryingLaws.{underway_on, goes_then, goes-held}
use Rattle.trial.proofs.rounds.Trial.round.Goals as goal

pub send-requires : goal.send-requires
send-requires c =
    underway_on 4 1 c.requires
    (goes_then 4 0 4 c.take_turns.ensures (goes-held refl refl refl c.hold_all.ensures) (omega arith))
    (omega arith)

pub returns : goal.returns
unfolding round tick
returns c =
    goes_then 4 1 5
    (goes_then 4 0 4 c.take_turns.ensures (goes-held refl refl refl c.hold_all.ensures) (omega arith))
    c.send.ensures (omega arith)
