use Rattle.std.proofs.Common.{refl, sym}
use Rattle.rules.specs.Step.{own_part}
use Rattle.rules.proofs.NotifyLaws.{none-rung}
use Rattle.step.proofs.FollowLaws.{stays-reliable, follows-create}
use Rattle.step.proofs.KindLaws.{create-quiet}
use Rattle.step.proofs.SteppedLaws.{stepped_quiet}
use Rattle.step.proofs.take.take_create.Goals as goal

pub returns : goal.returns
unfolding own_part
returns c bs d =
    let st =
    stepped_quiet c.requires.0 d (sym c.in_ok-check_create.ensures) (λ _. c.create-answer.ensures) refl
    c.add_record.ensures (create-quiet _ _) (λ _. none-rung _ _ refl refl) in
    let follows = follows-create c.args.party c.args.lease c.clock.ensures c.note_lease.ensures in
    (st, stays-reliable d st c.requires.1 follows)
