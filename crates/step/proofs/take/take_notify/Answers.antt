use Rattle.std.proofs.Common.{refl, sym}
use Rattle.rules.specs.Step.{own_part}
use Rattle.rules.proofs.NotifyLaws.{none-rung}
use Rattle.step.proofs.FollowLaws.{stays-reliable, follows-notify}
use Rattle.step.proofs.KindLaws.{notify-quiet}
use Rattle.step.proofs.SteppedLaws.{stepped_quiet}
use Rattle.step.proofs.take.take_notify.Goals as goal

pub returns : goal.returns
unfolding own_part
returns c bs d =
    let st =
    stepped_quiet c.requires.0 d (sym c.in_ok-check_notify.ensures) (λ _. c.notify-answer.ensures) refl
    c.add_record.ensures (notify-quiet _) (λ _. none-rung _ _ refl refl) in
    (st, stays-reliable d st c.requires.1 (follows-notify c.args.q c.clock.ensures c.note_lease.ensures))
