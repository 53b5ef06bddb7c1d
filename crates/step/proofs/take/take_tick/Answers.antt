use mathlib.Core.Path.{refl, sym, ap, ◌∙◌}
use native.Mathlib.Omega.{arith}
use Rattle.rules.specs.Step.{own_part}
use Rattle.rules.specs.Tick.{unregistered, tick}
use Rattle.rules.proofs.NotifyLaws.{none-rung}
use Rattle.step.proofs.IdleStepped.{stepped-tick}
use Rattle.step.proofs.KindLaws.{tick-ends}
use Rattle.step.proofs.PassedLaws.{tick-clock}
use Rattle.step.proofs.SteppedLaws.{stepped-done}
use Rattle.rules.specs.Requests.{frame_of}
use Rattle.rules.specs.declared.Request.TheVariants.{Tick}
use Rattle.hints.proofs.ReliableLaws.{renewed-reliable}
use Rattle.step.proofs.FollowLaws.{stays-reliable, follows_same}
use Rattle.step.proofs.take.take_tick.Goals as goal

pub advance-answer-requires : goal.advance-answer-requires
advance-answer-requires c = tick-clock _ (sym c.in_ok-check_tick.ensures)

pub returns-then-clock-least_end : goal.returns-then-clock-least_end
returns-then-clock-least_end c bs d =
    let st =
    stepped-tick c.args.space.now c.args.answers.now c.requires.0 c.requires.1 d
    (sym c.in_ok-check_tick.ensures) c.advance-answer.ensures
    (omega (arith, c.if-clock-least_end.true, c.clock.ensures, c.least_end.ensures)) c.add_record-count.ensures in
    (st, stays-reliable d st c.requires.1 (follows_same (frame_of Tick) refl refl refl refl))

pub returns : goal.returns
unfolding own_part tick
returns c bs d =
    let now = c.advance-answer.ensures in
    let model = c.drop_registrations.ensures ∙ ap unregistered now.0 in
    let st =
    stepped-done c.requires.0 d 0 (sym c.in_ok-check_tick.ensures)
    (λ _. record { model = model; own = now.1 }, refl) c.add_record-count.ensures _ tick-ends
    (λ _. none-rung _ _ refl refl) c.finish_tick-finished.ensures in
    let stays = stays-reliable d st c.requires.1 (follows_same (frame_of Tick) refl refl refl refl) in
    (st, λ s. renewed-reliable c.renew_reached.ensures (stays s))
