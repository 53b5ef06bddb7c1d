use mathlib.Core.Path.{refl, sym}
use Rattle.rules.specs.Records.{aborted}
use Rattle.rules.specs.Step.{own_part}
use Rattle.rules.proofs.NotifyLaws.{none-rung}
use Rattle.step.proofs.IdleStepped.{stepped-abort}
use Rattle.step.proofs.KindLaws.{abort-ends}
use Rattle.step.proofs.SteppedLaws.{stepped-done}
use Rattle.rules.specs.Requests.{frame_of}
use Rattle.rules.specs.declared.Request.TheVariants.{Abort}
use Rattle.step.proofs.FollowLaws.{stays-reliable, follows_same}
use Rattle.step.proofs.take.take_abort.Goals as goal

pub returns-then-is_idle : goal.returns-then-is_idle
unfolding aborted
returns-then-is_idle c bs d =
    let a = c.args in
    let st =
    stepped-abort a.space.now a.answers.now c.requires.0 c.requires.1
    (c.is_idle.ensures c.if-is_idle.true) c.end_idle-answer.ensures.0 d
    (sym c.in_ok-check_abort.ensures) c.end_idle-answer.ensures.1 c.add_record.ensures in
    (st, stays-reliable d st c.requires.1 (follows_same (frame_of (Abort a.party a.id)) refl refl refl refl))

pub returns : goal.returns
unfolding own_part
returns c bs d =
    let a = c.args in
    let st =
    stepped-done c.requires.0 d _ (sym c.in_ok-check_abort.ensures)
    (λ _. c.abort-own.ensures.0, c.abort-own.ensures.1) c.add_record-count.ensures _ (abort-ends _ _)
    (λ _. none-rung _ _ refl refl)
    c.serve_and_close.ensures in
    (st, stays-reliable d st c.requires.1 (follows_same (frame_of (Abort a.party a.id)) refl refl refl refl))
