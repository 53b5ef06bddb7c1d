use Rattle.std.proofs.Common.{refl}
use Rattle.rules.specs.Words.{view}
use Rattle.step.proofs.SteppedLaws.{form_refused, frame_refused, taken_up}
use Rattle.step.proofs.take_frame.Goals as goal

pub returns-in_err-decode : goal.returns-in_err-decode
returns-in_err-decode c =
    frame_refused (refl, refl, c.requires.1) _ _ _ c.from_residual.ensures.1
    (form_refused (view c.args.space.now) _ _ c.requires.0 c.in_err-decode.ensures)

pub returns : goal.returns
returns c = taken_up _ _ _ _ _ _ c.requires.0 c.in_ok-decode.ensures c.take_up.result c.take_up.ensures
