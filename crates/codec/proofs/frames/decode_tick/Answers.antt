-- `decode_tick`: document 01's refusals 3 to 5, or the tick that the frame asks for.
use Rattle.std.proofs.Common.{refl, sym, ◌∙◌}
use Rattle.rules.specs.Numbers.{op_tick}
use Rattle.rules.specs.Frame.{layout_of}
use Rattle.codec.proofs.FormLaws.{plain_head}
use Rattle.codec.proofs.RequestLaws.{handed_on, wrong_length_lem, tick-asks}
use Rattle.codec.proofs.frames.decode_tick.Goals as goal

pub returns-in_err-check_length : goal.returns-in_err-check_length
unfolding layout_of
returns-in_err-check_length c =
    wrong_length_lem _ op_tick (sym c.requires, refl) _ c.from_residual.ensures.1 c.in_err-check_length.ensures

pub returns-in_err-check_head : goal.returns-in_err-check_head
unfolding layout_of
returns-in_err-check_head c =
    handed_on _ _ c.from_residual-in_err-check_head.ensures.1
    (c.in_err-check_head.ensures
    ∙ sym (plain_head _ op_tick (sym c.requires, refl) refl refl refl c.in_ok-check_length.ensures))

pub returns : goal.returns
unfolding layout_of
returns c =
    tick-asks _ (plain_head _ op_tick (sym c.requires, refl) refl refl refl c.in_ok-check_length.ensures
    ∙ sym c.in_ok-check_head.ensures) c.requires
