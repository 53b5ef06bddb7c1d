-- `decode_notify`: document 01's refusals 3 to 5 and 21, or the notify that the frame asks for.
use Rattle.std.proofs.Common.{refl, sym, ◌∙◌}
use Rattle.rules.specs.Numbers.{op_notify}
use Rattle.rules.specs.Frame.{layout_of}
use Rattle.codec.proofs.FormLaws.{notify_head}
use Rattle.codec.proofs.RequestLaws.{handed_on, wrong_length_lem, notify-asks}
use Rattle.codec.proofs.frames.decode_notify.Goals as goal

pub returns-in_err-check_length : goal.returns-in_err-check_length
unfolding layout_of
returns-in_err-check_length c =
    wrong_length_lem _ op_notify (sym c.requires, refl) _ c.from_residual.ensures.1 c.in_err-check_length.ensures

pub returns-in_err-check_template : goal.returns-in_err-check_template
unfolding layout_of
returns-in_err-check_template c =
    handed_on _ _ c.from_residual-in_err-check_template.ensures.1
    (c.in_err-check_template.ensures
    ∙ rw (c.number_at.ensures, c.fields_at-fields.ensures)
    (sym (notify_head _ op_notify (sym c.requires, refl) refl c.in_ok-check_length.ensures)))

pub returns : goal.returns
unfolding layout_of
returns c =
    let fields = c.fields_at-fields.ensures in
    rw (c.number_at-2.ensures, fields)
    (notify-asks _ (notify_head _ op_notify (sym c.requires, refl) refl c.in_ok-check_length.ensures
    ∙ sym (rw (c.number_at.ensures, fields) at c.in_ok-check_template.ensures)) c.requires)
