-- `decode_write`: document 01's refusals 3 to 5, or the write that the frame asks for.
use Rattle.std.proofs.Common.{refl, sym, ◌∙◌}
use Rattle.rules.specs.Numbers.{op_write}
use Rattle.rules.specs.Frame.{layout_of}
use Rattle.codec.proofs.FormLaws.{write_head}
use Rattle.codec.proofs.RequestLaws.{handed_on, wrong_length_lem, write-asks}
use Rattle.codec.proofs.frames.decode_write.Goals as goal

pub returns-in_err-check_length : goal.returns-in_err-check_length
unfolding layout_of
returns-in_err-check_length c =
    wrong_length_lem _ op_write (sym c.requires, refl) _ c.from_residual.ensures.1 c.in_err-check_length.ensures

pub returns-in_err-check_head : goal.returns-in_err-check_head
unfolding layout_of
returns-in_err-check_head c =
    handed_on _ _ c.from_residual-in_err-check_head.ensures.1
    (c.in_err-check_head.ensures
    ∙ rw (c.is_bad_blanks.ensures, c.fields_at-fields.ensures)
    (sym (write_head _ op_write (sym c.requires, refl) refl c.in_ok-check_length.ensures)))

pub returns : goal.returns
unfolding layout_of
returns c =
    let fields = c.fields_at-fields.ensures in
    rw (c.number_at.ensures, c.number_at-2.ensures, fields)
    (write-asks _ (write_head _ op_write (sym c.requires, refl) refl c.in_ok-check_length.ensures
    ∙ sym (rw (c.is_bad_blanks.ensures, fields) at c.in_ok-check_head.ensures)) c.requires)
