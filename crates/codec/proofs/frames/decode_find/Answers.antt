-- `decode_find`: document 01's refusals 3 to 5 and 21, or the look-up that the frame asks for.
use Rattle.std.proofs.Common.{sym, ◌∙◌}
use Rattle.codec.proofs.FormLaws.{find_length, looks_up, find_head}
use Rattle.codec.proofs.RequestLaws.{handed_on, wrong_length_lem, find_asks}
use Rattle.codec.proofs.frames.decode_find.Goals as goal

pub returns-in_err-check_length : goal.returns-in_err-check_length
returns-in_err-check_length c =
    let p = c.requires in
    let e = c.in_err-check_length.ensures in
    wrong_length_lem _ _ (p.0, looks_up _ p.1 p.2) _ c.from_residual.ensures.1
    (e.0, λ q. e.1 (q ∙ find_length _ p.1 p.2))

pub returns-in_err-check_template : goal.returns-in_err-check_template
returns-in_err-check_template c =
    let p = c.requires in
    handed_on _ _ c.from_residual-in_err-check_template.ensures.1
    (c.in_err-check_template.ensures
    ∙ rw c.fields_at-fields.ensures
    (sym (find_head _ _ (p.0, looks_up _ p.1 p.2) p.1 p.2
    (c.in_ok-check_length.ensures ∙ sym (find_length _ p.1 p.2)))))

pub returns : goal.returns
returns c =
    let p = c.requires in
    let fields = c.fields_at-fields.ensures in
    rw (
      c.number_at.ensures,
      c.number_at-2.ensures,
      fields,
      c.is_take.ensures,
      c.is_if_exists.ensures,
      c.from.ensures,
      c.from-2.ensures,
    )
    (find_asks _ (find_head _ _ (p.0, looks_up _ p.1 p.2) p.1 p.2
    (c.in_ok-check_length.ensures ∙ sym (find_length _ p.1 p.2))
    ∙ sym (rw (fields) at c.in_ok-check_template.ensures)) _ p.0 p.1 p.2)
