-- `decode_ending`: document 01's refusals 3 to 5, or the commit or abort that the frame asks for.
use Rattle.std.proofs.Common.{sym, ◌∙◌, arith}
use Rattle.codec.proofs.FormLaws.{ending-length, ends-one, ending_head}
use Rattle.codec.proofs.RequestLaws.{handed_on, wrong_length_lem, commit-asks, abort-asks}
use Rattle.codec.proofs.frames.decode_ending.Goals as goal

pub returns-in_err-check_length : goal.returns-in_err-check_length
returns-in_err-check_length c =
    let p = c.requires in
    let e = c.in_err-check_length.ensures in
    wrong_length_lem _ _ (p.0, ends-one _ p.1 p.2) _ c.from_residual.ensures.1
    (e.0, λ q. e.1 (q ∙ ending-length _ p.1 p.2))

pub returns-in_err-check_head : goal.returns-in_err-check_head
returns-in_err-check_head c =
    let p = c.requires in
    handed_on _ _ c.from_residual-in_err-check_head.ensures.1
    (c.in_err-check_head.ensures
    ∙ sym (ending_head _ _ (p.0, ends-one _ p.1 p.2) p.1 p.2
    (c.in_ok-check_length.ensures ∙ sym (ending-length _ p.1 p.2))))

pub returns-then-op-eq-OP_COMMIT : goal.returns-then-op-eq-OP_COMMIT
returns-then-op-eq-OP_COMMIT c =
    let p = c.requires in
    rw c.number_at.ensures
    (commit-asks _ (ending_head _ _ (p.0, ends-one _ p.1 p.2) p.1 p.2
    (c.in_ok-check_length.ensures ∙ sym (ending-length _ p.1 p.2))
    ∙ sym c.in_ok-check_head.ensures) (sym p.0 ∙ c.if-op-eq-OP_COMMIT.true))

pub returns-else-op-eq-OP_COMMIT : goal.returns-else-op-eq-OP_COMMIT
returns-else-op-eq-OP_COMMIT c =
    let p = c.requires in
    let other = c.if-op-eq-OP_COMMIT.false in
    rw c.number_at.ensures
    (abort-asks _ (ending_head _ _ (p.0, ends-one _ p.1 p.2) p.1 p.2
    (c.in_ok-check_length.ensures ∙ sym (ending-length _ p.1 p.2))
    ∙ sym c.in_ok-check_head.ensures) (omega (arith, p, other)))
