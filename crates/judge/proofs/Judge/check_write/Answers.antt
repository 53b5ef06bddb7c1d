use Rattle.std.proofs.Common.{◌∙◌}
use Rattle.judge.proofs.RefusalParts.{write_enters, write_room, by_party, by_room}
use Rattle.judge.proofs.Judge.check_write.Goals as goal

pub returns-in_err-check_party : goal.returns-in_err-check_party
returns-in_err-check_party c =
    by_party _ _ (write_enters c.args.w c.named.ensures) _ _ c.from_residual.ensures.1 c.in_err-check_party.ensures

pub returns : goal.returns
returns c =
    by_room _ _ (write_enters c.args.w c.named.ensures) c.in_ok-check_party.ensures
    (c.check_stored.ensures ∙ write_room _ c.args.w)
