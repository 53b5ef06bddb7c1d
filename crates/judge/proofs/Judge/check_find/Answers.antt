use Rattle.std.proofs.Common.{sym, ◌∙◌}
use Rattle.judge.proofs.RefusalParts.{find_enters, find_room, by_party, by_room, judged_number}
use Rattle.judge.proofs.Judge.check_find.Goals as goal

pub returns-in_err-check_party : goal.returns-in_err-check_party
returns-in_err-check_party c =
    by_party _ _ (find_enters c.args.l c.named.ensures) _ _ c.from_residual.ensures.1 c.in_err-check_party.ensures

pub returns : goal.returns
returns c =
    by_room _ _ (find_enters c.args.l c.named.ensures) c.in_ok-check_party.ensures
    (judged_number _ _ c.check_end.result c.check_end.ensures ∙ sym (find_room _ c.args.l))
