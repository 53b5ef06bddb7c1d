use Rattle.std.proofs.Common.{◌∙◌}
use Rattle.judge.proofs.RefusalParts.{notify_enters, notify_room, by_party, by_room}
use Rattle.judge.proofs.Judge.check_notify.Goals as goal

pub returns-in_err-check_party : goal.returns-in_err-check_party
returns-in_err-check_party c =
    by_party _ _ (notify_enters c.args.q) _ _ c.from_residual.ensures.1 c.in_err-check_party.ensures

pub returns : goal.returns
returns c =
    by_room _ _ (notify_enters c.args.q) c.in_ok-check_party.ensures (c.check_new.ensures ∙ notify_room _ c.args.q)
