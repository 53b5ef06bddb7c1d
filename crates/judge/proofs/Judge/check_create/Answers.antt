use Rattle.std.proofs.Common.{◌∙◌}
use Rattle.judge.proofs.RefusalParts.{create_enters, create_room, by_party, by_room}
use Rattle.judge.proofs.Judge.check_create.Goals as goal

pub returns-in_err-check_party : goal.returns-in_err-check_party
returns-in_err-check_party c =
    by_party _ _ (create_enters c.args.party c.args.lease) _ _ c.from_residual.ensures.1 c.in_err-check_party.ensures

pub returns : goal.returns
returns c =
    by_room _ _ (create_enters c.args.party c.args.lease) c.in_ok-check_party.ensures
    (c.check_new.ensures ∙ create_room _ c.args.party c.args.lease)
