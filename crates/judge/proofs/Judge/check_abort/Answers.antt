use Rattle.judge.proofs.RefusalParts.{abort_enters, abort_room, by_party_alone, named-number}
use Rattle.judge.proofs.Judge.check_abort.Goals as goal

pub check_party-requires : goal.check_party-requires
check_party-requires c = named-number c.args.id c.named.ensures

pub returns : goal.returns
returns c =
    by_party_alone _ _ (abort_enters c.args.party c.args.id c.named.ensures) c.check_party.ensures
    (abort_room _ c.args.party c.args.id)
