use Rattle.judge.proofs.RefusalParts.{commit_enters, commit_room, by_party_alone}
use Rattle.judge.proofs.Judge.check_commit.Goals as goal

pub returns : goal.returns
returns c =
    by_party_alone _ _ (commit_enters c.args.party c.args.id) c.check_party.ensures
    (commit_room _ c.args.party c.args.id)
