use Rattle.step.proofs.FollowLaws.{stays-reliable, follows_find}
use Rattle.step.proofs.take.take_find.Goals as goal

pub returns : goal.returns
returns c bs d =
    let st = c.look_up-count.ensures bs d in
    (st, stays-reliable d st c.requires.1 (follows_find c.args.l c.note_acted.ensures c.note_last.ensures))
