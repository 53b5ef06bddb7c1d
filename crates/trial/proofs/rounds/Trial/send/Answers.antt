use Rattle.std.proofs.Common.{refl, arith}
use Rattle.rules.specs.Requests.{frame_of}
use Rattle.trial.proofs.FrameLaws.{put_front}
use Rattle.trial.proofs.TryingLaws.{answered-few, trying-sent, room_for}
use Rattle.trial.proofs.rounds.Trial.send.Goals as goal

pub hear_all-requires : goal.hear_all-requires
hear_all-requires c =
    let u = c.requires in
    let few = (answered-few u.trying.sound c.step_hinted-answer.ensures.0).1 in
    (few, room_for u.trying (omega (arith, u.left)) few)

pub returns : goal.returns
returns c =
    record {
      setup = refl;
      trying = λ k r t.
          let stepped = c.step_hinted-answer.ensures in
          rw (put_front (frame_of c.args.q) _ _ _ refl c.put_frame-size.ensures).0
          at (trying-sent t refl stepped.0 stepped.1 c.hear_all.ensures);
    }
