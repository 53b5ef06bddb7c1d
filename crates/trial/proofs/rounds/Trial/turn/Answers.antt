use Rattle.std.proofs.Common.{refl, sym, ◌∙◌, arith}
use Rattle.trial.proofs.TryingLaws.{trying_more}
use Rattle.trial.proofs.TurnLaws.{turn_sends, turn_rests}
use Rattle.trial.proofs.rounds.Trial.turn.Goals as goal

pub returns-in-Some : goal.returns-in-Some
returns-in-Some c =
    record {
      setup = c.send.ensures.setup;
      trying = λ k r t.
          rw (turn_sends t c.args.i c.requires.1 (sym c.next_at.ensures ∙ c.in-Some.is)) (c.send.ensures.trying k r t);
    }

pub returns-in_default : goal.returns-in_default
returns-in_default c =
    record {
      setup = refl;
      trying = λ k r t.
          rw (turn_rests t c.args.i c.requires.1 (sym c.next_at.ensures ∙ c.in_default.is))
          (trying_more t (omega arith));
    }
