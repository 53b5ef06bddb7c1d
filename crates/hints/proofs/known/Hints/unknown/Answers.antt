use Rattle.std.proofs.Common.{arith}
use Rattle.hints.proofs.HintLaws.{all-flagged}
use Rattle.hints.proofs.known.Hints.unknown.Goals as goal

pub returns : goal.returns
returns c m =
    record {
      ends = record {
        entries = λ e i c l. absurd (omega arith);
        txns = λ t i c l. absurd (omega arith);
        waits = λ w i c l. absurd (omega arith);
        registrations = λ g i c l. absurd (omega arith);
      };
      flagged = λ w i. all-flagged w.party;
      idle = λ l. absurd (omega arith);
    }
