use Rattle.std.proofs.Common.{arith}
use Rattle.hints.proofs.HintLaws.{until-not_before}
use Rattle.hints.proofs.known.Hints.note_lease.Goals as goal

pub returns : goal.returns
returns c =
    let l = c.lower.ensures in (l.0, until-not_before _ _ _ (omega (arith, l.1, c.saturating_add.ensures)))
