-- So many rounds are over.
use Rattle.std.proofs.Common.{◌*◌}
use Rattle.trial.specs.Trial.{rounds}
use Rattle.trial.specs.Trying.{Goes}
use Rattle.trial.proofs.rounds.Trial.run_rounds.Given as goal

abbrev pub invariant-loop-i : goal.invariant-loop-i
invariant-loop-i l = Goes (5 * l._i) (rounds l._i) l.initial.self l.self
