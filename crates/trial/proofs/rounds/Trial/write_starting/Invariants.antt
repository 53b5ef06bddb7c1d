-- So many entries are written.
use Rattle.rules.specs.Words.{up_to}
use Rattle.trial.specs.Setup.{starting_frame}
use Rattle.trial.specs.Trial.{send_all}
use Rattle.trial.specs.Trying.{Goes}
use Rattle.trial.proofs.rounds.Trial.write_starting.Given as goal

abbrev pub invariant-loop-j : goal.invariant-loop-j
invariant-loop-j l =
    Goes l.j (send_all (up_to (starting_frame l.initial.self.setup.words.now) l.j)) l.initial.self l.self
