-- So many panes have taken their turn, those that were ready as the round began.
use Rattle.std.proofs.Common.{is_some}
use Rattle.rules.specs.Words.{up_to}
use Rattle.trial.specs.Trial.{turns}
use Rattle.trial.specs.Progress.{next_at}
use Rattle.trial.specs.Trying.{Goes}
use Rattle.trial.proofs.rounds.Trial.take_turns.Given as goal

abbrev pub invariant-loop-i : goal.invariant-loop-i
invariant-loop-i l =
    let b = l.initial.self in
    Goes l.i (turns (up_to (λ j. is_some (next_at b.setup.words.now b.panes j)) l.i) 0) b l.self
