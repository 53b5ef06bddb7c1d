-- Those of the first i panes stand in front.
use Rattle.trial.proofs.FrameLaws.{Fronted}
use Rattle.trial.proofs.rounds.put_counts.Given as goal

abbrev pub invariant-loop-i : goal.invariant-loop-i
invariant-loop-i l = Fronted l.panes l.initial.counts l.i l.counts
