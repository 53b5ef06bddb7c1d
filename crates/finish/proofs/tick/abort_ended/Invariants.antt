use Rattle.std.proofs.Common.{length}
use Rattle.rules.specs.Words.{view}
use Rattle.finish.proofs.AbortingLaws.{Aborting}
use Rattle.finish.proofs.tick.abort_ended.Given as goal

abbrev pub invariant-loop-t : goal.invariant-loop-t
invariant-loop-t l = Aborting (view l.fn.space) (view l.space)

abbrev pub decreases-loop-t : goal.decreases-loop-t
decreases-loop-t l = length (view l.space).txns
