-- The first j actions have their steps, and none of them writes a number again.
use Rattle.order.proofs.PlanLaws.{Resolving}
use Rattle.order.proofs.plan.resolve.Given as goal

abbrev pub invariant-loop-j : goal.invariant-loop-j
invariant-loop-j l = Resolving l.actions l.j l.steps l.written
