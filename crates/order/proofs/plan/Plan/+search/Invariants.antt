-- The measure is how many transactions are left. Every order that begins with a position below p fails.
use Rattle.std.proofs.Common.{◌-◌}
use Rattle.order.proofs.SearchLaws.{Tried}
use Rattle.order.proofs.plan.Plan.+search.Given as goal

abbrev pub decreases-search : goal.decreases-search
decreases-search l = l.self.now.n - l.d

abbrev pub invariant-loop-p : goal.invariant-loop-p
invariant-loop-p l = Tried l.self.steps l.self.starts l.self.n l.d l.left l.present l.p
