-- The waits of the parties before one are ended.
use Rattle.std.proofs.Common.{◌≡◌}
use Rattle.sittings.specs.Figures.{Gained}
use Rattle.sittings.proofs.WatchLaws.{ended_to}
use Rattle.sittings.proofs.watch.Watch.end_waits.Given as goal

abbrev pub invariant-loop-party : goal.invariant-loop-party
invariant-loop-party l =
    let b = l.initial.self in
    Gained b.report (ended_to b.clock b.waits l.party) l.self.report
    × (l.self.waits ≡ b.waits)
    × (l.self.clock ≡ b.clock)
