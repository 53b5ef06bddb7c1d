-- Some frames are done.
use Rattle.sittings.proofs.SittingLaws.{Watching}
use Rattle.sittings.proofs.sitting.add_sitting.Given as goal

abbrev pub invariant-loop-i : goal.invariant-loop-i
invariant-loop-i l =
    Watching l.tray l.initial.report l.space l.hints l.watch.report l.watch.waits l.i l.watch.clock
