-- i pairs have been judged, and their frames counted.
use Rattle.std.proofs.Common.{◌≡◌}
use Rattle.tray.proofs.PairsJudged.{Judging}
use Rattle.bounds.proofs.CountLaws.{counted}
use Rattle.bounds.proofs.count_frames.Given as goal

abbrev pub invariant-loop-i : goal.invariant-loop-i
invariant-loop-i l = Judging l.tray l.free l.i × (l.counts ≡ counted l.tray l.i)
