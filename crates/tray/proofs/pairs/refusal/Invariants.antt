-- i pairs have been judged.
use Rattle.tray.proofs.PairsJudged.{Judging}
use Rattle.tray.proofs.pairs.refusal.Given as goal

abbrev pub invariant-loop-i : goal.invariant-loop-i
invariant-loop-i l = Judging l.tray l.free l.i
