use Rattle.std.proofs.Common.{◌-◌}
use Rattle.finish.proofs.TurnLaws.{Turns, Looking}
use Rattle.finish.proofs.service.serve_waits.Given as goal

-- the first i look-ups are gone through
abbrev pub invariant-waiting : goal.invariant-waiting
invariant-waiting l = Turns l.from l.initial.space l.space l.initial.answers l.answers l.count l.done l.i l.kept

-- nothing is changed yet, and none of the entries up to row j is available
abbrev pub invariant-loop-j : goal.invariant-loop-j
invariant-loop-j l =
    Looking l.from l.initial.space l.space l.initial.answers l.answers l.initial.done l.done l.i l.i l.asked
    l.entries l.j

abbrev pub decreases-loop-j : goal.decreases-loop-j
decreases-loop-j l = l.entries - l.j
