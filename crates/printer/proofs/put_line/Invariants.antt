-- The first i numbers stand in the buffer.
use Rattle.printer.proofs.LineLaws.{Lining}
use Rattle.printer.proofs.put_line.Given as goal

abbrev pub invariant-loop-i : goal.invariant-loop-i
invariant-loop-i l = Lining l.numbers l.initial.out l.out l.at l.next l.i
