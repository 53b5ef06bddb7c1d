-- The positions before i have their two bytes each.
use Rattle.std.proofs.Common.{◌*◌}
use Rattle.order_lib.specs.Shows.{line_of}
use Rattle.order_lib.proofs.CopyLaws.{Copying}
use Rattle.order_lib.proofs.text.put_line.Given as goal

abbrev pub invariant-loop-i : goal.invariant-loop-i
invariant-loop-i l = Copying (line_of l.positions) l.initial.out l.out (2 * l.i)
