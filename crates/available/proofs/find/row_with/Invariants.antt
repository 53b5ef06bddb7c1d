use Rattle.available.specs.Find.{has_field, Passes}
use Rattle.available.proofs.find.row_with.Given as goal

abbrev pub invariant-loop-i : goal.invariant-loop-i
invariant-loop-i l = Passes (has_field l.a.column l.a.want) l.space l.from l.i
