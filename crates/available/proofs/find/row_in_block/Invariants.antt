use Rattle.std.proofs.Common.{◌+◌}
use Rattle.available.specs.Find.{has_field, Passes}
use Rattle.available.proofs.find.row_in_block.Given as goal

abbrev pub invariant-loop-k : goal.invariant-loop-k
invariant-loop-k l = Passes (has_field l.a.column l.a.want) l.space l.from (l.from + l.k)
