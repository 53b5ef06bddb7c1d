use Rattle.std.proofs.Common.{◌≤◌, ◌-◌}
use Rattle.rules.specs.Numbers.{max_entries}
use Rattle.available.specs.Find.{has_field, Passes}
use Rattle.available.proofs.find.skip_blocks.Given as goal

abbrev pub invariant-loop-i : goal.invariant-loop-i
invariant-loop-i l = (l.i ≤ max_entries) × Passes (has_field l.a.column l.a.want) l.space l.from l.i

abbrev pub decreases-loop-i : goal.decreases-loop-i
decreases-loop-i l = l.n - l.i
