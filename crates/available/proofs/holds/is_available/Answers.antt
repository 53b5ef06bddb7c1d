use Rattle.std.proofs.Common.{rules}
use Rattle.rules.specs.Holds.{available, visible, read_by_other}
use Rattle.available.proofs.holds.is_available.Goals as goal

pub returns-then-is_visible : goal.returns-then-is_visible
unfolding available visible read_by_other
returns-then-is_visible c = search rules

pub returns-else-is_visible : goal.returns-else-is_visible
unfolding available visible read_by_other
returns-else-is_visible c = search rules
