use Rattle.std.proofs.Common.{◌≡◌, ℕ, length, map, take, List, ◌++◌}
use Rattle.rules.specs.declared.Registration.{Registration}
use Rattle.rules.specs.Numbers.{max_registrations}
use Rattle.rules.specs.Words.{view}
use Rattle.tables.specs.Table.{left}
use Rattle.tables.specs.Tables.{registration_table}
use Rattle.holds.proofs.registry.count_each.Given as goal

-- the rows passed have their counts
abbrev pub invariant-loop-i : goal.invariant-loop-i
invariant-loop-i g l =
    let it = l.i-iterator.iter in
    goal.F-IsAlwaysCallable g l.count
    × (length l.counts ≡ max_registrations)
    × ((passed : List Registration)
    × (length passed ≡ l.i-iterator.count)
    × (passed ++ left registration_table it.space.now it.at it.end ≡ (view l.space).registrations)
    × ((v : Registration → ℕ) → ((x : Registration) (n : ℕ) → goal.F-post g l.count x n → n ≡ v x)
    → take l.i-iterator.count l.counts ≡ map v passed))
