use Rattle.std.proofs.Common.{◌≡◌, ◌≤◌, ◌+◌, length, map, List, ◌++◌}
use Rattle.rules.specs.declared.Registration.{Registration}
use Rattle.rules.specs.Lists.{filterb}
use Rattle.rules.specs.Words.{view}
use Rattle.tables.specs.Table.{left}
use Rattle.tables.specs.Tables.{registration_table}
use Rattle.finish.specs.Bells.{beside}
use Rattle.finish.specs.Does.{Adds}
use Rattle.finish.proofs.BellLaws.{rings, bell}
use Rattle.finish.proofs.bells.put_bells.Given as goal

-- of the registrations passed, those with a count have their bells
abbrev pub invariant-loop-i : goal.invariant-loop-i
invariant-loop-i l =
    let it = l.i-iterator.iter in
    (passed : List Registration)
    × (length passed ≡ l.i-iterator.count)
    × (passed ++ left registration_table it.space.now it.at it.end ≡ (view l.space).registrations)
    × (l.done ≤ l.count + l.i-iterator.count)
    × Adds (map bell (filterb rings (beside l.counts passed))) l.initial.answers l.answers l.count l.done
