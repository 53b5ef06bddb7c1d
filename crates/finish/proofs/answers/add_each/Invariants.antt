use Rattle.std.proofs.Common.{◌≡◌, ◌≤◌, ◌+◌, Bool, cond, Some, None, length}
use mathlib.Core.List.{map}
use Rattle.rules.specs.Lists.{filterb}
use Rattle.rules.specs.declared.Record.{Record}
use Rattle.finish.specs.Does.{Adds}
use Rattle.finish.proofs.answers.add_each.Given as goal

-- of the rows passed, each that gets a record has it
abbrev pub invariant-loop-x : goal.invariant-loop-x
invariant-loop-x g l =
    goal.F-IsAlwaysCallable g l.record_for
    × (l.done ≤ l.count + length l.yielded)
    × ((q : g.row.T.Denot → Bool) (a : g.row.T.Denot → Record)
    → ((x : g.row.T.Denot) (r : _) → goal.F-post g l.record_for x r → r ≡ cond (q x) (Some (a x)) None)
    → Adds (map a (filterb q l.yielded)) l.initial.answers l.answers l.count l.done)
