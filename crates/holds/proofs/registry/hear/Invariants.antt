use Rattle.std.proofs.Common.{◌≡◌, take}
use Rattle.rules.specs.State.{with_registrations}
use Rattle.rules.specs.Words.{view}
use Rattle.holds.specs.Registry.{heard_by}
use Rattle.holds.proofs.registry.hear.Given as goal

-- the rows passed have heard
abbrev pub invariant-loop-i : goal.invariant-loop-i
invariant-loop-i l =
    let m = view l.fn.space in
    view l.space ≡ with_registrations (heard_by m.next_entry (take l.i l.counts) m.registrations) m
