-- The first i records are heard.
use Rattle.std.proofs.Common.{◌≡◌, List, take}
use Rattle.rules.specs.declared.Record.{Record}
use Rattle.sittings.specs.Watch.{Stand, Heard}
use Rattle.sittings.proofs.watch.Watch.hear_all.Given as goal

abbrev pub invariant-loop-i : goal.invariant-loop-i
invariant-loop-i l =
    let b = l.initial.self in
    ((rs : List Record) → Stand l.answers l.n rs
    → Heard b.clock b.report b.waits (take l.i rs) l.self.report l.self.waits)
    × (l.self.clock ≡ b.clock)
