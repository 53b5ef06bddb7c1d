-- So many of the first i records are of the kind.
use Rattle.std.proofs.Common.{◌≡◌, ◌≤◌, List, take, nat_eq}
use Rattle.rules.specs.declared.Record.{Record}
use Rattle.demands.specs.WaitingList.{number}
use Rattle.sittings.specs.Watch.{Stand}
use Rattle.sittings.proofs.records.count_of.Given as goal

abbrev pub invariant-loop-i : goal.invariant-loop-i
invariant-loop-i l =
    ((rs : List Record) → Stand l.answers l.n rs
    → l.count ≡ number (λ (a : Record). nat_eq a.kind l.kind) (take l.i rs))
    × (l.count ≤ l.i)
