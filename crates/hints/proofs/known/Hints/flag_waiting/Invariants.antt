use Rattle.std.proofs.Common.{◌≡◌}
use Rattle.rules.specs.Lists.{All}
use Rattle.hints.specs.Hints.{Flagged}
use Rattle.hints.proofs.known.Hints.flag_waiting.Given as goal

-- whoever was seen has a flag
abbrev pub invariant-loop-w : goal.invariant-loop-w
invariant-loop-w l =
    All (Flagged l.self) l.yielded
    × (l.self.least ≡ l.initial.self.least)
    × (l.self.acted ≡ l.initial.self.acted)
