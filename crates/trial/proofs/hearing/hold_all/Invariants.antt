-- So many panes have been held.
use Rattle.std.proofs.Common.{◌≡◌, ℕ, ◌<◌, ◌≤◌, length}
use Rattle.trial.specs.Progress.{at, held_by}
use Rattle.trial.proofs.hearing.hold_all.Given as goal

abbrev pub invariant-loop-x : goal.invariant-loop-x
invariant-loop-x l =
    (length l.panes ≡ 4)
    × ((i : ℕ) → i < l.x-index → at l.panes i ≡ held_by (at l.initial.panes i))
    × ((i : ℕ) → l.x-index ≤ i → at l.panes i ≡ at l.initial.panes i)
