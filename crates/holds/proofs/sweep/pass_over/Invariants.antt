use Rattle.std.proofs.Common.{◌≡◌, ◌≤◌, Bool, true}
use Rattle.std.specs.Prelude.{Option}
use Rattle.rules.specs.declared.Entry.{Entry}
use Rattle.holds.specs.Sweep.{Spares, passed}
use Rattle.holds.proofs.SweepLaws.{Sweeping}
use Rattle.holds.proofs.sweep.pass_over.Given as goal

-- the first i entries are gone through
abbrev pub invariant-loop-i : goal.invariant-loop-i
invariant-loop-i g l =
    goal.T-IsAlwaysCallable g l.touches
    × goal.P-IsAlwaysCallable g l.pass
    × (l.i ≤ l.count)
    × (l.kept ≤ l.i)
    × ((touch keep : Entry → Bool) (change : Entry → Entry) → Spares touch keep change
    → ((e : Entry) (r : Bool) → goal.T-post g l.touches e r → r ≡ touch e)
    → ((e : Entry) (r : Option Entry) → touch e ≡ true → goal.P-post g l.pass e r → r ≡ passed keep change e)
    → Sweeping keep change l.fn.space l.space l.i l.kept)
