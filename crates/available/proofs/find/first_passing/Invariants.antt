use Rattle.std.proofs.Common.{◌≡◌, ◌-◌, Bool}
use Rattle.rules.specs.declared.Entry.{Entry}
use Rattle.tables.specs.Rows.{entry_row}
use Rattle.tables.proofs.SearchLaws.{Searching}
use Rattle.available.specs.Find.{Only}
use Rattle.available.proofs.find.first_passing.Given as goal

-- none of the entries passed passes the test
abbrev pub invariant-loop-i : goal.invariant-loop-i
invariant-loop-i g l =
    goal.F-IsAlwaysCallable g l.passes
    × ((q : Entry → Bool) → Only l.fn.w q → ((e : Entry) (r : Bool) → goal.F-post g l.passes e r → r ≡ q e)
    → Searching q (entry_row l.space) l.i)

abbrev pub decreases-loop-i : goal.decreases-loop-i
decreases-loop-i g l = l.n - l.i
