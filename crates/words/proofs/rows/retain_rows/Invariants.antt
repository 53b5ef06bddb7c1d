use Rattle.std.proofs.Common.{◌≡◌, ◌≤◌, Bool, List}
use Rattle.rules.specs.Words.{view}
use Rattle.tables.proofs.CompactLaws.{Leaving}
use Rattle.words.proofs.rows.retain_rows.Given as goal

-- the first i rows are gone through
abbrev pub invariant-loop-i : goal.invariant-loop-i
invariant-loop-i g l =
    goal.F-IsAlwaysCallable g l.stays
    × (l.kept ≤ l.i)
    × ((q : g.row.T.Denot → Bool)
    → ((p : _) (xs : List g.row.T.Denot) (x : g.row.T.Denot) (r : Bool)
    → view p.now ≡ g.T.Row.with_rows xs (view l.fn.space)
    → goal.F-post g l.stays p x r → r ≡ q x)
    → Leaving g.T.Row.table q l.fn.space l.space l.i l.kept)
