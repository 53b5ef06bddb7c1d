-- Where a search of the entries row by row stops.
use Rattle.std.specs.Prelude.{ℕ, ◌<◌, ◌≡◌, Bool, true, false, List, Option, Some, None}
use Rattle.rules.specs.declared.Entry.{Entry}
use Rattle.rules.specs.Words.{entry_count}
use Rattle.tables.specs.Rows.{entry_row}

-- none of the rows before row i passes the test
abbrev pub NoneBefore : (Entry → Bool) → List ℕ → ℕ → Type 0
NoneBefore q ws i = (k : ℕ) → k < i → q (entry_row ws k) ≡ false

-- it stops at a row, if at any
abbrev pub IsRow : List ℕ → Option ℕ → Type 0
IsRow ws (Some i) = i < entry_count ws
IsRow ws None = Unit {0}

-- and that at the first that passes the test, if any does
abbrev pub Stops : (Entry → Bool) → List ℕ → Option ℕ → Type 0
Stops q ws (Some i) = (q (entry_row ws i) ≡ true) × NoneBefore q ws i
Stops q ws None = NoneBefore q ws (entry_count ws)
