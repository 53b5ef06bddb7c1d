-- What a search looks at, and an entry found, as the code hands it on.
use Rattle.std.specs.Prelude.{ℕ, ◌≤◌, ◌<◌, Bool, true, false, ◌&&◌, ◌||◌, ◌≡◌, List, eqb, Option as Answer, Some, None}
use Rattle.std.proofs.Math.Option.{Option, none, some}
use Rattle.rules.specs.declared.Entry.{Entry}
use Rattle.rules.specs.declared.Fields.{Fields}
use Rattle.rules.specs.declared.LookUp.{LookUp}
use Rattle.rules.specs.Lists.{findb}
use Rattle.rules.specs.Template.{bit, bare, matches}
use Rattle.rules.specs.Words.{view, entry_count}
use Rattle.tables.specs.Rows.{field_at, entry_row}
use Rattle.available.specs.declared.asked.Asked.{Asked}

abbrev pub match_of : Answer (Entry × ℕ) → Option Entry
match_of (Some m) = some m.0
match_of None = none

-- it stands in its row
abbrev pub InRow : List ℕ → Answer (Entry × ℕ) → Type 0
InRow ws (Some m) = (m.1 < entry_count ws) × (m.0 ≡ entry_row ws m.1)
InRow ws None = Unit {0}

-- the first that passes a test
abbrev pub Finds : (Entry → Bool) → List ℕ → Answer (Entry × ℕ) → Type 0
Finds q ws r = (match_of r ≡ findb q (view ws).entries) × InRow ws r

-- a test that an entry passes only if it matches the look-up's template
abbrev pub Only : LookUp → (Entry → Bool) → Type 0
Only w q = (e : Entry) → matches w.mask w.fields e.fields ≡ false → q e ≡ false

-- a template asks for a field that is blank
abbrev pub blank_asked : ℕ → ℕ → Bool
blank_asked mask blanks =
    bit 0 mask && bit 0 blanks || bit 1 mask && bit 1 blanks || bit 2 mask && bit 2 blanks || bit 3 mask && bit 3 blanks

-- the template asks for the field at a column, by its value there
abbrev pub Asks : Answer Asked → ℕ → Fields → Type 0
Asks (Some a) mask want = (a.column < 4) × (bit a.column mask ≡ true) × (field_at a.column want ≡ a.want)
Asks None mask want = Unit {0}

abbrev pub has_field : ℕ → ℕ → Entry → Bool
has_field column x e = eqb (field_at column (bare e.fields)) x

-- none of the rows from k up to i passes the test
pub record Passes (q : Entry → Bool) (ws : List ℕ) (k i : ℕ) : Type 0 where
  pub begun : k ≤ i
  pub none : (x : ℕ) → k ≤ x → x < i → q (entry_row ws x) ≡ false

-- none of them matches the template
abbrev pub PassesAsked : ℕ → Fields → List ℕ → ℕ → ℕ → Type 0
PassesAsked mask want ws k i = Passes (λ e. matches mask want e.fields) ws k i
