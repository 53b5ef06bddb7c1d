-- The model once the entry of a row is handed out, and what bars that.
use Rattle.std.specs.Prelude.{ℕ, cond, List, set}
use Rattle.rules.specs.declared.Entry.{Entry}
use Rattle.rules.specs.declared.LookUp.{LookUp}
use Rattle.rules.specs.declared.Txn.{Txn}
use Rattle.rules.specs.State.{Model, with_entries}
use Rattle.rules.specs.LookUp.{removes, marked}
use Rattle.tables.specs.Rows.{without}

-- the entries once e, which stands in row i, is handed out: it goes, or gets the mark. Where no other has its number,
-- this is the rules' `hand_out` (`HandLaws.by_row`).
unfoldable pub hand_at : List Txn → LookUp → Entry → ℕ → List Entry → List Entry
hand_at ts w e i es = cond (removes w e) (without i es) (set es i (marked ts w e))

unfoldable pub handed_at : LookUp → Entry → ℕ → Model → Model
handed_at w e i m = with_entries (hand_at m.txns w e i m.entries) m
