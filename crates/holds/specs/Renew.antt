-- The model once the entry of a row is renewed.
use Rattle.std.specs.Prelude.{ℕ, cond, eqb, set}
use Rattle.rules.specs.declared.Entry.{Entry}
use Rattle.rules.specs.Time.{until}
use Rattle.rules.specs.State.{Model, with_entries}
use Rattle.rules.specs.Renew.{ending_at}
use Rattle.tables.specs.Rows.{without}

-- e, which stands in row i, goes or ends then. Where no other has its number, this is the rules' `renew`
-- (`RenewLaws.by_row`).
unfoldable pub renewed_at : ℕ → Entry → ℕ → Model → Model
renewed_at lease e i m =
    with_entries
    (cond (eqb lease 0) (without i m.entries) (set m.entries i (ending_at (until m.clock lease) e))) m
