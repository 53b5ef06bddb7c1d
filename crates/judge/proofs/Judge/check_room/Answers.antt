use Rattle.std.proofs.Common.{◌≡◌, ap, ◌∙◌, sym, length, refl}
use borrow.Author.Tests.{le-leb, lt-leb}
use Rattle.rules.specs.Words.{view}
use Rattle.tables.proofs.Table.{length-all}
use Rattle.judge.proofs.Judge.check_room.Goals as goal

pub returns-then-MOST-row_count : goal.returns-then-MOST-row_count
returns-then-MOST-row_count g c =
    let ws = c.args.self.now.space.now in
    let many : length (g.T.Row.rows (view ws)) ≡ c.row_count.result =
    ap length (g.met.T.Row.rows_in ws) ∙ length-all g.T.Row.table ws ∙ sym c.row_count.ensures.0 in
    (rw (many, sym c.MOST.ensures, le-leb _ _ c.if-MOST-row_count.true), refl)

pub returns-else-MOST-row_count : goal.returns-else-MOST-row_count
returns-else-MOST-row_count g c =
    let ws = c.args.self.now.space.now in
    let many : length (g.T.Row.rows (view ws)) ≡ c.row_count.result =
    ap length (g.met.T.Row.rows_in ws) ∙ length-all g.T.Row.table ws ∙ sym c.row_count.ensures.0 in
    rw (many, sym c.MOST.ensures, lt-leb _ _ c.if-MOST-row_count.false)
