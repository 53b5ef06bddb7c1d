use Rattle.std.proofs.Common.{◌∙◌, sym, ap, arith}
use Rattle.tables.specs.Rows.{move_words}
use Rattle.tables.specs.Table.{at}
use Rattle.tables.proofs.PlacedLaws.{placed_end, placed_move}
use Rattle.tables.proofs.RowLaws.{move_same, row_within}
use Rattle.words.proofs.rows.move_row.Goals as goal

pub returns-then-from-to : goal.returns-then-from-to
returns-then-from-to g c =
    c.copy_within.ensures.after
    ∙ placed_move g.met.T.Row.placed c.args.space.now c.told-space c.args.from c.args.to
    c.AT.ensures c.WIDTH.ensures c.WIDTH-then-from-to.ensures c.AT-then-from-to.ensures
    c.WIDTH-then-from-to-2.ensures c.requires.0 c.requires.1

pub returns-else-from-to : goal.returns-else-from-to
returns-else-from-to g c =
    let t = g.T.Row.table in
    let p = g.met.T.Row.placed in
    let ws = c.args.space.now in
    let inside = placed_end p ws c.told-space in
    let row = row_within t.width t.base c.args.from t.most (omega (arith, c.requires.0, p.is_most)) in
    sym (move_same ws (at t c.args.from) t.width (omega (arith, inside, row)))
    ∙ ap (λ k. move_words ws (at t c.args.from) (at t k) t.width) c.if-from-to.false
