use Rattle.std.proofs.Common.{◌∙◌, sym, ap, arith}
use Rattle.rules.specs.Words.{view}
use Rattle.tables.specs.Rows.{without}
use Rattle.tables.proofs.PlacedLaws.{placed_end, placed_up}
use Rattle.tables.proofs.Table.{removed}
use Rattle.words.proofs.rows.remove_row.Goals as goal

pub returns : goal.returns
returns g c =
    let r = g.T.Row in
    let laws = g.met.T.Row in
    let p = laws.placed in
    let ws = c.args.space.now in
    let n = c.row_count-n in
    let up =
    placed_up p ws c.told-space c.args.i n.result c.AT.ensures c.WIDTH.ensures c.AT-2.ensures c.WIDTH-2.ensures
    c.AT-3.ensures c.WIDTH-3.ensures (omega (arith, n.ensures.0, c.requires))
    (omega (arith, n.ensures.0, p.is_most)) in
    let turned =
    removed r.table ws c.args.i n.result n.ensures.0 (omega (arith, n.ensures.0, c.requires))
    (placed_end p ws c.told-space) (c.copy_within.ensures.after ∙ up) c.set_row_count.ensures in (
      laws.turned _ ws _ turned ∙ ap (λ l. r.with_rows (without c.args.i l) (view ws)) (sym (laws.rows_in ws)),
      c.set_row_count.array_long,
    )
