use Rattle.std.proofs.Common.{ap, ◌∙◌}
use Rattle.tables.proofs.PlacedLaws.{placed_row}
use Rattle.words.proofs.rows.row_at.Goals as goal

pub returns : goal.returns
returns g c =
    c.read.ensures
    ∙ ap g.T.Row.table.read
    (placed_row g.met.T.Row.placed c.args.i c.args.space.now c.AT.ensures c.WIDTH.ensures c.WIDTH-2.ensures)
