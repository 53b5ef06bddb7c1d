use Rattle.std.proofs.Common.{arith}
use Rattle.words.proofs.rows.set_row_count.Goals as goal

pub overflow_cast-space : goal.overflow_cast-space
overflow_cast-space g c =
    let p = g.met.T.Row.placed in
    omega (arith, p.is_most, p.few, c.requires)
