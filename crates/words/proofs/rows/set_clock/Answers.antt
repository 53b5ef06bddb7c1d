use Rattle.tables.proofs.Tables.{view-clock}
use Rattle.words.proofs.rows.set_clock.Goals as goal

pub returns : goal.returns
returns c = view-clock _ _ c.told-space
