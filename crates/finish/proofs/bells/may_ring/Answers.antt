use Rattle.std.proofs.Common.{rules}
use Rattle.tables.proofs.Tables.{length-registrations}
use Rattle.finish.proofs.bells.may_ring.Goals as goal

pub returns-then-row_count-ne0 : goal.returns-then-row_count-ne0
returns-then-row_count-ne0 c =
    rw (length-registrations c.args.space.now, ← c.row_count.ensures.0) (search rules)

pub returns-else-row_count-ne0 : goal.returns-else-row_count-ne0
returns-else-row_count-ne0 c =
    rw (length-registrations c.args.space.now, ← c.row_count.ensures.0) (search rules)
