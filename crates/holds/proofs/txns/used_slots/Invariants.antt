-- The bits are the slots of the rows passed.
use Rattle.holds.proofs.SlotLaws.{Used}
use Rattle.tables.specs.Rows.{txn_row}
use Rattle.holds.proofs.txns.used_slots.Given as goal

abbrev pub invariant-loop-i : goal.invariant-loop-i
invariant-loop-i l = Used (txn_row l.space) l.used l.i
