-- The first t transactions are read.
use Rattle.std.proofs.Common.{◌*◌, ◌≤◌}
use Rattle.order.specs.Reading.{max_actions}
use Rattle.order.proofs.TxnLaws.{ReadingTxns}
use Rattle.order.proofs.read.read_export.Given as goal

abbrev pub invariant-loop-t : goal.invariant-loop-t
invariant-loop-t l = ReadingTxns l.initial.rest l.rest l.actions l.starts l.len l.t × (l.len ≤ max_actions * l.t)
