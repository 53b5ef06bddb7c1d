-- The words of the actions that are read stand in front of those that are left.
use Rattle.std.proofs.Common.{◌≡◌, ◌+◌, length}
use Rattle.std.specs.Iterator.Adapters.{enumerate_source, enumerate_count}
use Rattle.std.specs.Slice.Iter.{chunks_exact_rest, chunks_exact_size}
use Rattle.order.specs.Reading.{slots}
use Rattle.order.proofs.ReadLaws.{Reading}
use Rattle.order.proofs.read.read_txn.Given as goal

abbrev pub invariant-loop-i : goal.invariant-loop-i
invariant-loop-i l =
    Reading (chunks_exact_rest (enumerate_source l.initial.i-iterator))
    (chunks_exact_rest (enumerate_source l.i-iterator)) l.len l.initial.actions l.actions
    (l.len + enumerate_count l.i-iterator)
    × (chunks_exact_size (enumerate_source l.i-iterator) ≡ 2) × (length l.actions ≡ slots)
