-- Read holders, by the slot of a live transaction.
use Rattle.std.specs.Prelude.{ℕ, Bool, not, cond, List, eqb}
use Rattle.rules.specs.declared.Txn.{Txn}
use Rattle.rules.specs.Holds.{live_txn, add_reader, drop_reader, drop_reader_of}
use Rattle.available.specs.Live.{no_slot}

-- read holders with the one at slot p added, unless p is none
abbrev pub add_at : ℕ → ℕ → ℕ
add_at p readers = cond (eqb p no_slot) readers (add_reader p readers)

-- or dropped
abbrev pub drop_at : ℕ → ℕ → ℕ
drop_at p readers = cond (eqb p no_slot) readers (drop_reader p readers)

-- of these read holders one is left once the transaction t is dropped
abbrev pub left_over : List Txn → ℕ → ℕ → Bool
left_over ts t readers = not (eqb (drop_reader_of (live_txn t ts) readers) 0)
