-- "Who holds what": visible, available and conflicting entries.
use Rattle.std.specs.Prelude.{ℕ, ◌+◌, ◌-◌, ◌^◌, Bool, not, cond, ◌&&◌, ◌||◌, List, eqb}
use Rattle.std.proofs.Math.Option.{Option, none, some}
use Rattle.rules.specs.declared.Entry.{Entry}
use Rattle.rules.specs.declared.Txn.{Txn}
use Rattle.rules.specs.declared.LookUp.{LookUp}
use Rattle.rules.specs.Lists.{findb, anyb}
use Rattle.rules.specs.Template.{bit, matches}

-- the live transaction with a number
unfoldable pub live_txn : ℕ → List Txn → Option Txn
live_txn t ts = findb (λ x. eqb x.id.0 t) ts

-- read holders are eight bits, by the holders' slots; with the one at slot p added, or dropped
unfoldable pub add_reader : ℕ → ℕ → ℕ
add_reader p readers = cond (bit p readers) readers (readers + 2 ^ p)

unfoldable pub drop_reader : ℕ → ℕ → ℕ
drop_reader p readers = cond (bit p readers) (readers - 2 ^ p) readers

-- the same by the transaction's number: 0, or one that is not live, holds nothing
abbrev pub add_reader_of : Option Txn → ℕ → ℕ
add_reader_of none readers = readers
add_reader_of (some t) readers = add_reader t.slot readers

abbrev pub drop_reader_of : Option Txn → ℕ → ℕ
drop_reader_of none readers = readers
drop_reader_of (some t) readers = drop_reader t.slot readers

-- whether a live transaction other than t holds a read on the entry: a bit is left once t's own is dropped.
-- (Every bit is a live transaction's, on spaces that frames made: demands, `Told`.)
unfoldable pub read_by_other : List Txn → ℕ → Entry → Bool
read_by_other ts t e = not (eqb (drop_reader_of (live_txn t ts) e.readers) 0)

-- a transaction's number that is neither 0 nor t
abbrev pub is_other : ℕ → ℕ → Bool
is_other t n = not (eqb n 0) && not (eqb n t)

-- "visible if it has no take hold and is committed or private to T"
unfoldable pub visible : ℕ → Entry → Bool
visible t e = eqb e.taken_by.0 0 && (eqb e.private_to.0 0 || eqb e.private_to.0 t)

-- "available to a read if it matches and is visible", "to a take if, besides, no live transaction other than its own
-- holds a read on it": `read` says whether one does
abbrev pub available_if : Bool → LookUp → Entry → Bool
available_if read w e =
    matches w.mask w.fields e.fields && visible w.txn.0 e && not (w.takes && read)

unfoldable pub available : List Txn → LookUp → Entry → Bool
available ts w e = available_if (read_by_other ts w.txn.0 e) w e

-- "private to another transaction, take-held by another, or (for a take) read-held by another"
abbrev pub others_if : Bool → LookUp → Entry → Bool
others_if read w e =
    is_other w.txn.0 e.private_to.0 || is_other w.txn.0 e.taken_by.0 || w.takes && read

-- "conflicts if it matches, is not available, and is" so. (T's own take hold makes an entry neither: demands,
-- `OwnTakeHold`.)
unfoldable pub conflicts : List Txn → LookUp → Entry → Bool
conflicts ts w e =
    matches w.mask w.fields e.fields
    && not (available ts w e)
    && others_if (read_by_other ts w.txn.0 e) w e

-- "Where several entries are available, found now hands out the one with the lowest entry number" (document 02, T-02).
-- It stands first: entries stand by number (demands, `Bounds.by_number`).
abbrev pub oldest : List Txn → LookUp → List Entry → Option Entry
oldest ts w es = findb (available ts w) es

abbrev pub some_available : List Txn → LookUp → List Entry → Bool
some_available ts w es = anyb (available ts w) es

abbrev pub some_conflicts : List Txn → LookUp → List Entry → Bool
some_conflicts ts w es = anyb (conflicts ts w) es
