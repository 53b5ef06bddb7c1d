-- Demand 2, the book: clock, next numbers, live transactions and waiting look-ups, kept from frames and records alone.
use Rattle.std.specs.Prelude.{ℕ, ◌+◌, Bool, true, not, cond, ◌&&◌, ◌||◌, ◌≡◌, eqb, length}
use mathlib.Core.List.{List, [], ◌∷◌, ◌++◌, map, Memᴰ}
use Rattle.rules.specs.declared.Entry.{Entry}
use Rattle.rules.specs.declared.LookUp.{LookUp}
use Rattle.rules.specs.declared.Record.{Record}
use Rattle.rules.specs.declared.Txn.{Txn}
use Rattle.rules.specs.declared.until.Until.{Until}
use Rattle.rules.specs.Numbers.{kind_written, kind_found, kind_nothing, kind_created, kind_committed, kind_aborted}
use Rattle.rules.specs.Numbers.{kind_exception, kind_ticked}
use Rattle.rules.specs.Lists.{filterb}
use Rattle.rules.specs.Time.{until}
use Rattle.rules.specs.State.{Model, empty, with_clock}
use Rattle.rules.specs.Frame.{Frame, decode, is_look_up}
use Rattle.rules.specs.LookUp.{look_up_of}
use Rattle.rules.specs.SerialRun.{Logged, was_refused}

-- a live transaction as the frames and answers tell it
pub record LiveTold : Type 0 where
  pub number : ℕ
  pub party : ℕ
  pub end : Until

-- "Each entry now remembers the party that wrote it" (document 02, T-05): an entry's number, and the party
pub record WrittenBy : Type 0 where
  pub number : ℕ
  pub party : ℕ

pub record Book : Type 0 where
  pub clock : ℕ
  pub next_entry : ℕ
  pub next_txn : ℕ
  -- the latest first
  pub writers : List WrittenBy
  pub live : List LiveTold
  -- the look-ups that have had no closing answer, by arrival
  pub waiting : List LookUp
  -- whether each record so far was right by the book
  pub right : Bool

abbrev pub new_book : Book
new_book = record { clock = 0; next_entry = 1; next_txn = 1; writers = []; live = []; waiting = []; right = true }

-- the party that wrote the entry with a number, as told
unfoldable pub writer_of : ℕ → List WrittenBy → ℕ
writer_of n [] = 0
writer_of n (w ∷ older) = let rest = writer_of n older in cond (eqb w.number n) w.party rest

-- whether a record names a look-up: by its party and its transaction
abbrev pub names : Record → LookUp → Bool
names a w = eqb w.party a.party && eqb w.txn.0 a.txn.0

abbrev pub closing : Record → Bool
closing a = eqb a.kind kind_found || eqb a.kind kind_nothing

abbrev pub ending : Record → Bool
ending a = eqb a.kind kind_committed || eqb a.kind kind_aborted || eqb a.kind kind_exception

-- whether a record is right by the book: a found or nothing names exactly one open look-up; numbers are counted, each
-- from 1
abbrev pub rightly : Record → Book → Bool
rightly a b =
    cond (closing a) (eqb (length (filterb (names a) b.waiting)) 1)
    (cond (eqb a.kind kind_written) (eqb a.entry.0 b.next_entry)
    (cond (eqb a.kind kind_created) (eqb a.txn.0 b.next_txn) true))

-- the transaction that a record makes live, or those that it leaves live
abbrev pub live_after : Frame → Record → Book → List LiveTold
live_after f a b =
    cond (eqb a.kind kind_created)
    (b.live ++ (record { number = a.txn.0; party = f.party; end = until b.clock f.lease_or_timeout } ∷ []))
    (cond (ending a) (filterb (λ (t : LiveTold). not (eqb t.number a.txn.0)) b.live) b.live)

-- a found or nothing closes the look-up that it names, an exception one that waits inside its transaction; an aborted
-- "is its only closing answer" for one that waited inside (document 02, T-01)
abbrev pub waiting_after : Record → Book → List LookUp
waiting_after a b =
    cond (closing a) (filterb (λ w. not (names a w)) b.waiting)
    (cond (eqb a.kind kind_exception || eqb a.kind kind_aborted)
    (filterb (λ (w : LookUp). not (eqb w.txn.0 a.txn.0)) b.waiting) b.waiting)

unfoldable pub enters : Frame → Record → Book → Book
enters f a b =
    record {
      clock = cond (eqb a.kind kind_ticked) (b.clock + 1) b.clock;
      next_entry = cond (eqb a.kind kind_written) (b.next_entry + 1) b.next_entry;
      next_txn = cond (eqb a.kind kind_created) (b.next_txn + 1) b.next_txn;
      writers =
          cond (eqb a.kind kind_written) (record { number = a.entry.0; party = a.party } ∷ b.writers)
          b.writers;
      live = live_after f a b;
      waiting = waiting_after a b;
      right = b.right && rightly a b;
    }

unfoldable pub enters_all : Frame → List Record → Book → Book
enters_all f [] b = b
enters_all f (a ∷ later) b = enters_all f later (enters f a b)

abbrev pub with_asked : LookUp → Book → Book
with_asked w b =
    record {
      clock = b.clock;
      next_entry = b.next_entry;
      next_txn = b.next_txn;
      writers = b.writers;
      live = b.live;
      waiting = b.waiting ++ (w ∷ []);
      right = b.right;
    }

-- a look-up frame that is not refused arrives last
unfoldable pub arrives : Frame → List Record → Book → Book
arrives f rs b =
    cond (is_look_up f.op && not (was_refused rs)) (with_asked (look_up_of (with_clock b.clock empty) f) b) b

unfoldable pub keep_book : List Logged → Book → Book
keep_book [] b = b
keep_book (l ∷ ls) b = let f = decode l.frame in keep_book ls (enters_all f l.records (arrives f l.records b))

unfoldable pub book_of : List Logged → Book
book_of log = keep_book log new_book

-- every record is right by the book; and the space's clock, next numbers, live transactions, waiting look-ups and the
-- writer of each stored entry are what frames and records tell
pub record Booked (b : Book) (m : Model) : Type 0 where
  pub right : b.right ≡ true
  pub clock : b.clock ≡ m.clock
  pub next_entry_lem : b.next_entry ≡ m.next_entry
  pub next_txn_lem : b.next_txn ≡ m.next_txn
  pub writers : (e : Entry) → Memᴰ e m.entries → e.writer ≡ writer_of e.id.0 b.writers
  pub live : b.live ≡ map (λ (t : Txn). record { number = t.id.0; party = t.party; end = t.end }) m.txns
  pub waiting : b.waiting ≡ m.waits
