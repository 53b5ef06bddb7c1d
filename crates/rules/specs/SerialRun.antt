-- "The serial run": "fed the frames in order, each with the records its step wrote, and nothing from the space".
use Rattle.std.specs.Prelude.{ℕ, ◌+◌, Bool, true, false, not, cond, ◌&&◌, ◌||◌, ◌↔◌, ◌≡◌, eqb}
use mathlib.Core.List.{List, [], ◌∷◌, ◌++◌, map, Memᴰ}
use Rattle.rules.specs.declared.Entry.{Entry}
use Rattle.rules.specs.declared.Mark.{Mark}
use Rattle.rules.specs.declared.Record.{Record}
use Rattle.rules.specs.declared.until.Until.{Until}
use Rattle.rules.specs.Lists.{filterb, anyb, distinct}
use Rattle.rules.specs.State.{Model}
use Rattle.rules.specs.Time.{until, reached}
use Rattle.rules.specs.Numbers.{kind_written, kind_found, kind_committed, kind_aborted, kind_exception, kind_ticked}
use Rattle.rules.specs.Numbers.{kind_renewed, kind_refused}
use Rattle.rules.specs.Template.{mark_of}
use Rattle.rules.specs.Frame.{Frame, decode, is_look_up, is_take}
use Rattle.rules.specs.Transactions.{is_private_to}

-- a frame with the records that its step wrote
pub record Logged : Type 0 where
  pub frame : List ℕ
  pub records : List Record

-- an entry of the plain set
pub record Kept : Type 0 where
  pub number : ℕ
  pub fields : Mark
  pub end : Until

-- add an entry; or need a number with its fields and blanks in the set, and for a take remove it
pub data Operation : Type 0 where
  adds : Kept → Operation
  finds : Bool → ℕ → Mark → Operation

-- an operation in a transaction's list
pub record Pending : Type 0 where
  pub txn : ℕ
  pub operation : Operation

-- whether a party's look-up takes
pub record Asked : Type 0 where
  pub party : ℕ
  pub takes : Bool

pub record Run : Type 0 where
  pub clock : ℕ
  pub kept : List Kept
  -- the lists of operations, of all transactions in one
  pub pending : List Pending
  -- the latest look-up of each party that was not refused, the latest first
  pub asked : List Asked
  -- the numbers taken by operations carried out
  pub taken : List ℕ
  pub succeeds : Bool

abbrev pub start : Run
start = record { clock = 0; kept = []; pending = []; asked = []; taken = []; succeeds = true }

unfoldable pub same_fields : Mark → Mark → Bool
same_fields x y =
    eqb x.kind y.kind && eqb x.side y.side && eqb x.image y.image && eqb x.place y.place
    && eqb x.blanks y.blanks

unfoldable pub is_kept : ℕ → Mark → Kept → Bool
is_kept n x k = eqb k.number n && same_fields x k.fields

-- the run with one of its parts replaced
abbrev run : ℕ → List Kept → List Pending → List Asked → List ℕ → Bool → Run
run c ks ps qs ns ok = record { clock = c; kept = ks; pending = ps; asked = qs; taken = ns; succeeds = ok }

abbrev pub with_kept : List Kept → Run → Run
with_kept ks r = run r.clock ks r.pending r.asked r.taken r.succeeds

abbrev pub with_pending : List Pending → Run → Run
with_pending ps r = run r.clock r.kept ps r.asked r.taken r.succeeds

unfoldable pub failed : Run → Run
failed r = run r.clock r.kept r.pending r.asked r.taken false

unfoldable pub taking : ℕ → Mark → Run → Run
taking n x r =
    run r.clock (filterb (λ k. not (is_kept n x k)) r.kept) r.pending r.asked (n ∷ r.taken) r.succeeds

-- an operation is carried out; one whose entry is missing changes nothing, and the run fails
unfoldable pub carry_out : Operation → Run → Run
carry_out (adds k) r = with_kept (r.kept ++ (k ∷ [])) r
carry_out (finds takes n x) r =
    cond (anyb (is_kept n x) r.kept) (cond takes (taking n x r) r) (failed r)

unfoldable pub carry_out_all : List Operation → Run → Run
carry_out_all [] r = r
carry_out_all (o ∷ os) r = carry_out_all os (carry_out o r)

-- "In the serial run a renewal changes the entry's end at its place" (document 02, T-05); one whose entry is missing
-- fails the run. Lease 0 ends it at the run's clock, so that it is dropped in the end
abbrev pub kept_to : Until → Kept → Kept
kept_to end k = record { number = k.number; fields = k.fields; end = end }

unfoldable pub renewing : ℕ → Until → Run → Run
renewing n end r =
    cond (anyb (λ k. eqb k.number n) r.kept)
    (with_kept (map (λ k. cond (eqb k.number n) (kept_to end k) k) r.kept) r) (failed r)

-- at once outside transactions, else put last in the transaction's list
unfoldable pub perform : ℕ → Operation → Run → Run
perform t o r = cond (eqb t 0) (carry_out o r) (with_pending (r.pending ++ (record { txn = t; operation = o } ∷ [])) r)

-- a transaction's list, and the lists without it
unfoldable pub list_of : ℕ → Run → List Operation
list_of t r = map (λ p. p.operation) (filterb (λ p. eqb p.txn t) r.pending)

unfoldable pub thrown_away : ℕ → Run → Run
thrown_away t r = with_pending (filterb (λ p. not (eqb p.txn t)) r.pending) r

-- whether the latest look-up of a party takes
unfoldable pub last_takes : ℕ → List Asked → Bool
last_takes p [] = false
last_takes p (a ∷ older) = let rest = last_takes p older in cond (eqb a.party p) a.takes rest

unfoldable pub advanced : Run → Run
advanced r = run (r.clock + 1) r.kept r.pending r.asked r.taken r.succeeds

-- "adds the record's number, the frame's fields and the end, which is the run's clock at this record plus the frame's
-- lease, or never for FOREVER"
abbrev pub written_by : Frame → Record → ℕ → Kept
written_by f a clock =
    record { number = a.entry.0; fields = mark_of f.mask f.fields; end = until clock f.lease_or_timeout }

-- one record of a frame
unfoldable pub follow : Frame → Record → Run → Run
follow f a r =
    cond (eqb a.kind kind_written)
    (perform a.txn.0 (adds (written_by f a r.clock)) r)
    (cond (eqb a.kind kind_found)
    (perform a.txn.0 (finds (last_takes a.party r.asked) a.entry.0 a.fields) r)
    (cond (eqb a.kind kind_committed) (carry_out_all (list_of a.txn.0 r) (thrown_away a.txn.0 r))
    (cond (eqb a.kind kind_aborted || eqb a.kind kind_exception) (thrown_away a.txn.0 r)
    (cond (eqb a.kind kind_ticked) (advanced r)
    (cond (eqb a.kind kind_renewed) (renewing a.entry.0 (until r.clock f.lease_or_timeout) r) r)))))

unfoldable pub follow_all : Frame → List Record → Run → Run
follow_all f [] r = r
follow_all f (a ∷ later) r = follow_all f later (follow f a r)

-- refused: with 1 there is no record, else the first is of kind 15
unfoldable pub was_refused : List Record → Bool
was_refused [] = true
was_refused (a ∷ later) = eqb a.kind kind_refused

unfoldable pub note_look_up : Frame → List Record → Run → Run
note_look_up f answers r =
    cond (is_look_up f.op && not (was_refused answers))
    (run r.clock r.kept r.pending (record { party = f.party; takes = is_take f.op } ∷ r.asked) r.taken
    r.succeeds)
    r

unfoldable pub follow_log : List Logged → Run → Run
follow_log [] r = r
follow_log (l ∷ ls) r =
    let f = decode l.frame in
    follow_log ls (follow_all f l.records (note_look_up f l.records r))

unfoldable pub serial_run : List Logged → Run
serial_run ls = follow_log ls start

-- "At the end, entries past their lease are dropped: those whose end is at most the run's clock."
unfoldable pub left : Run → List Kept
left r = filterb (λ k. not (reached r.clock k.end)) r.kept

-- What the demand says of it

-- an entry as the plain set keeps it
abbrev pub kept_of : Entry → Kept
kept_of e = record { number = e.id.0; fields = e.fields; end = e.end }

-- "the space's committed entries: those stored and private to no transaction, held or not"
unfoldable pub committed_in : Model → List Kept
committed_in m = map kept_of (filterb (is_private_to 0) m.entries)

abbrev pub numbers_of : List Kept → List ℕ
numbers_of ks = map (λ (k : Kept). k.number) ks

-- the run succeeds, no number is taken by two operations carried out, and what is left equals the committed entries
-- in numbers, fields, blanks and ends, each number once on either side
pub record Serial (r : Run) (m : Model) : Type 0 where
  pub succeeds : r.succeeds ≡ true
  pub taken_once : distinct r.taken ≡ true
  pub left_once : distinct (numbers_of (left r)) ≡ true
  pub committed_once : distinct (numbers_of (committed_in m)) ≡ true
  pub same : (k : Kept) → Memᴰ k (left r) ↔ Memᴰ k (committed_in m)
