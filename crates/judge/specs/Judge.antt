-- The refusals 6 to 13, 19 and 20 as the code judges them, and room for a look-up that waits.
use Rattle.std.specs.Prelude.{ℕ, ◌+◌, ◌<◌, Bool, true, false, not, cond, ◌&&◌, ◌||◌, ◌≡◌, List, [], ◌∷◌, map, eqb, leb}
use Rattle.std.specs.Prelude.{ltb, length, Option, Some, None, Result, MatchResult}
use Rattle.std.proofs.Math.Option.{some}
use Rattle.rules.specs.declared.Entry.{Entry}
use Rattle.rules.specs.declared.LookUp.{LookUp}
use Rattle.rules.specs.declared.Txn.{Txn}
use Rattle.rules.specs.declared.TxnId.{TxnId}
use Rattle.rules.specs.declared.refusal.Refusal.{Refusal}
use Rattle.rules.specs.Lists.{anyb, first_row}
use Rattle.rules.specs.Numbers.{forever, last_clock, max_entries, max_waits}
use Rattle.rules.specs.Numbers.{waiting_refused, not_live_refused, not_own_refused, not_writer_refused, held_refused}
use Rattle.rules.specs.Numbers.{lease_refused, clock_refused, entries_refused, number_refused}
use Rattle.rules.specs.State.{Model}
use Rattle.rules.specs.Holds.{live_txn}
use Rattle.rules.specs.Frame.{Frame, is_look_up}
use Rattle.rules.specs.Refusals.{is_free, is_of, admission_rows, room_rows}
use Rattle.rules.specs.Sound.{Ascending}

-- 6, of a party whose frame aborts the transaction `leaving`, or none (0): whether a look-up bars it, and whether one
-- does
abbrev pub bars : ℕ → ℕ → LookUp → Bool
bars party leaving w = eqb w.party party && (eqb leaving 0 || not (eqb w.txn.0 leaving))

abbrev pub party_waiting : ℕ → ℕ → List LookUp → Bool
party_waiting party leaving ws = anyb (bars party leaving) ws

-- the same of the transaction as the code hands it on, if the frame aborts one
abbrev pub is_left : Option TxnId → LookUp → Bool
is_left None w = false
is_left (Some t) w = eqb w.txn.0 t.0

abbrev pub bars_unless : ℕ → Option TxnId → LookUp → Bool
bars_unless party leaving w = eqb w.party party && not (is_left leaving w)

abbrev pub waiting_unless : ℕ → Option TxnId → List LookUp → Bool
waiting_unless party leaving ws = anyb (bars_unless party leaving) ws

-- its number, and that it has one
abbrev pub number_left : Option TxnId → ℕ
number_left None = 0
number_left (Some t) = t.0

abbrev pub HasNumber : Option TxnId → Type 0
HasNumber None = Unit {0}
HasNumber (Some t) = eqb t.0 0 ≡ false

-- the transaction that a frame names: 0 is none
abbrev pub named : TxnId → Option TxnId
named t = cond (eqb t.0 0) None (Some t)

-- 7 and 8, of a party and the transaction that its frame is inside, if it is inside one
unfoldable pub txn_refusal : Option TxnId → ℕ → List Txn → ℕ
txn_refusal None party ts = 0
txn_refusal (Some t) party ts =
    first_row
    ((eqb t.0 0 || not (anyb (λ (x : Txn). eqb x.id.0 t.0) ts), not_live_refused)
    ∷ (not (is_of party (live_txn t.0 ts)), not_own_refused)
    ∷ [])

-- 6 to 8
unfoldable pub party_refusal : Option TxnId → ℕ → ℕ → Model → ℕ
party_refusal inside party leaving m =
    cond (party_waiting party leaving m.waits) waiting_refused (txn_refusal inside party m.txns)

-- 10, of a clock and a lease or timeout
abbrev pub late : ℕ → ℕ → Bool
late clock lease_or_timeout = not (eqb lease_or_timeout forever) && ltb last_clock (clock + lease_or_timeout)

-- a row of the table: refused so where it applies
abbrev pub Judged : Bool → Refusal → Result (Unit {0}) Refusal → Type 0
Judged applies why r = MatchResult r (λ _. applies ≡ false) (λ e. (applies ≡ true) × (e ≡ why))

-- 11, of a lease
abbrev pub no_room : ℕ → List Entry → Bool
no_room lease es = not (eqb lease 0) && leb max_entries (length es)

-- 10, 11 and 13, of a write's lease
abbrev pub stored_refusal : ℕ → Model → ℕ
stored_refusal lease m =
    first_row
    ((late m.clock lease, clock_refused)
    ∷ (no_room lease m.entries, entries_refused)
    ∷ (leb forever m.next_entry, number_refused)
    ∷ [])

-- 9, 10, a table's row (12 or 17) and 13, of what a create or a notify adds: its lease, the clock, whether the table is
-- full, the table's refusal and the next number
abbrev pub new_refusal : ℕ → ℕ → Bool → ℕ → ℕ → ℕ
new_refusal lease clock full full_refused next =
    first_row
    ((eqb lease 0, lease_refused)
    ∷ (late clock lease, clock_refused)
    ∷ (full, full_refused)
    ∷ (leb forever next, number_refused)
    ∷ [])

-- 19, 20 and 10, of a party, the entry that it renews, the clock and a lease
unfoldable pub entry_refusal : ℕ → Entry → ℕ → ℕ → ℕ
entry_refusal party e clock lease =
    first_row
    ((not (eqb e.writer party), not_writer_refused)
    ∷ (not (is_free (some e)), held_refused)
    ∷ (late clock lease, clock_refused)
    ∷ [])

-- the rows of a frame's party and transaction, and those of time, room and numbers: the first that applies, or 0
abbrev pub admission_refusal : Model → Frame → ℕ
admission_refusal m f = first_row (admission_rows m f)

abbrev pub room_refusal : Model → Frame → ℕ
room_refusal m f = first_row (room_rows m f)

-- what a look-up needs of the space: room, if it must wait, and entries that stand by number, none twice. (So it is in
-- every sound space, for a frame that 5 and 6 let pass.)
abbrev pub CanWait : Model → Type 0
CanWait m = length m.waits < max_waits

pub record Ready (m : Model) : Type 0 where
  pub room : CanWait m
  pub numbered : Ascending (map (λ (e : Entry). e.id.0) m.entries)

-- it is there for a frame, if that is a look-up
abbrev pub ReadyFor : Model → Frame → Type 0
ReadyFor m f = is_look_up f.op ≡ true → Ready m
