-- "Refused frames": the table, row by row. "Checked in this order; the first that applies is given, and none
-- otherwise." Its row of 14 is gone (document 02, T-04): no frame comes to it on a space that frames made.
use Rattle.std.specs.Prelude.{ℕ, ◌+◌, Bool, true, false, not, cond, ◌&&◌, ◌||◌, List, [], ◌∷◌, ◌++◌, eqb, leb, ltb}
use Rattle.std.specs.Prelude.{length}
use Rattle.std.proofs.Math.Option.{Option, none, some}
use Rattle.rules.specs.declared.Fields.{Fields}
use Rattle.rules.specs.declared.Entry.{Entry}
use Rattle.rules.specs.declared.Txn.{Txn}
use Rattle.rules.specs.declared.LookUp.{LookUp}
use Rattle.rules.specs.Lists.{anyb, first_row}
use Rattle.rules.specs.Numbers.{forever, last_clock, max_party, max_entries, max_txns, max_registrations, step_area}
use Rattle.rules.specs.Numbers.{area_refused, operation_refused, length_refused, form_refused, party_refused}
use Rattle.rules.specs.Numbers.{waiting_refused, not_live_refused, not_own_refused, lease_refused, clock_refused}
use Rattle.rules.specs.Numbers.{entries_refused, txns_refused, number_refused, no_entry_refused, not_writer_refused}
use Rattle.rules.specs.Numbers.{held_refused, registrations_refused, places, place_refused}
use Rattle.rules.specs.Places.{start_of, length_of}
use Rattle.rules.specs.State.{Model}
use Rattle.rules.specs.Template.{bit}
use Rattle.rules.specs.Holds.{live_txn}
use Rattle.rules.specs.Frame.{Frame, decode, frame_length, is_operation, is_write, is_create, is_abort, is_tick}
use Rattle.rules.specs.Frame.{is_notify, has_template, has_blanks, has_lease_or_timeout, names_no_txn, names_entry}
use Rattle.rules.specs.Frame.{ends_txn, entry_named}
use Rattle.rules.specs.Renew.{stored_entry}

-- 2: empty frame, or operation not 1-11
unfoldable pub no_operation : List ℕ → Frame → Bool
no_operation bs f = eqb (length bs) 0 || not (is_operation f.op)

-- 3: length not the operation's
unfoldable pub wrong_length : List ℕ → Frame → Bool
wrong_length bs f = not (eqb (length bs) (frame_length f.op))

-- a field is not 0 of those that must be
abbrev pub filled : Bool → ℕ → Bool
filled empty n = empty && not (eqb n 0)

abbrev pub some_filled : Bool → Bool → Bool → Bool → Fields → Bool
some_filled kind side image place fields =
    filled kind fields.kind
    || filled side fields.side
    || filled image fields.image
    || filled place fields.place

-- "a template field not 0 where its bit is 0"
abbrev pub bad_template : ℕ → Fields → Bool
bad_template mask fields =
    some_filled (not (bit 0 mask)) (not (bit 1 mask)) (not (bit 2 mask)) (not (bit 3 mask || bit 4 mask)) fields

-- the highest mask: in a template 16 to 23 have bit 4 without bit 3, "but not with bit 3" (document 02, T-09)
abbrev pub highest : ℕ → ℕ
highest op = cond (has_template op) 23 15

-- "a bit of 1 is blank, and the field must be 0" (document 02, T-08)
abbrev pub bad_blanks : ℕ → Fields → Bool
bad_blanks mask fields = some_filled (bit 0 mask) (bit 1 mask) (bit 2 mask) (bit 3 mask) fields

-- 4: byte 3 not 0; mask above 15, in a template above 23; mask not 0 outside look-ups, notifies and writes; a bad
-- template; a blank that is not 0; create or notify naming a transaction
unfoldable pub malformed : Frame → Bool
malformed f =
    not (eqb f.byte3 0)
    || ltb (highest f.op) f.mask
    || not (has_template f.op || has_blanks f.op) && not (eqb f.mask 0)
    || has_template f.op && bad_template f.mask f.fields
    || has_blanks f.op && bad_blanks f.mask f.fields
    || names_no_txn f.op && not (eqb f.txn 0)

-- 5: party not 1-16, or not 0 for tick
unfoldable pub wrong_party : Frame → Bool
wrong_party f = cond (is_tick f.op) (not (eqb f.party 0)) (eqb f.party 0 || ltb max_party f.party)

-- 21: "when a start, a length .. exceeds 719, .. after 5": of an arc (document 02, T-09)
abbrev pub bad_arc : ℕ → ℕ → Bool
bad_arc mask arc = bit 4 mask && (leb places (start_of arc) || leb places (length_of arc))

unfoldable pub wrong_arc : Frame → Bool
wrong_arc f = has_template f.op && bad_arc f.mask f.fields.place

-- "An abort of the transaction in which the party's own look-up waits is now carried out. The look-up is withdrawn"
-- (document 02, T-01). One that waits outside transactions is not.
abbrev pub withdraws : Frame → LookUp → Bool
withdraws f w = is_abort f.op && not (eqb f.txn 0) && eqb w.txn.0 f.txn

-- 6: the party has a waiting look-up, which the frame does not withdraw
unfoldable pub party_waits : Model → Frame → Bool
party_waits m f = anyb (λ (w : LookUp). eqb w.party f.party && not (withdraws f w)) m.waits

-- Renewals (document 02, T-05)

-- 18: no stored entry has that number
abbrev pub is_missing : Option Entry → Bool
is_missing none = true
is_missing (some e) = false

unfoldable pub no_entry : Model → Frame → Bool
no_entry m f = names_entry f.op && is_missing (stored_entry (entry_named f) m.entries)

-- 19: another party wrote it
abbrev pub is_by : ℕ → Option Entry → Bool
is_by party none = false
is_by party (some e) = eqb e.writer party

unfoldable pub not_writer : Model → Frame → Bool
not_writer m f = names_entry f.op && not (is_by f.party (stored_entry (entry_named f) m.entries))

-- 20: it is private or held, by whichever transaction
abbrev pub is_free : Option Entry → Bool
is_free none = false
is_free (some e) = eqb e.private_to.0 0 && eqb e.taken_by.0 0 && eqb e.readers 0

unfoldable pub not_free : Model → Frame → Bool
not_free m f = names_entry f.op && not (is_free (stored_entry (entry_named f) m.entries))

-- a frame in a transaction: a number other than 0, and every commit and abort; "7 and 8 pass it by", a renewal
abbrev pub in_txn : Frame → Bool
in_txn f = not (names_entry f.op) && not (eqb f.txn 0) || ends_txn f.op

-- 7: the transaction is not live (commit and abort: also 0)
unfoldable pub not_live : Model → Frame → Bool
not_live m f = in_txn f && (eqb f.txn 0 || not (anyb (λ (t : Txn). eqb t.id.0 f.txn) m.txns))

-- 8: it is another party's
abbrev pub is_of : ℕ → Option Txn → Bool
is_of party none = false
is_of party (some t) = eqb t.party party

unfoldable pub not_own : Model → Frame → Bool
not_own m f = in_txn f && not (is_of f.party (live_txn f.txn m.txns))

-- 9: create or notify with lease 0
unfoldable pub no_lease : Frame → Bool
no_lease f = (is_create f.op || is_notify f.op) && eqb f.lease_or_timeout 0

-- 10: clock + lease or timeout, FOREVER excepted, above the last clock; tick at the last clock
unfoldable pub too_late : Model → Frame → Bool
too_late m f =
    has_lease_or_timeout f.op && not (eqb f.lease_or_timeout forever) && ltb last_clock (m.clock + f.lease_or_timeout)
    || is_tick f.op && leb last_clock m.clock

-- 11: write, lease not 0, 64 entries stored
unfoldable pub entries_full : Model → Frame → Bool
entries_full m f = is_write f.op && not (eqb f.lease_or_timeout 0) && leb max_entries (length m.entries)

-- 12: create, 8 live
unfoldable pub txns_full : Model → Frame → Bool
txns_full m f = is_create f.op && leb max_txns (length m.txns)

-- 17: notify, 8 registrations live (document 02, T-03)
unfoldable pub registrations_full : Model → Frame → Bool
registrations_full m f = is_notify f.op && leb max_registrations (length m.registrations)

-- 13: write (lease 0 too), create or notify, its next number would be 4294967295
unfoldable pub no_number : Model → Frame → Bool
no_number m f =
    is_write f.op && leb forever m.next_entry
    || is_create f.op && leb forever m.next_txn
    || is_notify f.op && leb forever m.next_registration

-- The table. Each row: whether it applies, and its number.

-- 2 to 5 and 21, of the frame's bytes alone
abbrev pub form_rows : List ℕ → Frame → List (Bool × ℕ)
form_rows bs f =
    (no_operation bs f, operation_refused)
    ∷ (wrong_length bs f, length_refused)
    ∷ (malformed f, form_refused)
    ∷ (wrong_party f, party_refused)
    ∷ (wrong_arc f, place_refused)
    ∷ []

-- 6 to 8, of the party, the entry that it renews and its transaction
abbrev pub admission_rows : Model → Frame → List (Bool × ℕ)
admission_rows m f =
    (party_waits m f, waiting_refused)
    ∷ (no_entry m f, no_entry_refused)
    ∷ (not_writer m f, not_writer_refused)
    ∷ (not_free m f, held_refused)
    ∷ (not_live m f, not_live_refused)
    ∷ (not_own m f, not_own_refused)
    ∷ []

-- 9 to 13, of time, room and numbers
abbrev pub room_rows : Model → Frame → List (Bool × ℕ)
room_rows m f =
    (no_lease f, lease_refused)
    ∷ (too_late m f, clock_refused)
    ∷ (entries_full m f, entries_refused)
    ∷ (txns_full m f, txns_refused)
    ∷ (registrations_full m f, registrations_refused)
    ∷ (no_number m f, number_refused)
    ∷ []

-- the whole table, in the order in which it is judged
abbrev pub rows : Model → List ℕ → ℕ → List (Bool × ℕ)
rows m bs area =
    let f = decode bs in
    (ltb area step_area, area_refused) ∷ form_rows bs f ++ admission_rows m f ++ room_rows m f

-- the number of the first that applies, or 0
unfoldable pub refusal : Model → List ℕ → ℕ → ℕ
refusal m bs area = first_row (rows m bs area)
