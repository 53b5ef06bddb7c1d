-- The decoder's answer: the numbers of document 01 for each of its cases.
use Rattle.std.specs.Prelude.{ℕ, cond, ◌≡◌, List, ◌++◌, eqb, Result, Ok, Err}
use Rattle.std.proofs.Math.Option.{Option, none, some}
use Rattle.rules.specs.declared.EntryId.{EntryId}
use Rattle.rules.specs.declared.Fields.{Fields}
use Rattle.rules.specs.declared.Request.{Request}
use Rattle.rules.specs.declared.Request.TheVariants.{Write, Find, Create, Commit, Abort, Renew, Notify, Tick}
use Rattle.rules.specs.declared.refusal.Refusal.{Refusal}
use Rattle.rules.specs.declared.refusal.Refusal.TheVariants.{Area, Operation, Length, Form, Party, Waiting, NotLive}
use Rattle.rules.specs.declared.refusal.Refusal.TheVariants.{NotOwn, Lease, Clock, Entries, Txns, Number}
use Rattle.rules.specs.declared.refusal.Refusal.TheVariants.{Tray, Pairs, Registrations, NoEntry, NotWriter, Held}
use Rattle.rules.specs.declared.refusal.Refusal.TheVariants.{Place, Order, Panes, Rounds, Sittings}
use Rattle.rules.specs.Numbers.{op_write, op_create, op_commit, op_abort, op_tick, op_notify, op_renew}
use Rattle.rules.specs.Numbers.{area_refused, operation_refused, length_refused, form_refused, party_refused}
use Rattle.rules.specs.Numbers.{waiting_refused, not_live_refused, not_own_refused, lease_refused, clock_refused}
use Rattle.rules.specs.Numbers.{entries_refused, txns_refused, number_refused, tray_refused, pairs_refused}
use Rattle.rules.specs.Numbers.{registrations_refused, no_entry_refused, not_writer_refused, held_refused}
use Rattle.rules.specs.Numbers.{place_refused, order_refused, panes_refused, rounds_refused, sittings_refused}
use Rattle.rules.specs.Lists.{first_row}
use Rattle.rules.specs.State.{Model}
use Rattle.rules.specs.Frame.{Frame, decode, look_up_op}
use Rattle.rules.specs.Records.{no_fields}
use Rattle.rules.specs.Refusals.{form_rows, admission_rows, room_rows}

-- a frame by operation, party, mask, transaction, lease or timeout, and fields; byte 3 is 0
abbrev pub frame : ℕ → ℕ → ℕ → ℕ → ℕ → Fields → Frame
frame op party mask txn lease_or_timeout xs =
    record {
      op = op;
      party = party;
      mask = mask;
      byte3 = 0;
      txn = txn;
      lease_or_timeout = lease_or_timeout;
      fields = xs;
    }

-- one without mask and fields, by transaction or entry
abbrev pub plain_frame : ℕ → ℕ → ℕ → ℕ → Frame
plain_frame op party txn lease_or_timeout = frame op party 0 txn lease_or_timeout no_fields

-- the frame that a request stands for
abbrev pub frame_of : Request → Frame
frame_of (Write w) = frame op_write w.party w.blanks w.txn.0 w.lease w.fields
frame_of (Find l) =
    frame (look_up_op l.takes l.if_exists) l.party l.mask l.txn.0 l.timeout l.fields
frame_of (Create party lease) = plain_frame op_create party 0 lease
frame_of (Commit party txn) = plain_frame op_commit party txn.0 0
frame_of (Abort party txn) = plain_frame op_abort party txn.0 0
frame_of (Renew r) = plain_frame op_renew r.party r.entry.0 r.lease
frame_of (Notify n) = frame op_notify n.party n.mask 0 n.lease n.fields
frame_of Tick = plain_frame op_tick 0 0 0

-- a renewal by its parts
abbrev pub renew_of : ℕ → EntryId → ℕ → Request
renew_of party entry lease = Renew (record { entry = entry; party = party; lease = lease })

-- the number of a refusal
abbrev pub number : Refusal → ℕ
number Area = area_refused
number Operation = operation_refused
number Length = length_refused
number Form = form_refused
number Party = party_refused
number Waiting = waiting_refused
number NotLive = not_live_refused
number NotOwn = not_own_refused
number Lease = lease_refused
number Clock = clock_refused
number Entries = entries_refused
number Txns = txns_refused
number Number = number_refused
number Tray = tray_refused
number Pairs = pairs_refused
number Registrations = registrations_refused
number NoEntry = no_entry_refused
number NotWriter = not_writer_refused
number Held = held_refused
number Place = place_refused
number Order = order_refused
number Panes = panes_refused
number Rounds = rounds_refused
number Sittings = sittings_refused

-- an answer's number: 0 where it is not refused
abbrev pub number_of : {A : Type 0} → Result A Refusal → ℕ
number_of (Ok x) = 0
number_of (Err r) = number r

-- the decoder's answer as a frame, where it asks for one
abbrev pub asked_by : Result Request Refusal → Option Frame
asked_by (Ok q) = some (frame_of q)
asked_by (Err r) = none

-- the rows of the table that judge a frame's bytes alone: the first of 2 to 5 and 21 that applies, or 0
unfoldable pub form_refusal : List ℕ → ℕ
form_refusal bs = first_row (form_rows bs (decode bs))

-- and those that judge it against the space: the first of those behind 21 that applies, or 0
unfoldable pub space_refusal : Model → Frame → ℕ
space_refusal m f = first_row (admission_rows m f ++ room_rows m f)

-- a frame's bytes are decoded rightly: refused with the first number that applies, or asked for what they say
pub record Decodes (bs : List ℕ) (r : Result Request Refusal) : Type 0 where
  pub number : number_of r ≡ form_refusal bs
  pub frame : asked_by r ≡ cond (eqb (form_refusal bs) 0) (some (decode bs)) none
