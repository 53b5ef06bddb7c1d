-- What a space holds, as lists: the tables that the rules speak of.
use Rattle.std.specs.Prelude.{ℕ, ◌≤◌, List, [], length}
use Rattle.rules.specs.declared.Entry.{Entry}
use Rattle.rules.specs.declared.Txn.{Txn}
use Rattle.rules.specs.declared.TxnId.{TxnId}
use Rattle.rules.specs.declared.LookUp.{LookUp}
use Rattle.rules.specs.declared.Registration.{Registration}
use Rattle.rules.specs.Numbers.{max_entries, max_txns, max_waits, max_registrations}

pub record Model : Type 0 where
  pub clock : ℕ
  -- the numbers that the next entry, transaction and registration get
  pub next_entry : ℕ
  pub next_txn : ℕ
  pub next_registration : ℕ
  -- the stored entries, by number
  pub entries : List Entry
  -- the live transactions, by number
  pub txns : List Txn
  -- the waiting look-ups, by arrival
  pub waits : List LookUp
  -- the live registrations, by number (document 02, T-03)
  pub registrations : List Registration

-- an entry with the same number, fields, end and writer, and with other holders: to whom it is private, by whom it is
-- taken and read
abbrev pub holding : Entry → TxnId → TxnId → ℕ → Entry
holding e owner taker holders =
    record {
      id = e.id;
      fields = e.fields;
      end = e.end;
      private_to = owner;
      taken_by = taker;
      readers = holders;
      writer = e.writer;
    }

-- "An empty space has clock 0, nothing stored, live or waiting, and 1 as both next numbers": and registrations are
-- "counted from 1"
abbrev pub empty : Model
empty =
    record {
      clock = 0;
      next_entry = 1;
      next_txn = 1;
      next_registration = 1;
      entries = [];
      txns = [];
      waits = [];
      registrations = [];
    }

-- "At most 64 entries are stored", "At most 8 transactions live and 16 look-ups wait", "Eight may live" (document 02,
-- T-03)
pub record Bounded (m : Model) : Type 0 where
  pub entries_fit : length m.entries ≤ max_entries
  pub txns_fit : length m.txns ≤ max_txns
  pub waits_fit : length m.waits ≤ max_waits
  pub registrations_fit : length m.registrations ≤ max_registrations

-- the model with one table or number replaced
abbrev model : ℕ → ℕ → ℕ → ℕ → List Entry → List Txn → List LookUp → List Registration → Model
model c e t g es ts ws gs =
    record {
      clock = c;
      next_entry = e;
      next_txn = t;
      next_registration = g;
      entries = es;
      txns = ts;
      waits = ws;
      registrations = gs;
    }

abbrev pub with_clock : ℕ → Model → Model
with_clock c m =
    model c m.next_entry m.next_txn m.next_registration
    m.entries m.txns m.waits m.registrations

abbrev pub with_next_entry : ℕ → Model → Model
with_next_entry n m =
    model m.clock n m.next_txn m.next_registration
    m.entries m.txns m.waits m.registrations

abbrev pub with_next_txn : ℕ → Model → Model
with_next_txn n m =
    model m.clock m.next_entry n m.next_registration
    m.entries m.txns m.waits m.registrations

abbrev pub with_next_registration : ℕ → Model → Model
with_next_registration n m =
    model m.clock m.next_entry m.next_txn n
    m.entries m.txns m.waits m.registrations

abbrev pub with_entries : List Entry → Model → Model
with_entries es m =
    model m.clock m.next_entry m.next_txn m.next_registration
    es m.txns m.waits m.registrations

abbrev pub with_txns : List Txn → Model → Model
with_txns ts m =
    model m.clock m.next_entry m.next_txn m.next_registration
    m.entries ts m.waits m.registrations

abbrev pub with_waits : List LookUp → Model → Model
with_waits ws m =
    model m.clock m.next_entry m.next_txn m.next_registration
    m.entries m.txns ws m.registrations

abbrev pub with_registrations : List Registration → Model → Model
with_registrations gs m =
    model m.clock m.next_entry m.next_txn m.next_registration
    m.entries m.txns m.waits gs
