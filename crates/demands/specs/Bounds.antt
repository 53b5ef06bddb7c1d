-- What else holds of every space that frames make: capacities, numbers in order, two sentences on holds, and that
-- records fit their bytes.
use Rattle.std.specs.Prelude.{ℕ, ◌≤◌, ◌<◌, true, false, ◌≡◌, ◌↔◌}
use mathlib.Core.List.{List, Memᴰ}
use Rattle.rules.specs.declared.Entry.{Entry}
use Rattle.rules.specs.declared.LookUp.{LookUp}
use Rattle.rules.specs.declared.Record.{Record}
use Rattle.rules.specs.declared.Registration.{Registration}
use Rattle.rules.specs.declared.Txn.{Txn}
use Rattle.rules.specs.Numbers.{last_clock}
use Rattle.rules.specs.Time.{EndFits}
use Rattle.rules.specs.Template.{bare, bit}
use Rattle.rules.specs.State.{Model, Bounded}
use Rattle.rules.specs.Holds.{read_by_other, available, conflicts}
use Rattle.rules.specs.Refusals.{bad_blanks}
use Rattle.rules.specs.Sound.{ByNumber}
use Rattle.rules.specs.SerialRun.{Logged}
use Rattle.rules.specs.Log.{records_of}
use Rattle.demands.specs.Machine.{Machine}
use Rattle.demands.specs.History.{Made}

-- "no live transaction other than its own holds a read on it": what the rules tell by bits
abbrev pub ReadByLive : Model → Type 0
ReadByLive m = (e : Entry) (t : ℕ) → Memᴰ e m.entries
    → (read_by_other m.txns t e ≡ true)
    ↔ ((x : Txn) × Memᴰ x m.txns × (x.id.0 ≡ t → ⊥) × (bit x.slot e.readers ≡ true))

-- "T's own take hold makes an entry neither available nor conflicting."
abbrev pub OwnTakeHold : Model → Type 0
OwnTakeHold m = (w : LookUp) (e : Entry) → Memᴰ e m.entries → 0 < w.txn.0 → e.taken_by.0 ≡ w.txn.0
    → (available m.txns w e ≡ false) × (conflicts m.txns w e ≡ false)

-- the clock, and each end and deadline that is not FOREVER, are at most the last clock
pub record Timely (m : Model) : Type 0 where
  pub clock : m.clock ≤ last_clock
  pub entries : (e : Entry) → Memᴰ e m.entries → EndFits e.end
  pub txns : (t : Txn) → Memᴰ t m.txns → EndFits t.end
  pub waits : (w : LookUp) → Memᴰ w m.waits → EndFits w.deadline
  pub registrations : (g : Registration) → Memᴰ g m.registrations → EndFits g.end

-- a record's numbers fit their bytes, and what is blank is 0 ("a bit of 1 is blank, and the field must be 0": T-08)
pub record InRange (r : Record) : Type 0 where
  pub kind : r.kind < 256
  pub party : r.party < 256
  pub refusal : r.refusal < 256
  pub txn : r.txn.0 < 4294967296
  pub entry : r.entry.0 < 4294967296
  pub field_kind : r.fields.kind < 4294967296
  pub field_side : r.fields.side < 4294967296
  pub field_image : r.fields.image < 4294967296
  pub field_place : r.fields.place < 4294967296
  pub field_blanks : r.fields.blanks < 16
  pub blank_fields : bad_blanks r.fields.blanks (bare r.fields) ≡ false

abbrev pub AllInRange : List Record → Type 0
AllInRange rs = (r : Record) → Memᴰ r rs → InRange r

abbrev pub AreBytes : List ℕ → Type 0
AreBytes bs = (b : ℕ) → Memᴰ b bs → b < 256

pub record Bounds (S : Machine) : Type 0 where
  pub capacities : (log : List Logged) (t : S.State) → Made S log t → Bounded (S.view t)
  pub by_number : (log : List Logged) (t : S.State) → Made S log t → ByNumber (S.view t)
  pub timely : (log : List Logged) (t : S.State) → Made S log t → Timely (S.view t)
  pub read_by_live : (log : List Logged) (t : S.State) → Made S log t → ReadByLive (S.view t)
  pub own_take_hold : (log : List Logged) (t : S.State) → Made S log t → OwnTakeHold (S.view t)
  -- where frames are bytes, every record of a history fits its 28 bytes
  pub in_range : (log : List Logged) (t : S.State) → Made S log t
      → ((l : Logged) → Memᴰ l log → AreBytes l.frame) → AllInRange (records_of log)
