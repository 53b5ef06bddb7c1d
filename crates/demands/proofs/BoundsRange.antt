-- The records of a history of frames that are bytes have every number in the range of its bytes.
use Prim.Native.Nat.{ℕ, zero, suc, ◌+◌, ◌*◌, ◌≤◌, ◌<◌}
use mathlib.Core.Bool.{true, false, not, ◌&&◌, ◌||◌}
use mathlib.Core.Path.{◌≡◌, refl, sym, ◌∙◌, subst⁻¹}
use mathlib.Core.List.Memᴰ
use mathlib.Core.List.{List, [], ◌∷◌, Memᴰ}
use native.Mathlib.Omega.{arith}
use lib.Dec.{eqb, ltb}
use borrow.Author.Tests.{eqb-true, ltb-false}
use Rattle.rules.specs.declared.Entry.{Entry}
use Rattle.rules.specs.declared.Fields.{Fields}
use Rattle.rules.specs.declared.Mark.{Mark}
use Rattle.rules.specs.Template.{bare, bit}
use Rattle.rules.specs.declared.Record.{Record}
use Rattle.rules.specs.declared.Txn.{Txn}
use Rattle.rules.specs.declared.LookUp.{LookUp}
use Rattle.rules.specs.declared.Registration.{Registration}
use Rattle.rules.specs.Numbers.{op_write, forever}
use Rattle.rules.specs.State.{Model, empty}
use Rattle.rules.specs.Frame.{Frame, byte_at, number_at, decode, is_write, is_look_up}
use Rattle.rules.specs.Records.{no_mark, plain, written, found, nothing, waiting, created, committed, aborted}
use Rattle.rules.specs.Records.{exception}
use Rattle.rules.specs.Records.{ticked, renewed, notified, rung, refused}
use Rattle.rules.specs.Write.{new_entry, stored}
use Rattle.rules.specs.LookUp.{look_up_of}
use Rattle.rules.specs.Transactions.{create, commit, abort}
use Rattle.rules.specs.Renew.{renew}
use Rattle.rules.specs.Notify.{new_registration, notify, hearing, heard_of}
use Rattle.rules.specs.Tick.{tick, unregistered, drop_ended}
use Rattle.rules.specs.Refusals.{bad_blanks, malformed, refusal}
use Rattle.rules.specs.Step.{step}
use Rattle.rules.specs.SerialRun.{Kept, kept_of, was_refused}
use Rattle.rules.specs.Log.{records_of}
use Rattle.rules.specs.Lists.{All}
use Rattle.rules.specs.Sound.{Consistent, Sound}
use Rattle.rules.proofs.BoolLaws.{cond_cases, or_left, or_right}
use Rattle.rules.proofs.LayoutLaws.{write_form}
use Rattle.demands.specs.Machine.{Input}
use Rattle.demands.specs.Bounds.{InRange, AllInRange, AreBytes}
use Rattle.demands.proofs.Runs.{runs, answers_to}
use Rattle.sound.proofs.AllLaws.{all_none, all_cons, all_append, out_mem}
use Rattle.sound.proofs.Events.{Heard, asking, saying, heard, Event, refuses, asks, writes, is_found, is_nothing}
use Rattle.sound.proofs.Events.{is_waiting, creates, commits, aborts, renews, notifies, ticks, excepts, expires, rings}
use Rattle.sound.proofs.Events.{Events, over, then}
use Rattle.sound.proofs.Becomes.{written_all, waits-all, txns-all, registrations-all}
use Rattle.sound.proofs.EventsProof.{step_events}
use Rattle.sound.proofs.ConsistentProof.{consistent_event}
use Rattle.sound.proofs.SoundProof.{sound_empty, sound-step}
use Rattle.demands.proofs.JudgedProof.{refusal-fits}

record FieldsIn (x : Fields) : Type 0 where
  kind : x.kind < 4294967296
  side : x.side < 4294967296
  image : x.image < 4294967296
  place : x.place < 4294967296

-- with their blanks
abbrev BlanksIn : ℕ → Fields → Type 0
BlanksIn blanks x = (blanks < 16) × (bad_blanks blanks x ≡ false)

abbrev MarkIn : Mark → Type 0
MarkIn x = FieldsIn (bare x) × BlanksIn x.blanks (bare x)

-- of a write that 4 lets pass
blanks_in : (f : Frame) → is_write f.op ≡ true → malformed f ≡ false → BlanksIn f.mask f.fields
blanks_in f t e =
    let full = sym (write_form f (eqb-true f.op op_write t)) ∙ e in
    let filled = not (eqb f.byte3 0) in
    let high = or_right filled (ltb 15 f.mask) (or_left (filled || ltb 15 f.mask) _ full) in
    let l = ltb-false 15 f.mask high in
    (omega arith, or_right (filled || ltb 15 f.mask) _ full)

record FrameIn (f : Frame) : Type 0 where
  party : f.party < 256
  txn : f.txn < 4294967296
  fields : FieldsIn f.fields

-- a frame of bytes
byte_in : (bs : List ℕ) → AreBytes bs → (i : ℕ) → byte_at bs i < 256
byte_in [] h i = omega arith
byte_in (b ∷ bs) h zero = h b (Memᴰ.head refl)
byte_in (b ∷ bs) h (suc i) = byte_in bs (λ c j. h c (Memᴰ.tail j)) i

number_in : (bs : List ℕ) → AreBytes bs → (i : ℕ) → number_at bs i < 4294967296
unfolding number_at
number_in bs h i = sum (byte_in bs h i) (byte_in bs h (i + 1)) (byte_in bs h (i + 2)) (byte_in bs h (i + 3))
  where
    sum : {a b c d : ℕ} → a < 256 → b < 256 → c < 256 → d < 256 → a + 256 * b + 65536 * c + 16777216 * d < 4294967296
    sum p q r s = omega arith

frame_in : (bs : List ℕ) → AreBytes bs → FrameIn (decode bs)
unfolding decode
frame_in bs h =
    record {
      party = byte_in bs h 1;
      txn = number_in bs h 4;
      fields =
          record {
            kind = number_in bs h 12;
            side = number_in bs h 16;
            image = number_in bs h 20;
            place = number_in bs h
                24;
          };
    }

-- the tables
abbrev KeptIn : Kept → Type 0
KeptIn k = (k.number < 4294967296) × MarkIn k.fields

abbrev TxnIn : Txn → Type 0
TxnIn t = (t.id.0 < 4294967296) × (t.party < 256)

abbrev WaitIn : LookUp → Type 0
WaitIn w = (w.txn.0 < 4294967296) × (w.party < 256)

abbrev RegistrationIn : Registration → Type 0
RegistrationIn g = (g.id.0 < 4294967296) × (g.party < 256)

-- the next numbers of entries, transactions and registrations
abbrev Next : Model → Type 0
Next m = (m.next_entry ≤ forever) × (m.next_txn ≤ forever) × (m.next_registration ≤ forever)

record Ranged (m : Model) : Type 0 where
  next : Next m
  entries : All (λ e. KeptIn (kept_of e)) m.entries
  txns : All TxnIn m.txns
  waits : All WaitIn m.waits
  registrations : All RegistrationIn m.registrations

-- the records
range : (a : Record) → a.kind < 256 → a.party < 256 → a.refusal < 256 → a.txn.0 < 4294967296
    → a.entry.0 < 4294967296 → MarkIn a.fields → InRange a
range a k p r t e x =
    record {
      kind = k;
      party = p;
      refusal = r;
      txn = t;
      entry = e;
      field_kind = x.0.kind;
      field_side = x.0.side;
      field_image = x.0.image;
      field_place = x.0.place;
      field_blanks = x.1.0;
      blank_fields = x.1.1;
    }

none_in : MarkIn no_mark
unfolding bit
none_in = (
  record { kind = omega arith; side = omega arith; image = omega arith; place = omega arith },
  (omega arith, refl),
)

plain_in : (k p t : ℕ) → k < 256 → p < 256 → t < 4294967296 → InRange (plain k p t)
plain_in k p t a b c = range (plain k p t) a b (omega arith) c (omega arith) none_in

written_in : (f : Frame) (n : ℕ) → FrameIn f → n < 4294967296 → InRange (written f n)
unfolding written
written_in f n h l = range (written f n) (omega arith) h.party (omega arith) h.txn l none_in

renewed_in : (f : Frame) → FrameIn f → InRange (renewed f)
unfolding renewed
renewed_in f h = range (renewed f) (omega arith) h.party (omega arith) (omega arith) h.txn none_in

notified_in : (f : Frame) (n : ℕ) → FrameIn f → n < 4294967296 → InRange (notified f n)
unfolding notified
notified_in f n h l = range (notified f n) (omega arith) h.party (omega arith) (omega arith) l none_in

-- a count is at most the total, and that at most the next entry's number
rung_in : (n : ℕ) (g : Registration) → RegistrationIn g → n ≤ g.total → g.total < 4294967296 → InRange (rung n g)
unfolding rung bit
rung_in n g h l t =
    range (rung n g) (omega arith) h.1 (omega arith) (omega arith) h.0
    (record { kind = omega arith; side = t; image = omega arith; place = omega arith }, (omega arith, refl))

refused_in : (bs : List ℕ) (n : ℕ) → FrameIn (decode bs) → n < 256 → InRange (refused bs n)
unfolding refused decode
refused_in bs n h l = range (refused bs n) (omega arith) h.party l (omega arith) (omega arith) none_in

found_in : (w : LookUp) (e : Entry) → WaitIn w → KeptIn (kept_of e) → InRange (found w e)
unfolding found
found_in w e h k = range (found w e) (omega arith) h.1 (omega arith) h.0 k.0 k.1

abbrev HeardIn : Heard → Type 0
HeardIn asking = Unit {0}
HeardIn (saying a) = InRange a

says_in : {a : Record} → InRange a → All HeardIn (saying a ∷ [])
says_in h = all_cons h (all_none HeardIn)

module _ {f : Frame} (h : FrameIn f) where
  heard_in : {m n : Model} {hs : List Heard} → Event f m hs n → Consistent m → Ranged m → All HeardIn hs × Next n
  unfolding stored heard_of create commit abort renew notify tick unregistered drop_ended nothing waiting created
      committed aborted exception ticked
  heard_in (refuses m bs area q) s r = (
    says_in (refused_in bs (refusal m bs area) (subst⁻¹ FrameIn q h)
        (let l = refusal-fits m bs area in omega arith)),
    r.next,
  )
  heard_in (asks m t a) s r = (all_cons tt (all_none HeardIn), r.next)
  heard_in (writes m t a) s r =
      let l = a.entry-number t in (
        says_in (written_in f m.next_entry h (omega arith)),
        (omega arith, r.next.1, r.next.2),
      )
  heard_in (is_found m w e ws o i av) s r = (says_in (found_in w e (r.waits w (out_mem o)) (r.entries e i)), r.next)
  heard_in (is_nothing m w ws o c) s r =
      let k = r.waits w (out_mem o) in (says_in (plain_in 3 _ _ (omega arith) k.1 k.0), r.next)
  heard_in (is_waiting m w i q n d c) s r =
      let k = r.waits w i in (says_in (plain_in 4 _ _ (omega arith) k.1 k.0), r.next)
  heard_in (creates m t a) s r =
      let l = a.txn-number t in (
        says_in (plain_in 5 _ _ (omega arith) h.party (omega arith)),
        (r.next.0, omega arith, r.next.2),
      )
  heard_in (commits m t a) s r = (says_in (plain_in 6 _ _ (omega arith) h.party h.txn), r.next)
  heard_in (aborts m t a) s r = (says_in (plain_in 7 _ _ (omega arith) h.party h.txn), r.next)
  heard_in (renews m t a) s r = (says_in (renewed_in f h), r.next)
  heard_in (notifies m t a) s r =
      let l = a.registration_number t in (
        says_in (notified_in f m.next_registration h (omega arith)),
        (r.next.0, r.next.1, omega arith),
      )
  heard_in (ticks m t a) s r = (says_in (plain_in 9 0 0 (omega arith) (omega arith) (omega arith)), r.next)
  heard_in (excepts m t k i q) s r =
      let l = r.txns t i in (says_in (plain_in 8 _ _ (omega arith) l.1 l.0), r.next)
  heard_in (expires m k) s r = (all_none HeardIn, r.next)
  heard_in (rings m n g i l) s r =
      let most = s.tallied g i in
      let last = r.next.0 in
      (says_in (rung_in n g (r.registrations g i) l (omega arith)), r.next)

  ranged_event : {m n : Model} {hs : List Heard} → Event f m hs n → Consistent m → Ranged m → Ranged n
  unfolding new_entry look_up_of new_registration hearing
  ranged_event e s r =
      record {
        next = (heard_in e s r).1;
        entries =
            written_all (λ n x w. (n < 4294967296) × MarkIn x) e s.ordered
            (λ t a. let l = a.entry-number t in (omega arith, (h.fields, blanks_in f t a.formed))) r.entries;
        txns = txns-all TxnIn e (λ t a. let l = a.txn-number t in (omega arith, h.party)) r.txns;
        waits = waits-all WaitIn e (λ t a. (h.txn, h.party)) r.waits;
        registrations =
            registrations-all RegistrationIn e (λ t a. let l = a.registration_number t in (omega arith, h.party))
            (λ es g i. i) r.registrations;
      }

  events_in : {m n : Model} {hs : List Heard} → Events f m hs n → Consistent m → Ranged m → All HeardIn hs × Ranged n
  events_in over s r = (all_none HeardIn, r)
  events_in (then {hs = hs} e t) s r =
      let k = events_in t (consistent_event e s) (ranged_event e s r) in
      (all_append hs (heard_in e s r).0 k.0, k.1)

runs_in : (m : Model) (is : List Input) → All (λ i. AreBytes i.frame) is → Sound m → Ranged m
    → AllInRange (answers_to m is)
unfolding answers_to records_of runs
runs_in m [] h s r = all_none InRange
runs_in m (i ∷ is) h s r =
    let f = decode i.frame in
    let o = step m i.frame i.area in
    let e = step_events m i.frame i.area s in
    let k = events_in (frame_in i.frame (h i (Memᴰ.head refl))) e s.consistent r in
    all_append o.records (λ a j. k.0 (saying a) (said f o.records a j))
    (runs_in o.model is (λ l j. h l (Memᴰ.tail j)) (sound-step m i.frame i.area s) k.1)
  where
    said : (f : Frame) (rs : List Record) (a : Record) → Memᴰ a rs → Memᴰ (saying a) (heard f rs)
    said f rs a j =
        cond_cases (λ (l : List Heard). Memᴰ (saying a) l) (is_look_up f.op && not (was_refused rs))
        (λ _. Memᴰ.tail (Memᴰ.map saying j)) (λ _. Memᴰ.map saying j)

pub range_demand : (is : List Input) → All (λ i. AreBytes i.frame) is → AllInRange (answers_to empty is)
range_demand is h =
    runs_in empty is h sound_empty (record {
      next = (omega arith, omega arith, omega arith);
      entries = all_none _;
      txns = all_none _;
      waits = all_none _;
      registrations = all_none _;
    })
