-- Where an entry, a look-up and a transaction come from that are there after an event.
use Prim.Native.Nat.{ℕ, ◌+◌}
use mathlib.Core.Bool.{Bool, true, cond, not, ◌||◌}
use mathlib.Core.Logic.{◌⊎◌, inl, inr}
use mathlib.Core.Path.{◌≡◌, refl}
use mathlib.Core.List.{List, map, Memᴰ}
use borrow.Author.Tests.{eqb-true, eqb-false, not-true}
use lib.Dec.{eqb}
use Rattle.rules.specs.declared.Entry.{Entry}
use Rattle.rules.specs.declared.Mark.{Mark}
use Rattle.rules.specs.declared.Txn.{Txn}
use Rattle.rules.specs.declared.LookUp.{LookUp}
use Rattle.rules.specs.declared.Registration.{Registration}
use Rattle.rules.specs.Lists.{filterb, All}
use Rattle.rules.specs.Time.{until, reached}
use Rattle.rules.specs.Template.{mark_of}
use Rattle.rules.specs.State.{Model}
use Rattle.rules.specs.Holds.{available}
use Rattle.rules.specs.Frame.{Frame, entry_named, is_write, is_look_up, is_create, is_commit, is_renew, is_notify}
use Rattle.rules.specs.Frame.{is_tick}
use Rattle.rules.specs.Records.{written, found, nothing, waiting, created, committed, aborted, exception, ticked}
use Rattle.rules.specs.Records.{renewed, notified, rung, refused, is_ticked}
use Rattle.rules.specs.Write.{new_entry, stored}
use Rattle.rules.specs.LookUp.{look_up_of}
use Rattle.rules.specs.Transactions.{free_slot, create, is_private_to, is_taken_by, released, without_txn, commit}
use Rattle.rules.specs.Transactions.{abort}
use Rattle.rules.specs.Renew.{has_number, ending_at, renew_entries, renew}
use Rattle.rules.specs.Notify.{new_registration, notify, made_public, hearing, heard_of}
use Rattle.rules.specs.Tick.{tick, unregistered, drop_ended}
use Rattle.rules.specs.SerialRun.{Kept, kept_of}
use Rattle.rules.specs.Sound.{ByNumber}
use Rattle.rules.proofs.ListLaws.{count}
use Rattle.rules.proofs.BoolLaws.{cond_cases}
use Rattle.sound.proofs.AllLaws.{all_snoc, all_filter, all_map, out_all, out_mem}
use Rattle.sound.proofs.AscendingLaws.{ascend_unique}
use Rattle.sound.proofs.HoldLaws.{eqb_cases, held_by, handed-all}
use Rattle.sound.proofs.Events.{Admitted, Heard, says, Event, refuses, asks, writes, is_found, is_nothing}
use Rattle.sound.proofs.Events.{is_waiting, creates, commits, aborts, renews, notifies, ticks, excepts, expires}
use Rattle.sound.proofs.Events.{rings}

-- the transaction that a create makes
abbrev pub new_txn : Model → Frame → Txn
new_txn m f =
    record {
      id = record { 0 = m.next_txn };
      party = f.party;
      end = until m.clock f.lease_or_timeout;
      slot = free_slot m.txns;
    }

-- the frames that give an entry its end
abbrev pub ends_entry : ℕ → Bool
ends_entry op = is_write op || is_renew op

-- the entry that a renewal leaves
abbrev pub renewed_by : Model → Frame → Entry → Entry
renewed_by m f e = ending_at (until m.clock f.lease_or_timeout) e

-- an entry, with the transactions that are live then: it is new; or it is an old one, with number, fields and writer as
-- they were, unchanged, or committed and with a hold, or released by a transaction that ends; and with its end as it
-- was, unless it is renewed
pub data Becomes (f : Frame) (m : Model) : Entry → List Txn → Type 0 where
  is_new : is_write f.op ≡ true → Admitted f m → (f.lease_or_timeout ≡ 0 → ⊥) → Becomes f m (new_entry m f) m.txns
  as_was : (e : Entry) → Memᴰ e m.entries → Becomes f m e m.txns
  as_ever : (e : Entry) → Memᴰ e m.entries → Becomes f m e (create m f).model.txns
  is_held : (w : LookUp) (e : Entry) (b : Bool) → Memᴰ w m.waits → Memᴰ e m.entries
      → available m.txns w e ≡ true → w.takes ≡ b → e.private_to.0 ≡ 0 → (w.txn.0 ≡ 0 → ⊥)
      → Becomes f m (held_by m.txns w e b) m.txns
  is_renewed : is_renew f.op ≡ true → Admitted f m → (f.lease_or_timeout ≡ 0 → ⊥) → (e : Entry)
      → Memᴰ e m.entries → e.id.0 ≡ entry_named f → Becomes f m (renewed_by m f e) m.txns
  is_freed : (t : ℕ) (e : Entry) → Memᴰ e m.entries
      → Becomes f m (released m.txns t e) (without_txn t m.txns)

freed_all : (f : Frame) (m : Model) (t : ℕ) (p : Entry → Bool)
    → All (λ e. Becomes f m e (without_txn t m.txns)) (map (released m.txns t) (filterb p m.entries))
freed_all f m t p =
    all_map (λ e. Becomes f m e (without_txn t m.txns)) (released m.txns t) (filterb p m.entries)
    (all_filter p m.entries (λ e i _. is_freed t e i))

-- what holds of the other entries, and of the one that is renewed, holds of those that a renewal leaves
pub renewed-all : (Q : Entry → Type 0) (f : Frame) (m : Model)
    → ((e : Entry) → Memᴰ e m.entries → (e.id.0 ≡ entry_named f → ⊥) → Q e)
    → ((f.lease_or_timeout ≡ 0 → ⊥) → (e : Entry) → Memᴰ e m.entries → e.id.0 ≡ entry_named f
    → Q (renewed_by m f e))
    → All Q (renew_entries m f)
unfolding renew_entries
renewed-all Q f m h renewal =
    let n = entry_named f in
    eqb_cases (All Q) f.lease_or_timeout 0
    (λ _. all_filter (λ e. not (has_number n e)) m.entries (λ e i q. h e i (eqb-false e.id.0 n (not-true _ q))))
    (λ d. all_map Q (λ e. cond (has_number n e) (renewed_by m f e) e) m.entries
    (λ e i. cond_cases Q (has_number n e) (λ q. renewal d e i (eqb-true e.id.0 n q))
    (λ q. h e i (eqb-false e.id.0 n q))))

pub becomes : {f : Frame} {m n : Model} {hs : List Heard} → Event f m hs n → ByNumber m
    → All (λ e. Becomes f m e n.txns) n.entries
unfolding stored heard_of create commit abort renew notify tick unregistered drop_ended
becomes (refuses m bs area q) s = as_was
becomes (asks m t a) s = as_was
becomes {f} (writes m t a) s =
    eqb_cases (All (λ e. Becomes f m e m.txns)) f.lease_or_timeout 0 (λ _. as_was)
    (λ d. all_snoc m.entries as_was (is_new t a d))
becomes {f} (is_found m w e ws o i av) s =
    handed-all m.txns w e m.entries av (λ x. Becomes f m x m.txns)
    (λ x j q. ascend_unique (λ (y : Entry). y.id.0) s.entries j i q) (λ x j _. as_was x j)
    (λ _ _. as_was e i) (λ b t c d. is_held w e b (out_mem o) i av t c d)
becomes (is_nothing m w ws o c) s = as_was
becomes (is_waiting m w i q n d c) s = as_was
becomes (creates m t a) s = as_ever
becomes {f} (commits m t a) s = freed_all f m f.txn (λ e. not (is_taken_by f.txn e))
becomes {f} (aborts m t a) s = freed_all f m f.txn (λ e. not (is_private_to f.txn e))
becomes {f} (renews m t a) s =
    renewed-all (λ e. Becomes f m e m.txns) f m (λ e i _. as_was e i) (λ d e i q. is_renewed t a d e i q)
becomes (notifies m t a) s = as_was
becomes (ticks m t a) s = as_was
becomes {f} (excepts m t k i r) s = freed_all f m t.id.0 (λ e. not (is_private_to t.id.0 e))
becomes (expires m k) s = all_filter (λ e. not (reached m.clock e.end)) m.entries (λ e i _. as_was e i)
becomes (rings m c g i l) s = as_was

-- a look-up, with the transactions that are live then: the frame's, or one that waited on, not inside one that ends
-- (nobody waits inside the one that a frame ends: Consistent)
pub data WaitsOn (f : Frame) (m : Model) : LookUp → List Txn → Type 0 where
  is_asked : is_look_up f.op ≡ true → Admitted f m → WaitsOn f m (look_up_of m f) m.txns
  waited : (w : LookUp) → Memᴰ w m.waits → WaitsOn f m w m.txns
  waited_ever : (w : LookUp) → Memᴰ w m.waits → WaitsOn f m w (create m f).model.txns
  waited-commit : is_commit f.op ≡ true → Admitted f m → (w : LookUp) → Memᴰ w m.waits
      → WaitsOn f m w (without_txn f.txn m.txns)
  is_outside : (t : ℕ) (w : LookUp) → Memᴰ w m.waits → (w.txn.0 ≡ t → ⊥)
      → WaitsOn f m w (without_txn t m.txns)

outside-all : (f : Frame) (m : Model) (t : ℕ)
    → All (λ w. WaitsOn f m w (without_txn t m.txns)) (filterb (λ w. not (eqb w.txn.0 t)) m.waits)
outside-all f m t =
    all_filter (λ w. not (eqb w.txn.0 t)) m.waits
    (λ w i r. is_outside t w i (eqb-false w.txn.0 t (not-true _ r)))

pub waits_on : {f : Frame} {m n : Model} {hs : List Heard} → Event f m hs n
    → All (λ w. WaitsOn f m w n.txns) n.waits
unfolding stored heard_of create commit abort renew notify tick unregistered drop_ended
waits_on (refuses m bs area q) = waited
waits_on (asks m t a) = all_snoc m.waits waited (is_asked t a)
waits_on (writes m t a) = waited
waits_on (is_found m w e ws o i av) = out_all o waited
waits_on (is_nothing m w ws o c) = out_all o waited
waits_on (is_waiting m w i q n d c) = waited
waits_on (creates m t a) = waited_ever
waits_on (commits m t a) = waited-commit t a
waits_on {f} (aborts m t a) = outside-all f m f.txn
waits_on (renews m t a) = waited
waits_on (notifies m t a) = waited
waits_on (ticks m t a) = waited
waits_on {f} (excepts m t k i r) = outside-all f m t.id.0
waits_on (expires m k) = waited
waits_on (rings m c g i l) = waited

-- what holds of numbers, fields and ends holds on, if it holds of a new entry and of a renewed one
pub kept-all : (K : Kept → Type 0) {f : Frame} {m n : Model} {hs : List Heard} → Event f m hs n → ByNumber m
    → (is_write f.op ≡ true → Admitted f m → (f.lease_or_timeout ≡ 0 → ⊥) → K (kept_of (new_entry m f)))
    → (is_renew f.op ≡ true → Admitted f m → (f.lease_or_timeout ≡ 0 → ⊥) → (e : Entry) → Memᴰ e m.entries
    → K (kept_of (renewed_by m f e)))
    → All (λ e. K (kept_of e)) m.entries → All (λ e. K (kept_of e)) n.entries
unfolding released
kept-all K {f} {m} e s new renewal h x i = go (becomes e s x i)
  where
    go : {x : Entry} {ts : List Txn} → Becomes f m x ts → K (kept_of x)
    go (is_new t a d) = new t a d
    go (as_was x i) = h x i
    go (as_ever x i) = h x i
    go (is_held w x b j i av t c d) = h x i
    go (is_renewed t a d x i q) = renewal t a d x i
    go (is_freed t x i) = h x i

-- number, fields and writer stay as they were written
pub written_all : (K : ℕ → Mark → ℕ → Type 0) {f : Frame} {m n : Model} {hs : List Heard} → Event f m hs n → ByNumber m
    → (is_write f.op ≡ true → Admitted f m → K m.next_entry (mark_of f.mask f.fields) f.party)
    → All (λ e. K e.id.0 e.fields e.writer) m.entries
    → All (λ e. K e.id.0 e.fields e.writer) n.entries
unfolding new_entry released
written_all K {f} {m} e s new h x i = go (becomes e s x i)
  where
    go : {x : Entry} {ts : List Txn} → Becomes f m x ts → K x.id.0 x.fields x.writer
    go (is_new t a d) = new t a
    go (as_was x i) = h x i
    go (as_ever x i) = h x i
    go (is_held w x b j i av t c d) = h x i
    go (is_renewed t a d x i q) = h x i
    go (is_freed t x i) = h x i

-- what holds of the look-ups holds on, if it holds of the frame's
pub waits-all : (W : LookUp → Type 0) {f : Frame} {m n : Model} {hs : List Heard} → Event f m hs n
    → (is_look_up f.op ≡ true → Admitted f m → W (look_up_of m f)) → All W m.waits → All W n.waits
waits-all W {f} {m} e new h w i = go (waits_on e w i)
  where
    go : {w : LookUp} {ts : List Txn} → WaitsOn f m w ts → W w
    go (is_asked t a) = new t a
    go (waited w i) = h w i
    go (waited_ever w i) = h w i
    go (waited-commit t a w i) = h w i
    go (is_outside t w i d) = h w i

-- and so of the live transactions
pub txns-all : (T : Txn → Type 0) {f : Frame} {m n : Model} {hs : List Heard} → Event f m hs n
    → (is_create f.op ≡ true → Admitted f m → T (new_txn m f)) → All T m.txns → All T n.txns
unfolding stored heard_of create commit abort without_txn renew notify tick unregistered drop_ended
txns-all T (refuses m bs area q) new h = h
txns-all T (asks m t a) new h = h
txns-all T (writes m t a) new h = h
txns-all T (is_found m w e ws o i av) new h = h
txns-all T (is_nothing m w ws o c) new h = h
txns-all T (is_waiting m w i q n d c) new h = h
txns-all T (creates m t a) new h = all_snoc m.txns h (new t a)
txns-all T {f} (commits m t a) new h = all_filter (λ x. not (eqb x.id.0 f.txn)) m.txns (λ x i _. h x i)
txns-all T {f} (aborts m t a) new h = all_filter (λ x. not (eqb x.id.0 f.txn)) m.txns (λ x i _. h x i)
txns-all T (renews m t a) new h = h
txns-all T (notifies m t a) new h = h
txns-all T (ticks m t a) new h = h
txns-all T (excepts m t k i r) new h = all_filter (λ x. not (eqb x.id.0 t.id.0)) m.txns (λ x i _. h x i)
txns-all T (expires m k) new h = h
txns-all T (rings m c g i l) new h = h

-- and of the registrations, if it holds on as they hear of entries
pub registrations-all : (G : Registration → Type 0) {f : Frame} {m n : Model} {hs : List Heard} → Event f m hs n
    → (is_notify f.op ≡ true → Admitted f m → G (new_registration m f))
    → ((es : List Entry) (g : Registration) → G g → G (hearing es g))
    → All G m.registrations → All G n.registrations
unfolding stored heard_of create commit abort renew notify tick unregistered drop_ended
registrations-all G (refuses m bs area q) new hear h = h
registrations-all G (asks m t a) new hear h = h
registrations-all G {f} (writes m t a) new hear h =
    let es = made_public m f in all_map G (hearing es) m.registrations (λ g i. hear es g (h g i))
registrations-all G (is_found m w e ws o i av) new hear h = h
registrations-all G (is_nothing m w ws o c) new hear h = h
registrations-all G (is_waiting m w i q n d c) new hear h = h
registrations-all G (creates m t a) new hear h = h
registrations-all G {f} (commits m t a) new hear h =
    let es = made_public m f in all_map G (hearing es) m.registrations (λ g i. hear es g (h g i))
registrations-all G (aborts m t a) new hear h = h
registrations-all G (renews m t a) new hear h = h
registrations-all G (notifies m t a) new hear h = all_snoc m.registrations h (new t a)
registrations-all G (ticks m t a) new hear h =
    all_filter (λ g. not (reached (m.clock + 1) g.end)) m.registrations (λ g i _. h g i)
registrations-all G (excepts m t k i r) new hear h = h
registrations-all G (expires m k) new hear h = h
registrations-all G (rings m c g i l) new hear h = h

-- the clock stands, or a tick moves it and says so
pub clock_moves : {f : Frame} {m n : Model} {hs : List Heard} → Event f m hs n
    → ((n.clock ≡ m.clock) × (count (says is_ticked) hs ≡ 0))
    ⊎ ((n.clock ≡ m.clock + 1) × (count (says is_ticked) hs ≡ 1) × (is_tick f.op ≡ true) × Admitted f m)
unfolding stored heard_of create commit abort renew notify tick unregistered drop_ended written found nothing waiting
    created committed aborted exception renewed notified rung ticked refused
clock_moves (refuses m bs area q) = inl (refl, refl)
clock_moves (asks m t a) = inl (refl, refl)
clock_moves (writes m t a) = inl (refl, refl)
clock_moves (is_found m w e ws o i av) = inl (refl, refl)
clock_moves (is_nothing m w ws o c) = inl (refl, refl)
clock_moves (is_waiting m w i q n d c) = inl (refl, refl)
clock_moves (creates m t a) = inl (refl, refl)
clock_moves (commits m t a) = inl (refl, refl)
clock_moves (aborts m t a) = inl (refl, refl)
clock_moves (renews m t a) = inl (refl, refl)
clock_moves (notifies m t a) = inl (refl, refl)
clock_moves (ticks m t a) = inr (refl, refl, t, a)
clock_moves (excepts m t k i r) = inl (refl, refl)
clock_moves (expires m k) = inl (refl, refl)
clock_moves (rings m c g i l) = inl (refl, refl)
