-- A transaction that has done nothing has done nothing after a step, unless the frame is a write or look-up inside it.
use Prim.Native.Nat.{ℕ, ◌≤◌, ◌<◌}
use mathlib.Core.Bool.{true, false, true≢false, cond}
use mathlib.Core.Logic.{◌⊎◌, inl, inr, ⊎_elim}
use mathlib.Core.Option.{Option, none, some}
use mathlib.Core.Path.{◌≡◌, refl, sym, ap, ◌∙◌, subst⁻¹}
use mathlib.Core.List.{List, Memᴰ}
use native.Mathlib.Omega.{arith}
use lib.Dec.{eqb}
use Rattle.rules.specs.declared.Entry.{Entry}
use Rattle.rules.specs.declared.Txn.{Txn}
use Rattle.rules.specs.declared.TxnId.{TxnId}
use Rattle.rules.specs.Lists.{All}
use Rattle.rules.specs.State.{Model}
use Rattle.rules.specs.Template.{bit}
use Rattle.rules.specs.Holds.{live_txn, add_reader_of, drop_reader_of}
use Rattle.rules.specs.Frame.{Frame, decode, is_write, is_look_up, is_create}
use Rattle.rules.specs.Write.{new_entry}
use Rattle.rules.specs.LookUp.{look_up_of}
use Rattle.rules.specs.Transactions.{no_txn, released}
use Rattle.rules.specs.Step.{step}
use Rattle.rules.specs.Sound.{Consistent, Sound}
use Rattle.rules.proofs.ReaderLaws.{added_other, bit_of_zero}
use Rattle.sound.proofs.HoldLaws.{not_so, cleared_cases}
use Rattle.sound.proofs.HolderLaws.{live_is, drop-live}
use Rattle.sound.proofs.Events.{Admitted, Heard, Event, Events, over, then}
use Rattle.sound.proofs.Becomes.{new_txn, Becomes, is_new, as_was, as_ever, is_held, is_freed, is_renewed, becomes}
use Rattle.sound.proofs.Becomes.{waits-all, txns-all}
use Rattle.sound.proofs.Consistent.{ok-below, slot_free}
use Rattle.sound.proofs.ConsistentProof.{consistent_event}
use Rattle.sound.proofs.EventsProof.{step_events}
use Rattle.hints.specs.Hints.{Apart, Idle, IdleAbove}

-- a frame that does something inside a transaction does so in one with a number up to k
pub record ActsUpTo (k : ℕ) (f : Frame) : Type 0 where
  pub writes : is_write f.op ≡ true → f.txn ≤ k
  pub looks : is_look_up f.op ≡ true → f.txn ≤ k

-- no other live transaction has its slot
abbrev OwnSlot : Model → Txn → Type 0
OwnSlot m t = (y : Txn) → Memᴰ y m.txns → (y.id.0 ≡ t.id.0 → ⊥) → t.slot ≡ y.slot → ⊥

module _ {f : Frame} {m : Model} {k : ℕ} (t : Txn) (acts : ActsUpTo k f) (above : k < t.id.0) (idle : Idle m t)
    (slot : OwnSlot m t) where
  unmarked : (u r : ℕ) → (u ≡ t.id.0 → ⊥) → bit t.slot r ≡ false
      → bit t.slot (add_reader_of (live_txn u m.txns) r) ≡ false
  unmarked u r d e = go (live_txn u m.txns) refl
    where
      go : (o : Option Txn) → live_txn u m.txns ≡ o → bit t.slot (add_reader_of o r) ≡ false
      go none q = e
      go (some y) q =
          let l = live_is u m.txns y q in
          added_other t.slot y.slot r (slot y l.0 (λ z. d (sym l.1 ∙ z))) ∙ e

  undropped : (u r : ℕ) → bit t.slot r ≡ false → bit t.slot (drop_reader_of (live_txn u m.txns) r) ≡ false
  undropped u r e = not_so _ (λ b. true≢false (sym (drop-live r t.slot (live_txn u m.txns) b) ∙ e))

  -- it has nothing of an entry, wherever that comes from
  apart : {e : Entry} {ts : List Txn} → Becomes f m e ts → Apart t e
  unfolding new_entry released
  apart (is_new w a d) =
      let l = acts.writes w in
      record {
        unwritten = λ (q : f.txn ≡ t.id.0). omega arith;
        untaken = λ (q : 0 ≡ t.id.0). omega arith;
        unread = bit_of_zero t.slot;
      }
  apart (as_was e i) = idle.apart e i
  apart (as_ever e i) = idle.apart e i
  apart (is_held w e true j i av b c d) =
      let h = idle.apart e i in
      record {
        unwritten = h.unwritten;
        untaken = idle.outside w j;
        unread = undropped w.txn.0 e.readers h.unread;
      }
  apart (is_held w e false j i av b c d) =
      let h = idle.apart e i in
      record {
        unwritten = h.unwritten;
        untaken = h.untaken;
        unread = unmarked w.txn.0 e.readers (idle.outside w j) h.unread;
      }
  apart (is_renewed w a d e i q) =
      let h = idle.apart e i in record { unwritten = h.unwritten; untaken = h.untaken; unread = h.unread }
  apart (is_freed u e i) =
      let h = idle.apart e i in
      let none : (x : TxnId) → (x.0 ≡ t.id.0 → ⊥) → (cond (eqb x.0 u) no_txn x).0 ≡ t.id.0 → ⊥ =
      λ x d. cleared_cases (λ y. y.0 ≡ t.id.0 → ⊥) u x (λ _ (q : 0 ≡ t.id.0). omega arith) (λ _. d) in
      record {
        unwritten = none e.private_to h.unwritten;
        untaken = none e.taken_by h.untaken;
        unread = undropped u e.readers h.unread;
      }

  stays-idle : {n : Model} {hs : List Heard} → Event f m hs n → Consistent m → Idle n t
  unfolding look_up_of
  stays-idle e s =
      record {
        apart = λ x i. apart (becomes e s.ordered x i);
        outside = waits-all (λ w. w.txn.0 ≡ t.id.0 → ⊥) e
            (λ l a (q : f.txn ≡ t.id.0). let b = acts.looks l in omega arith) idle.outside;
      }

-- a new transaction has done nothing
module _ {f : Frame} {m : Model} (s : Consistent m) (a : Admitted f m) (c : is_create f.op ≡ true) where
  new_slot : OwnSlot m (new_txn m f)
  new_slot y i d q = slot_free m.txns (a.slot-left c) y i (sym q)

  new_idle : Idle m (new_txn m f)
  new_idle =
      record {
        apart = λ e i.
            let h = s.held e i in
            record {
              unwritten = λ (q : e.private_to.0 ≡ m.next_txn). let l = ok-below s h.owner in omega arith;
              untaken = λ (q : e.taken_by.0 ≡ m.next_txn). let l = ok-below s h.taker in omega arith;
              unread = not_so _ (λ b. let x = h.readers _ b in slot_free m.txns (a.slot-left c) x.0 x.1
                  x.2);
            };
        outside = λ w i (q : w.txn.0 ≡ m.next_txn).
            let l = ok-below s (⊎_elim inl (λ x. inr (x.0, x.1, x.2)) (s.owned w i)) in omega arith;
      }

module _ {k : ℕ} {f : Frame} (acts : ActsUpTo k f) where
  idle_event : {m n : Model} {hs : List Heard} → Event f m hs n → Consistent m → IdleAbove k m → IdleAbove k n
  idle_event {m} {n} e s h t i above = go t (origin t i) above
    where
      origin : All (λ x. Memᴰ x m.txns ⊎ ((x ≡ new_txn m f) × (is_create f.op ≡ true) × Admitted f m))
          n.txns
      origin = txns-all _ e (λ c a. inr (refl, c, a)) (λ x j. inl j)

      go : (x : Txn) → Memᴰ x m.txns ⊎ ((x ≡ new_txn m f) × (is_create f.op ≡ true) × Admitted f m)
          → k < x.id.0 → Idle n x
      go x (inl j) l =
          stays-idle x acts l (h x j l)
          (λ y i' d q. d (sym (ap (λ (z : Txn). z.id.0) (s.txns_ok.slot x y j i' q)))) e s
      go x (inr (q, c, a)) l =
          subst⁻¹ (λ y. k < y.id.0 → Idle n y) q
          (λ l'. stays-idle (new_txn m f) acts l' (new_idle s a c) (new_slot s a c) e s) l

  idle_events : {m n : Model} {hs : List Heard} → Events f m hs n → Consistent m → IdleAbove k m → IdleAbove k n
  idle_events over s h = h
  idle_events (then e t) s h = idle_events t (consistent_event e s) (idle_event e s h)

pub idle-step : {k : ℕ} (m : Model) (bs : List ℕ) (area : ℕ) → ActsUpTo k (decode bs) → Sound m → IdleAbove k m
    → IdleAbove k (step m bs area).model
idle-step m bs area acts s h =
    idle_events acts (step_events m bs area s) s.consistent h
