-- Numbers in order, ends in time, and two sentences of document 01 on holds: whose the read holders are, and what one's
-- own take hold makes of an entry.
use Prim.Native.Nat.{ℕ}
use mathlib.Core.Bool.{Bool, true, false, not, ◌&&◌, ◌||◌, true≢false, and-false}
use mathlib.Core.Logic.{⊎_elim, ◌↔◌}
use mathlib.Core.Path.{◌≡◌, refl, sym, ap, ap₂, ◌∙◌}
use mathlib.Core.List.{List, Memᴰ}
use native.Mathlib.Omega.{arith}
use borrow.Author.Tests.{eqb-false, eq-eqb, ne_eqb, not-true}
use lib.Dec.{eqb}
use Rattle.rules.specs.declared.Entry.{Entry}
use Rattle.rules.specs.declared.Txn.{Txn}
use Rattle.rules.specs.Lists.{anyb}
use Rattle.rules.specs.State.{Model}
use Rattle.rules.specs.Template.{bit, matches}
use Rattle.rules.specs.Holds.{live_txn, drop_reader_of, read_by_other, is_other, available, conflicts}
use Rattle.rules.specs.Frame.{Frame}
use Rattle.rules.specs.Write.{new_entry}
use Rattle.rules.specs.LookUp.{look_up_of}
use Rattle.rules.specs.Sound.{ByNumber, At, TxnsOk, Consistent}
use Rattle.rules.specs.Time.{EndFits}
use Rattle.rules.specs.Notify.{new_registration, hearing}
use Rattle.rules.proofs.BoolLaws.{bool_cases, and_left, and_right}
use Rattle.rules.proofs.ListLaws.{any_mem, none_mem}
use Rattle.rules.proofs.LayoutLaws.{write_leases, renew_leases, notify_leases, look_up_leases, create_leases}
use Rattle.rules.proofs.ReaderLaws.{bit_of_zero, no_bits}
use Rattle.demands.specs.Machine.{Input}
use Rattle.demands.specs.Bounds.{ReadByLive, OwnTakeHold, Timely}
use Rattle.demands.proofs.Runs.{made}
use Rattle.sound.proofs.AllLaws.{all_none}
use Rattle.sound.proofs.HoldLaws.{equal_or, not_so, available_free}
use Rattle.sound.proofs.Events.{Heard, Event}
use Rattle.sound.proofs.Becomes.{kept-all, waits-all, txns-all, registrations-all, clock_moves}
use Rattle.sound.proofs.HolderLaws.{drop-live, drop_own, drop_other}
use Rattle.demands.proofs.ByEvents.{made_has, consistent}

-- entries, live transactions and registrations stand by number
pub numbers_ascend : (is : List Input) → ByNumber (made is)
numbers_ascend is = (consistent is).ordered

-- the clock and every end that is not FOREVER are at most the last clock
timely_event : {f : Frame} {m n : Model} {hs : List Heard} → Event f m hs n → Consistent m → Timely m → Timely n
unfolding new_entry look_up_of new_registration hearing
timely_event {f} e s h =
    record {
      clock =
          let l = h.clock in ⊎_elim (λ c. omega (arith, c.0)) (λ c. omega (arith, c.0, c.3.ticks_on c.2))
          (clock_moves e);
      entries =
          kept-all (λ k. EndFits k.end) e s.ordered (λ t a _. a.in_time (write_leases f.op t))
          (λ t a _ _ _. a.in_time (renew_leases f.op t)) h.entries;
      txns = txns-all (λ x. EndFits x.end) e (λ t a. a.in_time (create_leases f.op t)) h.txns;
      waits = waits-all (λ w. EndFits w.deadline) e (λ t a. a.in_time (look_up_leases f.op t)) h.waits;
      registrations =
          registrations-all (λ g. EndFits g.end) e (λ t a. a.in_time (notify_leases f.op t)) (λ es g x. x)
          h.registrations;
    }

pub timely : (is : List Input) → Timely (made is)
timely =
    made_has Timely (λ f m n hs. timely_event)
    (record {
      clock = omega arith;
      entries = all_none _;
      txns = all_none _;
      waits = all_none _;
      registrations = all_none _;
    })

-- "no live transaction other than its own holds a read on it": each bit of an entry's readers is the slot of a live one
module _ {n : ℕ} {ts : List Txn} (ok : TxnsOk n ts) (e : Entry) (live : (p : ℕ) → bit p e.readers ≡ true → At p ts)
    (t : ℕ) where
  abbrev others : Txn → Bool
  others x = not (eqb x.id.0 t) && bit x.slot e.readers

  abbrev left : ℕ
  left = drop_reader_of (live_txn t ts) e.readers

  -- a bit that is left when t's own is dropped is of another
  none_left : anyb others ts ≡ false → (p : ℕ) → bit p left ≡ true → ⊥
  none_left h p b =
      let c = drop-live e.readers p (live_txn t ts) b in
      let x = live p c in
      let here : bit x.0.slot left ≡ true = rw x.2 b in
      let set : bit x.0.slot e.readers ≡ true = rw x.2 c in
      ⊎_elim (λ q. true≢false (sym here ∙ drop_own ok x.0 x.1 t e.readers q))
      (λ d. true≢false (sym (ap₂ (λ a c. not a && c) (ne_eqb x.0.id.0 t d) set) ∙ none_mem others h x.1))
      (equal_or x.0.id.0 t)

  read_by_live : (read_by_other ts t e ≡ true)
      ↔ ((x : Txn) × Memᴰ x ts × (x.id.0 ≡ t → ⊥) × (bit x.slot e.readers ≡ true))
  unfolding read_by_other
  read_by_live = (
    (λ h. ⊎_elim
        (λ a. let x = any_mem others ts a in
        let d = not-true _ (and_left (not (eqb x.0.id.0 t)) (bit x.0.slot e.readers) x.2) in
        (x.0, x.1, eqb-false x.0.id.0 t d, and_right (not (eqb x.0.id.0 t)) _ x.2))
        (λ a. absurd (eqb-false left 0 (not-true _ h) (no_bits left (λ p. not_so _ (none_left a p)))))
        (bool_cases (anyb others ts))),
    (λ x. let stays = drop_other ok x.0 x.1 t e.readers x.2 ∙ x.3 in
        ap not (ne_eqb left 0 (λ z. true≢false (sym stays ∙ ap (bit x.0.slot) z ∙ bit_of_zero x.0.slot)))),
  )

pub readers_are_live : (is : List Input) → ReadByLive (made is)
readers_are_live is e t i = read_by_live (consistent is).txns_ok e ((consistent is).held e i).readers t

-- "T's own take hold makes an entry neither available nor conflicting."
pub own_take_hold : (is : List Input) → OwnTakeHold (made is)
unfolding conflicts
own_take_hold is w e i z q = (not_so _ (λ t. let f = (available_free m.txns w e t).untaken in omega arith), calm)
  where
    m : Model
    m = made is

    no_readers : e.readers ≡ 0
    no_readers = ⊎_elim (λ f. absurd (omega arith)) (λ r. r) ((consistent is).held e i).unread

    public : e.private_to.0 ≡ 0
    public = ⊎_elim (λ c. c) (λ c. absurd (let f = c.0 in omega arith)) ((consistent is).held e i).own

    nobody : read_by_other m.txns w.txn.0 e ≡ false
    nobody =
        not_so _ (λ t. let x = (readers_are_live is e w.txn.0 i).0 t in
        true≢false (sym x.3 ∙ ap (bit x.0.slot) no_readers ∙ bit_of_zero x.0.slot))

    own : is_other w.txn.0 e.taken_by.0 ≡ false
    own = rw q (rw (eq-eqb w.txn.0 w.txn.0 refl) (and-false (not (eqb w.txn.0 0))))

    calm : conflicts m.txns w e ≡ false
    calm =
        ap (λ (b : Bool). matches w.mask w.fields e.fields && not (available m.txns w e) && b)
        (ap₂ (λ (a b : Bool). a || b) (ap₂ (λ (a b : Bool). a || b) (ap (λ n. is_other w.txn.0 n) public) own)
        (ap (λ b. w.takes && b) nobody ∙ and-false w.takes))
        ∙ and-false (matches w.mask w.fields e.fields && not (available m.txns w e))
