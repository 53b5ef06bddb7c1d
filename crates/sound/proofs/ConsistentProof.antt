-- Each event keeps a space consistent; and what each event keeps, of a consistent space and of what a reader of frames
-- and records makes of them, holds of every space that frames make of the empty one.
use Prim.Native.Nat.{ℕ, ◌+◌, ◌<◌}
use mathlib.Core.Bool.{Bool, true, false, cond, not, true≢false}
use mathlib.Core.Logic.{◌⊎◌, inl, inr, ⊎_elim}
use mathlib.Core.Path.{◌≡◌, refl, sym, ap, ◌∙◌}
use mathlib.Core.List.Memᴰ
use mathlib.Core.List.{List, map}
use native.Mathlib.Omega.{arith}
use lib.Dec.{eqb}
use Rattle.rules.specs.declared.Entry.{Entry}
use Rattle.rules.specs.declared.Txn.{Txn}
use Rattle.rules.specs.declared.TxnId.{TxnId}
use Rattle.rules.specs.declared.LookUp.{LookUp}
use Rattle.rules.specs.declared.Registration.{Registration}
use Rattle.rules.specs.State.{Model, empty, with_entries}
use Rattle.rules.specs.Holds.{live_txn, drop_reader_of}
use Rattle.rules.specs.Frame.{Frame}
use Rattle.rules.specs.Write.{new_entry, stored}
use Rattle.rules.specs.LookUp.{look_up_of, hand_out}
use Rattle.rules.specs.Transactions.{no_txn, create, released, without_txn, commit, abort}
use Rattle.rules.specs.Renew.{renew}
use Rattle.rules.specs.Time.{reached}
use Rattle.rules.specs.Lists.{All}
use Rattle.rules.specs.Notify.{new_registration, notify, made_public, hearing, heard_of}
use Rattle.rules.specs.Tick.{tick, unregistered, drop_ended}
use Rattle.rules.specs.Sound.{Ascending, IsParty, LiveOf, Ok, EntryOk, TxnsOk, Tallied, Consistent}
use Rattle.rules.proofs.LayoutLaws.{write-names, look_up-names, look_up-not-abort, commit-not-abort, commit-ends}
use Rattle.rules.proofs.LayoutLaws.{look_up-not-tick}
use Rattle.rules.proofs.NotifyLaws.{commit_public}
use Rattle.rules.proofs.ReaderLaws.{bit_of_zero}
use Rattle.rules.proofs.SoundLaws.{each_snoc}
use Rattle.sound.proofs.AllLaws.{all_none, all_snoc, all_filter, all_map}
use Rattle.sound.proofs.AscendingLaws.{ascend_filter, ascend_map, ascend_snoc}
use Rattle.sound.proofs.TallyLaws.{is_private, count_left, few_private, handed_private, freed_private}
use Rattle.sound.proofs.TallyLaws.{renewed_private, commit_private, write_private, tallied-hearing, tallied_on}
use Rattle.sound.proofs.EachLaws.{Each, filtered, each_out}
use Rattle.sound.proofs.HoldLaws.{cleared_cases, available_free}
use Rattle.sound.proofs.OrderLaws.{InOrder, numbered-filter, handed-numbered, freed_numbered, renewed-numbered}
use Rattle.sound.proofs.OrderLaws.{stored-order}
use Rattle.sound.proofs.Events.{Heard, Event, refuses, asks, writes, is_found, is_nothing, is_waiting, creates}
use Rattle.sound.proofs.Events.{commits, aborts, renews, notifies, ticks, excepts, expires, rings, Events, over}
use Rattle.sound.proofs.Events.{then}
use Rattle.sound.proofs.Consistent.{live-above, not_inside, slot_free, txns-filter, txns_snoc}
use Rattle.sound.proofs.HolderLaws.{lives_on, stays-live, add-live, drop-live, drop-none, freed_at}
use Rattle.sound.proofs.Becomes.{new_txn, Becomes, is_new, as_was, as_ever, is_held, is_freed, is_renewed}
use Rattle.sound.proofs.Becomes.{becomes, WaitsOn, is_asked, waited, waited_ever, waited-commit, is_outside}
use Rattle.sound.proofs.Becomes.{waits_on, waits-all}

-- entries stand by number, below the next
numbered : {f : Frame} {m n : Model} {hs : List Heard} → Event f m hs n → InOrder m → InOrder n
unfolding heard_of create commit abort renew notify tick unregistered drop_ended
numbered (refuses m bs area q) h = h
numbered (asks m t a) h = h
numbered {f} (writes m t a) h = stored-order m f h
numbered (is_found m w e ws o i av) h = handed-numbered m.txns w e m.entries h
numbered (is_nothing m w ws o c) h = h
numbered (is_waiting m w i q n d c) h = h
numbered (creates m t a) h = h
numbered {f} (commits m t a) h = freed_numbered m.txns f.txn _ m.entries h
numbered {f} (aborts m t a) h = freed_numbered m.txns f.txn _ m.entries h
numbered {f} (renews m t a) h = renewed-numbered m f h
numbered (notifies m t a) h = h
numbered (ticks m t a) h = h
numbered (excepts m t k i r) h = freed_numbered m.txns t.id.0 _ m.entries h
numbered (expires m k) h = numbered-filter _ m.entries h
numbered (rings m c g i l) h = h

-- the live transactions stand by number, each at a slot of its own
abbrev Living : ℕ → List Txn → Type 0
Living n ts = Ascending (map (λ (t : Txn). t.id.0) ts) × TxnsOk n ts × (0 < n)

ended : {n : ℕ} (t : ℕ) (ts : List Txn) → Living n ts → Living n (without_txn t ts)
unfolding without_txn
ended {n} t ts h =
    let left : Txn → Bool = λ x. not (eqb x.id.0 t) in
    (ascend_filter (λ (x : Txn). x.id.0) left ts h.0, txns-filter n left ts h.1, h.2)

living : {f : Frame} {m n : Model} {hs : List Heard} → Event f m hs n → Living m.next_txn m.txns
    → Living n.next_txn n.txns
unfolding stored heard_of create commit abort renew notify tick unregistered drop_ended
living (refuses m bs area q) h = h
living (asks m t a) h = h
living (writes m t a) h = h
living (is_found m w e ws o i av) h = h
living (is_nothing m w ws o c) h = h
living (is_waiting m w i q n d c) h = h
living {f} (creates m t a) h = (
  ascend_snoc (λ (x : Txn). x.id.0) (new_txn m f) m.txns h.1.below h.0,
  txns_snoc (new_txn m f) m.txns h.2 (slot_free m.txns (a.slot-left t)) h.1,
  omega arith,
)
living {f} (commits m t a) h = ended f.txn m.txns h
living {f} (aborts m t a) h = ended f.txn m.txns h
living (renews m t a) h = h
living (notifies m t a) h = h
living (ticks m t a) h = h
living (excepts m t k i r) h = ended t.id.0 m.txns h
living (expires m k) h = h
living (rings m c g i l) h = h

-- a party waits once
each : {f : Frame} {m n : Model} {hs : List Heard} → Event f m hs n → Each m.waits → Each n.waits
unfolding stored heard_of create commit abort renew notify tick unregistered drop_ended look_up_of
each (refuses m bs area q) h = h
each {f} (asks m t a) h = each_snoc (look_up_of m f) m.waits (a.free (look_up-not-abort f.op t)) h
each (writes m t a) h = h
each (is_found m w e ws o i av) h = each_out o h
each (is_nothing m w ws o c) h = each_out o h
each (is_waiting m w i q n d c) h = h
each (creates m t a) h = h
each (commits m t a) h = h
each (aborts m t a) h = filtered _ m.waits h
each (renews m t a) h = h
each (notifies m t a) h = h
each (ticks m t a) h = h
each (excepts m t k i r) h = filtered _ m.waits h
each (expires m k) h = h
each (rings m c g i l) h = h

-- who holds an entry, wherever it comes from
entry-ok : {f : Frame} {m : Model} {e : Entry} {ts : List Txn} → Consistent m → Becomes f m e ts → EntryOk ts e
unfolding new_entry released create
entry-ok {f} s (is_new t a d) =
    record {
      own = inr (refl, refl);
      owner = ⊎_elim inl (λ x. inr (x.0, x.1, x.2)) (a.inside (write-names f.op t));
      taker = inl refl;
      readers = λ p b. absurd (true≢false (sym b ∙ bit_of_zero p));
      unread = inl refl;
    }
entry-ok s (as_was e i) = s.held e i
entry-ok s (as_ever e i) =
    let h = s.held e i in
    record {
      own = h.own;
      owner = ⊎_elim inl (λ x. inr (x.0, Memᴰ.append_left _ x.1, x.2)) h.owner;
      taker = ⊎_elim inl (λ x. inr (x.0, Memᴰ.append_left _ x.1, x.2)) h.taker;
      readers = λ p b. let x = h.readers p b in (x.0, Memᴰ.append_left _ x.1, x.2);
      unread = h.unread;
    }
entry-ok {m = m} s (is_held w e true j i av t c d) =
    let h = s.held e i in
    record {
      own = inl c;
      owner = h.owner;
      taker = ⊎_elim inl (λ x. inr (x.0, x.1, x.2)) (s.owned w j);
      readers = λ p b. h.readers p (drop-live e.readers p (live_txn w.txn.0 m.txns) b);
      unread = inr ((available_free m.txns w e av).unread t);
    }
entry-ok {m = m} s (is_held w e false j i av t c d) =
    let h = s.held e i in
    record {
      own = inl c;
      owner = h.owner;
      taker = h.taker;
      readers = λ p b. ⊎_elim (h.readers p) (λ x. x) (add-live e.readers p w.txn.0 m.txns b);
      unread = inl (available_free m.txns w e av).untaken;
    }
entry-ok s (is_renewed t a d e i q) =
    let h = s.held e i in
    record { own = h.own; owner = h.owner; taker = h.taker; readers = h.readers; unread = h.unread }
entry-ok {m = m} s (is_freed t e i) =
    let h = s.held e i in
    let ts = m.txns in
    let none : e.readers ≡ 0 → drop_reader_of (live_txn t ts) e.readers ≡ 0 =
    λ q. ap (drop_reader_of (live_txn t ts)) q ∙ drop-none (live_txn t ts) in
    let free : (x : TxnId) → x.0 ≡ 0 → (cond (eqb x.0 t) no_txn x).0 ≡ 0 =
    λ x q. cleared_cases (λ y. y.0 ≡ 0) t x (λ _. refl) (λ _. q) in
    let ok : (x : TxnId) → Ok x.0 ts → Ok (cond (eqb x.0 t) no_txn x).0 (without_txn t ts) =
    λ x l. cleared_cases (λ y. Ok y.0 (without_txn t ts)) t x (λ _. inl refl)
    (λ d. ⊎_elim inl (λ y. inr (stays-live t x.0 ts d y)) l) in
    record {
      own = ⊎_elim (λ q. inl (free e.private_to q)) (λ q. inr (free e.taken_by q.0, none q.1)) h.own;
      owner = ok e.private_to h.owner;
      taker = ok e.taken_by h.taker;
      readers = λ p b. freed_at s.txns_ok t e.readers p (h.readers p) b;
      unread = ⊎_elim (λ q. inl (free e.taken_by q)) (λ q. inr (none q)) h.unread;
    }

-- a look-up waits in no transaction, or in a live one of its party
abbrev Owned : LookUp → List Txn → Type 0
Owned w ts = (w.txn.0 ≡ 0) ⊎ LiveOf w.txn.0 w.party ts

still-owned : (t : ℕ) (w : LookUp) (ts : List Txn) → (w.txn.0 ≡ t → ⊥) → Owned w ts → Owned w (without_txn t ts)
still-owned t w ts d = ⊎_elim inl (λ x. inr (x.0, lives_on t ts x.0 x.1 (λ q. d (sym x.2 ∙ q)), x.2, x.3))

owned-ok : {f : Frame} {m : Model} {w : LookUp} {ts : List Txn} → Consistent m → WaitsOn f m w ts → Owned w ts
unfolding look_up_of create
owned-ok {f} s (is_asked t a) = a.inside (look_up-names f.op t)
owned-ok s (waited w i) = s.owned w i
owned-ok s (waited_ever w i) = ⊎_elim inl (λ x. inr (x.0, Memᴰ.append_left _ x.1, x.2, x.3)) (s.owned w i)
owned-ok {f} {m} s (waited-commit t a w i) =
    still-owned f.txn w m.txns (not_inside s a (commit-not-abort f.op t) (a.ends (commit-ends f.op t)) w
    i) (s.owned w i)
owned-ok {f} {m} s (is_outside t w i d) = still-owned t w m.txns d (s.owned w i)

-- the live registrations stand by number, below the next
abbrev Registered : ℕ → List Registration → Type 0
Registered n gs = Ascending (map (λ (g : Registration). g.id.0) gs) × All (λ g. g.id.0 < n) gs

heard-registered : {n : ℕ} (es : List Entry) (gs : List Registration) → Registered n gs
    → Registered n (map (hearing es) gs)
unfolding hearing
heard-registered {n} es gs h = (
  ascend_map (λ (g : Registration). g.id.0) (hearing es) (λ _. refl) gs h.0,
  all_map (λ g. g.id.0 < n) (hearing es) gs h.1,
)

registered : {f : Frame} {m n : Model} {hs : List Heard} → Event f m hs n
    → Registered m.next_registration m.registrations → Registered n.next_registration n.registrations
unfolding stored heard_of create commit abort renew notify new_registration tick unregistered drop_ended
registered (refuses m bs area q) h = h
registered (asks m t a) h = h
registered {f} (writes m t a) h = heard-registered (made_public m f) m.registrations h
registered (is_found m w e ws o i av) h = h
registered (is_nothing m w ws o c) h = h
registered (is_waiting m w i q n d c) h = h
registered (creates m t a) h = h
registered {f} (commits m t a) h = heard-registered (made_public m f) m.registrations h
registered (aborts m t a) h = h
registered (renews m t a) h = h
registered {f} (notifies m t a) h = (
  ascend_snoc (λ (g : Registration). g.id.0) (new_registration m f) m.registrations h.1 h.0,
  all_snoc m.registrations (λ g i. let l = h.1 g i in omega arith) (omega arith),
)
registered (ticks m t a) h =
    let lives : Registration → Bool = λ g. not (reached (m.clock + 1) g.end) in (
      ascend_filter (λ (g : Registration). g.id.0) lives m.registrations h.0,
      all_filter lives m.registrations (λ g i _. h.1 g i),
    )
registered (excepts m t k i r) h = h
registered (expires m k) h = h
registered (rings m c g i l) h = h

-- their totals, with what may still be made public, stay within the entries' numbers
tallied : {f : Frame} {m n : Model} {hs : List Heard} → Event f m hs n → Consistent m
    → All (Tallied n) n.registrations
unfolding stored heard_of create commit abort renew notify new_registration tick unregistered drop_ended
tallied (refuses m bs area q) s = s.tallied
tallied (asks m t a) s = s.tallied
tallied {f} (writes m t a) s =
    tallied-hearing m (stored m f) (made_public m f) (omega (arith, write_private m f t)) s.tallied
tallied (is_found m w e ws o i av) s =
    tallied_on m (with_entries (hand_out m.txns w e m.entries) m) refl
    (handed_private m.txns w e m.entries) s.tallied
tallied (is_nothing m w ws o c) s = s.tallied
tallied (is_waiting m w i q n d c) s = s.tallied
tallied (creates m t a) s = s.tallied
tallied {f} (commits m t a) s =
    let live = live-above s (let l = a.ends (commit-ends f.op t) in (l.0, l.1, l.2)) in
    tallied-hearing m (commit f.txn m) (made_public m f)
    (rw (commit_public m f t) (omega (arith, commit_private m.txns f.txn m.entries live))) s.tallied
tallied {f} (aborts m t a) s =
    tallied_on m (abort f.txn m) refl (freed_private m.txns f.txn _ m.entries) s.tallied
tallied {f} (renews m t a) s = tallied_on m (renew m f).model refl (renewed_private m f) s.tallied
tallied {f} (notifies m t a) s =
    all_snoc {Q = Tallied m} m.registrations {y = new_registration m f} s.tallied
    (omega (arith, few_private m (s.ordered.entries, s.below)))
tallied (ticks m t a) s = all_filter _ m.registrations (λ g i _. s.tallied g i)
tallied (excepts m t k i r) s =
    tallied_on m (abort t.id.0 m) refl (freed_private m.txns t.id.0 _ m.entries) s.tallied
tallied (expires m k) s =
    tallied_on m (drop_ended m) refl (count_left is_private _ m.entries) s.tallied
tallied (rings m c g i l) s = s.tallied

pub consistent_event : {f : Frame} {m n : Model} {hs : List Heard} → Event f m hs n → Consistent m → Consistent n
unfolding look_up_of
consistent_event {f} e s =
    let entries = numbered e (s.ordered.entries, s.below) in
    let txns = living e (s.ordered.txns, s.txns_ok, s.positive) in
    let registrations = registered e (s.ordered.registrations, s.registered) in
    record {
      ordered = record { entries = entries.0; txns = txns.0; registrations = registrations.0 };
      below = entries.1;
      held = λ x i. entry-ok s (becomes e s.ordered x i);
      txns_ok = txns.1;
      positive = txns.2;
      registered = registrations.1;
      tallied = tallied e s;
      owned = λ w i. owned-ok s (waits_on e w i);
      parties =
          waits-all (λ w. IsParty w.party) e (λ t a. a.party (look_up-not-tick f.op t)) s.parties;
      each = each e s.each;
    }

pub consistent-empty : Consistent empty
unfolding Ascending
consistent-empty =
    record {
      ordered = record { entries = tt; txns = tt; registrations = tt };
      below = all_none _;
      held = all_none _;
      txns_ok = record {
        unique = λ a b i. absurd (Memᴰ.not-nil i);
        slot = λ a b i. absurd (Memᴰ.not-nil i);
        above = all_none _;
        below = all_none _;
      };
      positive = omega arith;
      registered = all_none _;
      tallied = all_none _;
      owned = all_none _;
      parties = all_none _;
      each = λ p. omega arith;
    }

pub consistent_events : {f : Frame} {m n : Model} {hs : List Heard} → Events f m hs n → Consistent m → Consistent n
consistent_events over s = s
consistent_events (then e t) s = consistent_events t (consistent_event e s)
