-- The book that frames and records alone keep is the space's clock, next numbers, live transactions and waiting
-- look-ups; and each found and nothing closes exactly one look-up.
use Prim.Native.Nat.{ℕ, ◌+◌, ◌≤◌, ◌<◌}
use mathlib.Core.Bool.{Bool, true, false, not, cond, ◌&&◌}
use mathlib.Core.Logic.{◌⊎◌, inl, inr, ⊎_elim}
use mathlib.Core.Path.{◌≡◌, refl, sym, ap, ap₂, ◌∙◌, subst}
use mathlib.Core.List.{List, [], ◌∷◌, ◌++◌, map, map-append}
use native.Mathlib.Omega.{arith}
use native.Mathlib.Nat.{le_trans}
use borrow.Author.Tests.{eq-eqb, ne_eqb}
use lib.Dec.{eqb}
use lib.ListN.{length}
use Rattle.rules.specs.declared.Entry.{Entry}
use Rattle.rules.specs.declared.Record.{Record}
use Rattle.rules.specs.declared.Txn.{Txn}
use Rattle.rules.specs.declared.LookUp.{LookUp}
use Rattle.rules.specs.Lists.{filterb, All}
use Rattle.rules.specs.Time.{until}
use Rattle.rules.specs.State.{Model, empty, with_clock}
use Rattle.rules.specs.Frame.{Frame}
use Rattle.rules.specs.Records.{written, found, nothing, waiting, created, committed, aborted, exception, ticked}
use Rattle.rules.specs.Records.{renewed, notified, rung, refused}
use Rattle.rules.specs.Write.{stored}
use Rattle.rules.specs.LookUp.{look_up_of}
use Rattle.rules.specs.Transactions.{create, without_txn, commit, abort}
use Rattle.rules.specs.Renew.{renew}
use Rattle.rules.specs.Notify.{notify, heard_of}
use Rattle.rules.specs.Tick.{tick, unregistered, drop_ended}
use Rattle.rules.specs.Sound.{of_party, Consistent}
use Rattle.rules.proofs.ListLaws.{filter-filter, filter_pass, length-filter, count, count_cons, count_mem}
use Rattle.demands.specs.Machine.{Input}
use Rattle.demands.specs.Book.{WrittenBy, writer_of, LiveTold, Book, new_book, names, enters, enters_all, with_asked}
use Rattle.demands.specs.Book.{arrives, keep_book, book_of, Booked}
use Rattle.demands.proofs.Runs.{runs, made}
use Rattle.sound.proofs.AllLaws.{all_none, filter_map, Out, here, there}
use Rattle.sound.proofs.HoldLaws.{not_so}
use Rattle.sound.proofs.EachLaws.{Each}
use Rattle.sound.proofs.Events.{Heard, Event, refuses, asks, writes, is_found, is_nothing, is_waiting, creates, commits}
use Rattle.sound.proofs.Events.{aborts, renews, notifies, ticks, excepts, expires, rings}
use Rattle.sound.proofs.Becomes.{written_all}
use Rattle.sound.proofs.ConsistentProof.{consistent_event}
use Rattle.demands.proofs.ByEvents.{Reader, hears_all, reads-log, made_keep}

-- one place passes, and no other can: the rest is the list without it
pub one_passes : {A : Type 0} (p : A → Bool) {x : A} {xs ys : List A} → Out x xs ys → p x ≡ true → count p xs ≤ 1
    → (filterb (λ y. not (p y)) xs ≡ ys) × (count p xs ≡ 1)
one_passes p {x} (here xs) t h =
    let n : count p (x ∷ xs) ≡ 1 + count p xs = count_cons p x xs ∙ ap (λ b. cond b 1 0 + count p xs) t in
    let alone = filter_pass (λ y. not (p y)) xs
    (λ y i. ap not (not_so (p y) (λ u. let l = count_mem p i u in omega arith))) in
    (rw t alone, omega arith)
one_passes {A} p (there {y} {xs} {ys} o) t h = go (p y) refl (one_passes p o t (omega (arith, count_cons p y xs)))
  where
    go : (b : Bool) → p y ≡ b → (filterb (λ z. not (p z)) xs ≡ ys) × (count p xs ≡ 1)
        → (cond (not b) (y ∷ filterb (λ z. not (p z)) xs) (filterb (λ z. not (p z)) xs) ≡ y ∷ ys)
        × (length (cond b (y ∷ filterb p xs) (filterb p xs)) ≡ 1)
    go true e r =
        let n : count p (y ∷ xs) ≡ 1 + count p xs = count_cons p y xs ∙ ap (λ b. cond b 1 0 + count p xs) e in
        absurd (let q = r.1 in omega arith)
    go false e r = (ap {B = List A} (λ l. y ∷ l) r.0, r.1)

-- where each party has one look-up at most, a record names one look-up at most
pub named : (a : Record) (w : LookUp) {xs ys : List LookUp} → names a w ≡ true → Each xs → Out w xs ys
    → (filterb (λ v. not (names a v)) xs ≡ ys) × (count (names a) xs ≡ 1)
named a w {xs} t h o =
    let inside : LookUp → Bool = λ v. eqb v.txn.0 a.txn.0 in
    let few =
    subst (λ (l : List LookUp). length l ≤ count (of_party a.party) xs) (filter-filter inside (of_party a.party) xs)
    (length-filter inside (filterb (of_party a.party) xs)) in
    one_passes (names a) o t (le_trans few (h a.party))

pub itself : (w : LookUp) → (eqb w.party w.party && eqb w.txn.0 w.txn.0) ≡ true
itself w = ap₂ (λ p q. p && q) (eq-eqb w.party w.party refl) (eq-eqb w.txn.0 w.txn.0 refl)

-- the live transactions without one
told : Txn → LiveTold
told t = record { number = t.id.0; party = t.party; end = t.end }

module _ {b : Book} {m : Model} (h : Booked b m) where
  ended : (t : ℕ) → filterb (λ (x : LiveTold). not (eqb x.number t)) b.live ≡ map told (without_txn t m.txns)
  unfolding told without_txn
  ended t =
      let left : LiveTold → Bool = λ x. not (eqb x.number t) in
      ap (filterb left) h.live ∙ filter_map left told m.txns

  -- a record that the book has nothing to say to
  fine : (b.right && true) ≡ true
  fine = ap (λ x. x && true) h.right

  counted : (i j : ℕ) → i ≡ j → (b.right && eqb i j) ≡ true
  counted i j q = ap₂ (λ x y. x && y) h.right (eq-eqb i j q)

-- each stored entry's writer is told
abbrev Written : List WrittenBy → List Entry → Type 0
Written ws es = All (λ e. e.writer ≡ writer_of e.id.0 ws) es

booked : {b : Book} {m : Model} → Written b.writers m.entries → b.right ≡ true → b.clock ≡ m.clock
    → b.next_entry ≡ m.next_entry → b.next_txn ≡ m.next_txn → b.live ≡ map told m.txns → b.waiting ≡ m.waits
    → Booked b m
unfolding told
booked s r c e t l w =
    record { right = r; clock = c; next_entry_lem = e; next_txn_lem = t; writers = s; live = l; waiting = w }

-- a new entry has a number that no other has
written_next : (f : Frame) (m : Model) (ws : List WrittenBy) → All (λ e. e.id.0 < m.next_entry) m.entries
    → Written ws m.entries → Written (record { number = m.next_entry; party = f.party } ∷ ws) m.entries
unfolding writer_of
written_next f m ws below h e i =
    h e i ∙ sym (ap (λ b. cond b f.party (writer_of e.id.0 ws))
    (ne_eqb m.next_entry e.id.0 (λ q. let l = below e i in omega arith)))

books : Reader Book
books = record { asked = λ f b. with_asked (look_up_of (with_clock b.clock empty) f) b; reads = enters }

-- who wrote an entry is told once: a new one by its own record
new : (f : Frame) (m : Model) (b : Book)
    → f.party ≡ writer_of m.next_entry (record { number = m.next_entry; party = f.party } ∷ b.writers)
unfolding writer_of
new f m b = rw (eq-eqb m.next_entry m.next_entry refl)

-- where no number is given out, no entry is new
told-still : {f : Frame} {m n : Model} {hs : List Heard} {b : Book} (e : Event f m hs n) → Consistent m → Booked b m
    → n.next_entry ≡ m.next_entry → Written b.writers n.entries
told-still {m = m} {b = b} e s h q x i =
    ⊎_elim (λ z. absurd (let l = (consistent_event e s).below x i in omega arith)) (λ w. w)
    (written_all (λ k y w. (k ≡ m.next_entry) ⊎ (w ≡ writer_of k b.writers)) e s.ordered (λ _ _. inl refl)
    (λ y j. inr (h.writers y j)) x i)

-- each event is booked as it happens
book_event : {f : Frame} {m n : Model} {hs : List Heard} (b : Book) → Event f m hs n → Consistent m → Booked b m
    → Booked (hears_all books f hs b) n
unfolding books enters told written stored found nothing waiting created create committed commit aborted abort exception
    renewed renew notified notify rung heard_of ticked tick unregistered refused drop_ended look_up_of
book_event {f} b (refuses m bs area q) s h =
    booked (told-still {f = f} (refuses m bs area q) s h refl) (fine h) h.clock h.next_entry_lem h.next_txn_lem
    h.live h.waiting
book_event {f} b (asks m t a) s h =
    booked (told-still {f = f} (asks m t a) s h refl) h.right h.clock h.next_entry_lem h.next_txn_lem h.live
    (ap₂ (λ (l : List LookUp) (n : ℕ). l ++ (look_up_of (with_clock n empty) f ∷ [])) h.waiting h.clock)
book_event {f} b (writes m t a) s h =
    booked (written_all (λ k x w. w ≡ writer_of k (record { number = m.next_entry; party = f.party } ∷ b.writers))
    (writes m t a) s.ordered (λ _ _. new f m b) (written_next f m b.writers s.below h.writers))
    (counted h m.next_entry b.next_entry (sym h.next_entry_lem)) h.clock (ap (λ n. n + 1) h.next_entry_lem)
    h.next_txn_lem h.live h.waiting
book_event {f} b (is_found m w x ws o i av) s h =
    let r = named (found w x) w (itself w) s.each o in
    booked (told-still {f = f} (is_found m w x ws o i av) s h refl)
    (counted h _ 1 (ap (count (names (found w x))) h.waiting ∙ r.1)) h.clock h.next_entry_lem h.next_txn_lem
    h.live (ap (filterb (λ v. not (names (found w x) v))) h.waiting ∙ r.0)
book_event {f} b (is_nothing m w ws o c) s h =
    let r = named (nothing w) w (itself w) s.each o in
    booked (told-still {f = f} (is_nothing m w ws o c) s h refl)
    (counted h _ 1 (ap (count (names (nothing w))) h.waiting ∙ r.1)) h.clock h.next_entry_lem h.next_txn_lem
    h.live (ap (filterb (λ v. not (names (nothing w) v))) h.waiting ∙ r.0)
book_event {f} b (is_waiting m w i q n d c) s h =
    booked (told-still {f = f} (is_waiting m w i q n d c) s h refl) (fine h) h.clock h.next_entry_lem h.next_txn_lem
    h.live h.waiting
book_event {f} b (creates m t a) s h =
    booked (told-still {f = f} (creates m t a) s h refl) (counted h m.next_txn b.next_txn (sym h.next_txn_lem))
    h.clock h.next_entry_lem
    (ap (λ n. n + 1) h.next_txn_lem) (ap₂ (λ (l : List LiveTold) (k : ℕ).
    l ++ (record { number = m.next_txn; party = f.party; end = until k f.lease_or_timeout } ∷ []))
    h.live h.clock ∙ sym (map-append told m.txns _)) h.waiting
book_event {f} b (commits m t a) s h =
    booked (told-still {f = f} (commits m t a) s h refl) (fine h) h.clock h.next_entry_lem h.next_txn_lem
    (ended h f.txn) h.waiting
book_event {f} b (aborts m t a) s h =
    booked (told-still {f = f} (aborts m t a) s h refl) (fine h) h.clock h.next_entry_lem h.next_txn_lem
    (ended h f.txn)
    (ap (filterb (λ (w : LookUp). not (eqb w.txn.0 f.txn))) h.waiting)
book_event {f} b (renews m t a) s h =
    booked (told-still {f = f} (renews m t a) s h refl) (fine h) h.clock h.next_entry_lem h.next_txn_lem h.live
    h.waiting
book_event {f} b (notifies m t a) s h =
    booked (told-still {f = f} (notifies m t a) s h refl) (fine h) h.clock h.next_entry_lem h.next_txn_lem h.live
    h.waiting
book_event {f} b (ticks m t a) s h =
    booked (told-still {f = f} (ticks m t a) s h refl) (fine h) (ap (λ n. n + 1) h.clock) h.next_entry_lem
    h.next_txn_lem h.live h.waiting
book_event {f} b (excepts m t k i r) s h =
    booked (told-still {f = f} (excepts m t k i r) s h refl) (fine h) h.clock h.next_entry_lem h.next_txn_lem
    (ended h t.id.0)
    (ap (filterb (λ (w : LookUp). not (eqb w.txn.0 t.id.0))) h.waiting)
book_event {f} b (expires m k) s h = booked (told-still {f = f} (expires m k) s h refl) h.right h.clock
    h.next_entry_lem h.next_txn_lem h.live h.waiting
book_event {f} b (rings m c g i l) s h =
    booked (told-still {f = f} (rings m c g i l) s h refl) (fine h) h.clock h.next_entry_lem h.next_txn_lem
    h.live h.waiting

pub book_demand : (is : List Input) → Booked (book_of (runs empty is).log) (made is)
unfolding books book_of keep_book enters_all arrives told
book_demand is =
    subst (λ c. Booked c (made is))
    (reads-log books enters_all keep_book (λ f b. refl) (λ f a rs b. refl) (λ b. refl) (λ l ls b. refl)
    (runs empty is).log new_book)
    (made_keep books (λ m b. Booked b m) (λ f m n hs b. book_event b) new_book
    (booked (all_none _) refl refl refl refl refl refl) is)
