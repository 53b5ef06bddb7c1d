-- Two spaces that agree in all that frames and records tell, but for slots and the order of the entries: the same
-- look-ups find, wait and conflict in both, each part of a step keeps it so, and a step of both says the same.
use Prim.Native.Nat.{ℕ, ◌+◌, ◌≤◌, ◌<◌}
use mathlib.Core.Bool.{Bool, true, false, not, cond, ◌&&◌, ◌||◌, true≢false}
use mathlib.Core.Logic.{⊎_elim}
use mathlib.Core.Path.{◌≡◌, refl, sym, ap, ap₂, ◌∙◌, subst, subst⁻¹}
use mathlib.Core.List.Memᴰ
use mathlib.Core.List.{List, [], ◌∷◌, ◌++◌, map, Memᴰ}
use native.Mathlib.Omega.{arith}
use borrow.Author.Tests.{eqb-true, eq-eqb}
use lib.Dec.{eqb}
use lib.ListN.{length, length-map}
use Rattle.rules.specs.declared.Entry.{Entry}
use Rattle.rules.specs.declared.Record.{Record}
use Rattle.rules.specs.declared.Txn.{Txn}
use Rattle.rules.specs.declared.TxnId.{TxnId}
use Rattle.rules.specs.declared.until.Until.{Until}
use Rattle.rules.specs.declared.LookUp.{LookUp}
use Rattle.rules.specs.declared.Registration.{Registration}
use Rattle.rules.specs.Lists.{filterb, anyb, joined, distinct, All}
use Rattle.rules.specs.Time.{until, reached}
use Rattle.rules.specs.Template.{bit, mark_of, matches}
use Rattle.rules.specs.State.{Model, with_entries, with_txns, with_waits, with_next_entry, with_next_txn}
use Rattle.rules.specs.State.{with_registrations}
use Rattle.rules.specs.Holds.{live_txn, add_reader_of, drop_reader_of, read_by_other, visible, available, conflicts}
use Rattle.rules.specs.Holds.{some_available, some_conflicts}
use Rattle.rules.specs.Frame.{Frame, entry_named, is_write, is_create, is_commit, is_tick}
use Rattle.rules.specs.Numbers.{kind_exception, max_txns}
use Rattle.rules.specs.Records.{plain, written, found, nothing, waiting, created, exception, notified, rung}
use Rattle.rules.specs.Write.{new_entry, stored}
use Rattle.rules.specs.LookUp.{look_up_of, removes, with_hold, marked, is_entry, hand_out, gives_nothing}
use Rattle.rules.specs.Transactions.{create, no_txn, released, without_txn, commit, abort, is_private_to, is_taken_by}
use Rattle.rules.specs.Renew.{has_number, ending_at, renew_entries, renew}
use Rattle.rules.specs.Notify.{new_registration, notify, made_public, matching, with_total, hearing, heard_of}
use Rattle.rules.specs.Tick.{tick, unregistered, abort_all}
use Rattle.rules.specs.SerialRun.{Kept, kept_of, kept_to}
use Rattle.rules.specs.Sound.{At, TxnsOk}
use Rattle.rules.proofs.ListLaws.{mem_filter, filter_mem, any_mem, mem_any, filter_same}
use Rattle.rules.proofs.ReaderLaws.{bit_of_zero, no_bits}
use Rattle.rules.proofs.DistinctLaws.{distinct_filter}
use Rattle.demands.specs.Book.{LiveTold}
use Rattle.demands.specs.Said.{end_now, entries_left, in_vain, Own, writes, finds, finds_none, waits, creates}
use Rattle.demands.specs.Said.{commits, aborts, renews, notifies, ticks, bell, bells, Serves, gone_through}
use Rattle.demands.specs.Said.{is_found, waits_on, Service, follows, follows_not, exceptions, lapsed}
use Rattle.demands.specs.Said.{given_nothing, nothings, Ends, in_order, Said, own_first, Oldest}
use Rattle.sound.proofs.AllLaws.{all_filter, all_map, all_snoc}
use Rattle.sound.proofs.HoldLaws.{equal_or, not_so}
use Rattle.sound.proofs.Consistent.{cover, slot_free, txns-filter, txns_snoc}
use Rattle.sound.proofs.Becomes.{new_txn}
use Rattle.sound.proofs.HolderLaws.{add-live, drop-live, add-own, drop_own, add_other, drop_other, freed_at}

-- ---- tests and lists

pub same_test : (a b : Bool) → (a ≡ true → b ≡ true) → (b ≡ true → a ≡ true) → a ≡ b
same_test true b f g = sym (f refl)
same_test false true f g = g refl
same_test false false f g = refl

pub cond_both : {A B : Type 0} (R : A → B → Type 0) (b c : Bool) {x x' : A} {y y' : B} → b ≡ c → R x y → R x' y'
    → R (cond b x x') (cond c y y')
cond_both R true true q h k = h
cond_both R true false q h k = absurd (true≢false q)
cond_both R false true q h k = absurd (true≢false (sym q))
cond_both R false false q h k = k

-- each element of either list has one that it matches in the other
pub record Matched {A B : Type 0} (R : A → B → Type 0) (xs : List A) (ys : List B) : Type 0 where
  pub forth : All (λ x. (y : B) × Memᴰ y ys × R x y) xs
  pub back : All (λ y. (x : A) × Memᴰ x xs × R x y) ys

module _ {A B : Type 0} {R : A → B → Type 0} {xs : List A} {ys : List B} (h : Matched R xs ys) where
  pub matched_filter : (p : A → Bool) (q : B → Bool) → ((x : A) (y : B) → R x y → p x ≡ q y)
      → Matched R (filterb p xs) (filterb q ys)
  matched_filter p q same =
      record {
        forth = all_filter p xs (λ x i t. let y = h.forth x i in
            (y.0, filter_mem q y.1 (sym (same x y.0 y.2) ∙ t), y.2));
        back = all_filter q ys (λ y i t. let x = h.back y i in
            (x.0, filter_mem p x.1 (same x.0 y x.2 ∙ t), x.2));
      }

  pub matched_map : {A' B' : Type 0} (R' : A' → B' → Type 0) (g : A → A') (k : B → B')
      → ((x : A) (y : B) → R x y → R' (g x) (k y)) → Matched R' (map g xs) (map k ys)
  matched_map {A'} {B'} R' g k keeps =
      record {
        forth = all_map (λ z. (y : B') × Memᴰ y (map k ys) × R' z y) g xs (λ x i. let y = h.forth x i in
            (k y.0, Memᴰ.map k y.1, keeps x y.0 y.2));
        back = all_map (λ z. (x : A') × Memᴰ x (map g xs) × R' x z) k ys (λ y i. let x = h.back y i in
            (g x.0, Memᴰ.map g x.1, keeps x.0 y x.2));
      }

  matched_so : (R' : A → B → Type 0) → ((x : A) (y : B) → R x y → R' x y) → Matched R' xs ys
  matched_so R' so =
      record {
        forth = λ x i. let y = h.forth x i in (y.0, y.1, so x y.0 y.2);
        back = λ y j. let x = h.back y j in (x.0, x.1, so x.0 y x.2);
      }

  matched_snoc : {x : A} {y : B} → R x y → Matched R (xs ++ (x ∷ [])) (ys ++ (y ∷ []))
  matched_snoc {x} {y} r =
      record {
        forth = all_snoc xs (λ z i. let k = h.forth z i in (k.0, Memᴰ.append_left (y ∷ []) k.1, k.2))
            (y, Memᴰ.append_right ys (Memᴰ.head refl), r);
        back = all_snoc ys (λ z i. let k = h.back z i in (k.0, Memᴰ.append_left (x ∷ []) k.1, k.2))
            (x, Memᴰ.append_right xs (Memᴰ.head refl), r);
      }

  pub matched_any : (p : A → Bool) (q : B → Bool) → ((x : A) (y : B) → R x y → p x ≡ q y) → anyb p xs ≡ anyb q ys
  matched_any p q same =
      same_test _ _ (λ t. let x = any_mem p xs t in let y = h.forth x.0 x.1 in mem_any q y.1
      (sym (same x.0 y.0 y.2) ∙ x.2))
      (λ t. let y = any_mem q ys t in let x = h.back y.0 y.1 in mem_any p x.1
      (same x.0 y.0 x.2 ∙ y.2))

  -- the lowest number of those that pass is the same
  matched_lowest : (p : A → Bool) (q : B → Bool) (number : A → ℕ) (number' : B → ℕ)
      → ((x : A) (y : B) → R x y → (p x ≡ q y) × (number x ≡ number' y))
      → {x : A} {y : B} → R x y → ((z : A) → Memᴰ z xs → p z ≡ true → number x ≤ number z)
      → (z : B) → Memᴰ z ys → q z ≡ true → number' y ≤ number' z
  matched_lowest p q number number' same {x} {y} r low z j t =
      let k = h.back z j in
      let l = low k.0 k.1 ((same k.0 z k.2).0 ∙ t) in
      let one = (same x y r).1 in
      let other = (same k.0 z k.2).1 in
      omega arith

  matched_sym : Matched (λ y x. R x y) ys xs
  matched_sym = record { forth = h.back; back = h.forth }

-- ---- live transactions, but for their slots

abbrev pub live_of : Txn → LiveTold
live_of t = record { number = t.id.0; party = t.party; end = t.end }

abbrev pub SameLive : List Txn → List Txn → Type 0
SameLive ts us = map live_of ts ≡ map live_of us

pub live_ind : (Q : List Txn → List Txn → Type 0) → Q [] []
    → ((x y : Txn) (ts us : List Txn) → live_of x ≡ live_of y → Q ts us → Q (x ∷ ts) (y ∷ us))
    → (ts us : List Txn) → SameLive ts us → Q ts us
live_ind Q nil more [] [] s = nil
live_ind Q nil more [] (y ∷ us) s = absurd (let z : ◌≡◌ {A = ℕ} 0 1 = cc in omega arith)
live_ind Q nil more (x ∷ ts) [] s = absurd (let z : ◌≡◌ {A = ℕ} 0 1 = cc in omega arith)
live_ind Q nil more (x ∷ ts) (y ∷ us) s =
    let one : live_of x ≡ live_of y = cc in
    let others : SameLive ts us = cc in
    more x y ts us one (live_ind Q nil more ts us others)

pub other_live : (ts us : List Txn) → SameLive ts us → (x : Txn) → Memᴰ x ts
    → (y : Txn) × Memᴰ y us × (live_of y ≡ live_of x)
other_live ts us s x i = Memᴰ.of_map live_of us (subst (Memᴰ (live_of x)) s (Memᴰ.map live_of i))

filter-live : (p : LiveTold → Bool) (ts us : List Txn) → SameLive ts us
    → SameLive (filterb (λ t. p (live_of t)) ts) (filterb (λ t. p (live_of t)) us)
filter-live p =
    live_ind (λ ts us. SameLive (filterb (λ t. p (live_of t)) ts) (filterb (λ t. p (live_of t)) us)) refl
    (λ x y ts us q below. cond_both SameLive (p (live_of x)) (p (live_of y)) (ap p q)
    (ap₂ {C = List LiveTold} (λ l ls. l ∷ ls) q below) below)

-- numbers below k
pub record Peers (k : ℕ) (ts us : List Txn) : Type 0 where
  pub counted : 0 < k
  pub ok : TxnsOk k ts
  pub ok' : TxnsOk k us
  pub live : SameLive ts us

peers_without : {k : ℕ} {ts us : List Txn} (t : ℕ) → Peers k ts us → Peers k (without_txn t ts) (without_txn t us)
unfolding without_txn
peers_without {k} {ts} {us} t p =
    record {
      counted = p.counted;
      ok = txns-filter k _ ts p.ok;
      ok' = txns-filter k _ us p.ok';
      live = filter-live (λ l. not (eqb l.number t)) ts us p.live;
    }

-- ---- read holds: the same live transactions hold, and nobody else

abbrev BitsLive : List Txn → ℕ → Type 0
BitsLive ts r = (p : ℕ) → bit p r ≡ true → At p ts

pub record Held (ts us : List Txn) (r q : ℕ) : Type 0 where
  pub bits : (x y : Txn) → Memᴰ x ts → Memᴰ y us → x.id.0 ≡ y.id.0 → bit x.slot r ≡ bit y.slot q
  pub live : BitsLive ts r
  pub live' : BitsLive us q

none-held : (ts us : List Txn) → Held ts us 0 0
none-held ts us =
    record {
      bits = λ x y i j e. bit_of_zero x.slot ∙ sym (bit_of_zero y.slot);
      live = λ p b. absurd (true≢false (sym b ∙ bit_of_zero p));
      live' = λ p b. absurd (true≢false (sym b ∙ bit_of_zero p));
    }

module _ {k : ℕ} {ts us : List Txn} (p : Peers k ts us) (t : ℕ) {r q : ℕ} (h : Held ts us r q) where
  -- t's own bit becomes v, the others' stay
  bits_same : (v : Bool) (s z : ℕ) → ((x : Txn) → Memᴰ x ts → x.id.0 ≡ t → bit x.slot s ≡ v)
      → ((x : Txn) → Memᴰ x ts → (x.id.0 ≡ t → ⊥) → bit x.slot s ≡ bit x.slot r)
      → ((y : Txn) → Memᴰ y us → y.id.0 ≡ t → bit y.slot z ≡ v)
      → ((y : Txn) → Memᴰ y us → (y.id.0 ≡ t → ⊥) → bit y.slot z ≡ bit y.slot q)
      → (x y : Txn) → Memᴰ x ts → Memᴰ y us → x.id.0 ≡ y.id.0 → bit x.slot s ≡ bit y.slot z
  bits_same v s z own other own' other' x y i j e =
      ⊎_elim (λ o. own x i o ∙ sym (own' y j (sym e ∙ o)))
      (λ d. other x i d ∙ h.bits x y i j e ∙ sym (other' y j (λ o. d (e ∙ o)))) (equal_or x.id.0 t)

  held-added : Held ts us (add_reader_of (live_txn t ts) r) (add_reader_of (live_txn t us) q)
  held-added =
      record {
        bits = bits_same true _ _ (λ x i. add-own p.ok x i t r) (λ x i. add_other p.ok x i t r)
            (λ y j. add-own p.ok' y j t q) (λ y j. add_other p.ok' y j t q);
        live = λ k b. ⊎_elim (h.live k) (λ x. x) (add-live r k t ts b);
        live' = λ k b. ⊎_elim (h.live' k) (λ x. x) (add-live q k t us b);
      }

  held_dropped : Held ts us (drop_reader_of (live_txn t ts) r) (drop_reader_of (live_txn t us) q)
  held_dropped =
      record {
        bits = bits_same false _ _ (λ x i. drop_own p.ok x i t r) (λ x i. drop_other p.ok x i t r)
            (λ y j. drop_own p.ok' y j t q) (λ y j. drop_other p.ok' y j t q);
        live = λ k b. h.live k (drop-live r k (live_txn t ts) b);
        live' = λ k b. h.live' k (drop-live q k (live_txn t us) b);
      }

  held_gone : Held (without_txn t ts) (without_txn t us) (drop_reader_of (live_txn t ts) r)
      (drop_reader_of (live_txn t us) q)
  unfolding without_txn
  held_gone =
      record {
        bits = λ x y i j. held_dropped.bits x y (mem_filter _ ts i).0 (mem_filter _ us j).0;
        live = λ k. freed_at p.ok t r k (h.live k);
        live' = λ k. freed_at p.ok' t q k (h.live' k);
      }

held_sym : {ts us : List Txn} {r q : ℕ} → Held ts us r q → Held us ts q r
held_sym h = record { bits = λ y x j i e. sym (h.bits x y i j (sym e)); live = h.live'; live' = h.live }

zero_forth : (ts us : List Txn) {r q : ℕ} → SameLive ts us → Held ts us r q → r ≡ 0 → q ≡ 0
zero_forth ts us {r} {q} s h z = no_bits q (λ k. not_so (bit k q) (one k))
  where
    one : (k : ℕ) → bit k q ≡ true → ⊥
    one k b =
        let y = h.live' k b in
        let x = other_live us ts (sym s) y.0 y.1 in
        let set : bit x.0.slot r ≡ true =
        h.bits x.0 y.0 x.1 y.1 (ap (λ l. l.number) x.2) ∙ rw y.2 b in
        true≢false (sym set ∙ ap (bit x.0.slot) z ∙ bit_of_zero x.0.slot)

pub zero_same : {ts us : List Txn} {r q : ℕ} → SameLive ts us → Held ts us r q → eqb r 0 ≡ eqb q 0
zero_same {ts} {us} {r} {q} s h =
    same_test _ _ (λ t. eq-eqb q 0 (zero_forth ts us s h (eqb-true r 0 t)))
    (λ t. eq-eqb r 0 (zero_forth us ts (sym s) (held_sym h) (eqb-true q 0 t)))

-- ---- entries, but for their readers' bits

pub record Like (ts us : List Txn) (e x : Entry) : Type 0 where
  pub kept : kept_of e ≡ kept_of x
  pub owner : e.private_to ≡ x.private_to
  pub taker : e.taken_by ≡ x.taken_by
  pub writer : e.writer ≡ x.writer
  pub held : Held ts us e.readers x.readers

module _ {k : ℕ} {ts us : List Txn} (p : Peers k ts us) where
  read_same : (t : ℕ) {e x : Entry} → Like ts us e x → read_by_other ts t e ≡ read_by_other us t x
  unfolding read_by_other
  read_same t {e} {x} l = ap not (zero_same p.live (held_dropped p t l.held))

  pub available-same : (w : LookUp) (e x : Entry) → Like ts us e x → available ts w e ≡ available us w x
  unfolding available visible
  available-same w e x l =
      let fields : e.fields ≡ x.fields = ap (λ k. k.fields) l.kept in
      rw (read_same w.txn.0 l, fields, l.owner, l.taker)

  conflicts-same : (w : LookUp) (e x : Entry) → Like ts us e x → conflicts ts w e ≡ conflicts us w x
  unfolding conflicts
  conflicts-same w e x l =
      let fields : e.fields ≡ x.fields = ap (λ k. k.fields) l.kept in
      rw (available-same w e x l, read_same w.txn.0 l, fields, l.owner, l.taker)

  pub available_in : {es xs : List Entry} → Matched (Like ts us) es xs → (w : LookUp)
      → some_available ts w es ≡ some_available us w xs
  available_in h w = matched_any h (available ts w) (available us w) (available-same w)

  pub conflicts_in : {es xs : List Entry} → Matched (Like ts us) es xs → (w : LookUp)
      → some_conflicts ts w es ≡ some_conflicts us w xs
  conflicts_in h w = matched_any h (conflicts ts w) (conflicts us w) (conflicts-same w)

  -- the oldest that is available is the same, either way
  same_number : (w : LookUp) (e x : Entry) → Like ts us e x
      → (available ts w e ≡ available us w x) × (e.id.0 ≡ x.id.0)
  same_number w e x l = (available-same w e x l, ap (λ (k : Kept). k.number) l.kept)

  module _ {es xs : List Entry} (h : Matched (Like ts us) es xs) (w : LookUp) {e x : Entry} (l : Like ts us e x) where
    pub oldest_forth : Memᴰ x xs → Oldest ts w es e → Oldest us w xs x
    oldest_forth j o =
        record {
          stored = j;
          is_available = sym (available-same w e x l) ∙ o.is_available;
          lowest =
              matched_lowest h (available ts w) (available us w) (λ (y : Entry). y.id.0) (λ (y : Entry). y.id.0)
              (same_number w) l o.lowest;
        }

    pub oldest_back : Memᴰ e es → Oldest us w xs x → Oldest ts w es e
    oldest_back i o =
        record {
          stored = i;
          is_available = available-same w e x l ∙ o.is_available;
          lowest =
              matched_lowest (matched_sym h) (available us w) (available ts w) (λ (y : Entry). y.id.0)
              (λ (y : Entry). y.id.0)
              (λ y z k. (sym (same_number w z y k).0, sym (same_number w z y k).1)) l o.lowest;
        }

  -- handed out, or released
  hold_like : (w : LookUp) (e x : Entry) → Like ts us e x → Like ts us (with_hold ts w e) (with_hold us w x)
  unfolding with_hold
  hold_like w e x l =
      record {
        kept = l.kept;
        owner = l.owner;
        taker = ap (λ (o : TxnId). cond w.takes w.txn o) l.taker;
        writer = l.writer;
        held =
            cond_both (Held ts us) w.takes w.takes refl (held_dropped p w.txn.0 l.held)
            (held-added p w.txn.0 l.held);
      }

  marked_like : (w : LookUp) (e x : Entry) → Like ts us e x → Like ts us (marked ts w e) (marked us w x)
  unfolding marked
  marked_like w e x l =
      cond_both (Like ts us) (eqb e.private_to.0 w.txn.0) (eqb x.private_to.0 w.txn.0)
      (ap (λ (o : TxnId). eqb o.0 w.txn.0) l.owner) l (hold_like w e x l)

  hand_out_like : (w : LookUp) {e x : Entry} {es xs : List Entry} → Like ts us e x → Matched (Like ts us) es xs
      → Matched (Like ts us) (hand_out ts w e es) (hand_out us w x xs)
  unfolding hand_out removes
  hand_out_like w {e} {x} l h =
      cond_both (Matched (Like ts us)) (removes w e) (removes w x)
      (ap (λ (o : TxnId). w.takes && eqb o.0 w.txn.0) l.owner)
      (matched_filter h (λ y. not (is_entry e y)) (λ y. not (is_entry x y)) (λ y z k. ap not (the_one y z k)))
      (matched_map h (Like ts us) (λ y. cond (is_entry e y) (marked ts w y) y)
      (λ y. cond (is_entry x y) (marked us w y) y)
      (λ y z k. cond_both (Like ts us) (is_entry e y) (is_entry x z) (the_one y z k) (marked_like w y z k) k))
    where
      the_one : (y z : Entry) → Like ts us y z → is_entry e y ≡ is_entry x z
      the_one y z k = ap₂ (λ (a b : Kept). eqb a.number b.number) k.kept l.kept

  released_like : (t : ℕ) (e x : Entry) → Like ts us e x
      → Like (without_txn t ts) (without_txn t us) (released ts t e) (released us t x)
  unfolding released
  released_like t e x l =
      record {
        kept = l.kept;
        owner = ap (λ (o : TxnId). cond (eqb o.0 t) no_txn o) l.owner;
        taker = ap (λ (o : TxnId). cond (eqb o.0 t) no_txn o) l.taker;
        writer = l.writer;
        held = held_gone p t l.held;
      }

-- the same entry is found
pub found-same : {ts us : List Txn} (w : LookUp) {e x : Entry} → Like ts us e x → found w e ≡ found w x
unfolding found
found-same w {e} {x} l =
    let number : e.id.0 ≡ x.id.0 = ap (λ k. k.number) l.kept in
    let fields : e.fields ≡ x.fields = ap (λ k. k.fields) l.kept in
    rw (number, fields)

-- service says the same
serves_alike : {k : ℕ} {ts us : List Txn} {es xs fs : List Entry} {ws left : List LookUp} {founds : List Record}
    → Peers k ts us
    → Matched (Like ts us) es xs → Serves ts es ws founds left fs
    → (ys : List Entry) × Serves us xs ws founds left ys × Matched (Like ts us) fs ys
serves_alike {xs = xs} p h (gone_through es) = (xs, gone_through xs, h)
serves_alike {us = us} {xs = xs} p h (is_found w e {ws = ws} {left} {founds} o s) =
    let x = h.forth e o.stored in
    let r = serves_alike p (hand_out_like p w x.2 h) s in (
      r.0,
      subst⁻¹ (λ (a : Record). Serves us xs (w ∷ ws) (a ∷ founds) left r.0) (found-same w x.2)
          (is_found w x.0 (oldest_forth p h w x.2 x.1 o) r.1),
      r.2,
    )
serves_alike p h (waits_on w q s) =
    let r = serves_alike p h s in (r.0, waits_on w (sym (available_in p h w) ∙ q) r.1, r.2)

-- ---- whole spaces

-- all but the entries and the transactions
abbrev pub rest : Model → Model
rest m = with_entries [] (with_txns [] m)

pub record Twins (m n : Model) : Type 0 where
  pub same : rest m ≡ rest n
  pub peers : Peers m.next_txn m.txns n.txns
  pub entries : Matched (Like m.txns n.txns) m.entries n.entries

-- ---- what is made public is the same, where each entry is stored once

pub no_more : {R : Entry → Entry → Type 0} (es xs : List Entry) → ((e x : Entry) → R e x → e.id.0 ≡ x.id.0)
    → distinct (map (λ (e : Entry). e.id.0) es) ≡ true
    → ((e : Entry) → Memᴰ e es → (x : Entry) × Memᴰ x xs × R e x) → length es ≤ length xs
no_more es xs same d h =
    omega (
      arith,
      length-map es (λ (e : Entry). e.id.0),
      cover (λ (e : Entry). e.id.0) (map (λ (e : Entry). e.id.0) es) xs d
          (λ p i. let e = Memᴰ.of_map (λ (e : Entry). e.id.0) es i in
          let x = h e.0 e.1 in
          mem_any (λ (y : Entry). eqb y.id.0 p) x.1
          (eq-eqb x.0.id.0 p (sym (same e.0 x.0 x.2) ∙ e.2))),
    )

abbrev Once : Model → Type 0
Once m = distinct (map (λ (e : Entry). e.id.0) m.entries) ≡ true

public_same : (f : Frame) {m n : Model} → Twins m n → Once m → Once n → (g : Registration)
    → matching (made_public m f) g ≡ matching (made_public n f) g
unfolding made_public matching new_entry
public_same f {m} {n} t a b g = go (is_write f.op) (eqb f.txn 0 && not (eqb f.lease_or_timeout 0))
    (is_commit f.op)
  where
    asked : Entry → Bool
    asked e = matches g.mask g.fields e.fields

    own : Entry → Bool
    own e = is_private_to f.txn e && not (is_taken_by f.txn e)

    number : Entry → ℕ
    number e = e.id.0

    both : Matched (Like m.txns n.txns) (filterb asked (filterb own m.entries))
        (filterb asked (filterb own n.entries))
    both =
        matched_filter (matched_filter t.entries own own
        (λ e x l. ap₂ (λ (o q : TxnId). eqb o.0 f.txn && not (eqb q.0 f.txn)) l.owner l.taker))
        asked asked (λ e x l. ap (λ (k : Kept). matches g.mask g.fields k.fields) l.kept)

    once : (k : Model) → Once k → distinct (map number (filterb asked (filterb own k.entries))) ≡ true
    once k d = distinct_filter number asked (filterb own k.entries) (distinct_filter number own k.entries d)

    committed : length (filterb asked (filterb own m.entries)) ≡ length (filterb asked (filterb own n.entries))
    committed =
        let there =
        no_more (filterb asked (filterb own m.entries)) (filterb asked (filterb own n.entries))
        (λ e x l. ap (λ (k : Kept). k.number) l.kept) (once m a) both.forth in
        let back =
        no_more (filterb asked (filterb own n.entries)) (filterb asked (filterb own m.entries))
        (λ x e l. sym (ap (λ (k : Kept). k.number) l.kept)) (once n b) both.back in
        omega arith

    written : length (filterb asked (new_entry m f ∷ [])) ≡ length (filterb asked (new_entry n f ∷ []))
    written = one (matches g.mask g.fields (mark_of f.mask f.fields))
      where
        one : (b : Bool) → length (cond b (new_entry m f ∷ []) []) ≡ length (cond b (new_entry n f ∷ []) [])
        one true = refl
        one false = refl

    go : (w p c : Bool)
        → length (filterb asked (cond w (cond p (new_entry m f ∷ []) []) (cond c (filterb own m.entries) [])))
        ≡ length (filterb asked (cond w (cond p (new_entry n f ∷ []) []) (cond c (filterb own n.entries) [])))
    go true true c = written
    go true false c = refl
    go false p true = committed
    go false p false = refl

-- so registrations hear of the same, and give the same records
heard-same : (es xs : List Entry) → ((g : Registration) → matching es g ≡ matching xs g) → (gs : List Registration)
    → map (hearing es) gs ≡ map (hearing xs) gs
unfolding hearing
heard-same es xs h [] = refl
heard-same es xs h (g ∷ gs) =
    ap₂ {C = List Registration} (λ k l. with_total (g.total + k) g ∷ l) (h g) (heard-same es xs h gs)

heard_twins : (es xs : List Entry) → ((g : Registration) → matching es g ≡ matching xs g) → {m n : Model} → Twins m n
    → Twins (heard_of es m) (heard_of xs n)
unfolding heard_of
heard_twins es xs h {m} {n} t =
    record {
      same =
          ap (λ (k : Model). with_registrations (map (hearing es) k.registrations) k) t.same
          ∙ ap (λ gs. with_registrations gs (rest n)) (heard-same es xs h n.registrations);
      peers = t.peers;
      entries = t.entries;
    }

bells-same : (es xs : List Entry) → ((g : Registration) → matching es g ≡ matching xs g) → (gs : List Registration)
    → joined (map (bell es) gs) ≡ joined (map (bell xs) gs)
unfolding bell matching
bells-same es xs h [] = refl
bells-same es xs h (g ∷ gs) =
    ap₂ (λ (k : ℕ) (l : List Record). cond (eqb k 0) [] (rung k (with_total (g.total + k) g) ∷ []) ++ l) (h g)
    (bells-same es xs h gs)

stored_twins : (f : Frame) {m n : Model} → Twins m n → Twins (stored m f) (stored n f)
unfolding stored new_entry
stored_twins f {m} {n} t =
    record {
      same = ap (λ k. with_next_entry (k.next_entry + 1) k) t.same;
      peers = t.peers;
      entries =
          cond_both (Matched (Like m.txns n.txns)) (eqb f.lease_or_timeout 0) (eqb f.lease_or_timeout 0) refl
          t.entries
          (matched_snoc t.entries
          (record {
            kept = ap (λ k. kept_of (new_entry k f)) t.same;
            owner = refl;
            taker = refl;
            writer = refl;
            held = none-held m.txns n.txns;
          }));
    }

released_twins : (k : ℕ) {m n : Model} (p : Entry → Bool) → ((e x : Entry) → Like m.txns n.txns e x → p e ≡ p x)
    → Twins m n
    → Matched (Like (without_txn k m.txns) (without_txn k n.txns))
    (map (released m.txns k) (filterb p m.entries)) (map (released n.txns k) (filterb p n.entries))
released_twins k {m} {n} p h t =
    matched_map (matched_filter t.entries p p h) (Like (without_txn k m.txns) (without_txn k n.txns))
    (released m.txns k) (released n.txns k) (released_like t.peers k)

commit_twins : (k : ℕ) {m n : Model} → Twins m n → Twins (commit k m) (commit k n)
unfolding commit
commit_twins k t =
    record {
      same = t.same;
      peers = peers_without k t.peers;
      entries =
          released_twins k (λ e. not (is_taken_by k e)) (λ e x l. ap (λ (o : TxnId). not (eqb o.0 k)) l.taker) t;
    }

abort_twins : (k : ℕ) {m n : Model} → Twins m n → Twins (abort k m) (abort k n)
unfolding abort
abort_twins k t =
    record {
      same = ap (λ m. with_waits (filterb (λ (w : LookUp). not (eqb w.txn.0 k)) m.waits) m) t.same;
      peers = peers_without k t.peers;
      entries =
          released_twins k (λ e. not (is_private_to k e)) (λ e x l. ap (λ (o : TxnId). not (eqb o.0 k)) l.owner) t;
    }

tick_twins : {m n : Model} → Twins m n → Twins (tick m).model (tick n).model
unfolding tick unregistered
tick_twins t = record { same = ap (λ k. (tick k).model) t.same; peers = t.peers; entries = t.entries }

notify_twins : (f : Frame) {m n : Model} → Twins m n → Twins (notify m f).model (notify n f).model
unfolding notify new_registration
notify_twins f t = record { same = ap (λ k. (notify k f).model) t.same; peers = t.peers; entries = t.entries }

drop_twins : {m n : Model} → Twins m n → Twins (with_entries (entries_left m) m) (with_entries (entries_left n) n)
drop_twins {m} {n} t =
    record {
      same = t.same;
      peers = t.peers;
      entries =
          matched_filter t.entries (λ e. not (reached m.clock e.end)) (λ e. not (reached n.clock e.end))
          (λ e x l. ap₂ (λ (c : Model) (k : Kept). not (reached c.clock k.end)) t.same l.kept);
    }

-- what ends in a tick
abort_all_twins : (ts us : List Txn) → SameLive ts us → (m n : Model) → Twins m n
    → Twins (abort_all ts m) (abort_all us n)
unfolding abort_all
abort_all_twins =
    live_ind (λ ts us. (m n : Model) → Twins m n → Twins (abort_all ts m) (abort_all us n)) (λ m n t. t)
    (λ x y ts us q below m n t. below (abort x.id.0 m) (abort y.id.0 n)
    (subst (λ (l : LiveTold). Twins (abort x.id.0 m) (abort l.number n)) q (abort_twins x.id.0 t)))

exceptions-told : (ts us : List Txn) → SameLive ts us → map exception ts ≡ map exception us
unfolding exception
exceptions-told =
    live_ind (λ ts us. map exception ts ≡ map exception us) refl
    (λ x y ts us q below. ap₂ {C = List Record}
    (λ (l : LiveTold) (rs : List Record). plain kind_exception l.party l.number ∷ rs) q below)

module _ (f : Frame) {m n : Model} (t : Twins m n) where
  ended_same : SameLive (end_now m) (end_now n)
  ended_same =
      filter-live (λ (l : LiveTold). reached m.clock l.end) m.txns n.txns t.peers.live
      ∙ ap (λ (k : Model). map live_of (filterb (λ (x : Txn). reached k.clock x.end) n.txns)) t.same

  lapsed_twins : Twins (lapsed f m) (lapsed f n)
  lapsed_twins =
      cond_both Twins (is_tick f.op) (is_tick f.op) refl
      (drop_twins (abort_all_twins (end_now m) (end_now n) ended_same m n t)) t

  exceptions-same : exceptions f m ≡ exceptions f n
  exceptions-same =
      ap (λ (rs : List Record). cond (is_tick f.op) rs []) (exceptions-told (end_now m) (end_now n) ended_same)

service_twins : {f : Frame} {m n : Model} {founds : List Record} {left : List LookUp} {es : List Entry} → Twins m n
    → Service f m founds left es
    → (xs : List Entry) × Service f n founds left xs × Matched (Like m.txns n.txns) es xs
service_twins {n = n} {founds} {left} t (follows s h) =
    let r = serves_alike t.peers t.entries h in (
      r.0,
      follows s (subst (λ (k : Model). Serves n.txns n.entries k.waits founds left r.0) t.same r.1),
      r.2,
    )
service_twins {f} {n = n} t (follows_not s) = (
  n.entries,
  subst⁻¹ (λ (k : Model). Service f n [] k.waits n.entries) t.same (follows_not s),
  t.entries,
)

-- the same look-ups are given nothing
nothings-same : {m n : Model} {es xs : List Entry} → Twins m n → Matched (Like m.txns n.txns) es xs
    → (left : List LookUp) → nothings m es left ≡ nothings n xs left
nothings-same {m} {n} {es} {xs} t h left =
    ap (map nothing)
    (filter_same (given_nothing m es) (given_nothing n xs)
    (λ w. ap₂ (λ (k : Model) b. reached k.clock w.deadline || w.if_exists && not b) t.same
    (conflicts_in t.peers h w)) left)

ends_twins : {f : Frame} {m n : Model} {rs : List Record} → Twins m n → Ends f m rs → Ends f n rs
ends_twins {f} {m} {n} t (in_order {founds} {left} s) =
    let r = service_twins (lapsed_twins f t) s in
    subst⁻¹ (Ends f n)
    (ap₂ (λ (x y : List Record). x ++ founds ++ y) (exceptions-same f t) (nothings-same (lapsed_twins f t) r.2 left))
    (in_order r.1)

-- a frame's own part
module _ (f : Frame) {m n : Model} (t : Twins m n) where
  pub asks-same : look_up_of m f ≡ look_up_of n f
  unfolding look_up_of
  asks-same = ap (λ k. look_up_of k f) t.same

  pub some_same : some_available m.txns (look_up_of m f) m.entries
      ≡ some_available n.txns (look_up_of n f) n.entries
  some_same =
      available_in t.peers t.entries (look_up_of m f) ∙ ap (λ w. some_available n.txns w n.entries) asks-same

  pub gives_same : gives_nothing m (look_up_of m f) f.lease_or_timeout
      ≡ gives_nothing n (look_up_of n f) f.lease_or_timeout
  unfolding gives_nothing
  gives_same =
      ap₂ (λ (b : Bool) (w : LookUp). eqb f.lease_or_timeout 0 || w.if_exists && not b)
      (conflicts_in t.peers t.entries (look_up_of m f) ∙ ap (λ w. some_conflicts n.txns w n.entries) asks-same)
      asks-same

  vain_same : in_vain f m ≡ in_vain f n
  unfolding gives_nothing look_up_of
  vain_same = gives_same

renamed : {f : Frame} {m n : Model} {a b : Record} → a ≡ b → Own f m b n → Own f m a n
renamed {f} {m} {n} q o = subst⁻¹ (λ r. Own f m r n) q o

-- a transaction more, at a slot that is free in both: it holds nothing yet
module _ {ts us : List Txn} {x y : Txn} (p : Peers x.id.0 ts us) (same : live_of x ≡ live_of y)
    (free : All (λ t. t.slot ≡ x.slot → ⊥) ts) (free' : All (λ t. t.slot ≡ y.slot → ⊥) us) where
  numbers : x.id.0 ≡ y.id.0
  numbers = ap (λ (l : LiveTold). l.number) same

  peers_snoc : Peers (x.id.0 + 1) (ts ++ (x ∷ [])) (us ++ (y ∷ []))
  peers_snoc =
      record {
        counted = omega arith;
        ok = txns_snoc x ts p.counted free p.ok;
        ok' =
            subst⁻¹ (λ n. TxnsOk (n + 1) (us ++ (y ∷ []))) numbers
            (txns_snoc y us (subst (λ n. 0 < n) numbers p.counted) free'
            (subst (λ n. TxnsOk n us) numbers p.ok'));
        live =
            live_ind (λ ts us. SameLive (ts ++ (x ∷ [])) (us ++ (y ∷ [])))
            (ap {B = List LiveTold} (λ l. l ∷ []) same)
            (λ a b ts us q below. ap₂ {C = List LiveTold} (λ l ls. l ∷ ls) q below) ts us p.live;
      }

  held_snoc : {r q : ℕ} → Held ts us r q → Held (ts ++ (x ∷ [])) (us ++ (y ∷ [])) r q
  held_snoc {r} {q} h =
      record {
        bits = λ a b i j.
            all_snoc {Q = λ a. All (λ b. a.id.0 ≡ b.id.0 → bit a.slot r ≡ bit b.slot q) (us ++ (y ∷ []))} ts
            (λ a i. all_snoc us (λ b j. h.bits a b i j)
            (λ e. absurd (let l = p.ok.below a i in let n = numbers in omega arith)))
            (all_snoc us (λ b j e. absurd (let l = p.ok'.below b j in omega arith))
            (λ e. not_so (bit x.slot r) (λ t. let z = h.live x.slot t in free z.0 z.1 z.2)
            ∙ sym (not_so (bit y.slot q) (λ t. let z = h.live' y.slot t in free' z.0 z.1 z.2))))
            a i b j;
        live = λ k t. let z = h.live k t in (z.0, Memᴰ.append_left (x ∷ []) z.1, z.2);
        live' = λ k t. let z = h.live' k t in (z.0, Memᴰ.append_left (y ∷ []) z.1, z.2);
      }

  entries_snoc : {es xs : List Entry} → Matched (Like ts us) es xs
      → Matched (Like (ts ++ (x ∷ [])) (us ++ (y ∷ []))) es xs
  entries_snoc h =
      matched_so h (Like (ts ++ (x ∷ [])) (us ++ (y ∷ [])))
      (λ e u l. record {
        kept = l.kept;
        owner = l.owner;
        taker = l.taker;
        writer = l.writer;
        held = held_snoc
            l.held;
      })

create_twins : (f : Frame) {m n : Model} → Twins m n → length m.txns < max_txns → length n.txns < max_txns
    → Twins (create m f).model (create n f).model
unfolding create
create_twins f {m} {n} t r r' =
    let told : Model → LiveTold =
    λ k. record { number = k.next_txn; party = f.party; end = until k.clock f.lease_or_timeout } in
    let new : live_of (new_txn m f) ≡ live_of (new_txn n f) = ap told t.same in
    let free = slot_free m.txns r in
    let free' = slot_free n.txns r' in
    record {
      same = ap (λ k. with_next_txn (k.next_txn + 1) k) t.same;
      peers = peers_snoc t.peers new free free';
      entries = entries_snoc t.peers new free free' t.entries;
    }

renew_twins : (f : Frame) {m n : Model} → Twins m n → Twins (renew m f).model (renew n f).model
unfolding renew renew_entries
renew_twins f {m} {n} t =
    let k = entry_named f in
    let clock : m.clock ≡ n.clock = ap (λ (j : Model). j.clock) t.same in
    let end : Model → Until = λ j. until j.clock f.lease_or_timeout in
    let same : (e x : Entry) → Like m.txns n.txns e x → has_number k e ≡ has_number k x =
    λ e x l. ap (λ (j : Kept). eqb j.number k) l.kept in
    record {
      same = t.same;
      peers = t.peers;
      entries =
          cond_both (Matched (Like m.txns n.txns)) (eqb f.lease_or_timeout 0) (eqb f.lease_or_timeout 0) refl
          (matched_filter t.entries (λ e. not (has_number k e)) (λ e. not (has_number k e))
          (λ e x l. ap not (same e x l)))
          (matched_map t.entries (Like m.txns n.txns) (λ e. cond (has_number k e) (ending_at (end m) e) e)
          (λ e. cond (has_number k e) (ending_at (end n) e) e)
          (λ e x l. cond_both (Like m.txns n.txns) (has_number k e) (has_number k x) (same e x l)
          (record {
            kept = ap₂ (λ (j : Kept) (c : ℕ). kept_to (until c f.lease_or_timeout) j) l.kept clock;
            owner = l.owner;
            taker = l.taker;
            writer = l.writer;
            held = l.held;
          }) l));
    }

-- there is room for a transaction, if the frame creates one
abbrev pub Roomy : Frame → Model → Type 0
Roomy f m = is_create f.op ≡ true → length m.txns < max_txns

own_twins : {f : Frame} {m n m' : Model} {a : Record} → Twins m n → Once m → Once n → Roomy f m → Roomy f n
    → Own f m a m'
    → (n' : Model) × Own f n a n' × Twins m' n'
own_twins {f} {m} {n} t c d r r' (writes o) = (
  _,
  renamed (ap (λ (k : Model). written f k.next_entry) t.same) (writes o),
  heard_twins (made_public m f) (made_public n f) (public_same f t c d) (stored_twins f t),
)
own_twins {f} {m} {n} t c d r r' (finds e l o) =
    let x = t.entries.forth e o.stored in
    let first = oldest_forth t.peers t.entries (look_up_of m f) x.2 x.1 o in (
      _,
      renamed (found-same (look_up_of m f) x.2 ∙ ap (λ w. found w x.0) (asks-same f t))
          (finds x.0 l (subst (λ w. Oldest n.txns w n.entries x.0) (asks-same f t) first)),
      record {
        same = t.same;
        peers = t.peers;
        entries =
            subst
            (λ w. Matched (Like m.txns n.txns) (hand_out m.txns (look_up_of m f) e m.entries)
            (hand_out n.txns w x.0 n.entries))
            (asks-same f t) (hand_out_like t.peers (look_up_of m f) x.2 t.entries);
      },
    )
own_twins {f} {m} {n} t c d r r' (finds_none o u g) = (
  n,
  renamed (ap nothing (asks-same f t)) (finds_none o (sym (some_same f t) ∙ u) (sym (vain_same f t) ∙ g)),
  t,
)
own_twins {f} t c d r r' (waits o u g) = (
  _,
  renamed (ap waiting (asks-same f t)) (waits o (sym (some_same f t) ∙ u) (sym (vain_same f t) ∙ g)),
  record {
    same = ap₂ (λ (k : Model) (w : LookUp). with_waits (k.waits ++ (w ∷ [])) k) t.same (asks-same f t);
    peers = t.peers;
    entries = t.entries;
  },
)
own_twins {f} t c d r r' (creates o) = (
  _,
  renamed (ap (λ (k : Model). created f k.next_txn) t.same) (creates o),
  create_twins f t (r o) (r' o),
)
own_twins {f} {m} {n} t c d r r' (commits o) =
    (_, commits o, heard_twins (made_public m f) (made_public n f) (public_same f t c d) (commit_twins f.txn t))
own_twins {f} t c d r r' (aborts o) = (_, aborts o, abort_twins f.txn t)
own_twins {f} t c d r r' (renews o) = (_, renews o, renew_twins f t)
own_twins {f} t c d r r' (notifies o) =
    (_, renamed (ap (λ (k : Model). notified f k.next_registration) t.same) (notifies o), notify_twins f t)
own_twins t c d r r' (ticks o) = (_, ticks o, tick_twins t)

pub said_twins : {f : Frame} {m n : Model} {rs : List Record} → Twins m n → Once m → Once n → Roomy f m → Roomy f n
    → Said f m rs → Said f n rs
said_twins {f} {m} {n} t c d r r' (own_first {own} {rest = rest} o e) =
    let k = own_twins t c d r r' o in
    let same : bells f m ≡ bells f n =
    bells-same (made_public m f) (made_public n f) (public_same f t c d) m.registrations
    ∙ ap (λ (j : Model). joined (map (bell (made_public n f)) j.registrations)) t.same in
    subst⁻¹ (λ l. Said f n (own ∷ rest ++ l)) same (own_first k.1 (ends_twins k.2 e))
