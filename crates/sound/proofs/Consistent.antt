-- What holds of every space that frames make of the empty one, and in the midst of a step.
use Prim.Native.Nat.{ℕ, ◌+◌, ◌≤◌, ◌<◌, zero-le}
use mathlib.Core.Bool.{Bool, true, false, not}
use mathlib.Core.Logic.{◌⊎◌, inl, inr, ⊎_elim}
use mathlib.Core.Path.{◌≡◌, refl, sym, ap, ◌∙◌}
use mathlib.Core.Option.{none, some}
use mathlib.Core.List.Memᴰ
use mathlib.Core.List.{List, [], ◌∷◌, ◌++◌, Memᴰ}
use native.Mathlib.Omega.{arith}
use borrow.Author.Tests.{eqb-true, eqb-false, ne_eqb, not-true, not-false}
use lib.Dec.{eqb}
use lib.ListN.{length}
use Rattle.rules.specs.declared.Entry.{Entry}
use Rattle.rules.specs.declared.Txn.{Txn}
use Rattle.rules.specs.Numbers.{max_txns}
use Rattle.rules.specs.Lists.{filterb, anyb, findb, distinct, All}
use Rattle.rules.specs.State.{Model}
use Rattle.rules.specs.Frame.{Frame, is_abort}
use Rattle.rules.specs.Sound.{TxnsOk, Consistent, Live, Ok, LiveOf}
use Rattle.rules.specs.Transactions.{or_zero, free_slot}
use Rattle.rules.proofs.ListLaws.{count_mem, length_split, mem_filter, filter_mem, any_mem, mem_any, none_mem}
use Rattle.rules.proofs.ListLaws.{find_some, find_none}
use Rattle.rules.proofs.BoolLaws.{and_left, and_right, option_cases}
use Rattle.sound.proofs.AllLaws.{all_snoc}
use Rattle.sound.proofs.AscendingLaws.{ascend_unique}
use Rattle.sound.proofs.Events.{Admitted}

-- two entries with one number are one
pub unique-entry : {m : Model} → Consistent m → {a b : Entry} → Memᴰ a m.entries → Memᴰ b m.entries
    → a.id.0 ≡ b.id.0 → a ≡ b
unique-entry s i j q = ascend_unique (λ (e : Entry). e.id.0) s.ordered.entries i j q

-- the number of a live transaction is above 0 and below the next
pub live-above : {m : Model} → Consistent m → {t : ℕ} → Live t m.txns → 0 < t
live-above s l = let b = s.txns_ok.above l.0 l.1 in let q = l.2 in omega arith

pub ok-below : {m : Model} → Consistent m → {t : ℕ} → Ok t m.txns → t < m.next_txn
ok-below s (inl z) = let p = s.positive in omega arith
ok-below s (inr l) = let b = s.txns_ok.below l.0 l.1 in let q = l.2 in omega arith

-- who waits inside a live transaction is its owner
pub owner_inside : {m : Model} → Consistent m → {t party : ℕ} → LiveOf t party m.txns
    → All (λ w. w.txn.0 ≡ t → w.party ≡ party) m.waits
owner_inside s y w i q =
    ⊎_elim (λ n. let z = live-above s (y.0, y.1, y.2) in omega arith)
    (λ x. sym x.3 ∙ ap (λ (v : Txn). v.party)
    (s.txns_ok.unique x.0 y.0 x.1 y.1 (x.2 ∙ q ∙ sym y.2)) ∙ y.3) (s.owned w i)

-- nobody waits inside the transaction of a frame that is not refused, unless it is an abort
pub not_inside : {m : Model} {f : Frame} → Consistent m → Admitted f m → is_abort f.op ≡ false
    → LiveOf f.txn f.party m.txns
    → All (λ w. w.txn.0 ≡ f.txn → ⊥) m.waits
not_inside s a t y w i q = a.free t w i (owner_inside s y w i q)

-- numbers that are all in use are of as many elements at least
pub cover : {A : Type 0} (number : A → ℕ) (ps : List ℕ) (xs : List A) → distinct ps ≡ true
    → ((p : ℕ) → Memᴰ p ps → anyb (λ x. eqb (number x) p) xs ≡ true) → length ps ≤ length xs
unfolding distinct
cover number [] xs d h = zero-le
cover {A} number (p ∷ ps) xs d h =
    let other : A → Bool = λ x. not (eqb (number x) p) in
    let rest =
    cover number ps (filterb other xs) (and_right (not (anyb (eqb p) ps)) (distinct ps) d)
    (λ q i. again q i (any_mem _ xs (h q (Memᴰ.tail i)))) in
    let r = any_mem _ xs (h p (Memᴰ.head refl)) in
    let one = count_mem (λ x. eqb (number x) p) r.1 r.2 in
    omega (arith, length_split (λ x. eqb (number x) p) xs)
  where
    apart : (q : ℕ) → Memᴰ q ps → q ≡ p → ⊥
    apart q i e =
        eqb-false p q (none_mem (eqb p) (not-true _ (and_left (not (anyb (eqb p) ps)) (distinct ps) d)) i) (sym e)

    again : (q : ℕ) → Memᴰ q ps → ((x : A) × Memᴰ x xs × (eqb (number x) q ≡ true))
        → anyb (λ x. eqb (number x) q) (filterb (λ x. not (eqb (number x) p)) xs) ≡ true
    again q i r =
        let d = ne_eqb (number r.0) p (λ z. apart q i (sym (eqb-true (number r.0) q r.2) ∙ z)) in
        mem_any (λ x. eqb (number x) q) (filter_mem (λ x. not (eqb (number x) p)) r.1 (ap not d)) r.2

eight : List ℕ
eight = 0 ∷ 1 ∷ 2 ∷ 3 ∷ 4 ∷ 5 ∷ 6 ∷ 7 ∷ []

pub slot_free : (ts : List Txn) → length ts < max_txns → All (λ t. t.slot ≡ free_slot ts → ⊥) ts
unfolding free_slot eight distinct
slot_free ts h t i = go (option_cases (findb used eight))
  where
    used : ℕ → Bool
    used p = not (anyb (λ (x : Txn). eqb x.slot p) ts)

    go : (findb used eight ≡ none) ⊎ ((p : ℕ) × (findb used eight ≡ some p)) → t.slot ≡ or_zero (findb used eight) → ⊥
    go (inl e) q =
        let l : 8 ≤ length ts = cover (λ (x : Txn). x.slot) eight ts refl (λ p j. not-false _ (find_none used e j)) in
        omega arith
    go (inr r) q =
        let f : anyb (λ (x : Txn). eqb x.slot r.0) ts ≡ false = not-true _ (find_some used eight r.1).1 in
        eqb-false t.slot r.0 (none_mem _ f i) (q ∙ ap or_zero r.1)

-- transactions that end, and a new one
pub txns-filter : (n : ℕ) (p : Txn → Bool) (ts : List Txn) → TxnsOk n ts → TxnsOk n (filterb p ts)
txns-filter n p ts h =
    record {
      unique = λ a b i j e. h.unique a b (mem_filter p ts i).0 (mem_filter p ts j).0 e;
      slot = λ a b i j e. h.slot a b (mem_filter p ts i).0 (mem_filter p ts j).0 e;
      above = λ a i. h.above a (mem_filter p ts i).0;
      below = λ a i. h.below a (mem_filter p ts i).0;
    }

-- no two have one number
abbrev Unique : {A : Type 0} → (A → ℕ) → List A → Type 0
Unique {A} number xs = (a b : A) → Memᴰ a xs → Memᴰ b xs → number a ≡ number b → a ≡ b

unique_snoc : {A : Type 0} (number : A → ℕ) (xs : List A) (x : A) → All (λ y. number y ≡ number x → ⊥) xs
    → Unique number xs → Unique number (xs ++ (x ∷ []))
unique_snoc number xs x new h a b i j q =
    ⊎_elim (λ k. ⊎_elim (λ l. h a b k l q) (λ l. absurd (new a k (q ∙ ap number (Memᴰ.eq_of_singleton l))))
    (Memᴰ.append_cases xs j)) (λ k. let e = Memᴰ.eq_of_singleton k in
    ⊎_elim (λ l. absurd (new b l (sym q ∙ ap number e))) (λ l. e ∙ sym (Memᴰ.eq_of_singleton l))
    (Memᴰ.append_cases xs j)) (Memᴰ.append_cases xs i)

pub txns_snoc : (x : Txn) (ts : List Txn) → 0 < x.id.0 → All (λ t. t.slot ≡ x.slot → ⊥) ts → TxnsOk x.id.0 ts
    → TxnsOk (x.id.0 + 1) (ts ++ (x ∷ []))
txns_snoc x ts z f h =
    record {
      unique = unique_snoc (λ (t : Txn). t.id.0) ts x (λ t i q. let l = h.below t i in omega arith) h.unique;
      slot = unique_snoc (λ (t : Txn). t.slot) ts x f h.slot;
      above = all_snoc ts h.above z;
      below = all_snoc ts (λ t i. let l = h.below t i in omega arith) (omega arith);
    }
