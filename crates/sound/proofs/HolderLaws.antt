-- Read holders are live transactions' slots: what a hold more or less does to each holder.
use Prim.Native.Nat.{ℕ}
use mathlib.Core.Bool.{true, false, not, true≢false}
use mathlib.Core.Logic.{◌⊎◌, inl, inr, ⊎_elim}
use mathlib.Core.Path.{◌≡◌, refl, sym, ap, ◌∙◌}
use mathlib.Core.Option.{Option, none, some}
use mathlib.Core.List.{List, Memᴰ}
use borrow.Author.Tests.{eqb-true, eqb-false, ne_eqb}
use lib.Dec.{eqb}
use Rattle.rules.specs.declared.Txn.{Txn}
use Rattle.rules.specs.Template.{bit}
use Rattle.rules.specs.Holds.{live_txn, drop_reader, add_reader_of, drop_reader_of}
use Rattle.rules.specs.Transactions.{without_txn}
use Rattle.rules.specs.Sound.{Live, At, TxnsOk}
use Rattle.rules.proofs.ListLaws.{filter_mem, find_some, find_none}
use Rattle.rules.proofs.BoolLaws.{option_cases, cond_cases}
use Rattle.rules.proofs.ReaderLaws.{added, added_other, dropped, dropped_other, bit_of_zero}
use Rattle.sound.proofs.HoldLaws.{equal_or}

pub live_is : (t : ℕ) (ts : List Txn) (y : Txn) → live_txn t ts ≡ some y → Memᴰ y ts × (y.id.0 ≡ t)
unfolding live_txn
live_is t ts y q = let r = find_some (λ (z : Txn). eqb z.id.0 t) ts q in (r.0, eqb-true y.id.0 t r.1)

-- one whose number is another's is found by it
pub live-found : {n : ℕ} {ts : List Txn} → TxnsOk n ts → (x : Txn) → Memᴰ x ts → (t : ℕ) → x.id.0 ≡ t
    → live_txn t ts ≡ some x
unfolding live_txn
live-found {n} {ts} ok x i t q = go (option_cases (live_txn t ts))
  where
    go : (live_txn t ts ≡ none) ⊎ ((y : Txn) × (live_txn t ts ≡ some y)) → live_txn t ts ≡ some x
    go (inl e) = absurd (eqb-false x.id.0 t (find_none (λ (z : Txn). eqb z.id.0 t) e i) q)
    go (inr y) =
        let l = live_is t ts y.0 y.1 in
        y.1 ∙ ap {B = Option Txn} some (ok.unique y.0 x l.0 i (l.1 ∙ sym q))

-- a transaction ends: others live on
pub lives_on : (t : ℕ) (ts : List Txn) (x : Txn) → Memᴰ x ts → (x.id.0 ≡ t → ⊥) → Memᴰ x (without_txn t ts)
unfolding without_txn
lives_on t ts x i d = filter_mem (λ (y : Txn). not (eqb y.id.0 t)) i (ap not (ne_eqb x.id.0 t d))

pub stays-live : (t u : ℕ) (ts : List Txn) → (u ≡ t → ⊥) → Live u ts → Live u (without_txn t ts)
stays-live t u ts d l = (l.0, lives_on t ts l.0 l.1 (λ q. d (sym l.2 ∙ q)), l.2)

-- at any slot
module _ (r p : ℕ) where
  pub add-live : (t : ℕ) (ts : List Txn) → bit p (add_reader_of (live_txn t ts) r) ≡ true → (bit p r ≡ true) ⊎ At p ts
  add-live t ts = go (live_txn t ts) refl
    where
      go : (o : Option Txn) → live_txn t ts ≡ o → bit p (add_reader_of o r) ≡ true → (bit p r ≡ true) ⊎ At p ts
      go none q h = inl h
      go (some y) q h =
          ⊎_elim (λ e. inr (y, (live_is t ts y q).0, sym e)) (λ e. inl (sym (added_other p y.slot r e) ∙ h))
          (equal_or p y.slot)

  pub drop-live : (o : Option Txn) → bit p (drop_reader_of o r) ≡ true → bit p r ≡ true
  drop-live none h = h
  drop-live (some y) h =
      ⊎_elim (λ e. absurd (true≢false (sym h ∙ ap (λ k. bit k (drop_reader y.slot r)) e ∙ dropped y.slot r)))
      (λ e. sym (dropped_other p y.slot r e) ∙ h) (equal_or p y.slot)

-- nobody's hold is dropped
pub drop-none : (o : Option Txn) → drop_reader_of o 0 ≡ 0
unfolding drop_reader
drop-none none = refl
drop-none (some x) =
    cond_cases (λ k. k ≡ 0) (bit x.slot 0) (λ e. absurd (true≢false (sym e ∙ bit_of_zero x.slot))) (λ _. refl)

-- at the slot of a live one: its own hold is added and dropped, another's stays
module _ {n : ℕ} {ts : List Txn} (ok : TxnsOk n ts) (x : Txn) (i : Memᴰ x ts) (t r : ℕ) where
  pub add-own : x.id.0 ≡ t → bit x.slot (add_reader_of (live_txn t ts) r) ≡ true
  add-own q = ap (λ (o : Option Txn). bit x.slot (add_reader_of o r)) (live-found ok x i t q) ∙ added x.slot r

  pub drop_own : x.id.0 ≡ t → bit x.slot (drop_reader_of (live_txn t ts) r) ≡ false
  drop_own q = ap (λ (o : Option Txn). bit x.slot (drop_reader_of o r)) (live-found ok x i t q) ∙ dropped x.slot r

  apart : (y : Txn) → live_txn t ts ≡ some y → (x.id.0 ≡ t → ⊥) → x.slot ≡ y.slot → ⊥
  apart y q d e = let l = live_is t ts y q in d (ap (λ (z : Txn). z.id.0) (ok.slot x y i l.0 e) ∙ l.1)

  pub add_other : (x.id.0 ≡ t → ⊥) → bit x.slot (add_reader_of (live_txn t ts) r) ≡ bit x.slot r
  add_other d = go (live_txn t ts) refl
    where
      go : (o : Option Txn) → live_txn t ts ≡ o → bit x.slot (add_reader_of o r) ≡ bit x.slot r
      go none q = refl
      go (some y) q = added_other x.slot y.slot r (apart y q d)

  pub drop_other : (x.id.0 ≡ t → ⊥) → bit x.slot (drop_reader_of (live_txn t ts) r) ≡ bit x.slot r
  drop_other d = go (live_txn t ts) refl
    where
      go : (o : Option Txn) → live_txn t ts ≡ o → bit x.slot (drop_reader_of o r) ≡ bit x.slot r
      go none q = refl
      go (some y) q = dropped_other x.slot y.slot r (apart y q d)

-- a transaction ends: the holds that are left are of those that live on
pub freed_at : {n : ℕ} {ts : List Txn} → TxnsOk n ts → (t r p : ℕ) → (bit p r ≡ true → At p ts)
    → bit p (drop_reader_of (live_txn t ts) r) ≡ true → At p (without_txn t ts)
freed_at {n} {ts} ok t r p h b =
    let x = h (drop-live r p (live_txn t ts) b) in
    let here : bit x.0.slot (drop_reader_of (live_txn t ts) r) ≡ true = rw x.2 b in
    (x.0, lives_on t ts x.0 x.1 (λ q. true≢false (sym here ∙ drop_own ok x.0 x.1 t r q)), x.2)
