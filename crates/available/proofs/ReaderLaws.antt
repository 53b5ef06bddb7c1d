-- What the code does to read holders by the slot of a live transaction is what the rules do by its number.
use Prim.Native.Nat.{ℕ, zero, suc, ◌-◌, ◌^◌, ◌<◌, ◌≤◌}
use mathlib.Core.Bool.{Bool, true, false, not, ◌&&◌}
use mathlib.Core.Option.{Option, none, some}
use mathlib.Core.Path.{◌≡◌, refl, sym, ap, ◌∙◌, fun_ext, subst}
use mathlib.Core.List.{List, [], ◌∷◌, ◌++◌}
use native.Mathlib.Omega.{arith}
use borrow.Author.Tests.{ne_eqb, eqb-true, not-false}
use lib.Dec.{eqb}
use Rattle.rules.specs.declared.Txn.{Txn}
use Rattle.rules.specs.Lists.{findb}
use Rattle.rules.specs.Numbers.{max_txns}
use Rattle.rules.specs.Template.{bit}
use Rattle.rules.specs.Holds.{live_txn, drop_reader, add_reader_of, drop_reader_of}
use Rattle.rules.specs.Words.{up_to, txn_of, txn_count, txns, view}
use Rattle.rules.proofs.BoolLaws.{cond_cases}
use Rattle.tables.specs.Rows.{txn_row}
use Rattle.tables.proofs.SearchLaws.{find_append-none, find_append_some}
use Rattle.available.specs.Live.{no_slot, slot_of}
use Rattle.available.specs.Readers.{add_at, drop_at, left_over}

-- ---- a live transaction's slot is one of eight
abbrev pub LowSlot : Option Txn → Type 0
LowSlot none = Unit {0}
LowSlot (some t) = t.slot < max_txns

module _ (p : Txn → Bool) where
  last-low : (t : Txn) → t.slot < max_txns → (o : Option Txn) → LowSlot o → (xs : List Txn) → findb p xs ≡ o
      → LowSlot (findb p (xs ++ (t ∷ [])))
  last-low t h none l xs e =
      subst LowSlot (sym (find_append-none p xs (t ∷ []) e)) (cond_cases LowSlot (p t) (λ q. h) (λ q. tt))
  last-low t h (some x) l xs e = subst LowSlot (sym (find_append_some p xs (t ∷ []) e)) l

  all-low : (f : ℕ → Txn) → ((k : ℕ) → (f k).slot < max_txns) → (n : ℕ) → LowSlot (findb p (up_to f n))
  all-low f h zero = tt
  all-low f h (suc n) = last-low (f n) (h n) (findb p (up_to f n)) (all-low f h n) (up_to f n) refl

pub live-low : (t : ℕ) (ws : List ℕ) → LowSlot (live_txn t (view ws).txns)
unfolding live_txn view txns txn_of
live-low t ws = all-low (λ x. eqb x.id.0 t) (txn_row ws) (λ k. omega arith) (txn_count ws)

pub low-slot : (o : Option Txn) → LowSlot o → slot_of o ≤ no_slot
low-slot none l = omega arith
low-slot (some t) l = omega arith

drop_of : (o : Option Txn) → LowSlot o → (r : ℕ) → drop_reader_of o r ≡ drop_at (slot_of o) r
drop_of none l r = refl
drop_of (some t) l r = rw (ne_eqb t.slot no_slot (λ e. omega arith))

add_of : (o : Option Txn) → LowSlot o → (r : ℕ) → add_reader_of o r ≡ add_at (slot_of o) r
add_of none l r = refl
add_of (some t) l r = rw (ne_eqb t.slot no_slot (λ e. omega arith))

-- ---- the slot p is that of the transaction t
module _ (ws : List ℕ) (t p : ℕ) (q : p ≡ slot_of (live_txn t (view ws).txns)) where
  pub drops : drop_reader_of (live_txn t (view ws).txns) ≡ drop_at p
  drops = fun_ext (drop_of (live_txn t (view ws).txns) (live-low t ws)) ∙ ap drop_at (sym q)

  pub adds : add_reader_of (live_txn t (view ws).txns) ≡ add_at p
  adds = fun_ext (add_of (live_txn t (view ws).txns) (live-low t ws)) ∙ ap add_at (sym q)

  -- whether a read hold of another is left
  pub left_over_lem : (readers : ℕ) → left_over (view ws).txns t readers ≡ not (eqb (drop_at p readers) 0)
  left_over_lem readers = ap (λ drop. not (eqb (drop readers) 0)) drops

-- of none, none is left
none_left : (ts : List Txn) (t : ℕ) → left_over ts t 0 ≡ false
unfolding drop_reader
none_left ts t = go (live_txn t ts)
  where
    go : (o : Option Txn) → not (eqb (drop_reader_of o 0) 0) ≡ false
    go none = refl
    go (some x) =
        let z : 0 - 2 ^ x.slot ≡ 0 = omega arith in
        cond_cases (λ n. not (eqb n 0) ≡ false) (bit x.slot 0) (λ e. rw z) (λ e. refl)

pub not_barred : (ts : List Txn) (t : ℕ) (takes : Bool) (readers : ℕ) → (takes && not (eqb readers 0)) ≡ false
    → (takes && left_over ts t readers) ≡ false
not_barred ts t true readers e = rw (eqb-true readers 0 (not-false _ e)) (none_left ts t)
not_barred ts t false readers e = refl
