-- The slots of the live transactions, as bits.
use Prim.Native.Nat.{ℕ, ◌+◌, ◌<◌}
use mathlib.Core.Bool.{Bool, not, cond, ◌||◌, or-false, or-true}
use mathlib.Core.Logic.{⊎_elim}
use mathlib.Core.List.{List, [], ◌∷◌}
use mathlib.Core.Path.{◌≡◌, refl, sym, ap, ap₂, ◌∙◌}
use native.Mathlib.Omega.{arith}
use native.Mathlib.Numerals.{add-one}
use borrow.Author.Tests.{ne_eqb, eqb-true, eqb-false}
use lib.Dec.{eqb}
use Rattle.std.specs.Prelude.{Option, Some, None, unwrap_or}
use Rattle.rules.specs.declared.Txn.{Txn}
use Rattle.rules.specs.Lists.{anyb}
use Rattle.rules.specs.Template.{bit}
use Rattle.rules.specs.Holds.{add_reader}
use Rattle.rules.specs.Transactions.{or_zero}
use Rattle.rules.specs.Words.{up_to, txn_of}
use Rattle.rules.proofs.BoolLaws.{bool_cases}
use Rattle.rules.proofs.ListLaws.{any_append}
use Rattle.rules.proofs.ReaderLaws.{added, added_other, bit_of_zero}
use Rattle.tables.proofs.SearchLaws.{Rows}
use Rattle.words.specs.Answers.{as_found}
use Rattle.available.specs.Live.{no_slot}
use Rattle.available.specs.Readers.{add_at}

-- the bits are the slots of the first i rows
pub record Used (f : ℕ → Txn) (used i : ℕ) : Type 0 where
  pub bits : (p : ℕ) → bit p used ≡ anyb (λ (t : Txn). eqb t.slot p) (up_to f i)

pub used_none : {f : ℕ → Txn} → Used f 0 0
used_none = record { bits = bit_of_zero }

-- one slot more: its bit is 1, the others stay
added-bit : (p q used : ℕ) → bit p (add_reader q used) ≡ (bit p used || eqb q p)
added-bit p q used =
    ⊎_elim
    (λ e. let s = eqb-true q p e in
    ap (λ k. bit p (add_reader k used)) s ∙ added p used ∙ sym (ap (λ b. bit p used || b) e ∙ or-true (bit p used)))
    (λ e. added_other p q used (λ s. eqb-false q p e (sym s))
    ∙ sym (ap (λ b. bit p used || b) e ∙ or-false (bit p used)))
    (bool_cases (eqb q p))

pub used_more : {f : ℕ → Txn} {used used' i : ℕ} {t : Txn} → Used f used i → t ≡ f i → (t.slot < no_slot)
    → used' ≡ add_at t.slot used → Used f used' (i + 1)
used_more {f} {used} {used'} {i} {t} u e l q =
    record {
      bits = λ p.
          rw (add-one i)
          (ap (bit p) (q ∙ ap (λ b. cond b used (add_reader t.slot used))
          (ne_eqb t.slot no_slot (λ s. omega arith)))
          ∙ added-bit p t.slot used
          ∙ ap₂ (λ a (x : Txn). a || eqb x.slot p) (u.bits p) e
          ∙ sym (any_append (λ (x : Txn). eqb x.slot p) (up_to f i) (f i ∷ [])
          ∙ ap (λ b. anyb (λ (x : Txn). eqb x.slot p) (up_to f i) || b) (or-false (eqb (f i).slot p))));
    }

pub used_all : {ts : List Txn} {f : ℕ → Txn} {used n i : ℕ} → Rows ts f n → Used f used i → i ≡ n → (p : ℕ)
    → bit p used ≡ anyb (λ (t : Txn). eqb t.slot p) ts
used_all {f = f} {used} r u e p =
    u.bits p ∙ ap (λ k. anyb (λ (t : Txn). eqb t.slot p) (up_to f k)) e
    ∙ ap (anyb (λ (t : Txn). eqb t.slot p)) (sym r.is)

-- a slot that is read from words is one of the eight
pub slot-low : (r : List ℕ) → (txn_of r).slot < no_slot
unfolding txn_of
slot-low r = omega arith

-- no live transaction has the slot
abbrev pub unused : List Txn → ℕ → Bool
unused ts p = not (anyb (λ (t : Txn). eqb t.slot p) ts)

pub or_zero_found : (r : Option ℕ) → unwrap_or r 0 ≡ or_zero (as_found r)
or_zero_found (Some p) = refl
or_zero_found None = refl
