-- A record for each row that passes a test, one after another.
use Prim.Native.Nat.{ℕ, ◌*◌, ◌≤◌}
use mathlib.Core.Bool.{Bool, true, false, cond}
use mathlib.Core.Path.{◌≡◌, refl, sym, ◌∙◌, subst}
use mathlib.Core.List.{List, [], ◌∷◌, ◌++◌, map}
use lib.ListN.{length}
use Rattle.std.specs.Prelude.{Option, Some, None}
use Rattle.std.proofs.lemmas.Option.{none-some}
use Rattle.rules.specs.declared.Record.{Record}
use Rattle.rules.specs.Lists.{filterb}
use Rattle.rules.specs.Numbers.{record_size}
use Rattle.tables.proofs.CompactLaws.{more_kept, more_passed}
use Rattle.finish.specs.Does.{Adds}
use Rattle.finish.proofs.AddsLaws.{adds_then}

-- of the rows xs each that passes q has its record; one more is gone through, which gets no record, or one
module _ {A : Type 0} (q : A → Bool) (answer : A → Record) {a₀ a : List ℕ} {c d : ℕ} (xs : List A)
    (h : Adds (map answer (filterb q xs)) a₀ a c d) {x : A} where
  pub over_passed : q x ≡ false → Adds (map answer (filterb q (xs ++ (x ∷ [])))) a₀ a c d
  over_passed t = rw (more_passed q answer xs x t) h

  pub over-more : {a' : List ℕ} {d' : ℕ} {r : Record} → q x ≡ true → r ≡ answer x → record_size * c ≤ length a₀
      → Adds (r ∷ []) a a' d d' → Adds (map answer (filterb q (xs ++ (x ∷ [])))) a₀ a' c d'
  over-more {a' = a'} {d' = d'} t s room p =
      rw (more_kept q answer xs x t) (adds_then room h (subst (λ y. Adds (y ∷ []) a a' d d') s p))

-- what is given where the test says so
pub none_given : {A : Type 0} (b : Bool) (x : A) {r : Option A} → r ≡ None → r ≡ cond b (Some x) None → b ≡ false
none_given true x n e = absurd (none-some x (sym n ∙ e))
none_given false x n e = refl

pub one_given : {A : Type 0} (b : Bool) (x : A) {r : Option A} {y : A} → r ≡ Some y → r ≡ cond b (Some x) None
    → (b ≡ true) × (y ≡ x)
one_given {A} true x {y = y} s e = let same : y ≡ x = cc in (refl, same)
one_given {A} false x {y = y} s e = absurd (none-some y (sym e ∙ s))
