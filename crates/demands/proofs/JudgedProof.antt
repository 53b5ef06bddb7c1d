-- Demand 1 over a step of the rules: the first row that applies, and what a refused frame leaves.
use Prim.Native.Nat.{ℕ, ◌≤◌, ◌<◌}
use mathlib.Core.Bool.{Bool, true, cond, ◌&&◌}
use mathlib.Core.Logic.{◌↔◌}
use mathlib.Core.Path.{◌≡◌, refl, sym, ap, ◌∙◌}
use mathlib.Core.List.{List, [], ◌∷◌, ◌++◌}
use native.Mathlib.Omega.{arith}
use borrow.Author.Tests.{eqb-true, eqb-false, eq-eqb, ne_eqb, ltb-true, ltb-false, leb-true}
use lib.Dec.{eqb, leb, ltb}
use Rattle.rules.specs.Lists.{first_row}
use Rattle.rules.specs.Numbers.{step_area, area_refused, place_refused}
use Rattle.rules.specs.State.{Model}
use Rattle.rules.specs.Records.{refused}
use Rattle.rules.specs.Frame.{decode}
use Rattle.rules.specs.Refusals.{refusal, form_rows, admission_rows, room_rows}
use Rattle.rules.specs.Step.{Outcome, step, accepted, refused_with}
use Rattle.rules.proofs.BoolLaws.{cond_cases, and_left, and_right}
use Rattle.rules.proofs.RefusalLaws.{first-without}

-- the table behind its first row
abbrev later_rows : Model → List ℕ → List (Bool × ℕ)
later_rows m bs = let f = decode bs in form_rows bs f ++ admission_rows m f ++ room_rows m f

-- every number of a table is at most k, and so is the one that it gives
abbrev up_to : ℕ → List (Bool × ℕ) → Bool
up_to k [] = true
up_to k (r ∷ rs) = leb r.1 k && up_to k rs

first_up_to : (k : ℕ) (rs : List (Bool × ℕ)) → up_to k rs ≡ true → first_row rs ≤ k
first_up_to k [] e = omega arith
first_up_to k (r ∷ rs) e =
    cond_cases (λ n. n ≤ k) r.0 (λ _. leb-true r.1 k (and_left (leb r.1 k) (up_to k rs) e))
    (λ _. first_up_to k rs (and_right (leb r.1 k) (up_to k rs) e))

pub refusal-fits : (m : Model) (bs : List ℕ) (area : ℕ) → refusal m bs area ≤ place_refused
unfolding refusal
refusal-fits m bs area = first_up_to place_refused ((ltb area step_area, area_refused) ∷ later_rows m bs) refl

-- 1 exactly when the area is under 700 bytes: no other row has that number
pub one_is : (m : Model) (bs : List ℕ) (area : ℕ) → (refusal m bs area ≡ area_refused) ↔ (area < step_area)
unfolding refusal
one_is m bs area = (
  cond_cases (λ n. n ≡ area_refused → area < step_area) (ltb area step_area) (λ t _. ltb-true area step_area t)
      (λ _ e. absurd (eqb-false (first_row (later_rows m bs)) area_refused
      (first-without area_refused (later_rows m bs) refl refl) e)),
  λ l. cond_cases (λ n. n ≡ area_refused) (ltb area step_area) (λ _. refl)
      (λ t. absurd (let k = ltb-false area step_area t in omega arith)),
)

-- the number is the refusal's
pub number_is : (m : Model) (bs : List ℕ) (area : ℕ)
    → (step m bs area).number ≡ refusal m bs area
unfolding step accepted refused_with
number_is m bs area =
    cond_cases (λ (o : Outcome). o.number ≡ refusal m bs area) (eqb (refusal m bs area) 0) (λ e. sym (eqb-true _ 0 e))
    (λ e. refl)

module _ (m : Model) (bs : List ℕ) (area : ℕ) where
  -- a frame with a number is refused
  step-refused : (refusal m bs area ≡ 0 → ⊥) → step m bs area ≡ refused_with m bs (refusal m bs area)
  unfolding step accepted
  step-refused h =
      cond_cases (λ (o : Outcome). o ≡ refused_with m bs (refusal m bs area)) (eqb (refusal m bs area) 0)
      (λ e. absurd (h (eqb-true _ 0 e))) (λ e. refl)

  pub refused-model : (refusal m bs area ≡ 0 → ⊥) → (step m bs area).model ≡ m
  unfolding refused_with
  refused-model h = ap (λ (o : Outcome). o.model) (step-refused h)

  refused-records : (refusal m bs area ≡ 0 → ⊥)
      → (step m bs area).records
      ≡ cond (eqb (refusal m bs area) area_refused) [] (refused bs (refusal m bs area) ∷ [])
  unfolding refused_with
  refused-records h = ap (λ (o : Outcome). o.records) (step-refused h)

  pub refused_record : (refusal m bs area ≡ 0 → ⊥) → (refusal m bs area ≡ area_refused → ⊥)
      → (step m bs area).records ≡ refused bs (refusal m bs area) ∷ []
  refused_record h k = refused-records h ∙ rw (ne_eqb (refusal m bs area) area_refused k)

  pub no_record : refusal m bs area ≡ area_refused → (step m bs area).records ≡ []
  no_record h = refused-records (λ z. omega arith) ∙ rw (eq-eqb (refusal m bs area) area_refused h)
