-- Lists in which no number stands twice.
use Prim.Native.Nat.{ℕ}
use mathlib.Core.Bool.{Bool, true, not}
use mathlib.Core.Path.{◌≡◌, sym, ◌∙◌}
use mathlib.Core.List.Memᴰ
use mathlib.Core.List.{List, [], ◌∷◌, map, Memᴰ}
use borrow.Author.Tests.{eqb-false, ne_eqb, not-true}
use lib.Dec.{eqb}
use Rattle.rules.specs.Lists.{filterb, anyb, distinct}
use Rattle.rules.proofs.BoolLaws.{cond_cases, and_left, and_right}
use Rattle.rules.proofs.ListLaws.{mem_filter, none_mem, all_false}

module _ {A : Type 0} (number : A → ℕ) where
  -- the first stands nowhere else, and the rest once
  pub distinct_head : (x : A) {y : A} {xs : List A} → distinct (map number (x ∷ xs)) ≡ true → Memᴰ y xs
      → number x ≡ number y → ⊥
  unfolding distinct
  distinct_head x {y} {xs} d i =
      let out = not-true _ (and_left (not (anyb (eqb (number x)) (map number xs))) (distinct (map number xs)) d) in
      eqb-false (number x) (number y) (none_mem (eqb (number x)) out (Memᴰ.map number i))

  pub distinct_tail : (x : A) (xs : List A) → distinct (map number (x ∷ xs)) ≡ true → distinct (map number xs) ≡ true
  unfolding distinct
  distinct_tail x xs d = and_right (not (anyb (eqb (number x)) (map number xs))) (distinct (map number xs)) d

  pub distinct_cons : (x : A) (xs : List A) → ((y : A) → Memᴰ y xs → number x ≡ number y → ⊥)
      → distinct (map number xs) ≡ true
      → distinct (map number (x ∷ xs)) ≡ true
  unfolding distinct
  distinct_cons x xs h d =
      rw (all_false (eqb (number x)) (map number xs)
      (λ k i. let y = Memᴰ.of_map number xs i in ne_eqb (number x) k (λ q. h y.0 y.1 (q ∙ sym y.2)))) d

  -- what is left of one
  pub distinct_filter : (p : A → Bool) (xs : List A) → distinct (map number xs) ≡ true
      → distinct (map number (filterb p xs)) ≡ true
  distinct_filter p [] d = d
  distinct_filter p (x ∷ xs) d =
      let rest = distinct_filter p xs (distinct_tail x xs d) in
      cond_cases (λ (l : List A). distinct (map number l) ≡ true) (p x)
      (λ _. distinct_cons x (filterb p xs) (λ y i. distinct_head x d (mem_filter p xs i).0) rest) (λ _. rest)
