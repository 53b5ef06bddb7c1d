-- Lists that ascend by number: of what is left, renewed or added; each number stands once.
use Prim.Native.Nat.{ℕ, ◌≤◌, ◌<◌}
use mathlib.Core.Bool.{Bool, true, false, cond, true≢false}
use mathlib.Core.Logic.{◌⊎◌, inl, inr, ⊎_elim}
use mathlib.Core.Option.{some}
use mathlib.Core.Path.{◌≡◌, refl, sym, ap, ◌∙◌, subst⁻¹}
use mathlib.Core.List.Memᴰ
use mathlib.Core.List.{List, [], ◌∷◌, ◌++◌, map, Memᴰ}
use native.Mathlib.Omega.{arith}
use borrow.Author.Tests.{ne_eqb}
use lib.Dec.{eqb}
use Rattle.rules.specs.Lists.{filterb, findb, distinct, All}
use Rattle.rules.specs.Sound.{Ascending}
use Rattle.rules.proofs.BoolLaws.{cond_cases}
use Rattle.rules.proofs.ListLaws.{all_false, any_find, mem_any, find_some}
use Rattle.sound.proofs.AllLaws.{all_none, all_snoc, all_filter, all_map}

module _ {A : Type 0} (number : A → ℕ) where
  pub ascend_filter : (p : A → Bool) (xs : List A) → Ascending (map number xs) → Ascending (map number (filterb p xs))
  unfolding Ascending
  ascend_filter p [] a = tt
  ascend_filter p (x ∷ xs) a =
      let rest = ascend_filter p xs a.1 in
      cond_cases (λ (l : List A). Ascending (map number l)) (p x)
      (λ _. (
        all_map (λ k. number x < k) number (filterb p xs)
            (all_filter p xs (λ y i _. a.0 (number y) (Memᴰ.map number i))),
        rest,
      )) (λ _. rest)

  pub ascend_map : (g : A → A) → ((x : A) → number (g x) ≡ number x) → (xs : List A) → Ascending (map number xs)
      → Ascending (map number (map g xs))
  ascend_map g h xs a = subst⁻¹ Ascending (same xs) a
    where
      same : (xs : List A) → map number (map g xs) ≡ map number xs
      same [] = refl
      same (x ∷ xs) = rw (h x, same xs)

  pub ascend_snoc : (x : A) (xs : List A) → All (λ y. number y < number x) xs → Ascending (map number xs)
      → Ascending (map number (xs ++ (x ∷ [])))
  unfolding Ascending
  ascend_snoc x [] h a = (all_none (λ k. number x < k), tt)
  ascend_snoc x (y ∷ ys) h a = (
    all_map (λ k. number y < k) number (ys ++ (x ∷ []))
        (all_snoc ys (λ z i. a.0 (number z) (Memᴰ.map number i)) (h y (Memᴰ.head refl))),
    ascend_snoc x ys (λ z i. h z (Memᴰ.tail i)) a.1,
  )

  -- what stands in front is below what stands behind
  pub ascend_across : {x y : A} (xs ys : List A) → Ascending (map number (xs ++ ys)) → Memᴰ x xs
      → Memᴰ y ys → number x < number y
  unfolding Ascending
  ascend_across [] ys a i j = absurd (Memᴰ.not-nil i)
  ascend_across {x} {y} (z ∷ xs) ys a i j =
      ⊎_elim
      (λ e. let l = a.0 (number y) (Memᴰ.map number (Memᴰ.append_right xs j)) in
      let same = ap number e in omega arith)
      (λ k. ascend_across xs ys a.1 k j) (Memᴰ.cases_cons i)

  -- two with one number are one
  pub ascend_unique : {x y : A} {xs : List A} → Ascending (map number xs) → Memᴰ x xs → Memᴰ y xs
      → number x ≡ number y → x ≡ y
  unfolding Ascending
  ascend_unique a (Memᴰ.head e) (Memᴰ.head d) q = e ∙ sym d
  ascend_unique {x} {y} a (Memᴰ.head e) (Memᴰ.tail j) q =
      absurd (let l = a.0 (number y) (Memᴰ.map number j) in let same = ap number e in omega arith)
  ascend_unique {x} {y} a (Memᴰ.tail i) (Memᴰ.head d) q =
      absurd (let l = a.0 (number x) (Memᴰ.map number i) in let same = ap number d in omega arith)
  ascend_unique a (Memᴰ.tail i) (Memᴰ.tail j) q = ascend_unique a.1 i j q

  -- the first that passes a test has the lowest number of those that do; and the one that has is the first
  pub find_lowest : (p : A → Bool) {x y : A} (xs : List A) → Ascending (map number xs) → findb p xs ≡ some x
      → Memᴰ y xs → p y ≡ true → number x ≤ number y
  unfolding Ascending
  find_lowest p [] a q i t = absurd (Memᴰ.not-nil i)
  find_lowest p {x} {y} (z ∷ zs) a q i t = go (p z) refl q (Memᴰ.cases_cons i) (find_lowest p zs a.1)
    where
      go : (b : Bool) → p z ≡ b → cond b (some z) (findb p zs) ≡ some x → (y ≡ z) ⊎ Memᴰ y zs
          → (findb p zs ≡ some x → Memᴰ y zs → p y ≡ true → number x ≤ number y) → number x ≤ number y
      go true e r (inl same) below = let s : x ≡ y = cc in rw s (omega arith)
      go true e r (inr j) below =
          let s : z ≡ x = cc in
          let l = a.0 (number y) (Memᴰ.map number j) in
          rw (sym s) (omega arith)
      go false e r (inl same) below = absurd (true≢false (sym t ∙ ap p same ∙ e))
      go false e r (inr j) below = below r j t

  pub lowest-found : (p : A → Bool) {x : A} (xs : List A) → Ascending (map number xs) → Memᴰ x xs → p x ≡ true
      → ((y : A) → Memᴰ y xs → p y ≡ true → number x ≤ number y) → findb p xs ≡ some x
  lowest-found p {x} xs a i t low =
      let r = any_find p xs (mem_any p i t) in
      let f = find_some p xs r.1 in
      let one = low r.0 f.0 f.1 in
      let other = find_lowest p xs a r.1 i t in
      r.1 ∙ ap some (ascend_unique a f.0 i (omega arith))

pub ascending-distinct : (ns : List ℕ) → Ascending ns → distinct ns ≡ true
unfolding Ascending distinct
ascending-distinct [] a = refl
ascending-distinct (n ∷ ns) a =
    rw (all_false (eqb n) ns (λ k i. ne_eqb n k (λ q. let l = a.0 k i in omega arith))) (ascending-distinct ns a.1)
