-- What holds of every element of a list: of what is left, renewed or added; and a list without one place.
use mathlib.Core.Bool.{Bool, true, false, cond}
use mathlib.Core.Logic.{◌⊎◌, inl, inr, ⊎_elim}
use mathlib.Core.Path.{◌≡◌, refl, ap, subst, subst⁻¹}
use mathlib.Core.List.Memᴰ
use mathlib.Core.List.{List, [], ◌∷◌, ◌++◌, map, Memᴰ}
use Rattle.rules.specs.Lists.{All, filterb}
use Rattle.rules.proofs.ListLaws.{mem_filter}

pub all_none : {A : Type 0} (Q : A → Type 0) → All Q []
all_none Q x i = absurd (Memᴰ.not-nil i)

pub all_gone : {A : Type 0} (xs : List A) → All (λ x. ⊥) xs → xs ≡ []
all_gone [] h = refl
all_gone (x ∷ xs) h = absurd (h x (Memᴰ.head refl))

pub all_cons : {A : Type 0} {Q : A → Type 0} {y : A} {xs : List A} → Q y → All Q xs → All Q (y ∷ xs)
all_cons {A} {Q} q h x i = ⊎_elim (λ e. subst⁻¹ Q e q) (h x) (Memᴰ.cases_cons i)

pub all_append : {A : Type 0} {Q : A → Type 0} (xs : List A) {ys : List A} → All Q xs → All Q ys → All Q (xs ++ ys)
all_append xs h k x i = ⊎_elim (h x) (k x) (Memᴰ.append_cases xs i)

pub all_snoc : {A : Type 0} {Q : A → Type 0} (xs : List A) {y : A} → All Q xs → Q y → All Q (xs ++ (y ∷ []))
all_snoc {A} {Q} xs h q = all_append xs h (all_cons q (all_none Q))

pub all_filter : {A : Type 0} {Q : A → Type 0} (p : A → Bool) (xs : List A)
    → ((x : A) → Memᴰ x xs → p x ≡ true → Q x) → All Q (filterb p xs)
all_filter p xs h x i = let r = mem_filter p xs i in h x r.0 r.1

pub all_map : {A B : Type 0} (Q : B → Type 0) (g : A → B) (xs : List A) → All (λ x. Q (g x)) xs → All Q (map g xs)
all_map Q g xs h y i = let r = Memᴰ.of_map g xs i in subst Q r.2 (h r.0 r.1)

-- a list without one place
pub data Out {A : Type 0} (x : A) : List A → List A → Type 0 where
  here : (xs : List A) → Out x (x ∷ xs) xs
  there : {y : A} {xs ys : List A} → Out x xs ys → Out x (y ∷ xs) (y ∷ ys)

pub out_mem : {A : Type 0} {x : A} {xs ys : List A} → Out x xs ys → Memᴰ x xs
out_mem (here xs) = Memᴰ.head refl
out_mem (there o) = Memᴰ.tail (out_mem o)

pub out_all : {A : Type 0} {Q : A → Type 0} {x : A} {xs ys : List A} → Out x xs ys → All Q xs → All Q ys
out_all (here xs) h = λ y i. h y (Memᴰ.tail i)
out_all (there {y} o) h = all_cons (h y (Memᴰ.head refl)) (out_all o (λ z i. h z (Memᴰ.tail i)))

pub out_or : {A : Type 0} {x : A} {xs ys : List A} → Out x xs ys → All (λ y. (y ≡ x) ⊎ Memᴰ y ys) xs
out_or (here xs) = λ y i. Memᴰ.cases_cons i
out_or (there o) =
    all_cons (inr (Memᴰ.head refl)) (λ z i. ⊎_elim inl (λ j. inr (Memᴰ.tail j)) (out_or o z i))

pub out_last : {A : Type 0} (xs : List A) (x : A) → Out x (xs ++ (x ∷ [])) xs
out_last [] x = here []
out_last (y ∷ xs) x = there (out_last xs x)

pub filter_map : {A B : Type 0} (p : B → Bool) (g : A → B) (xs : List A)
    → filterb p (map g xs) ≡ map g (filterb (λ x. p (g x)) xs)
filter_map p g [] = refl
filter_map {A} {B} p g (x ∷ xs) = go (p (g x)) (filter_map p g xs)
  where
    go : (b : Bool) → filterb p (map g xs) ≡ map g (filterb (λ y. p (g y)) xs)
        → cond b (g x ∷ filterb p (map g xs)) (filterb p (map g xs))
        ≡ map g (cond b (x ∷ filterb (λ y. p (g y)) xs) (filterb (λ y. p (g y)) xs))
    go true e = ap {B = List B} (λ r. g x ∷ r) e
    go false e = e
