-- Laws of lists and of arrays that are filled.
use Prim.Native.Nat.{ℕ, zero, suc, ◌+◌, ◌<◌}
use mathlib.Core.Path.{◌≡◌, refl, sym, ap, ◌∙◌}
use mathlib.Core.List.{List, [], ◌∷◌, ◌++◌, map, append_assoc, append-nil, map-append}
use native.Mathlib.Numerals.{add-one}
use native.Mathlib.Omega.{arith}
use lib.ListN.{length, get_or, take, set, replicate}
use lib.Seq.{take-suc, take-suc-set}
use Rattle.rules.specs.Lists.{joined}

pub joined-append : {A : Type 0} (xs ys : List (List A)) → joined (xs ++ ys) ≡ joined xs ++ joined ys
joined-append [] ys = refl
joined-append (x ∷ xs) ys = ap (λ l. x ++ l) (joined-append xs ys) ∙ sym (append_assoc x (joined xs) (joined ys))

-- one more at the end
pub joined_more : {A : Type 0} (xs : List (List A)) (x : List A) → joined (xs ++ (x ∷ [])) ≡ joined xs ++ x
joined_more xs x = joined-append xs (x ∷ []) ∙ ap (λ l. joined xs ++ l) (append-nil x)

pub joined_map_more : {A B : Type 0} (f : A → List B) (xs : List A) (x : A)
    → joined (map f (xs ++ (x ∷ []))) ≡ joined (map f xs) ++ f x
joined_map_more f xs x = ap joined (map-append f xs (x ∷ [])) ∙ joined_more (map f xs) (f x)

pub joined_next : {A : Type 0} (xs : List (List A)) (p : ℕ) → p < length xs
    → joined (take (p + 1) xs) ≡ joined (take p xs) ++ get_or xs p []
joined_next xs p h =
    ap (λ k. joined (take k xs)) (add-one p) ∙ ap joined (take-suc xs p [] h) ∙ joined_more (take p xs) (get_or xs p [])

-- what holds at every index of a list, holds there after a store
pub at_set : {A : Type 0} (Q : A → Type 0) (l : List A) (i : ℕ) (v d : A) → ((j : ℕ) → Q (get_or l j d)) → Q v
    → (j : ℕ) → Q (get_or (set l i v) j d)
at_set Q [] i v d h q j = h j
at_set Q (x ∷ l) zero v d h q zero = q
at_set Q (x ∷ l) zero v d h q (suc j) = h (suc j)
at_set Q (x ∷ l) (suc i) v d h q zero = h zero
at_set Q (x ∷ l) (suc i) v d h q (suc j) = at_set Q l i v d (λ k. h (suc k)) q j

-- an array that holds some elements behind others is given one more
pub filled_more : {A : Type 0} (front l : List A) (j : ℕ) (xs : List A) (x : A)
    → take j l ≡ front ++ xs → j < length l → take (j + 1) (set l j x) ≡ front ++ (xs ++ (x ∷ []))
filled_more front l j xs x e h =
    ap (λ k. take k (set l j x)) (add-one j)
    ∙ take-suc-set l j x h ∙ ap (λ r. r ++ (x ∷ [])) e ∙ append_assoc front xs (x ∷ [])

pub get_d_map : {A B : Type 0} (f : A → B) (l : List A) (i : ℕ) (d : A) (e : B) → i < length l
    → get_or (map f l) i e ≡ f (get_or l i d)
get_d_map f [] i d e h = absurd (omega arith)
get_d_map f (x ∷ l) zero d e h = refl
get_d_map f (x ∷ l) (suc i) d e h = get_d_map f l i d e (omega arith)

-- an array that is nothing but one value
pub all_same : {A : Type 0} (n : ℕ) (v : A) (j : ℕ) → get_or (replicate n v) j v ≡ v
all_same zero v j = refl
all_same (suc n) v zero = refl
all_same (suc n) v (suc j) = all_same n v j
