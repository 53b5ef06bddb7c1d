-- The values of a function by their places: mapped, joined, and those of a list.
use Prim.Native.Nat.{ℕ, zero, suc, ◌≤◌}
use mathlib.Core.Path.{◌≡◌, refl, sym, ap, ◌∙◌}
use mathlib.Core.List.{List, [], ◌∷◌, ◌++◌, append_assoc, append-nil, map, map-append}
use native.Mathlib.Omega.{arith}
use lib.ListN.{length, get_or, take}
use lib.Seq.{take-suc, take_all}
use Rattle.rules.specs.Lists.{joined}
use Rattle.rules.specs.Words.{up_to}
use Rattle.trial.specs.Setup.{places}

pub as_up_to : {A : Type 0} (f : ℕ → A) (n : ℕ) → places f n ≡ up_to f n
unfolding places
as_up_to f zero = refl
as_up_to f (suc n) = ap (λ xs. xs ++ (f n ∷ [])) (as_up_to f n)

pub map-up_to : {A B : Type 0} (g : A → B) (f : ℕ → A) (n : ℕ) → map g (up_to f n) ≡ up_to (λ i. g (f i)) n
map-up_to g f zero = refl
map-up_to g f (suc n) = map-append g (up_to f n) (f n ∷ []) ∙ ap (λ xs. xs ++ (g (f n) ∷ [])) (map-up_to g f n)

-- a list is what stands at its places
pub up_to_list : {A : Type 0} (xs : List A) (d : A) → up_to (λ i. get_or xs i d) (length xs) ≡ xs
up_to_list {A} xs d = front (length xs) (omega arith) ∙ take_all (length xs) xs (omega arith)
  where
    front : (n : ℕ) → n ≤ length xs → up_to (λ i. get_or xs i d) n ≡ take n xs
    front zero h = refl
    front (suc n) h =
        ap {B = List A} (λ l. l ++ (get_or xs n d ∷ [])) (front n (omega arith)) ∙ sym (take-suc xs n d (omega arith))

-- one list more
pub joined_more : {A : Type 0} (ls : List (List A)) (l : List A) → joined (ls ++ (l ∷ [])) ≡ joined ls ++ l
joined_more [] l = append-nil l
joined_more (x ∷ ls) l = ap (λ r. x ++ r) (joined_more ls l) ∙ sym (append_assoc x (joined ls) l)
