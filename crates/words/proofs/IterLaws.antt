-- Answers of iterators over a table's rows, as the rules say them.
use mathlib.Core.Bool.{Bool, true, false, cond, ◌||◌}
use mathlib.Core.Option.{some}
use mathlib.Core.Path.{◌≡◌, refl, sym, ap, ◌∙◌}
use mathlib.Core.List.{List, [], ◌∷◌}
use Rattle.std.specs.Prelude.{Option, Some, None, option_map}
use Rattle.std.specs.List.{find, list_any}
use Rattle.rules.specs.Lists.{findb, anyb}
use Rattle.words.specs.Answers.{as_found}

module _ {A : Type 0} (p : A → Bool) where
  found_in : (xs : List A) → as_found (find p xs) ≡ findb p xs
  found_in [] = refl
  found_in (x ∷ xs) = go (p x) (found_in xs)
    where
      go : (b : Bool) → as_found (find p xs) ≡ findb p xs
          → as_found (cond b (Some x) (find p xs)) ≡ cond b (some x) (findb p xs)
      go true below = refl
      go false below = below

  same : (r : Option A) → option_map (λ x. x) r ≡ r
  same (Some x) = refl
  same None = refl

  -- the first that passes
  pub found : (r : Option A) (xs : List A) → option_map (λ x. x) r ≡ find p xs → as_found r ≡ findb p xs
  found r xs e = ap as_found (sym (same r) ∙ e) ∙ found_in xs

  -- whether some passes
  pub any_in : (xs : List A) → list_any p xs ≡ anyb p xs
  any_in [] = refl
  any_in (x ∷ xs) = ap (λ b. p x || b) (any_in xs)
