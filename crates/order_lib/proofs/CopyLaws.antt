-- A text that is copied to the front of a slice, element by element.
use Prim.Native.Nat.{ℕ, ◌+◌, ◌<◌}
use mathlib.Core.Path.{◌≡◌, sym, ap, ap₂, ◌∙◌}
use mathlib.Core.List.{List, ◌++◌}
use native.Mathlib.Nat.{zero-add}
use native.Mathlib.Numerals.{add-one}
use native.Mathlib.Omega.{arith}
use lib.ListN.{length, get_or, take, drop, set, length-set}
use lib.Seq.{paste, paste-suc, take-length, take_at}

-- the first i elements of a text are copied to the front
pub record Copying {A : Type 0} (text old new : List A) (i : ℕ) : Type 0 where
  pub as_many : length new ≡ length old
  pub are : new ≡ paste old 0 text i

pub copy_more : {A : Type 0} (text old new : List A) (i : ℕ) (v d : A) → Copying text old new i → v ≡ get_or text i d
    → i < length old → i < length text
    → Copying text old (set new i v) (i + 1)
copy_more text old new i v d c is h l =
    record {
      as_many = length-set new i v ∙ c.as_many;
      are = ap₂ (λ o x. set o i x) c.are is ∙ ap (λ k. set (paste old 0 text i) k (get_or text i d)) (sym (zero-add i))
          ∙ paste-suc old 0 text i d (omega arith) l ∙ ap (paste old 0 text) (sym (add-one i));
    }

-- all of it
pub copy_whole : {A : Type 0} (text old new : List A) (i : ℕ) → Copying text old new i → i ≡ length text
    → new ≡ text ++ drop (length text) old
copy_whole text old new i c e =
    c.are ∙ ap₂ (λ a b. take a text ++ drop b old) e (zero-add i ∙ e)
    ∙ ap (λ l. l ++ drop (length text) old) (take-length text)

pub copy_front : {A : Type 0} (text old new : List A) (i n : ℕ) → Copying text old new i → i ≡ n → n ≡ length text
    → take n new ≡ text
copy_front text old new i n c e f =
    ap (take n) (copy_whole text old new i c (e ∙ f)) ∙ take_at text (drop (length text) old) n (sym f)
