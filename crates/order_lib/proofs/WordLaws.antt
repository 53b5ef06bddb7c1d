-- The words of some bytes.
use Prim.Native.Nat.{ℕ, zero, suc, ◌+◌, ◌*◌, ◌/◌, ◌≤◌}
use mathlib.Core.Path.{◌≡◌, refl, sym, ap, ◌∙◌}
use mathlib.Core.List.{List, [], ◌∷◌}
use native.Mathlib.Omega.{arith}
use lib.ListN.{length, get_or}
use Rattle.rules.specs.Frame.{byte_at, number_at}
use Rattle.order_lib.specs.Shows.{words_in}

pub words_length : (bs : List ℕ) → length (words_in bs) ≡ length bs / 4
unfolding words_in
words_length [] = refl
words_length (a ∷ []) = refl
words_length (a ∷ b ∷ []) = refl
words_length (a ∷ b ∷ c ∷ []) = refl
words_length (a ∷ b ∷ c ∷ d ∷ bs) = let rest = words_length bs in omega arith

pub words_at : (bs : List ℕ) (i : ℕ) → 4 * i + 4 ≤ length bs → get_or (words_in bs) i 0 ≡ number_at bs (4 * i)
unfolding words_in number_at
words_at [] i h = absurd (omega arith)
words_at (a ∷ []) i h = absurd (omega arith)
words_at (a ∷ b ∷ []) i h = absurd (omega arith)
words_at (a ∷ b ∷ c ∷ []) i h = absurd (omega arith)
words_at (a ∷ b ∷ c ∷ d ∷ bs) zero h = refl
words_at (a ∷ b ∷ c ∷ d ∷ bs) (suc i) h =
    words_at bs i (omega arith)
    ∙ sym (number (ap (byte_at (a ∷ b ∷ c ∷ d ∷ bs)) (first i)) (past 1) (past 2) (past 3))
  where
    four : (i k : ℕ) → 4 * suc i + k ≡ suc (suc (suc (suc (4 * i + k))))
    four i k = omega arith

    first : (i : ℕ) → 4 * suc i ≡ suc (suc (suc (suc (4 * i))))
    first i = omega arith

    past : (k : ℕ) → byte_at (a ∷ b ∷ c ∷ d ∷ bs) (4 * suc i + k) ≡ byte_at bs (4 * i + k)
    past k = ap (byte_at (a ∷ b ∷ c ∷ d ∷ bs)) (four i k)

    number : {w x y z p q r s : ℕ} → w ≡ p → x ≡ q → y ≡ r → z ≡ s
        → w + 256 * x + 65536 * y + 16777216 * z ≡ p + 256 * q + 65536 * r + 16777216 * s
    number e f g h = omega arith
