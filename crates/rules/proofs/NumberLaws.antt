-- A number below 2^32 and its four bytes; a word of three.
use Prim.Native.Nat.{ℕ, ◌+◌, ◌*◌, ◌/◌, ◌%◌, ◌<◌}
use mathlib.Core.Path.{◌≡◌, sym, ap, ◌∙◌}
use native.Mathlib.Nat.{div-add-mod, div-div-eq-div-mul, mod-eq_of_lt}
use native.Mathlib.Omega.{arith}

-- a number below 2^32 is told by its four bytes
pub word_is : (n : ℕ) → n < 4294967296
    → n ≡ n % 256 + 256 * (n / 256 % 256) + 65536 * (n / 65536 % 256) + 16777216 * (n / 16777216 % 256)
word_is n h =
    let a : n / 256 / 256 ≡ n / 65536 = div-div-eq-div-mul n 256 256 in
    let b : n / 65536 / 256 ≡ n / 16777216 = div-div-eq-div-mul n 65536 256 in
    put (n % 256) (n / 256 % 256) (n / 65536 % 256) (div-add-mod n 256)
    (ap (λ k. 256 * k + n / 256 % 256) (sym a) ∙ div-add-mod (n / 256) 256)
    (ap (λ k. 256 * k + n / 65536 % 256) (sym b) ∙ div-add-mod (n / 65536) 256)
    (mod-eq_of_lt (small n h))
  where
    small : (n : ℕ) → n < 4294967296 → n / 16777216 < 256
    small n h = omega arith

    put : {n p q r d : ℕ} (a b c : ℕ) → 256 * p + a ≡ n → 256 * q + b ≡ p → 256 * r + c ≡ q → d ≡ r
        → n ≡ a + 256 * b + 65536 * c + 16777216 * d
    put a b c e f g h = omega arith

-- a word of three bytes
pub three_bytes : (r b w : ℕ) → r < 256 → b < 256 → w < 256
    → ((r + 256 * b + 65536 * w) % 256 ≡ r) × ((r + 256 * b + 65536 * w) / 256 % 256 ≡ b)
    × ((r + 256 * b + 65536 * w) / 65536 % 256 ≡ w)
three_bytes r b w p q s =
    let high = b + 256 * w in
    let is : r + 256 * b + 65536 * w ≡ r + 256 * high = omega arith in
    let low : (r + 256 * high) % 256 ≡ r = omega arith in
    let up : (r + 256 * high) / 256 ≡ high = omega arith in
    let mid : high % 256 ≡ b = omega arith in
    let top : (r + 256 * b + 65536 * w) / 65536 ≡ w = omega arith in
    let byte : w % 256 ≡ w = omega arith in
    (ap (λ k. k % 256) is ∙ low, ap (λ k. k / 256 % 256) is ∙ ap (λ k. k % 256) up ∙ mid, ap (λ k. k % 256) top ∙ byte)
