-- The decimal digits of a number.
use Prim.Native.Nat.{ℕ, zero, suc, ◌+◌, ◌/◌, ◌%◌, ◌^◌, ◌≤◌, ◌<◌}
use mathlib.Core.Bool.{Bool, true, false, cond}
use mathlib.Core.Path.{◌≡◌, sym, ap, ◌∙◌}
use mathlib.Core.List.{[], ◌∷◌, ◌++◌}
use native.Mathlib.Nat.{pow-succ'}
use native.Mathlib.Omega.{arith}
use native.Mathlib.Decide.{dec_lt}
use lib.Dec.{ltb}
use lib.ListN.{length, length-append}
use borrow.Author.Tests.{lt-ltb, le-ltb}
use Rattle.rules.specs.Print.{digits, decimal}

-- one digit, and more than one
pub digits-one : (k n : ℕ) → n < 10 → digits (suc k) n ≡ (48 + n) ∷ []
unfolding digits
digits-one k n h = rw (lt-ltb n 10 h)

digits-many : (k n : ℕ) → 10 ≤ n → digits (suc k) n ≡ digits k (n / 10) ++ ((48 + n % 10) ∷ [])
unfolding digits
digits-many k n h = rw (le-ltb n 10 h)

-- a number below 10 ^ (k + 1) has no digit beyond k + 1
digits_more : (k n : ℕ) → n < 10 ^ suc k → digits (suc k) n ≡ digits (suc (suc k)) n
digits_more zero n h = digits-one 0 n h ∙ sym (digits-one 1 n h)
digits_more (suc k) n h = go (dec_lt n 10) (λ l. digits_more k (n / 10) l)
  where
    go : Dec (n < 10) → (n / 10 < 10 ^ suc k → digits (suc k) (n / 10) ≡ digits (suc (suc k)) (n / 10))
        → digits (suc (suc k)) n ≡ digits (suc (suc (suc k))) n
    go (yes l) below = digits-one (suc k) n l ∙ sym (digits-one (suc (suc k)) n l)
    go (no l) below =
        digits-many (suc k) n (omega arith)
        ∙ ap (λ x. x ++ ((48 + n % 10) ∷ [])) (below (omega (arith, pow-succ' 10 (suc k))))
        ∙ sym (digits-many (suc (suc k)) n (omega arith))

pub digits-length : (k n : ℕ) → length (digits k n) ≤ k
unfolding digits
digits-length zero n = omega arith
digits-length (suc k) n = go (ltb n 10) (digits-length k (n / 10))
  where
    go : (b : Bool) → length (digits k (n / 10)) ≤ k
        → length (cond b ((48 + n) ∷ []) (digits k (n / 10) ++ ((48 + n % 10) ∷ []))) ≤ suc k
    go true h = omega arith
    go false h = simp length-append (omega arith)

-- a 32-bit number
pub decimal-one : (n : ℕ) → n < 10 → decimal n ≡ (48 + n) ∷ []
decimal-one n h = digits-one 9 n h

pub decimal-many : (n : ℕ) → n < 4294967296 → 10 ≤ n → decimal n ≡ decimal (n / 10) ++ ((48 + n % 10) ∷ [])
decimal-many n f h =
    digits-many 9 n h ∙ ap (λ x. x ++ ((48 + n % 10) ∷ [])) (digits_more 8 (n / 10) (omega arith))

pub one-long : (n : ℕ) → n < 10 → length (decimal n) ≡ 1
one-long n h = ap length (decimal-one n h)

pub many-long : (n : ℕ) → n < 4294967296 → 10 ≤ n → length (decimal n) ≡ length (decimal (n / 10)) + 1
many-long n f h = ap length (decimal-many n f h) ∙ length-append (decimal (n / 10)) _
