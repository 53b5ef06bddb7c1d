-- Read holders as bits: what adding and dropping one does to each bit.
use Prim.Native.Nat.{ℕ, zero, suc, ◌+◌, ◌-◌, ◌*◌, ◌/◌, ◌%◌, ◌^◌, ◌≤◌, ◌<◌}
use mathlib.Core.Bool.{true, false}
use mathlib.Core.Logic.{◌≢◌}
use mathlib.Core.Path.{◌≡◌, refl, sym, ap, ◌∙◌}
use native.Mathlib.Omega.{arith}
use native.Mathlib.Nat.{pow-succ', div-one, div-div-eq-div-mul}
use borrow.Author.Tests.{eqb-true, eqb-false, eq-eqb, ne_eqb}
use lib.Dec.{eqb}
use Rattle.rules.specs.Template.{bit}
use Rattle.rules.specs.Holds.{add_reader, drop_reader}
use Rattle.rules.proofs.BoolLaws.{cond_cases}

pub bit_zero : (n : ℕ) → bit 0 n ≡ eqb (n % 2) 1
unfolding bit
bit_zero n = rw div-one

pub bit_suc : (p n : ℕ) → bit (suc p) n ≡ bit p (n / 2)
unfolding bit
bit_suc p n = rw (pow-succ', ← div-div-eq-div-mul n 2 (2 ^ p))

half_add : (n x : ℕ) → (n + 2 * x) / 2 ≡ n / 2 + x
half_add n x = omega arith

half_sub : (n x : ℕ) → x ≤ n / 2 → (n - 2 * x) / 2 ≡ n / 2 - x
half_sub n x h = omega arith

-- with bit q at 0, adding 2 ^ q changes no other bit, and sets that one
pub bit-add_other : (p q n : ℕ) → p ≢ q → bit q n ≡ false → bit p (n + 2 ^ q) ≡ bit p n
bit-add_other zero zero n h e = absurd (h refl)
bit-add_other zero (suc q) n h e =
    let even : (n + 2 * 2 ^ q) % 2 ≡ n % 2 = omega arith in
    bit_zero _ ∙ ap (λ k. eqb k 1) (ap (λ k. (n + k) % 2) (pow-succ' 2 q) ∙ even) ∙ sym (bit_zero n)
bit-add_other (suc p) zero n h e =
    let low : n % 2 ≢ 1 = eqb-false (n % 2) 1 (sym (bit_zero n) ∙ e) in
    let half : (n + 1) / 2 ≡ n / 2 = omega arith in
    bit_suc p (n + 1) ∙ ap (bit p) half ∙ sym (bit_suc p n)
bit-add_other (suc p) (suc q) n h e =
    bit_suc p _
    ∙ ap (bit p) (ap (λ k. (n + k) / 2) (pow-succ' 2 q) ∙ half_add n (2 ^ q))
    ∙ bit-add_other p q (n / 2) (λ r. h (ap suc r)) (sym (bit_suc q n) ∙ e)
    ∙ sym (bit_suc p n)

pub bit-add-same : (q n : ℕ) → bit q n ≡ false → bit q (n + 2 ^ q) ≡ true
bit-add-same zero n e =
    let low : n % 2 ≢ 1 = eqb-false (n % 2) 1 (sym (bit_zero n) ∙ e) in
    bit_zero (n + 1) ∙ eq-eqb ((n + 1) % 2) 1 (omega arith)
bit-add-same (suc q) n e =
    bit_suc q _
    ∙ ap (bit q) (ap (λ k. (n + k) / 2) (pow-succ' 2 q) ∙ half_add n (2 ^ q))
    ∙ bit-add-same q (n / 2) (sym (bit_suc q n) ∙ e)

-- with bit q at 1, 2 ^ q can be taken away, which clears that bit
pub bit-holds : (q n : ℕ) → bit q n ≡ true → 2 ^ q ≤ n
bit-holds zero n e =
    let low : n % 2 ≡ 1 = eqb-true (n % 2) 1 (sym (bit_zero n) ∙ e) in
    omega arith
bit-holds (suc q) n e =
    let below : 2 ^ q ≤ n / 2 = bit-holds q (n / 2) (sym (bit_suc q n) ∙ e) in
    rw pow-succ' (omega arith)

pub bit_sub_same : (q n : ℕ) → bit q n ≡ true → bit q (n - 2 ^ q) ≡ false
bit_sub_same zero n e =
    let low : n % 2 ≡ 1 = eqb-true (n % 2) 1 (sym (bit_zero n) ∙ e) in
    bit_zero (n - 1) ∙ ne_eqb ((n - 1) % 2) 1 (λ r. omega arith)
bit_sub_same (suc q) n e =
    let high : bit q (n / 2) ≡ true = sym (bit_suc q n) ∙ e in
    bit_suc q _
    ∙ ap (bit q) (ap (λ k. (n - k) / 2) (pow-succ' 2 q) ∙ half_sub n (2 ^ q) (bit-holds q (n / 2) high))
    ∙ bit_sub_same q (n / 2) high

pub bit_sub_other : (p q n : ℕ) → p ≢ q → bit q n ≡ true → bit p (n - 2 ^ q) ≡ bit p n
bit_sub_other p q n h e =
    let fits = bit-holds q n e in
    let whole : n - 2 ^ q + 2 ^ q ≡ n = omega arith in
    sym (bit-add_other p q (n - 2 ^ q) h (bit_sub_same q n e)) ∙ ap (bit p) whole

-- a reader added or dropped
pub added : (q n : ℕ) → bit q (add_reader q n) ≡ true
unfolding add_reader
added q n = cond_cases (λ k. bit q k ≡ true) (bit q n) (λ e. e) (λ e. bit-add-same q n e)

pub added_other : (p q n : ℕ) → p ≢ q → bit p (add_reader q n) ≡ bit p n
unfolding add_reader
added_other p q n h = cond_cases (λ k. bit p k ≡ bit p n) (bit q n) (λ e. refl) (λ e. bit-add_other p q n h e)

pub dropped : (q n : ℕ) → bit q (drop_reader q n) ≡ false
unfolding drop_reader
dropped q n = cond_cases (λ k. bit q k ≡ false) (bit q n) (λ e. bit_sub_same q n e) (λ e. e)

pub dropped_other : (p q n : ℕ) → p ≢ q → bit p (drop_reader q n) ≡ bit p n
unfolding drop_reader
dropped_other p q n h = cond_cases (λ k. bit p k ≡ bit p n) (bit q n) (λ e. bit_sub_other p q n h e) (λ e. refl)

-- a number is 0 exactly when all of its bits are
pub bit_of_zero : (p : ℕ) → bit p 0 ≡ false
bit_of_zero zero = bit_zero 0
bit_of_zero (suc p) = bit_suc p 0 ∙ bit_of_zero p

zero_below : (k n : ℕ) → n < k → ((p : ℕ) → bit p n ≡ false) → n ≡ 0
zero_below zero n h f = omega arith
zero_below (suc k) zero h f = refl
zero_below (suc k) (suc n) h f =
    let low : suc n % 2 ≢ 1 = eqb-false (suc n % 2) 1 (sym (bit_zero (suc n)) ∙ f 0) in
    let half : suc n / 2 ≡ 0 = zero_below k (suc n / 2) (omega arith) (λ p. sym (bit_suc p (suc n)) ∙ f (suc p)) in
    omega arith

pub no_bits : (n : ℕ) → ((p : ℕ) → bit p n ≡ false) → n ≡ 0
no_bits n f = zero_below (suc n) n (omega arith) f
