-- Read holders as eight bits: laws that a computed test shows for every number below 256.
use Prim.Native.Nat.{ℕ, zero, suc, ◌+◌, ◌^◌, ◌≤◌, ◌<◌}
use mathlib.Core.Bool.{Bool, true, false, not, ◌||◌, ◌&&◌}
use mathlib.Core.Path.{◌≡◌, refl, sym, ap, ◌∙◌}
use native.Mathlib.Omega.{arith}
use native.Mathlib.Decide.{dec_lt}
use borrow.Author.Tests.{ltb-true}
use lib.Dec.{eqb, ltb}
use lib.Count.{ones, ones_in, count_trailing_zeros}
use Rattle.rules.specs.Template.{bit}
use Rattle.rules.specs.Holds.{drop_reader}
use Rattle.rules.specs.Numbers.{max_txns}
use Rattle.tables.specs.Rows.{byte_values}
use Rattle.available.specs.Live.{no_slot}
use Rattle.available.specs.Readers.{drop_at}
use Rattle.rules.proofs.BoolLaws.{and_left, and_right}

abbrev all_below : ℕ → (ℕ → Bool) → Bool
all_below zero f = true
all_below (suc n) f = f n && all_below n f

-- what a test shows of every number below n it shows of each
all-at : (n : ℕ) (f : ℕ → Bool) → all_below n f ≡ true → (k : ℕ) → k < n → f k ≡ true
all-at zero f e k h = absurd (omega arith)
all-at (suc n) f e k h = go (dec_lt k n) (λ l. all-at n f (and_right (f n) (all_below n f) e) k l)
  where
    go : Dec (k < n) → (k < n → f k ≡ true) → f k ≡ true
    go (yes l) below = below l
    go (no l) below = let s : k ≡ n = omega arith in ap f s ∙ and_left (f n) (all_below n f) e

-- a holder that is not there can be added within the eight bits
room : ℕ → ℕ → Bool
room x p = bit p x || ltb (x + 2 ^ p) byte_values

room-table : all_below byte_values (λ x. all_below max_txns (λ p. room x p)) ≡ true
unfolding room bit
room-table = refl

pub add-fits : (x p : ℕ) → x < byte_values → p < max_txns → bit p x ≡ false → x + 2 ^ p < byte_values
unfolding room
add-fits x p hx hp e =
    let t : room x p ≡ true = all-at max_txns (room x)
    (all-at byte_values (λ y. all_below max_txns (room y)) room-table x hx) p hp in
    ltb-true (x + 2 ^ p) byte_values (rw e at t)

-- no bit but p: none, or one, at p
abbrev pub free_but : ℕ → ℕ → Bool
free_but p x = eqb (ones x) 0 || eqb (ones x) 1 && eqb (count_trailing_zeros max_txns x) p

same_bool : Bool → Bool → Bool
same_bool true b = b
same_bool false b = not b

free : ℕ → ℕ → Bool
free x p = same_bool (free_but p x) (eqb (drop_at p x) 0)

free_table : all_below byte_values (λ x. all_below (suc no_slot) (λ p. free x p)) ≡ true
unfolding free same_bool drop_reader bit ones ones_in count_trailing_zeros
free_table = refl

same_bool_lem : (a b : Bool) → same_bool a b ≡ true → a ≡ b
unfolding same_bool
same_bool_lem true true e = refl
same_bool_lem true false e = sym e
same_bool_lem false true e = e
same_bool_lem false false e = refl

pub free_but_lem : (p x : ℕ) → x < byte_values → p ≤ no_slot → free_but p x ≡ eqb (drop_at p x) 0
unfolding free
free_but_lem p x hx hp =
    same_bool_lem _ _ (all-at (suc no_slot) (free x)
    (all-at byte_values (λ y. all_below (suc no_slot) (free y)) free_table x hx) p (omega arith))
