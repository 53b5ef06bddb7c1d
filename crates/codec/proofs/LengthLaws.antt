-- The length that is worked out is the table's.
use Prim.Native.Nat.{ℕ, ◌≤◌}
use native.Mathlib.Omega.{arith}
use Rattle.std.proofs.lemmas.Bool.Decides.{nat_tests}
use Rattle.rules.specs.Frame.{layout_of, frame_length}
use Rattle.codec.specs.Lengths.{length_by_rule, LengthsAsBefore}

-- for each operation, and for what is none
pub lengths_as_before : LengthsAsBefore
unfolding length_by_rule frame_length layout_of
lengths_as_before op = grind (arith, nat_tests)

-- no frame is longer than 28
pub at_most_28 : (op : ℕ) → frame_length op ≤ 28
unfolding frame_length layout_of
at_most_28 op = grind (arith, nat_tests)
