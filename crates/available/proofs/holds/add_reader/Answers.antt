use Rattle.std.proofs.Common.{◌^◌, ◌<◌, sym, ◌∙◌, arith}
use native.Mathlib.Nat.{mod-eq_of_lt}
use lib.Pow.{pow-lt}
use Rattle.available.proofs.BitLaws.{add-fits}
use Rattle.available.proofs.holds.add_reader.Goals as goal

-- the sum is a byte
pub overflow_add-result : goal.overflow_add-result
overflow_add-result c =
    let a = c.args in
    let low : 2 ^ a.p < 2 ^ 8 = pow-lt {j = 8} (omega arith) in
    omega (
      arith,
      mod-eq_of_lt low,
      add-fits a.x a.p (omega arith) (omega arith) (sym c.has_bit.ensures ∙ c.if-has_bit.false),
    )
