use Rattle.std.proofs.Common.{◌^◌, ◌<◌, sym, ◌∙◌, arith}
use native.Mathlib.Nat.{mod-eq_of_lt}
use lib.Pow.{pow-lt}
use Rattle.rules.proofs.ReaderLaws.{bit-holds}
use Rattle.available.proofs.holds.drop_reader.Goals as goal

-- the bit is there
pub overflow_sub-result : goal.overflow_sub-result
overflow_sub-result c =
    let a = c.args in
    let low : 2 ^ a.p < 2 ^ 8 = pow-lt {j = 8} (omega arith) in
    omega (arith, mod-eq_of_lt low, bit-holds a.p a.x (sym c.has_bit.ensures ∙ c.if-has_bit.true))
