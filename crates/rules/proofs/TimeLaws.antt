-- A lease or timeout other than 0 is not over as it starts, and one of 0 is.
use Prim.Native.Nat.{ℕ, ◌+◌}
use mathlib.Core.Bool.{true, false}
use mathlib.Core.Path.{◌≡◌, refl}
use native.Mathlib.Omega.{arith}
use borrow.Author.Tests.{le-leb, lt-leb}
use lib.Dec.{eqb}
use Rattle.rules.specs.declared.until.Until.{Until}
use Rattle.rules.specs.Numbers.{forever}
use Rattle.rules.specs.Time.{until, reached}
use Rattle.rules.proofs.BoolLaws.{cond_cases}

pub until_later : (clock lease : ℕ) → (lease ≡ 0 → ⊥) → reached clock (until clock lease) ≡ false
unfolding until reached
until_later clock lease h =
    cond_cases (λ (u : Until). reached clock u ≡ false) (eqb lease forever) (λ e. refl)
    (λ e. lt-leb (clock + lease) clock (omega arith))

pub until_now : (clock : ℕ) → reached clock (until clock 0) ≡ true
unfolding until reached
until_now clock = le-leb (clock + 0) clock (omega arith)
