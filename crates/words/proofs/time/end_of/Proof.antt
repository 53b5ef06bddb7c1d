-- `words::time::end_of` meets its contract. Assumes nothing.
use Prim.Native.Nat.{◌+◌}
use mathlib.Core.Path.{refl}
use native.Mathlib.Omega.{arith}
use borrow.Author.Tests.{eq-eqb, ne_eqb}
use Rattle.rules.specs.Numbers.{forever}
use Rattle.rules.specs.Time.{until}
use Rattle.rules.specs.Words.{until_of}
use Rattle.words.proofs.time.end_of.Statement.{statement}
use Rattle.words.proofs.time.end_of.Tie as tie

add_t5 : tie.Need-overflow_add-result
add_t5 c = record { fits = omega (arith, c.requires c.if-lease-eq-FOREVER.false) }

returns : tie.Need-returns-then-lease-eq-FOREVER
unfolding until until_of
returns c = (rw (eq-eqb _ _ c.if-lease-eq-FOREVER.true), refl)

returns-2 : tie.Need-returns-else-lease-eq-FOREVER
unfolding until until_of
returns-2 c =
    let low = c.requires c.if-lease-eq-FOREVER.false in (
      rw (ne_eqb _ _ c.if-lease-eq-FOREVER.false),
      rw (ne_eqb (c.args.clock + c.args.lease) forever
          (λ e. omega arith)),
    )

pub end_of_spec : {M : Type 1} → statement M
end_of_spec = tie.close (tie.spec add_t5 returns returns-2)
