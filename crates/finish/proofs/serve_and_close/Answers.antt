use mathlib.Core.Path.{refl, ap}
use native.Mathlib.Omega.{arith}
use lib.ListN.{length}
use Rattle.rules.specs.State.{Model}
use Rattle.finish.specs.Ending.{Both}
use Rattle.finish.proofs.AddsLaws.{does-nothing}
use Rattle.finish.proofs.FinishLaws.{few-served, finish_parts}
use Rattle.finish.proofs.serve_and_close.Goals as goal

pub close_in_vain-requires : goal.close_in_vain-requires
close_in_vain-requires c =
    let s = c.serve-served.ensures in
    omega (
      arith,
      c.requires,
      s.adds.counts,
      ap (λ (m : Model). length m.waits) s.model,
      few-served c.args.space.now c.args.from,
    )

pub returns : goal.returns
returns c =
    finish_parts c.args.space.now Both c.args.from (omega (arith, c.requires)) (does-nothing _ _ _)
    refl
    c.serve-served.ensures c.close_in_vain.ensures
