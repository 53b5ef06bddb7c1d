use Prim.Native.Nat.{◌-◌}
use mathlib.Core.Path.{refl, ap}
use native.Mathlib.Omega.{arith}
use lib.ListN.{length}
use Rattle.rules.specs.State.{Model}
use Rattle.finish.specs.Ending.{Tick, first_free}
use Rattle.finish.proofs.FinishLaws.{few-ended, few-served, finish_parts}
use Rattle.finish.proofs.finish_tick.Goals as goal

pub overflow_sub-ended : goal.overflow_sub-ended
overflow_sub-ended c = omega (arith, c.lapse-ended.ensures.adds.counts)

pub serve_ended-served-requires : goal.serve_ended-served-requires
serve_ended-served-requires c =
    omega (
      arith,
      c.requires,
      c.lapse-ended.ensures.adds.counts,
      few-ended c.args.space.now Tick,
      c.lapse-ended.auto.answers,
    )

pub close_waits-requires : goal.close_waits-requires
close_waits-requires c =
    let s = c.serve_ended-served.ensures in
    omega (
      arith,
      c.requires,
      c.lapse-ended.ensures.adds.counts,
      few-ended c.args.space.now Tick,
      s.adds.counts,
      ap (λ (m : Model). length m.waits) s.model,
      few-served c.lapse-ended.new.space (first_free Tick 0 (c.lapse-ended.result - c.args.count)),
    )

pub returns : goal.returns
returns c =
    finish_parts c.args.space.now Tick 0 (omega (arith, c.requires)) c.lapse-ended.ensures refl
    c.serve_ended-served.ensures c.close_waits.ensures
