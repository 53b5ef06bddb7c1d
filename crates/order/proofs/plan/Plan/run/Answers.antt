use Rattle.std.proofs.Common.{sym, ◌∙◌, length-set, arith}
use Rattle.order.specs.Search.{after_txn}
use Rattle.order.proofs.SearchLaws.{placed_at, misses_there, misses_write, misses_none, missing, carried, ended}
use Rattle.order.proofs.plan.Plan.run.Goals as goal
use Rattle.order.proofs.plan.Plan.run.Goals.{else-ne-via-then-ne+else-not-present-slot, else-ne-via-else-ne}

pub bounds-present-slot : goal.bounds-present-slot
bounds-present-slot c =
    rw c.from-slot.ensures (placed_at _ _ c.args.self.now.placed (omega arith) _ _ _ c.loop-step-test.true)

pub bounds-present-slot-in-loop-step : goal.bounds-present-slot-in-loop-step
bounds-present-slot-in-loop-step c =
    rw c.from-slot.ensures (placed_at _ _ c.args.self.now.placed (omega arith) _ _ _ c.loop-step-test.true)

pub returns-then-not-present-slot : goal.returns-then-not-present-slot
unfolding after_txn
returns-then-not-present-slot c =
    sym (c.loop-step.invariant.1 ∙ missing _ _ _ _ c.loop-step-test.true
    (misses_there _ _ c.ne.ensures c.if-ne.true (rw⁻¹ c.from-slot.ensures c.if-not-present-slot.true)))

pub loop-step-preserved : goal.loop-step-preserved
loop-step-preserved c = (
  length-set c.loop-step.present _ _ ∙ c.loop-step.invariant.0,
  rw c.from-slot.ensures (c.loop-step.invariant.1 ∙ carried _ _ _ _ c.loop-step-test.true
      (elim c.else-ne.branch [
        | else-ne-via-then-ne+else-not-present-slot w ↦
            misses_none _ _ (rw⁻¹ c.from-slot.ensures w.if-not-present-slot.false)
        | else-ne-via-else-ne w ↦ misses_write _ _ c.ne.ensures w.if-ne.false
      ])
      c.ne-in-loop-step.ensures),
)

pub returns : goal.returns
unfolding after_txn
returns c = sym (c.loop-step.invariant.1 ∙ ended _ _ _ c.loop-step-test.false)
