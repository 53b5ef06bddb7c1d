use Rattle.std.proofs.Common.{◌∙◌, arith}
use Rattle.order.specs.Export.{writes}
use Rattle.order.proofs.PlanLaws.{slot_is, is_write_test, not_both, none_resolved, written_twice, resolved_more}
use Rattle.order.proofs.plan.resolve.Goals as goal

pub loop-j-init : goal.loop-j-init
loop-j-init c = none_resolved _ _ (omega arith) c.requires

pub returns-then-again : goal.returns-then-again
returns-then-again c =
    let slot = slot_is _ _ (writes 0) c.loop-j-test.true c.first_place.ensures c.unwrap_or-slot.ensures in
    written_twice _ _ _ (writes 0) _ _ c.loop-j.invariant c.loop-j-test.true c.requires slot.0 slot.1
    (c.eq-writes.ensures ∙ is_write_test _) c.if-writes.true c.if-again.true

pub loop-j-preserved : goal.loop-j-preserved
loop-j-preserved c =
    let slot = slot_is _ _ (writes 0) c.loop-j-test.true c.first_place.ensures c.unwrap_or-slot.ensures in
    resolved_more _ _ _ (writes 0) _ _ c.loop-j.invariant c.loop-j-test.true c.requires slot.0 slot.1
    (c.eq-writes.ensures ∙ is_write_test _) (not_both c.else-writes.either)
