use Rattle.std.proofs.Common.{arith}
use Rattle.order.proofs.SearchLaws.{not_left, not_run, not_found, is_found, all_placed, all_tried}
use Rattle.order.proofs.plan.Plan.+search.Goals as goal

pub returns-then-d-self : goal.returns-then-d-self
returns-then-d-self t c = all_placed _ _ _ _ _ _ _ c.if-d-self.true c.args.self.now.few

pub loop-p-preserved-then-not-left-p : goal.loop-p-preserved-then-not-left-p
loop-p-preserved-then-not-left-p t c = not_left _ _ _ _ _ _ _ c.loop-p.invariant c.if-not-left-p.true

pub loop-p-preserved-in_default : goal.loop-p-preserved-in_default
loop-p-preserved-in_default t c = not_run _ _ _ _ _ _ _ c.loop-p.invariant c.in_default.ensures

pub returns-in-Some-search : goal.returns-in-Some-search
returns-in-Some-search t c =
    is_found _ _ _ _ _ _ _ c.loop-p.invariant _ c.in-Some.ensures c.in-Some-search.ensures c.loop-p-test.true
    c.if-not-left-p.false (omega arith)

pub loop-p-preserved : goal.loop-p-preserved
loop-p-preserved t c =
    not_found _ _ _ _ _ _ _ c.loop-p.invariant _ c.in-Some.ensures c.in_default-search.ensures

pub returns : goal.returns
returns t c = all_tried _ _ _ _ _ _ _ c.loop-p.invariant c.loop-p-test.false (omega (arith, c.requires))
