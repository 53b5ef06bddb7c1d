use Rattle.std.proofs.Common.{refl, arith}
use Rattle.rules.specs.Tray.{tray_refusal}
use Rattle.std.proofs.lemmas.Result.{err_from_is_err_and}
use Rattle.tray.proofs.PairsJudged.{pair_there, judging_none, out_of_place, judging_more, judging_all}
use Rattle.tray.proofs.pairs.refusal.Goals as goal

pub loop-i-init : goal.loop-i-init
loop-i-init c = judging_none _ (omega (arith, c.in_ok-count.ensures.0, c.pairs_end-free.ensures))

pub placed_at-requires : goal.placed_at-requires
placed_at-requires c = pair_there _ _ c.in_ok-count.ensures.1 (omega (arith, c.in_ok-count.ensures.0))

pub returns-in_err-free : goal.returns-in_err-free
unfolding tray_refusal
returns-in_err-free c =
    let fine = c.in_ok-count.ensures.1 in
    let wrong = out_of_place c.loop-i.invariant (omega (arith, c.in_ok-count.ensures.0)) c.in_err-free.ensures.1 in
    let p = err_from_is_err_and c.from_residual-in_err-free.result c.from_residual-in_err-free.ensures.1 in
    rw (fine, wrong, p.1, p.2, c.in_err-free.ensures.0) refl

pub loop-i-preserved : goal.loop-i-preserved
loop-i-preserved c =
    let h = c.in_ok-free.ensures in
    judging_more c.loop-i.invariant (omega (arith, c.in_ok-count.ensures.0)) h.0 h.1

pub returns : goal.returns
unfolding tray_refusal
returns c =
    let fine = c.in_ok-count.ensures.1 in
    let right = judging_all c.loop-i.invariant (omega (arith, c.in_ok-count.ensures.0)) in
    rw (fine, right) refl
