use Rattle.std.proofs.Common.{arith}
use Rattle.tray.proofs.TrayLaws.{part_is_frame, passes}
use Rattle.tray.proofs.PairsJudged.{few-frames, pair_there}
use Rattle.sittings.proofs.SittingLaws.{told, ends_in, watching_none, watching_more, watching_done}
use Rattle.sittings.proofs.sitting.add_sitting.Goals as goal

pub loop-i-init : goal.loop-i-init
loop-i-init c =
    watching_none c.args.report.now (λ j. omega (arith, c.type_inv.tray j)) c.set_empty.ensures.0
    c.of_empty-hints.ensures

pub pair_at-offset-requires : goal.pair_at-offset-requires
pair_at-offset-requires c =
    pair_there _ _ (passes _ c.requires).0 (omega (arith, c.pair_count-count.ensures))

pub slice_bounds-step_hinted-end : goal.slice_bounds-step_hinted-end
slice_bounds-step_hinted-end c =
    ends_in c.args.tray.now c.requires c.pair_at-offset.ensures (omega (arith, c.pair_count-count.ensures))

pub slice_bounds-note_frame-end : goal.slice_bounds-note_frame-end
slice_bounds-note_frame-end c =
    ends_in c.args.tray.now c.requires c.pair_at-offset.ensures (omega (arith, c.pair_count-count.ensures))

pub note_frame-requires-clause-few : goal.note_frame-requires-clause-few
note_frame-requires-clause-few c =
    (told c.loop-i.invariant.sound (omega arith) c.step_hinted-answer.ensures.0).few

pub note_frame-requires-clause-clock : goal.note_frame-requires-clause-clock
note_frame-requires-clause-clock c =
    let t = told c.loop-i.invariant.sound (omega arith) c.step_hinted-answer.ensures.0 in
    let few = few-frames _ (passes c.args.tray.now c.requires).0 in
    omega (arith, t.few, few, c.pair_count-count.ensures, c.loop-i.invariant.few)

pub loop-i-preserved : goal.loop-i-preserved
loop-i-preserved c =
    let step = c.step_hinted-answer.ensures in
    let l = c.loop-i in
    let t = told l.invariant.sound (omega arith) step.0 in
    watching_more l.invariant (omega (arith, c.pair_count-count.ensures))
    (part_is_frame c.args.tray.now c.pair_at-offset.ensures) t step.1 c.note_frame.ensures.noted
    c.note_frame.ensures.clock

pub returns : goal.returns
returns c = watching_done c.loop-i.invariant (omega (arith, c.pair_count-count.ensures)) c.end_waits.ensures
