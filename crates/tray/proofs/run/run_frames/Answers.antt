use Rattle.std.proofs.Common.{◌≡◌, ℕ, ◌*◌, ◌≤◌, List, arith}
use Rattle.rules.specs.Numbers.{record_size, step_records, max_frames}
use Rattle.rules.specs.Tray.{frame_count, tray_refusal}
use Rattle.rules.proofs.PartLaws.{part_from, part_put}
use Rattle.hints.specs.declared.known.Hints.{Hints}
use Rattle.tray.proofs.PairsJudged.{few-frames, pair_there}
use Rattle.tray.proofs.RunningLaws.{Running, running_none, running_length, running_more}
use Rattle.tray.proofs.TrayLaws.{part_is_frame, passes, frame_in, tray_done, tray_stops}
use Rattle.tray.proofs.run.run_frames.Goals as goal

-- no more frames are done than a tray may have, and no more records written than these may give
few_done : {tray a₀ ws a : List ℕ} {hs : Hints} {k n : ℕ} → tray_refusal tray ≡ 0 → Running tray a₀ ws hs a k n
    → k ≤ frame_count tray → (k ≤ max_frames) × (n ≤ step_records * max_frames)
few_done {tray} fine r h =
    let few = few-frames tray (passes tray fine).0 in
    (omega arith, omega (arith, r.few))

pub loop-frames-init : goal.loop-frames-init
loop-frames-init c = running_none c.set_empty.ensures.0 c.of_empty-hints.ensures

pub overflow_mul-at : goal.overflow_mul-at
overflow_mul-at c = omega (arith, c.loop-frames.invariant.room)

pub packed-requires : goal.packed-requires
packed-requires c = few_done c.requires c.loop-frames.invariant (omega (arith, c.pair_count-count.ensures))

pub returns-then-answers-at : goal.returns-then-answers-at
returns-then-answers-at c =
    let i = c.loop-frames.invariant in
    tray_stops _ c.requires i (omega (arith, c.pair_count-count.ensures))
    (omega (arith, running_length i, c.if-answers-at.true)) (omega (arith, c.packed.ensures, c.number.ensures))

pub pair_at-offset-requires : goal.pair_at-offset-requires
pair_at-offset-requires c =
    pair_there _ _ (passes _ c.requires).0 (omega (arith, c.pair_count-count.ensures))

pub slice_bounds-step_hinted-end : goal.slice_bounds-step_hinted-end
slice_bounds-step_hinted-end c =
    let pair = c.pair_at-offset.ensures in
    let within =
    frame_in c.args.tray.now c.requires c.loop-frames.frames (omega (arith, c.pair_count-count.ensures)) in
    omega (arith, within, pair.begins, pair.ends)

pub loop-frames-preserved : goal.loop-frames-preserved
loop-frames-preserved c =
    let step = c.step_hinted-answer in
    let l = c.loop-frames in
    let at = record_size * l.records in
    running_more l.invariant (omega (arith, c.pair_count-count.ensures))
    (omega (arith, running_length l.invariant, c.if-answers-at.false))
    (part_is_frame c.args.tray.now c.pair_at-offset.ensures) (part_from l.answers at) step.ensures.0 step.ensures.1
    (part_put l.answers step.new.answers at)

pub packed-requires-2 : goal.packed-requires-2
packed-requires-2 c =
    let few = few_done c.requires c.loop-frames.invariant (omega (arith, c.pair_count-count.ensures)) in
    (omega (arith, few), omega (arith, few))

pub returns : goal.returns
returns c =
    let i = c.loop-frames.invariant in
    tray_done _ c.requires i (omega (arith, c.pair_count-count.ensures)) (omega (arith, c.packed-2.ensures))
