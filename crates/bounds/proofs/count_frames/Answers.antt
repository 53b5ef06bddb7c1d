use Rattle.std.proofs.Common.{◌+◌, ◌*◌, ◌<◌, min, ap, ◌∙◌, arith, rules}
use Rattle.std.proofs.lemmas.Result.{err_from_is_err_and}
use Rattle.rules.specs.Numbers.{max_entries}
use Rattle.rules.specs.Frame.{byte_at}
use Rattle.rules.specs.Tray.{frame_count}
use Rattle.tray.proofs.PairsJudged.{few-frames, pair_there, in_place, judging_none, out_of_place, judging_more}
use Rattle.tray.proofs.PairsJudged.{judging_all}
use Rattle.tray.proofs.TrayLaws.{part_is_frame}
use Rattle.bounds.specs.declared.Counts.{Counts}
use Rattle.bounds.specs.Bounds.{many, bells_bound, records_bound}
use Rattle.bounds.proofs.CountLaws.{counted_more, counted-all, few-counted, by_15, by_16, by_counts}
use Rattle.bounds.proofs.count_frames.Goals as goal

pub returns-in_err-count : goal.returns-in_err-count
returns-in_err-count c =
    let h = c.in_err-count.ensures in
    let p = err_from_is_err_and c.from_residual.result c.from_residual.ensures.1 in
    rw (p.1, p.2, h.0) (by_15 _ h.1)

pub loop-i-init : goal.loop-i-init
unfolding many records_bound bells_bound
loop-i-init c =
    (judging_none _ (omega (arith, c.in_ok-count.ensures.0, c.pairs_end-free.ensures)), search rules)

pub placed_at-requires : goal.placed_at-requires
placed_at-requires c = pair_there _ _ c.in_ok-count.ensures.1 (omega (arith, c.in_ok-count.ensures.0))

pub returns-in_err-offset : goal.returns-in_err-offset
returns-in_err-offset c =
    let h = c.in_err-offset.ensures in
    let p = err_from_is_err_and c.from_residual-in_err-offset.result c.from_residual-in_err-offset.ensures.1 in
    rw (p.1, p.2, h.0)
    (by_16 _ c.in_ok-count.ensures.1
    (out_of_place c.loop-i.invariant.0 (omega (arith, c.in_ok-count.ensures.0)) h.1))

pub slice_bounds-byte_at-end : goal.slice_bounds-byte_at-end
slice_bounds-byte_at-end c =
    let h = c.in_ok-offset.ensures in
    omega (arith, in_place _ c.loop-i.i c.loop-i.free h.0 h.1, h.0.begins, h.0.ends)

pub count_frame-counts-requires : goal.count_frame-counts-requires
count_frame-counts-requires c =
    few-counted _ c.loop-i.i c.loop-i.invariant.1
    (omega (arith, c.in_ok-count.ensures.0, few-frames _ c.in_ok-count.ensures.1))

pub loop-i-preserved : goal.loop-i-preserved
loop-i-preserved c =
    let l = c.loop-i in
    let h = c.in_ok-offset.ensures in
    let tray = c.args.tray.now in
    let more : l.i < frame_count tray = omega (arith, c.in_ok-count.ensures.0, c.loop-i-test.true) in (
      judging_more l.invariant.0 more h.0 h.1,
      c.count_frame-counts.ensures ∙ counted_more tray more l.invariant.1
          (c.byte_at.ensures ∙ ap (λ f. byte_at f 0) (part_is_frame _ h.0)),
    )

pub packed-requires : goal.packed-requires
packed-requires c =
    few-counted _ c.loop-i.i c.loop-i.invariant.1
    (omega (arith, c.in_ok-count.ensures.0, few-frames _ c.in_ok-count.ensures.1))

pub returns : goal.returns
returns c =
    let l = c.loop-i in
    let fine = c.in_ok-count.ensures in
    let tray = c.args.tray.now in
    let all = l.invariant.1 ∙ counted-all tray l.i (omega (arith, fine.0)) in
    c.packed.ensures
    ∙ ap (λ (k : Counts). min max_entries k.writes + 65536 * k.records) all
    ∙ by_counts tray fine.1 (judging_all l.invariant.0 (omega (arith, fine.0)))
