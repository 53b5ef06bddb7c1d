use Rattle.std.proofs.Common.{◌≡◌, ◌+◌, ◌∙◌, sym, true, arith, rules}
use mathlib.Core.Path.{subst⁻¹}
use Rattle.rules.specs.Words.{view, entry_words}
use Rattle.tables.proofs.CompactLaws.{compact_passed, compact_same, compact_put}
use Rattle.holds.specs.Sweep.{SameBefore}
use Rattle.holds.proofs.SweepLaws.{Sweeping, found_within, passed_some, passed_none, passed_fits}
use Rattle.holds.proofs.SweepLaws.{sweep_still, still_before, same_before, sweep_done}
use Rattle.holds.proofs.sweep.pass_over.Goals as goal
use Rattle.holds.proofs.sweep.pass_over.Goals.{then-not-touches+else-i-kept, then-not-touches+then-i-kept}
use Rattle.holds.proofs.sweep.pass_over.Goals.{else-not-touches+in-Some}

pub loop-i-init : goal.loop-i-init
loop-i-init g c =
    let count = c.row_count-count.ensures.0 in
    let row = c.first_row.ensures in (
      c.requires.0,
      c.requires.1,
      found_within c.args.space.now c.first_row.result row.row count c.unwrap_or-first.ensures,
      omega arith,
      λ touch keep change laws touches passes.
          let found = row.first touch (λ e r k. search (rules, touches)) in
          let ws = c.args.space.now in
          sweep_still keep change ws _
          (still_before keep change touch laws ws c.first_row.result found count c.unwrap_or-first.ensures),
    )

pub loop-i-preserved-in_default : goal.loop-i-preserved-in_default
loop-i-preserved-in_default g c =
    let l = c.loop-i.invariant in
    let e = c.row_at-e.result in (
      c.requires.0,
      c.requires.1,
      omega arith,
      omega (arith, l.3),
      λ touch keep change laws touches passes.
          let touched : touch e ≡ true = sym (touches _ _ c.touches.ensures) ∙ c.if-not-touches.false in
          let gone = passed_none keep change e (sym (passes _ _ touched c.pass.ensures) ∙ search rules) in
          compact_passed (l.4 touch keep change laws touches passes) c.row_at-e.ensures gone,
    )

pub loop-i-preserved : goal.loop-i-preserved
loop-i-preserved g c =
    let l = c.loop-i.invariant in
    let is = c.row_at-e.ensures in
    let e = c.row_at-e.result in
    let count = c.row_count-count.ensures in (
      c.requires.0,
      c.requires.1,
      omega arith,
      omega (arith, l.3),
      λ touch keep change laws touches passes.
          let done = l.4 touch keep change laws touches passes in
          elim c.if-not-touches.branch [
            | then-not-touches+else-i-kept w ↦
                let spared = laws.spared e (sym (touches _ _ c.touches.ensures) ∙ w.if-not-touches.true) in
                subst⁻¹ (λ ws. Sweeping keep change c.args.space.now ws (c.loop-i.i + 1) (c.loop-i.kept + 1)) w.space-is
                (compact_same done is spared.0 (sym w.if-i-kept.false) spared.1)
            | then-not-touches+then-i-kept w ↦
                let spared = laws.spared e (sym (touches _ _ c.touches.ensures) ∙ w.if-not-touches.true) in
                let fits = passed_fits keep change laws c.loop-i.space c.loop-i.i is spared.1 in
                let put = w.put_row.ensures in
                subst⁻¹ (λ ws. Sweeping keep change c.args.space.now ws (c.loop-i.i + 1) (c.loop-i.kept + 1)) w.space-is
                (compact_put done is spared.0 (omega (arith, count.0)) (omega (arith, count.1)) (entry_words e)
                put.words put.width (put.back fits ∙ sym spared.1))
            | else-not-touches+in-Some w ↦
                let touched : touch e ≡ true = sym (touches _ _ c.touches.ensures) ∙ w.if-not-touches.false in
                let stays = passed_some keep change e (sym (passes _ _ touched w.pass.ensures) ∙ w.in-Some.is) in
                let fits = passed_fits keep change laws c.loop-i.space c.loop-i.i is stays.1 in
                let put = w.put_row-in-Some.ensures in
                subst⁻¹ (λ ws. Sweeping keep change c.args.space.now ws (c.loop-i.i + 1) (c.loop-i.kept + 1)) w.space-is
                (compact_put done is stays.0 (omega (arith, count.0)) (omega (arith, count.1)) (entry_words w.in-Some.x)
                put.words put.width (put.back fits ∙ sym stays.1))
          ],
    )

pub returns : goal.returns
returns g c touch keep change laws touches passes =
    let ws = c.args.space.now in
    let count = c.row_count-count.ensures in
    let row = c.first_row.ensures in
    let first = c.unwrap_or-first in
    let done =
    sweep_done keep change (c.loop-i.invariant.4 touch keep change laws touches passes) count.1 (omega (arith, count.0))
    c.set_row_count.ensures in
    let found = row.first touch (λ e r k. search (rules, touches)) in
    let still = still_before keep change touch laws ws c.first_row.result found count.0 first.ensures in
    let within = found_within ws c.first_row.result row.row count.0 first.ensures in
    let same = same_before keep change ws first.result (omega (arith, within, count.0)) still in
    (done, subst⁻¹ (SameBefore first.result (view ws)) done same)
