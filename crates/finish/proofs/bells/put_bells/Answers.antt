use Rattle.std.proofs.Common.{◌≡◌, map, sym, ap, ◌∙◌, arith, length, length-append}
use Rattle.std.proofs.Common.{[], ◌∷◌, ◌++◌, inl}
use mathlib.Core.Path.{subst}
use Rattle.rules.specs.Lists.{filterb}
use Rattle.rules.specs.Words.{view}
use Rattle.rules.proofs.ViewLaws.{view-bounded}
use Rattle.tables.specs.Table.{left}
use Rattle.tables.specs.Tables.{registration_table}
use Rattle.holds.proofs.RegistryLaws.{has_place, one_passed}
use Rattle.finish.specs.Bells.{rung_by, beside}
use Rattle.finish.specs.Does.{Adds}
use Rattle.finish.proofs.BellLaws.{rings, bell, no_bells, bells_passed, bells-more, all_left}
use Rattle.finish.proofs.bells.put_bells.Goals as goal

pub loop-i-init-derived : goal.loop-i-init-derived
loop-i-init-derived c =
    let it = c.into_iter-i-iterator.result in
    let at = c.into_iter-i-iterator.ensures.into_iter_gives in
    let source = c.enumerate-i-items.ensures.source in
    let rows = c.rows.ensures in
    let none = c.enumerate-i-items.ensures.count in
    let start : it.count ≡ 0 = cc in
    let all : left registration_table it.iter.space.now it.iter.at it.iter.end ≡ (view c.args.space.now).registrations
    = cc in
    ((tt, tt, inl (omega (arith, start, ap length all, (view-bounded c.args.space.now).registrations_fit))), tt)

pub loop-i-init : goal.loop-i-init
loop-i-init c =
    let it = c.into_iter-i-iterator.result in
    let at = c.into_iter-i-iterator.ensures.into_iter_gives in
    let source = c.enumerate-i-items.ensures.source in
    let rows = c.rows.ensures in
    let none = c.enumerate-i-items.ensures.count in
    let start : it.count ≡ 0 = cc in
    let all : left registration_table it.iter.space.now it.iter.at it.iter.end ≡ (view c.args.space.now).registrations
    = cc in
    ([], sym start, all, omega arith, no_bells c.args.counts.now _ _)

pub bounds-counts-i : goal.bounds-counts-i
bounds-counts-i c =
    let s = c.in-Some.ensures.steps in
    let l = c.loop-i.invariant in
    omega (arith, s.1, has_place _ _ c.args.space.now l.1 l.2 s.0)

pub offset_bounds-counts-i : goal.offset_bounds-counts-i
offset_bounds-counts-i c =
    let s = c.in-Some.ensures.steps in
    let l = c.loop-i.invariant in
    record { fits = omega (arith, s.1, has_place _ _ c.args.space.now l.1 l.2 s.0) }

pub loop-i-preserved-then-counts-i-eq0 : goal.loop-i-preserved-then-counts-i-eq0
loop-i-preserved-then-counts-i-eq0 c =
    let s = c.in-Some.ensures.steps in
    let l = c.loop-i.invariant in
    let g = c.in-Some.g in (
      l.0 ++ (g ∷ []),
      omega (arith, length-append l.0 (g ∷ []), l.1, s.2),
      one_passed l.0 _ l.2 s.0,
      omega (arith, l.3, s.2),
      bells_passed c.args.counts.now l.0 c.in-Some.i g (l.1 ∙ sym s.1)
          (omega (arith, s.1, has_place _ _ c.args.space.now l.1 l.2 s.0, c.told-counts)) l.4
          c.if-counts-i-eq0.true,
    )

pub add_record-done-requires : goal.add_record-done-requires
add_record-done-requires c =
    let s = c.in-Some.ensures.steps in
    let l = c.loop-i.invariant in
    omega (arith, has_place _ _ c.args.space.now l.1 l.2 s.0, l.3, c.requires, c.loop-i.auto.answers)

pub loop-i-preserved : goal.loop-i-preserved
loop-i-preserved c =
    let s = c.in-Some.ensures.steps in
    let l = c.loop-i.invariant in
    let g = c.in-Some.g in (
      l.0 ++ (g ∷ []),
      omega (arith, length-append l.0 (g ∷ []), l.1, s.2),
      one_passed l.0 _ l.2 s.0,
      omega (arith, l.3, s.2, c.add_record-done.ensures.counts),
      bells-more c.args.counts.now l.0 c.in-Some.i g (l.1 ∙ sym s.1)
          (omega (arith, s.1, has_place _ _ c.args.space.now l.1 l.2 s.0, c.told-counts)) l.4
          c.if-counts-i-eq0.false c.rung_record.ensures (omega (arith, c.requires)) c.add_record-done.ensures,
    )

pub returns : goal.returns
unfolding rung_by
returns c =
    let l = c.loop-i.invariant in
    let all = all_left l.0 l.2 c.in-None.ensures.steps.0.0 in
    subst (λ gs. Adds (map bell (filterb rings (beside c.args.counts.now gs))) c.args.answers.now c.loop-i.answers
    c.args.count c.loop-i.done) all l.4
