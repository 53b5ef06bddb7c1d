use Rattle.std.proofs.Common.{◌≡◌, refl, sym, ap, ◌∙◌}
use Rattle.std.proofs.Common.{arith, length, length-append, [], ◌∷◌, ◌++◌, inl}
use lib.ListN.{take, length-set}
use Rattle.rules.specs.Words.{view}
use Rattle.rules.proofs.ViewLaws.{view-bounded}
use Rattle.tables.specs.Table.{left}
use Rattle.tables.specs.Tables.{registration_table}
use Rattle.holds.proofs.RegistryLaws.{has_place, one_passed, filled_more, filled_all}
use Rattle.holds.proofs.registry.count_each.Goals as goal

pub loop-i-init-derived : goal.loop-i-init-derived
loop-i-init-derived g c =
    let it = c.into_iter-i-iterator.result in
    let at = c.into_iter-i-iterator.ensures.into_iter_gives in
    let source = c.enumerate-i-items.ensures.source in
    let rows = c.rows.ensures in
    let none = c.enumerate-i-items.ensures.count in
    let start : it.count ≡ 0 = cc in
    let all : left registration_table it.iter.space.now it.iter.at it.iter.end ≡ (view c.args.space.now).registrations
    = cc in
    ((tt, tt, inl (omega (arith, start, ap length all, (view-bounded c.args.space.now).registrations_fit))), tt)

pub loop-i-init : goal.loop-i-init
loop-i-init g c =
    let it = c.into_iter-i-iterator.result in
    let at = c.into_iter-i-iterator.ensures.into_iter_gives in
    let source = c.enumerate-i-items.ensures.source in
    let none = c.enumerate-i-items.ensures.count in
    let rows = c.rows.ensures in
    let start : it.count ≡ 0 = cc in
    let all : left registration_table it.iter.space.now it.iter.at it.iter.end ≡ (view c.args.space.now).registrations
    = cc in
    (c.requires, refl, ([], sym start, all, λ v computes. ap (λ k. take k (0 ∷ 0 ∷ 0 ∷ 0 ∷ 0 ∷ 0 ∷ 0 ∷ 0 ∷ [])) start))

pub bounds-counts-i : goal.bounds-counts-i
bounds-counts-i g c =
    let s = c.in-Some.ensures.steps in
    let l = c.loop-i.invariant.2 in
    omega (arith, s.1, has_place _ _ c.args.space.now l.1 l.2 s.0)

pub offset_bounds-counts-i : goal.offset_bounds-counts-i
offset_bounds-counts-i g c = record {
  fits =
      omega (
        arith,
        c.in-Some.ensures.steps.1,
        has_place _ _ c.args.space.now c.loop-i.invariant.2.1 c.loop-i.invariant.2.2 c.in-Some.ensures.steps.0,
      );
}

pub loop-i-preserved : goal.loop-i-preserved
loop-i-preserved g c =
    let s = c.in-Some.ensures.steps in
    let l = c.loop-i.invariant.2 in
    let x = c.in-Some.g in (
      c.requires,
      length-set c.loop-i.counts c.in-Some.i c.count.result ∙ c.loop-i.invariant.1,
      (
        l.0 ++ (x ∷ []),
        omega (arith, length-append l.0 (x ∷ []), l.1, s.2),
        one_passed l.0 _ l.2 s.0,
        λ v computes.
            filled_more v c.loop-i.counts l.0 c.loop-i.i-iterator.count (l.3 v computes) s.1 s.2
            (omega (arith, has_place _ _ c.args.space.now l.1 l.2 s.0, s.1, c.loop-i.invariant.1))
            (computes _ _ c.count.ensures),
      ),
    )

pub returns : goal.returns
returns g c v computes =
    let s = c.in-None.ensures.steps in
    let l = c.loop-i.invariant.2 in
    filled_all v c.loop-i.counts l.0 c.loop-i.i-iterator.count (l.3 v computes) l.1 l.2 s.0.0
