use Rattle.std.proofs.Common.{sym, ◌∙◌, arith}
use mathlib.Core.Path.{subst}
use mathlib.Core.List.{map, map-id}
use Rattle.std.proofs.lemmas.List.{length_push}
use Rattle.std.proofs.lemmas.Iterator.Consumers.{YieldsList-at, YieldsList-from_first, YieldsList-turn, YieldsList-end}
use Rattle.rules.specs.Lists.{filterb}
use Rattle.tables.specs.Table.{left}
use Rattle.finish.specs.Does.{Adds}
use Rattle.finish.proofs.AddsLaws.{adds_none}
use Rattle.finish.proofs.AnsweredLaws.{over_passed, over-more, none_given, one_given}
use Rattle.finish.proofs.answers.add_each.Goals as goal

pub loop-x-init : goal.loop-x-init
loop-x-init g c = (c.requires.can, omega arith, λ q a computes. adds_none _ _)

pub loop-x-preserved-in_default : goal.loop-x-preserved-in_default
loop-x-preserved-in_default g c =
    let x = c.in-Some.x in (
      c.requires.can,
      omega (arith, c.loop-x.invariant.1, length_push c.loop-x.yielded x),
      λ q a computes.
          over_passed q a c.loop-x.yielded (c.loop-x.invariant.2 q a computes)
          (none_given (q x) (a x) c.in_default.is (computes _ _ c.record_for.ensures)),
    )

pub add_record-done-requires : goal.add_record-done-requires
add_record-done-requires g c =
    let rows =
    YieldsList-at c.into_iter-x-iterator.ensures.into_iter_gives
    (YieldsList-from_first (λ x. x) (λ s. left g.T.Row.table s.space.now s.at s.end) {s = c.rows-x-items.result} _
    c.rows-x-items.ensures) in
    let turn =
    YieldsList-turn rows c.loop-x.yielded c.loop-x.x-iterator c.loop-x.yielded_by
    c.next.result c.next.new.self c.in-Some.x c.in-Some.is c.next.ensures.steps in
    omega (arith, c.requires.room, c.loop-x.invariant.1, c.loop-x.auto.answers, turn.0)

pub loop-x-preserved : goal.loop-x-preserved
loop-x-preserved g c =
    let x = c.in-Some.x in (
      c.requires.can,
      omega (arith, c.loop-x.invariant.1, c.add_record-done.ensures.counts, length_push c.loop-x.yielded x),
      λ q a computes.
          let given = one_given (q x) (a x) c.in-Some-record_for.is (computes _ _ c.record_for.ensures) in
          over-more q a c.loop-x.yielded (c.loop-x.invariant.2 q a computes) given.0 given.1
          (omega (arith, c.requires.room)) c.add_record-done.ensures,
    )

pub returns : goal.returns
returns g c q a computes =
    let rows =
    YieldsList-at c.into_iter-x-iterator.ensures.into_iter_gives
    (YieldsList-from_first (λ x. x) (λ s. left g.T.Row.table s.space.now s.at s.end) {s = c.rows-x-items.result} _
    c.rows-x-items.ensures) in
    let all = YieldsList-end rows c.loop-x.yielded c.loop-x.x-iterator c.loop-x.yielded_by
    c.next.result c.next.new.self c.in-None.is c.next.ensures.steps in
    subst (λ xs. Adds (map a (filterb q xs)) c.args.answers.now c.loop-x.answers c.args.count c.loop-x.done)
    (sym (map-id _) ∙ all.0) (c.loop-x.invariant.2 q a computes)
