use Rattle.std.proofs.Common.{◌≡◌, Bool, ap}
use mathlib.Core.Bool.{◌&&◌}
use mathlib.Core.Path.{refl, sym, ◌∙◌}
use native.Mathlib.Omega.{arith}
use Rattle.rules.specs.Words.{view}
use Rattle.rules.proofs.NotifyLaws.{look_up_silent}
use Rattle.rules.proofs.ViewLaws.{view-bounded}
use Rattle.finish.specs.Ending.{Nothings, Quiet}
use Rattle.finish.proofs.AddsLaws.{does-nothing, does_as}
use Rattle.finish.proofs.FinishLaws.{nothings-end, quiet-ends}
use Rattle.rules.proofs.LookUpKinds.{own_find, looks_up}
use Rattle.step.proofs.KindLaws.{find_ends}
use Rattle.step.proofs.LookUpAnswers.{carries_as}
use Rattle.step.proofs.SteppedLaws.{ready_for, stepped-done}
use Rattle.step.proofs.look_up.look_up.Goals as goal

tested : (takes : Bool) {inside n b : Bool} → n ≡ inside → (takes && n) ≡ b → b ≡ (takes && inside)
tested takes e t = sym t ∙ ap (λ x. takes && x) e

pub close_in_vain-requires : goal.close_in_vain-requires
close_in_vain-requires c =
    omega (
      arith,
      c.requires.0,
      c.add_record-count.ensures.counts,
      (view-bounded c.find-answer.new.space).waits_fit,
      c.add_record-count.auto.answers,
    )

pub returns-then-l-ne : goal.returns-then-l-ne
returns-then-l-ne c bs d =
    let l = c.args.l in
    let ws = c.find-answer.new.space in
    stepped-done c.requires.0 d 0 c.requires.1 (
      λ s. carries_as _ _ (own_find _ l) (c.find-answer.ensures
          (ready_for _ d c.requires.1 s (looks_up l.takes l.if_exists))),
      refl,
    )
    c.add_record-count.ensures Nothings (find_ends l Nothings refl refl (tested l.takes c.ne.ensures c.if-l-ne.true))
    (λ _. look_up_silent _ _ (looks_up l.takes l.if_exists))
    (does_as (sym (nothings-end 0 (view ws) (view-bounded ws).entries_fit)) c.close_in_vain.ensures)

pub returns : goal.returns
returns c bs d =
    let l = c.args.l in
    let ws = c.find-answer.new.space in
    stepped-done c.requires.0 d 0 c.requires.1 (
      λ s. carries_as _ _ (own_find _ l) (c.find-answer.ensures
          (ready_for _ d c.requires.1 s (looks_up l.takes l.if_exists))),
      refl,
    )
    c.add_record-count.ensures Quiet (find_ends l Quiet refl refl (tested l.takes c.ne.ensures c.if-l-ne.false))
    (λ _. look_up_silent _ _ (looks_up l.takes l.if_exists))
    (does_as (sym (quiet-ends 0 (view ws) (view-bounded ws).entries_fit)) (does-nothing _ _ _))
