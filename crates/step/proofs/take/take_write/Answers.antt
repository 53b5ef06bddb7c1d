use Rattle.std.proofs.Common.{◌≡◌}
use mathlib.Core.Bool.{not, ◌&&◌}
use mathlib.Core.Path.{sym, ap, ◌∙◌}
use native.Mathlib.Omega.{arith}
use borrow.Author.Tests.{eqb-false, eqb-true, not-true, not-false}
use lib.Dec.{eqb}
use lib.ListN.{length}
use Rattle.rules.specs.State.{Model}
use Rattle.rules.specs.Step.{own_part, write_frame}
use Rattle.rules.specs.Words.{view}
use Rattle.rules.proofs.BoolLaws.{and_right}
use Rattle.rules.proofs.ViewLaws.{view-bounded}
use Rattle.finish.specs.Ending.{Quiet}
use Rattle.finish.proofs.AddsLaws.{adds-length, does-nothing, does_as}
use Rattle.finish.proofs.BellLaws.{silent_inside, silent_write}
use Rattle.step.proofs.BellStepped.{stepped-written}
use Rattle.finish.proofs.FinishLaws.{service-ends, quiet-ends}
use Rattle.step.proofs.KindLaws.{write-serves, write-quiet}
use Rattle.step.proofs.SteppedLaws.{stepped-done}
use Rattle.step.proofs.FollowLaws.{stays-reliable, follows-write}
use Rattle.step.proofs.take.take_write.Goals as goal

pub returns-then-ne : goal.returns-then-ne
unfolding own_part write_frame
returns-then-ne c bs d =
    let ws = c.write-own.new.space in
    let k = c.write-own.result.from in
    let inside : c.args.w.txn.0 ≡ 0 → ⊥ =
    eqb-false _ 0 (not-true (eqb c.args.w.txn.0 0) (sym c.ne.ensures ∙ c.if-ne.true)) in
    let silent = silent_inside (view c.args.space.now) c.args.w inside in
    let done = c.write-own.ensures.0 in
    let st =
    stepped-done c.requires.0 d k (sym c.in_ok-check_write.ensures)
    (λ _. record { model = done.model ∙ silent.0; own = done.own }, c.write-own.ensures.1)
    c.add_record-count.ensures Quiet (write-quiet _ inside) (λ _. silent.1)
    (does_as (sym (quiet-ends k (view ws) (view-bounded ws).entries_fit)) (does-nothing _ _ _)) in (
      st,
      stays-reliable d st c.requires.1
          (follows-write c.args.w c.clock.ensures c.note_stored.ensures c.note_acted.ensures),
    )

pub serve_and_ring-requires : goal.serve_and_ring-requires
serve_and_ring-requires c =
    let a = c.add_record-count.ensures in
    omega (arith, c.requires.0, a.counts, adds-length a (omega (arith, c.requires.0, a.counts)))

pub returns-then-may_ring : goal.returns-then-may_ring
returns-then-may_ring c bs d =
    let m = view c.write-own.new.space in
    let outside : c.args.w.txn.0 ≡ 0 =
    eqb-true _ 0 (not-false (eqb c.args.w.txn.0 0) (sym c.ne.ensures ∙ c.if-ne.false)) in
    let lasts =
    and_right (not (eqb (length m.registrations) 0)) (not (eqb c.args.w.lease 0))
    (sym c.may_ring.ensures ∙ c.if-may_ring.true) in
    let st =
    stepped-written c.requires.0 d (sym c.in_ok-check_write.ensures)
    outside (eqb-false _ 0 (not-true (eqb c.args.w.lease 0) lasts)) c.write-own.result.from
    c.write-own.ensures c.add_record-count.ensures c.mark_of-fields.ensures
    c.serve_and_ring.ensures in (
      st,
      stays-reliable d st c.requires.1
          (follows-write c.args.w c.clock.ensures c.note_stored.ensures c.note_acted.ensures),
    )

pub returns : goal.returns
unfolding own_part write_frame
returns c bs d =
    let done = c.write-own.ensures.0 in
    let outside : c.args.w.txn.0 ≡ 0 =
    eqb-true _ 0 (not-false (eqb c.args.w.txn.0 0) (sym c.ne.ensures ∙ c.if-ne.false)) in
    let none = sym c.may_ring.ensures ∙ c.if-may_ring.false in
    let silent =
    silent_write (view c.args.space.now) c.args.w
    (ap (λ (m : Model). not (eqb (length m.registrations) 0) && not (eqb c.args.w.lease 0))
    (sym done.model) ∙ none) in
    let st =
    stepped-done c.requires.0 d _ (sym c.in_ok-check_write.ensures)
    (λ _. record { model = done.model ∙ silent.0; own = done.own }, c.write-own.ensures.1)
    c.add_record-count.ensures _ (write-serves _ outside) (λ _. silent.1)
    (does_as (sym (service-ends _ _)) c.serve.ensures) in (
      st,
      stays-reliable d st c.requires.1
          (follows-write c.args.w c.clock.ensures c.note_stored.ensures c.note_acted.ensures),
    )
