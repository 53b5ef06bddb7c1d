use Rattle.std.proofs.Common.{◌≡◌, Bool, true, false, refl, not, ◌&&◌, sym, ap, ◌∙◌, arith}
use Rattle.rules.specs.Frame.{decode, is_look_up}
use Rattle.sittings.specs.Watch.{one, logged}
use Rattle.sittings.proofs.FigureLaws.{no_wait, figures-same}
use Rattle.sittings.proofs.WatchLaws.{one_of, is_in_lem, asked-waits, asked-answered, not-asked}
use Rattle.sittings.proofs.watch.Watch.note_look_up.Goals as goal
use Rattle.sittings.proofs.watch.Watch.note_look_up.Goals.{else-is_look_up-via-then-is_look_up+else-is_party}
use Rattle.sittings.proofs.watch.Watch.note_look_up.Goals.{else-is_look_up-via-else-is_look_up}

and-false_right : (a : Bool) {b : Bool} → b ≡ false → (a && b) ≡ false
and-false_right true e = e
and-false_right false e = refl

pub returns-then-count_of-ne0-clause-asked : goal.returns-then-count_of-ne0-clause-asked
unfolding decode
returns-then-count_of-ne0-clause-asked c = λ rs s.
    let party = is_in_lem c.byte_at-party.result (sym c.is_party.ensures ∙ c.if-is_party.true) in
    let d = c.default.ensures in
    asked-waits (logged c.args.frame.now rs) c.byte_at-op.ensures c.byte_at-party.ensures c.args.self.now.waits
    (omega (arith, party.last)) (sym c.is_look_up.ensures ∙ c.if-is_look_up.true)
    (one_of _ c.from-asked.ensures ∙ ap (λ b. one (not b)) (c.is_refused.ensures rs s))
    (no_wait d.1.1.0 d.1.1.1.0 d.1.1.1.1 ∙ figures-same refl d.1.0 refl) c.add_figures.ensures
    (c.count_of.ensures.0 rs s) c.if-count_of-ne0.true c.number_at.ensures

pub returns-else-count_of-ne0-clause-asked : goal.returns-else-count_of-ne0-clause-asked
unfolding decode
returns-else-count_of-ne0-clause-asked c = λ rs s.
    let d = c.default.ensures in
    asked-answered (logged c.args.frame.now rs) c.byte_at-op.ensures c.byte_at-party.ensures c.args.self.now.waits
    (sym c.is_look_up.ensures ∙ c.if-is_look_up.true)
    (one_of _ c.from-asked.ensures ∙ ap (λ b. one (not b)) (c.is_refused.ensures rs s))
    (no_wait d.1.1.0 d.1.1.1.0 d.1.1.1.1 ∙ figures-same refl d.1.0 refl) c.add_figures.ensures
    (c.count_of.ensures.0 rs s) c.if-count_of-ne0.false

pub returns-else-is_look_up-clause-asked : goal.returns-else-is_look_up-clause-asked
unfolding decode
returns-else-is_look_up-clause-asked c = λ rs s.
    not-asked (logged c.args.frame.now rs) c.byte_at-op.ensures c.byte_at-party.ensures _ _ _
    (elim c.else-is_look_up.branch [
      | else-is_look_up-via-then-is_look_up+else-is_party w ↦
          and-false_right (is_look_up c.byte_at-op.result) (sym w.is_party.ensures ∙ w.if-is_party.false)
      | else-is_look_up-via-else-is_look_up w ↦ rw (sym c.is_look_up.ensures ∙ w.if-is_look_up.false) refl
    ])
