use Rattle.std.proofs.Common.{refl, sym, ap, ◌∙◌, arith}
use Rattle.rules.specs.Renew.{renew}
use Rattle.rules.specs.Step.{own_part}
use Rattle.rules.specs.Words.{view}
use Rattle.rules.proofs.NotifyLaws.{none-rung}
use Rattle.rules.proofs.ViewLaws.{view-bounded}
use Rattle.tables.proofs.Tables.{length-entries, entry_in}
use Rattle.available.specs.Find.{match_of}
use Rattle.available.proofs.FindLaws.{in_row}
use Rattle.finish.proofs.AddsLaws.{does-nothing, does_as}
use Rattle.finish.proofs.FinishLaws.{quiet-ends}
use Rattle.step.proofs.KindLaws.{renew-quiet}
use Rattle.step.proofs.RenewLaws.{renew-waits, renew-none, renew_some, renew_in_time, renew-row}
use Rattle.step.proofs.SteppedLaws.{stepped-done, refused_on}
use Rattle.hints.proofs.ReliableLaws.{weaker-reliable}
use Rattle.step.proofs.FollowLaws.{stays-reliable, follows-renew}
use Rattle.step.proofs.take.take_renew.Goals as goal

pub returns-then-waits_already : goal.returns-then-waits_already
returns-then-waits_already c = (
  renew-waits _ _ _ _ (sym c.waits_already.ensures ∙ c.if-waits_already.true),
  (refl, refl, weaker-reliable c.note_stored.ensures.0 c.requires.1),
)

pub returns-in_default : goal.returns-in_default
returns-in_default c =
    let none_there = sym c.find_entry.ensures.0 ∙ ap match_of c.in_default.is in (
      renew-none _ _ _ _ (sym c.waits_already.ensures ∙ c.if-waits_already.false) none_there,
      (refl, refl, weaker-reliable c.note_stored.ensures.0 c.requires.1),
    )

-- the number of the table is that of the entry that is found
pub returns-in_err-check_entry : goal.returns-in_err-check_entry
returns-in_err-check_entry c =
    let stored = sym c.find_entry.ensures.0 ∙ ap match_of c.in-Some.is in
    let judged = renew_some _ _ _ _ (sym c.waits_already.ensures ∙ c.if-waits_already.false) _ stored in
    refused_on (refl, refl, weaker-reliable c.note_stored.ensures.0 c.requires.1) _ _ _ c.from_residual.ensures.1
    (c.in_err-check_entry.ensures ∙ judged)

pub renew_entry-requires : goal.renew_entry-requires
renew_entry-requires c =
    let r = in_row _ _ _ c.in-Some.is c.find_entry.ensures.1 in
    (r.0, r.1, renew_in_time _ _ _ _ (sym c.in_ok-check_entry.ensures))

pub returns : goal.returns
unfolding own_part renew
returns c bs d =
    let a = c.args in
    let stored = sym c.find_entry.ensures.0 ∙ ap match_of c.in-Some.is in
    let judged = renew_some _ _ _ _ (sym c.waits_already.ensures ∙ c.if-waits_already.false) _ stored in
    let r = in_row a.space.now _ _ c.in-Some.is c.find_entry.ensures.1 in
    let ws = c.renew_entry.new.space in
    let st =
    stepped-done c.requires.0 d 0 (sym (c.in_ok-check_entry.ensures ∙ judged)) (
      λ s. record {
        model = c.renew_entry.ensures
            ∙ renew-row (view a.space.now) _ a.q.entry a.q.lease _ _ s stored
            (omega (arith, r.0, length-entries a.space.now))
            (entry_in a.space.now _ _ r.0 ∙ sym r.1);
        own = c.renewed_record-answer.ensures;
      },
      refl,
    ) c.add_record.ensures _ (renew-quiet _ _ _)
    (λ _. none-rung _ _ refl refl)
    (does_as (sym (quiet-ends 0 (view ws) (view-bounded ws).entries_fit)) (does-nothing _ _ _)) in (
      st,
      stays-reliable d st c.requires.1
          (follows-renew a.q.party a.q.entry a.q.lease c.clock.ensures c.note_stored.ensures),
    )
