use mathlib.Core.Path.{sym, ap, ◌∙◌}
use native.Mathlib.Omega.{arith}
use Rattle.rules.specs.declared.Request.TheVariants.{Find}
use Rattle.rules.specs.LookUp.{answer_found}
use Rattle.rules.specs.Requests.{frame_of}
use Rattle.rules.specs.State.{with_entries}
use Rattle.rules.specs.Words.{view}
use Rattle.tables.proofs.Tables.{length-entries, entry_in}
use Rattle.holds.specs.Hand.{handed_at}
use Rattle.available.specs.Find.{match_of}
use Rattle.available.proofs.FindLaws.{in_row}
use Rattle.holds.proofs.HandLaws.{by_row}
use Rattle.step.proofs.LookUpAnswers.{none_found, one_found}
use Rattle.step.proofs.PassedLaws.{find_in_time}
use Rattle.step.proofs.look_up.find.Goals as goal

pub look_up_of-w-requires : goal.look_up_of-w-requires
look_up_of-w-requires c = find_in_time (view c.args.space.now) c.args.l c.requires

pub hand_out-requires : goal.hand_out-requires
hand_out-requires c = in_row _ _ _ c.in-Some.is c.find_available.ensures.1

pub returns-in_default : goal.returns-in_default
returns-in_default c ready =
    let n = sym c.find_available.ensures.0 ∙ ap match_of c.in_default.is in
    none_found _ _ (frame_of (Find c.args.l)) _ c.look_up_of-w.ensures.0 n (c.wait_or_nothing.ensures ready.room)

pub returns : goal.returns
unfolding answer_found handed_at
returns c ready =
    let a = c.args in
    let ws = a.space.now in
    let n = sym c.find_available.ensures.0 ∙ ap match_of c.in-Some.is in
    let r = in_row ws _ _ c.in-Some.is c.find_available.ensures.1 in
    let by = by_row (view ws).txns _ _ (view ws).entries _ (omega (arith, r.0, length-entries ws))
    (entry_in ws _ _ r.0 ∙ sym r.1) ready.numbered in
    one_found _ _ (frame_of (Find a.l)) _ c.look_up_of-w.ensures.0 n
    (c.hand_out.ensures.0 ∙ ap (λ es. with_entries es (view ws)) by) c.found_record.ensures
