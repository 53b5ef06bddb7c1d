use Rattle.std.proofs.Common.{◌∙◌, ap, not, eqb, rules, tests}
use lib.ListN.{take}
use mathlib.Core.List.{List}
use Rattle.rules.specs.declared.Entry.{Entry}
use Rattle.rules.specs.State.{Model}
use Rattle.rules.specs.Transactions.{is_private_to}
use Rattle.holds.specs.Sweep.{released_at, has_part}
use Rattle.holds.proofs.HandLaws.{aborted-model}
use Rattle.holds.proofs.SweepLaws.{abort_spared}
use Rattle.holds.proofs.endings.abort_txn.Goals as goal

pub returns : goal.returns
returns c =
    let a = c.args in
    let h = c.of-holder in
    let t = a.id.0 in
    let p = h.result.slot in
    let pass =
    c.pass_over-first.ensures (has_part t p) (λ e. not (is_private_to t e)) (released_at t p) (abort_spared t p)
    (λ e r k. search rules) (λ e r q k. search rules) in
    let inside =
    c.retain_rows.ensures (λ w. not (eqb w.txn.0 t)) (λ ws xs w r same q. search (rules, tests)) in
    let front : Model → List Entry = λ m. take c.pass_over-first.result m.entries in (
      aborted-model a.space.now a.id p h.ensures.1 _ _ _ pass.0 inside c.remove_txn.ensures,
      ap front c.remove_txn.ensures ∙ ap front inside ∙ pass.1,
    )
