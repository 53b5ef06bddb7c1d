use Rattle.std.proofs.Common.{◌∙◌, ap, not, rules}
use lib.ListN.{take}
use Rattle.rules.specs.State.{Model}
use Rattle.rules.specs.Transactions.{is_taken_by}
use Rattle.holds.specs.Sweep.{released_at, has_part}
use Rattle.holds.proofs.HandLaws.{committed-model}
use Rattle.holds.proofs.SweepLaws.{commit_spared}
use Rattle.holds.proofs.endings.commit_txn.Goals as goal

pub returns : goal.returns
returns c =
    let a = c.args in
    let h = c.of-holder in
    let t = a.id.0 in
    let p = h.result.slot in
    let pass =
    c.pass_over-first.ensures (has_part t p) (λ e. not (is_taken_by t e)) (released_at t p) (commit_spared t p)
    (λ e r k. search rules) (λ e r q k. search rules) in
    let front = ap (λ (m : Model). take c.pass_over-first.result m.entries) c.remove_txn.ensures in
    (committed-model a.space.now a.id p h.ensures.1 _ _ pass.0 c.remove_txn.ensures, front ∙ pass.1)
