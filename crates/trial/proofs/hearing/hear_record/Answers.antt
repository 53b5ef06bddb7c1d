use Rattle.std.proofs.Common.{◌-◌, ap, ◌∙◌, arith}
use Rattle.trial.specs.Progress.{at, heard_by}
use Rattle.trial.proofs.HeardLaws.{each_same, each_set}
use Rattle.trial.proofs.hearing.hear_record.Goals as goal
use Rattle.trial.proofs.hearing.hear_record.Goals.{else-party-ge1-via-then-party-ge1+else-party-pane_count}
use Rattle.trial.proofs.hearing.hear_record.Goals.{else-party-ge1-via-else-party-ge1}

pub returns-then-party-pane_count : goal.returns-then-party-pane_count
returns-then-party-pane_count c =
    let a = c.args in
    each_set _ (a.a.party - 1) (omega (arith, c.pane_count.ensures, a.setup.now.few)) (omega arith)
    (c.hear.ensures ∙ ap (λ p. heard_by p a.a (at a.panes.now (a.a.party - 1))) c.pane_at.ensures)

pub returns-else-party-ge1 : goal.returns-else-party-ge1
returns-else-party-ge1 c =
    elim c.else-party-ge1.branch [
      | else-party-ge1-via-then-party-ge1+else-party-pane_count w ↦
          each_same _ (λ i h e. omega (arith, w.if-party-pane_count.false, w.pane_count.ensures))
      | else-party-ge1-via-else-party-ge1 w ↦ each_same _ (λ i h e. omega (arith, w.if-party-ge1.false))
    ]
