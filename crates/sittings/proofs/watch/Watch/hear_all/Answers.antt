use Rattle.std.proofs.Common.{refl, arith, ◌∙◌}
use Rattle.sittings.proofs.WatchLaws.{heard-none, heard-next, heard_all}
use Rattle.sittings.proofs.watch.Watch.hear_all.Goals as goal

pub loop-i-init : goal.loop-i-init
loop-i-init c = (λ rs s. heard-none _ _ _, refl)

pub loop-i-preserved : goal.loop-i-preserved
loop-i-preserved c =
    let l = c.loop-i in (
      λ rs s. heard-next l.i s (omega arith) (l.invariant.0 rs s) c.record_at.ensures
          (rw l.invariant.1 at c.hear.ensures.heard),
      c.hear.ensures.clock ∙ l.invariant.1,
    )

pub returns-clause-heard : goal.returns-clause-heard
returns-clause-heard c = λ rs s. heard_all c.loop-i.i s (omega arith) (c.loop-i.invariant.0 rs s)
