use Rattle.std.proofs.Common.{sym, ap, ◌∙◌}
use borrow.Author.Tests.{eq-eqb, ne_eqb}
use Rattle.available.specs.Live.{live_of}
use Rattle.judge.proofs.RefusalParts.{live-none, live_some}
use Rattle.judge.proofs.Judge.check_txn.Goals as goal

pub returns-in_default-find_txn : goal.returns-in_default-find_txn
returns-in_default-find_txn c =
    rw c.in-Some.is
    (live-none _ _ _ (sym c.eq.ensures ∙ c.if-eq.false)
    (sym c.find_txn.ensures.live ∙ ap live_of c.in_default-find_txn.is))

pub returns-then-t-party : goal.returns-then-t-party
returns-then-t-party c =
    rw (
      c.in-Some.is,
      ← live_some c.args.party _ _ (sym c.eq.ensures ∙ c.if-eq.false) _
          (sym c.find_txn.ensures.live ∙ ap live_of c.in-Some-find_txn.is),
      eq-eqb _ _ c.if-t-party.true,
    )

pub returns-else-t-party : goal.returns-else-t-party
returns-else-t-party c =
    rw (
      c.in-Some.is,
      ← live_some c.args.party _ _ (sym c.eq.ensures ∙ c.if-eq.false) _
          (sym c.find_txn.ensures.live ∙ ap live_of c.in-Some-find_txn.is),
      ne_eqb _ _ c.if-t-party.false,
    )
