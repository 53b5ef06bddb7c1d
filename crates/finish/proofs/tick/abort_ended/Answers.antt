use Rattle.std.proofs.Common.{◌<◌, refl, sym, ap, ◌∙◌, length}
use Rattle.rules.specs.Words.{view}
use Rattle.available.specs.Live.{live_of}
use Rattle.finish.proofs.AbortingLaws.{Aborting, aborting_more, aborting_done}
use Rattle.finish.proofs.tick.abort_ended.Goals as goal

pub loop-t-init : goal.loop-t-init
loop-t-init c = record { rest = refl }

-- one is aborted: fewer live, and the rest is still to be done
turn : (c : goal.After-abort_txn)
    →
    let m = view c.abort_txn.new.space in
    Aborting (view c.args.space.now) m × (length m.txns < length (view c.loop-t.space).txns)
turn c =
    aborting_more c.loop-t.invariant (sym c.first_ended.ensures ∙ ap live_of c.in-Some.is)
    c.abort_txn.ensures.0

pub loop-t-smaller : goal.loop-t-smaller
loop-t-smaller c = (turn c).1

pub loop-t-preserved : goal.loop-t-preserved
loop-t-preserved c = (turn c).0

pub returns : goal.returns
returns c = aborting_done c.loop-t.invariant (sym c.first_ended.ensures ∙ ap live_of c.in_default.is)
