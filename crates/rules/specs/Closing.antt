-- Who gets nothing when a step is over.
use Rattle.std.specs.Prelude.{Bool, not, ◌&&◌, ◌||◌, map, eqb}
use Rattle.rules.specs.declared.LookUp.{LookUp}
use Rattle.rules.specs.Lists.{filterb}
use Rattle.rules.specs.Time.{reached}
use Rattle.rules.specs.State.{Model, with_waits}
use Rattle.rules.specs.Holds.{some_conflicts}
use Rattle.rules.specs.Frame.{Frame, is_take, ends_txn, is_tick}
use Rattle.rules.specs.Records.{nothing}
use Rattle.rules.specs.Done.{Done}

-- "a waiting IfExists look-up with no conflicting entry left" (document 02, T-07)
abbrev pub is_pointless : Model → LookUp → Bool
is_pointless m w = w.if_exists && not (some_conflicts m.txns w m.entries)

-- or one whose "deadline is reached", of whatever kind: between ticks every deadline lies ahead (demands, `Settled`)
unfoldable pub is_over : Model → LookUp → Bool
is_over m w = reached m.clock w.deadline || is_pointless m w

-- they get nothing, "in order of arrival, with the other nothings"
unfoldable pub close_waits : Model → Done
close_waits m =
    record {
      model = with_waits (filterb (λ w. not (is_over m w)) m.waits) m;
      records = map nothing (filterb (is_over m) m.waits);
    }

-- The frames that can end a conflict: a take inside a transaction ("the case that a transaction takes its own private
-- entry"), a commit, an abort, a tick. After all others nobody is over (crate `sound`, `nobody_over`)
abbrev pub ends_conflicts : Frame → Bool
ends_conflicts f = is_take f.op && not (eqb f.txn 0) || ends_txn f.op || is_tick f.op
