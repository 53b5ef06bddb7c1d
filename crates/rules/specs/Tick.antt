-- Tick: the clock advances, and what ends now ends.
use Rattle.std.specs.Prelude.{◌+◌, not, List, [], ◌∷◌, map}
use Rattle.rules.specs.declared.Txn.{Txn}
use Rattle.rules.specs.Lists.{filterb}
use Rattle.rules.specs.Time.{reached}
use Rattle.rules.specs.State.{Model, with_entries, with_clock, with_registrations}
use Rattle.rules.specs.Records.{exception, ticked}
use Rattle.rules.specs.Done.{Carried, Done}
use Rattle.rules.specs.Transactions.{abort}

-- registrations that end now go: "they end on ticks when transactions do, before service and without a record"
-- (document 02, T-03)
unfoldable pub unregistered : Model → Model
unregistered m = with_registrations (filterb (λ g. not (reached m.clock g.end)) m.registrations) m

-- the tick's own part: "the clock advances"
unfoldable pub tick : Model → Carried
tick m = record { model = unregistered (with_clock (m.clock + 1) m); own = ticked }

-- the live transactions that end now, by number
unfoldable pub ended_txns : Model → List Txn
ended_txns m = filterb (λ t. reached m.clock t.end) m.txns

unfoldable pub abort_all : List Txn → Model → Model
abort_all [] m = m
abort_all (t ∷ ts) m = abort_all ts (abort t.id.0 m)

-- stored entries that end now are removed, held or not
unfoldable pub drop_ended : Model → Model
drop_ended m = with_entries (filterb (λ e. not (reached m.clock e.end)) m.entries) m

-- "transactions that end now are aborted, by number, each with an exception"; "stored entries that end now are removed"
unfoldable pub lapsed : Model → Done
lapsed m = record { model = drop_ended (abort_all (ended_txns m) m); records = map exception (ended_txns m) }
