-- How a frame ends, kind by kind.
use Rattle.std.specs.Prelude.{ℕ, ◌+◌, Bool, true, false, cond, ◌≡◌, ◌++◌, eqb, length}
use Rattle.rules.specs.declared.LookUp.{LookUp}
use Rattle.rules.specs.Lists.{anyb}
use Rattle.rules.specs.Numbers.{max_entries}
use Rattle.rules.specs.State.{Model, with_txns, with_clock}
use Rattle.rules.specs.Done.{Done, quiet}
use Rattle.rules.specs.Frame.{Frame, is_tick, serves}
use Rattle.rules.specs.Tick.{lapsed}
use Rattle.rules.specs.Transactions.{without_txn}
use Rattle.rules.specs.Closing.{close_waits, ends_conflicts}
use Rattle.finish.specs.From.{service_from}

-- with nothing more; with nothings for those who wait in vain from then on; with service; with service, and then
-- nothings; as a tick does: with what ends now, too
pub data Ending : Type 0 where
  Quiet : Ending
  Nothings : Ending
  Service : Ending
  Both : Ending
  Tick : Ending

-- whether it is a tick's, whether service is part of it, and whether a conflict may have ended
abbrev pub in_tick : Ending → Bool
in_tick Quiet = false
in_tick Nothings = false
in_tick Service = false
in_tick Both = false
in_tick Tick = true

abbrev pub served : Ending → Bool
served Quiet = false
served Nothings = false
served Service = true
served Both = true
served Tick = true

abbrev pub closing : Ending → Bool
closing Quiet = false
closing Nothings = true
closing Service = false
closing Both = true
closing Tick = true

-- the frame f ends so
pub record EndsAs (f : Frame) (e : Ending) : Type 0 where
  pub tick : is_tick f.op ≡ in_tick e
  pub service : serves f ≡ served e
  pub closes : ends_conflicts f ≡ closing e

-- the parts of the rules' `finish`, as far as the code has to do them: what ends now, service, and the nothings.
-- Between ticks every deadline lies ahead, so only a look-up of an IfExists kind can be over, and only where a conflict
-- may have ended (`finish-same`)
abbrev pub ended_by : Ending → Model → Done
ended_by e m = cond (in_tick e) (lapsed m) (quiet m)

-- the row from which on service looks, where the own part left the entries before row k as they were, and n
-- transactions
-- have ended
abbrev pub first_free : Ending → ℕ → ℕ → ℕ
first_free Quiet k n = max_entries
first_free Nothings k n = max_entries
first_free Service k n = k
first_free Both k n = k
first_free Tick k n = cond (eqb n 0) max_entries 0

abbrev pub some_if_exists : Model → Bool
some_if_exists m = anyb (λ (w : LookUp). w.if_exists) m.waits

abbrev pub closed_in_vain : Model → Done
closed_in_vain m = cond (some_if_exists m) (close_waits m) (quiet m)

abbrev pub closed_by : Ending → Model → Done
closed_by e m = cond (in_tick e) (close_waits m) (cond (closing e) (closed_in_vain m) (quiet m))

-- all of them
abbrev pub finished_by : Ending → ℕ → Model → Done
finished_by e k m =
    let ended = ended_by e m in
    let served = service_from (first_free e k (length ended.records)) ended.model in
    let closed = closed_by e served.model in
    record { model = closed.model; records = ended.records ++ served.records ++ closed.records }

-- the clock advances, and that is all
abbrev pub advanced : Model → Model
advanced m = with_clock (m.clock + 1) m

-- a transaction that has done nothing is live no longer, and that is all
abbrev pub ended : ℕ → Model → Model
ended t m = with_txns (without_txn t m.txns) m
