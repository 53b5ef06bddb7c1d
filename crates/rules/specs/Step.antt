-- What a frame does to the space, and what it is answered.
use Rattle.std.specs.Prelude.{ℕ, cond, List, [], ◌∷◌, ◌++◌, eqb}
use Rattle.rules.specs.declared.Record.{Record}
use Rattle.rules.specs.Numbers.{area_refused}
use Rattle.rules.specs.State.{Model}
use Rattle.rules.specs.Frame.{Frame, decode, is_write, is_look_up, is_create, is_commit, is_abort, is_renew, is_tick}
use Rattle.rules.specs.Frame.{is_notify, serves}
use Rattle.rules.specs.Records.{committed, aborted, refused}
use Rattle.rules.specs.Done.{Carried, Done, quiet, after, ending_with}
use Rattle.rules.specs.Write.{write}
use Rattle.rules.specs.LookUp.{look_up}
use Rattle.rules.specs.Transactions.{create, commit, abort}
use Rattle.rules.specs.Renew.{renew}
use Rattle.rules.specs.Notify.{notify, made_public, heard_of, ringing}
use Rattle.rules.specs.Service.{service}
use Rattle.rules.specs.Tick.{tick, lapsed}
use Rattle.rules.specs.Closing.{close_waits}
use Rattle.rules.specs.Refusals.{refusal}

-- "Write"; registrations count what it makes public
unfoldable pub write_frame : Model → Frame → Carried
write_frame m f = let c = write m f in record { model = heard_of (made_public m f) c.model; own = c.own }

-- "Commit", "Abort": the transaction's own frame ends it
unfoldable pub commit_frame : Model → Frame → Carried
commit_frame m f = record { model = heard_of (made_public m f) (commit f.txn m); own = committed f }

unfoldable pub abort_frame : Model → Frame → Carried
abort_frame m f = record { model = abort f.txn m; own = aborted f }

-- what a frame that is not refused does of its own
unfoldable pub own_part : Model → Frame → Carried
own_part m f =
    cond (is_write f.op) (write_frame m f)
    (cond (is_look_up f.op) (look_up m f)
    (cond (is_create f.op) (create m f)
    (cond (is_commit f.op) (commit_frame m f)
    (cond (is_abort f.op) (abort_frame m f)
    (cond (is_renew f.op) (renew m f)
    (cond (is_notify f.op) (notify m f) (tick m)))))))

-- What it ends with, "in this order": what ends now, in a tick; service, where it follows; and "once service is over"
-- the look-ups that wait in vain (document 02, T-07) or whose deadline is reached. "then exceptions, founds in the
-- order served, nothings"
unfoldable pub finish : Frame → Model → Done
finish f m =
    let ended = cond (is_tick f.op) (lapsed m) (quiet m) in
    let served = cond (serves f) (service ended.model) (quiet ended.model) in
    let closed = close_waits served.model in
    record { model = closed.model; records = ended.records ++ served.records ++ closed.records }

-- what a frame that is not refused does. "The frame's own record comes first"; those of kind 11 "after all others"
unfoldable pub carried_out : Model → Frame → Done
carried_out m f =
    let c = own_part m f in
    after c.own (ending_with (ringing (made_public m f) m.registrations) (finish f c.model))

-- the new space, the records written and the number returned
pub record Outcome : Type 0 where
  pub model : Model
  pub records : List Record
  pub number : ℕ

-- a refused frame leaves the space unchanged; with 1 there is no room for a record
unfoldable pub refused_with : Model → List ℕ → ℕ → Outcome
refused_with m bs n = record { model = m; records = cond (eqb n area_refused) [] (refused bs n ∷ []); number = n }

unfoldable pub accepted : Done → Outcome
accepted d = record { model = d.model; records = d.records; number = 0 }

-- a frame's bytes, and the length of the answers area
unfoldable pub step : Model → List ℕ → ℕ → Outcome
step m bs area =
    let n = refusal m bs area in
    cond (eqb n 0) (accepted (carried_out m (decode bs))) (refused_with m bs n)
