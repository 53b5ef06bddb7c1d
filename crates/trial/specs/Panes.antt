-- A pane as a small machine fed with its records: "create, take one kind (mask 1), hold for some ticks after the found,
-- write another kind (other fields 0), commit" (document 02, T-13).
use Rattle.std.specs.Prelude.{ℕ, ◌-◌, true, false, cond, ◌||◌, eqb, Option, Some, None}
use Rattle.rules.specs.declared.Record.{Record}
use Rattle.rules.specs.declared.Request.{Request}
use Rattle.rules.specs.declared.Request.TheVariants.{Write, Find, Create, Commit, Abort}
use Rattle.rules.specs.Numbers.{kind_written, kind_found, kind_nothing, kind_waiting, kind_created, kind_committed}
use Rattle.rules.specs.Numbers.{kind_aborted, kind_exception, kind_refused}
use Rattle.rules.specs.Template.{four_fields}
use Rattle.trial.specs.declared.Pane.{Pane}
use Rattle.trial.specs.declared.Stage.{Stage}
use Rattle.trial.specs.declared.Stage.TheVariants.{Creates, Takes, Waits, Holds, Commits, Aborts}

-- what a pane sends next, as a party; none while it waits or holds
unfoldable pub sends : Pane → ℕ → Stage → Option Request
sends p party Creates = Some (Create party p.txn_lease)
sends p party (Takes t) =
    Some (Find (record {
      txn = t;
      party = party;
      takes = true;
      if_exists = false;
      mask = 1;
      timeout = p.timeout;
      fields = four_fields p.taken 0 0 0;
    }))
sends p party (Waits t) = None
sends p party (Holds t n) =
    cond (eqb n 0)
    (Some (Write (record {
      txn = t;
      party = party;
      blanks = 0;
      lease = p.lease;
      fields = four_fields p.written 0 0 0;
    })))
    None
sends p party (Commits t) = Some (Commit party t)
sends p party (Aborts t) = Some (Abort party t)

-- after a refused frame: "After .. a refused frame in a transaction, the pane aborts next; after .. a refused create ..
-- it starts over"
abbrev pub refused_in : Stage → Stage
refused_in Creates = Creates
refused_in (Takes t) = Aborts t
refused_in (Waits t) = Aborts t
refused_in (Holds t n) = Aborts t
refused_in (Commits t) = Aborts t
refused_in (Aborts t) = Aborts t

-- after a record to it; "of two answers in a round the later decides"
unfoldable pub hears : Pane → Record → Stage → Stage
hears p a s =
    cond (eqb a.kind kind_created) (Takes a.txn)
    (cond (eqb a.kind kind_waiting) (Waits a.txn)
    (cond (eqb a.kind kind_found) (Holds a.txn p.hold)
    (cond (eqb a.kind kind_nothing) (Aborts a.txn)
    (cond (eqb a.kind kind_written) (Commits a.txn)
    (cond (eqb a.kind kind_committed || eqb a.kind kind_aborted || eqb a.kind kind_exception) Creates
    (cond (eqb a.kind kind_refused) (refused_in s) s))))))

-- "A hold counts whole ticks, without the tick that itself served the found": one less with each tick that comes while
-- it holds
unfoldable pub ticked : Stage → Stage
ticked Creates = Creates
ticked (Takes t) = Takes t
ticked (Waits t) = Waits t
ticked (Holds t n) = Holds t (n - 1)
ticked (Commits t) = Commits t
ticked (Aborts t) = Aborts t
