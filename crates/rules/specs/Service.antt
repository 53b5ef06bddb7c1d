-- Service: the waiting look-ups are gone through once in order of arrival, and each with an available entry is
-- answered found, with the oldest available at its turn.
use Rattle.std.specs.Prelude.{List, [], ◌∷◌}
use Rattle.std.proofs.Math.Option.{none, some}
use Rattle.rules.specs.declared.Entry.{Entry}
use Rattle.rules.specs.declared.Record.{Record}
use Rattle.rules.specs.declared.Txn.{Txn}
use Rattle.rules.specs.declared.LookUp.{LookUp}
use Rattle.rules.specs.State.{Model, with_entries, with_waits}
use Rattle.rules.specs.Holds.{oldest}
use Rattle.rules.specs.Records.{found}
use Rattle.rules.specs.Done.{Done}
use Rattle.rules.specs.LookUp.{hand_out}

-- the entries, the look-ups that wait on, and the founds in the order served
pub record Served : Type 0 where
  pub entries : List Entry
  pub waits : List LookUp
  pub records : List Record

-- a look-up's turn before those of the rest: answered found, or waiting on
abbrev pub found_first : LookUp → Entry → Served → Served
found_first w e r = record { entries = r.entries; waits = r.waits; records = found w e ∷ r.records }

abbrev pub waits_first : LookUp → Served → Served
waits_first w r = record { entries = r.entries; waits = w ∷ r.waits; records = r.records }

unfoldable pub serve : List Txn → List Entry → List LookUp → Served
serve ts es [] = record { entries = es; waits = []; records = [] }
serve ts es (w ∷ ws) =
    elim (oldest ts w es) [
      | some e ↦ found_first w e (serve ts (hand_out ts w e es) ws)
      | none ↦ waits_first w (serve ts es ws)
    ]

unfoldable pub service : Model → Done
service m =
    let r = serve m.txns m.entries m.waits in
    record { model = with_entries r.entries (with_waits r.waits m); records = r.records }
