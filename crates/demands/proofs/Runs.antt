-- Runs of the rules: a list of frames, each with the length of its answers area, handed in order to a model. Histories
-- are carried to these (ByRule).
use mathlib.Core.List.{List, [], ◌∷◌}
use Rattle.rules.specs.declared.Record.{Record}
use Rattle.rules.specs.State.{Model, empty}
use Rattle.rules.specs.Step.{step}
use Rattle.rules.specs.SerialRun.{Logged}
use Rattle.rules.specs.Log.{records_of}
use Rattle.demands.specs.Machine.{Input}

-- the last model, and what the serial run is fed
pub record Ran : Type 0 where
  pub model : Model
  pub log : List Logged

unfoldable pub runs : Model → List Input → Ran
runs m [] = record { model = m; log = [] }
runs m (i ∷ is) =
    let o = step m i.frame i.area in
    let rest = runs o.model is in
    record { model = rest.model; log = record { frame = i.frame; records = o.records } ∷ rest.log }

-- the model that a list of frames makes of the empty one
abbrev pub made : List Input → Model
made is = (runs empty is).model

-- the records of a list of frames, in order
unfoldable pub answers_to : Model → List Input → List Record
answers_to m is = records_of (runs m is).log

-- What holds of the empty space and is kept by each step holds of every space that frames make.
module _ (P : Model → Type 0) (kept : (i : Input) (m : Model) → P m
    → P (step m i.frame i.area).model) where
  pub runs_keep : (m : Model) (is : List Input) → P m → P (runs m is).model
  unfolding runs
  runs_keep m [] h = h
  runs_keep m (i ∷ is) h = runs_keep (step m i.frame i.area).model is (kept i m h)

  pub made_keep : P empty → (is : List Input) → P (made is)
  made_keep h is = runs_keep empty is h
