-- The log of some frames, and its records.
use Rattle.std.specs.Prelude.{ℕ, List, [], ◌∷◌, map}
use Rattle.rules.specs.declared.Record.{Record}
use Rattle.rules.specs.Lists.{joined}
use Rattle.rules.specs.Numbers.{step_area}
use Rattle.rules.specs.State.{Model}
use Rattle.rules.specs.Step.{step}
use Rattle.rules.specs.SerialRun.{Logged}

-- frames handed to a space one after another, each with an area that has room for its records
unfoldable pub log_from : Model → List (List ℕ) → List Logged
log_from m [] = []
log_from m (f ∷ fs) =
    let o = step m f step_area in
    record { frame = f; records = o.records } ∷ log_from o.model fs

-- the records of a log, in order
unfoldable pub records_of : List Logged → List Record
records_of log = joined (map (λ (l : Logged). l.records) log)
