-- What a frame does, in parts: its own part with its own record, and parts with any number of records.
use Rattle.std.specs.Prelude.{List, [], ◌∷◌, ◌++◌}
use Rattle.rules.specs.declared.Record.{Record}
use Rattle.rules.specs.State.{Model}

-- a frame's own part: the new tables, and "the frame's own record"
pub record Carried : Type 0 where
  pub model : Model
  pub own : Record

-- the new tables, and the records in the order in which they are written
pub record Done : Type 0 where
  pub model : Model
  pub records : List Record

-- nothing is done
abbrev pub quiet : Model → Done
quiet m = record { model = m; records = [] }

-- "The frame's own record comes first"
abbrev pub after : Record → Done → Done
after r d = record { model = d.model; records = r ∷ d.records }

-- "after all others" (document 02, T-03)
abbrev pub ending_with : List Record → Done → Done
ending_with rs d = record { model = d.model; records = d.records ++ rs }
