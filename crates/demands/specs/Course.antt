-- "Examples from the course": the starred ones, under one statement.
use Rattle.std.specs.Prelude.{ℕ, ◌≡◌, List, [], ◌∷◌}
use Rattle.rules.specs.declared.Record.{Record}
use Rattle.rules.specs.Numbers.{forever, step_area}
use Rattle.rules.specs.State.{Model, empty}
use Rattle.rules.specs.Step.{step}
use Rattle.demands.specs.Frames.{E, write_by, read_by, take_by, read_if_exists_by, create_by, commit_by, abort_by}
use Rattle.demands.specs.Frames.{a_tick, Written, Found, Nothing, Waiting, Created, Committed, Aborted, Exception}
use Rattle.demands.specs.Frames.{Ticked}

-- the records that each frame gets, with areas of 700 bytes
unfoldable pub answers_from : Model → List (List ℕ) → List (List Record)
answers_from m [] = []
answers_from m (f ∷ fs) = let o = step m f step_area in o.records ∷ answers_from o.model fs

unfoldable pub answers : List (List ℕ) → List (List Record)
answers fs = answers_from empty fs

pub record Starred : Type 0 where
  -- lease 5 at clock 0: read at clock 4 found, after the fifth tick nothing
  pub c1 : answers (write_by 1 0 5 E ∷ a_tick ∷ a_tick ∷ a_tick ∷ a_tick ∷ read_by 2 0 0 7 ∷ a_tick
      ∷ read_by 2 0 0 7 ∷ [])
      ≡ (Written 1 0 1 ∷ []) ∷ (Ticked ∷ []) ∷ (Ticked ∷ []) ∷ (Ticked ∷ []) ∷ (Ticked ∷ []) ∷ (Found 2 0 1 E ∷ [])
      ∷ (Ticked ∷ []) ∷ (Nothing 2 0 ∷ []) ∷ []
  -- lease 0: written, then a read with timeout 0 gives nothing
  pub c2 : answers (write_by 1 0 0 E ∷ read_by 2 0 0 7 ∷ []) ≡ (Written 1 0 1 ∷ []) ∷ (Nothing 2 0 ∷ []) ∷ []
  -- T1 writes; another party's read, timeout 0: nothing; its readIfExists, timeout 3: waiting; T1 commits: found
  pub c3 : answers (create_by 1 9 ∷ write_by 1 1 9 E ∷ read_by 2 0 0 7 ∷ read_if_exists_by 2 0 3 7
      ∷ commit_by 1 1 ∷ [])
      ≡ (Created 1 1 ∷ []) ∷ (Written 1 1 1 ∷ []) ∷ (Nothing 2 0 ∷ []) ∷ (Waiting 2 0 ∷ [])
      ∷ (Committed 1 1 ∷ Found 2 0 1 E ∷ []) ∷ []
  -- T1 reads E; another's read finds it, its take with timeout 0 gives nothing, T1's take finds it
  pub c4 : answers (write_by 1 0 9 E ∷ create_by 1 9 ∷ read_by 1 1 0 7 ∷ read_by 2 0 0 7 ∷ take_by 2 0 0 7
      ∷ take_by 1 1 0 7 ∷ [])
      ≡ (Written 1 0 1 ∷ []) ∷ (Created 1 1 ∷ []) ∷ (Found 1 1 1 E ∷ []) ∷ (Found 2 0 1 E ∷ [])
      ∷ (Nothing 2 0 ∷ []) ∷ (Found 1 1 1 E ∷ []) ∷ []
  -- T1 and T2 read E; T1's take waits; T2 commits: found
  pub c5 : answers (write_by 1 0 9 E ∷ create_by 1 9 ∷ create_by 2 9 ∷ read_by 1 1 0 7 ∷ read_by 2 2 0 7
      ∷ take_by 1 1 5 7 ∷ commit_by 2 2 ∷ [])
      ≡ (Written 1 0 1 ∷ []) ∷ (Created 1 1 ∷ []) ∷ (Created 2 2 ∷ []) ∷ (Found 1 1 1 E ∷ [])
      ∷ (Found 2 2 1 E ∷ []) ∷ (Waiting 1 1 ∷ []) ∷ (Committed 2 2 ∷ Found 1 1 1 E ∷ []) ∷ []
  -- T1, lease 2, takes E; a take of party 3, timeout FOREVER, waits; the second tick gives ticked, exception, found
  pub c6 : answers (write_by 1 0 9 E ∷ create_by 1 2 ∷ take_by 1 1 0 7 ∷ take_by 3 0 forever 7 ∷ a_tick
      ∷ a_tick ∷ [])
      ≡ (Written 1 0 1 ∷ []) ∷ (Created 1 1 ∷ []) ∷ (Found 1 1 1 E ∷ []) ∷ (Waiting 3 0 ∷ []) ∷ (Ticked ∷ [])
      ∷ (Ticked ∷ Exception 1 1 ∷ Found 3 0 1 E ∷ []) ∷ []
  -- E ends at 4, T1 takes it at 3 and aborts at 4: E is gone
  pub c7 : answers (write_by 1 0 4 E ∷ a_tick ∷ a_tick ∷ a_tick ∷ create_by 1 9 ∷ take_by 1 1 0 7 ∷ a_tick
      ∷ abort_by 1 1 ∷ read_by 2 0 0 7 ∷ [])
      ≡ (Written 1 0 1 ∷ []) ∷ (Ticked ∷ []) ∷ (Ticked ∷ []) ∷ (Ticked ∷ []) ∷ (Created 1 1 ∷ [])
      ∷ (Found 1 1 1 E ∷ []) ∷ (Ticked ∷ []) ∷ (Aborted 1 1 ∷ []) ∷ (Nothing 2 0 ∷ []) ∷ []
  -- a take waits; a write gives written, found
  pub c8 : answers (take_by 2 0 5 7 ∷ write_by 1 0 9 E ∷ [])
      ≡ (Waiting 2 0 ∷ []) ∷ (Written 1 0 1 ∷ Found 2 0 1 E ∷ []) ∷ []
