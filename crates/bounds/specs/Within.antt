-- "Every tray that passes 15 and 16 must keep within both when run" (document 02, T-10).
use Rattle.std.specs.Prelude.{ℕ, ◌+◌, ◌-◌, ◌*◌, ◌≤◌, cond, ◌≡◌, List, [], ◌∷◌, ◌++◌, eqb, ltb, length}
use Rattle.rules.specs.Lists.{All}
use Rattle.rules.specs.Numbers.{record_size, step_area}
use Rattle.rules.specs.State.{Model, empty}
use Rattle.rules.specs.Frame.{decode}
use Rattle.rules.specs.Refusals.{refusal}
use Rattle.rules.specs.Step.{own_part, step}
use Rattle.rules.specs.Tray.{frame_count, frames_of, tray_refusal, run_tray}
use Rattle.bounds.specs.Bounds.{entries_bound, records_bound}

-- the moments of a run: before each frame, when a frame that is carried out has done its own part and nothing is served
-- yet, and at the end
unfoldable pub moments : Model → ℕ → List (List ℕ) → List Model
moments m area [] = m ∷ []
moments m area (f ∷ fs) =
    let o = step m f area in
    let own = cond (eqb (refusal m f area) 0) ((own_part m (decode f)).model ∷ []) [] in
    let later = moments o.model (area - record_size * length o.records) fs in
    m ∷ cond (ltb area step_area) [] (own ++ later)

-- the area for a run to its last frame: the records written before it, one at most less than there may be, and the 700
-- bytes that are to be left for it
unfoldable pub area_for : List (List ℕ) → ℕ
area_for fs = record_size * records_bound fs + (step_area - record_size)

pub record KeepsWithin (tray : List ℕ) (area : ℕ) : Type 0 where
  -- the entries stored together at any moment
  pub entries : All (λ m. length m.entries ≤ entries_bound (frames_of tray)) (moments empty area (frames_of tray))
  -- the records in all
  pub records : length (run_tray tray area).records ≤ records_bound (frames_of tray)
  -- an area that is large enough is never too small: the run does not stop with 1, and does every frame
  pub not_stopped : area_for (frames_of tray) ≤ area → (run_tray tray area).number ≡ 0
  pub all_done : area_for (frames_of tray) ≤ area → (run_tray tray area).frames ≡ frame_count tray

-- whatever the area
unfoldable pub BoundsAreKept : Type 0
BoundsAreKept = (tray : List ℕ) (area : ℕ) → tray_refusal tray ≡ 0 → KeepsWithin tray area
