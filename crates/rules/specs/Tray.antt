-- "Trays": their layout, the refusals 15 and 16, and a run of one.
use Rattle.std.specs.Prelude.{ℕ, zero, suc, ◌+◌, ◌-◌, ◌*◌, Bool, false, cond, ◌||◌, List, [], ◌∷◌, ◌++◌, map, leb, ltb}
use Rattle.std.specs.Prelude.{length, take, drop}
use Rattle.rules.specs.declared.Record.{Record}
use Rattle.rules.specs.State.{Model, empty}
use Rattle.rules.specs.Frame.{number_at}
use Rattle.rules.specs.Numbers.{record_size, step_area, max_tray, max_frames, area_refused, tray_refused, pairs_refused}
use Rattle.rules.specs.Step.{step}

-- where a frame stands in its tray
pub record Pair : Type 0 where
  pub offset : ℕ
  pub size : ℕ

-- n pairs
unfoldable pub pairs_of : ℕ → List ℕ → List Pair
pairs_of zero bs = []
pairs_of (suc n) bs = record { offset = number_at bs 0; size = number_at bs 4 } ∷ pairs_of n (drop 8 bs)

abbrev pub frame_count : List ℕ → ℕ
frame_count tray = number_at tray 0

abbrev pub pairs_end : List ℕ → ℕ
pairs_end tray = 4 + 8 * frame_count tray

unfoldable pub pairs : List ℕ → List Pair
pairs tray = pairs_of (frame_count tray) (drop 4 tray)

-- 15: under 4 or over 65,536 bytes, over 2,000 frames, or too short for its pairs
unfoldable pub bad_tray : List ℕ → Bool
bad_tray tray =
    ltb (length tray) 4
    || ltb max_tray (length tray)
    || ltb max_frames (frame_count tray)
    || ltb (length tray) (pairs_end tray)

-- 16: a pair begins before the pairs' end or before the previous pair's end, or runs past the tray
unfoldable pub bad_pairs : ℕ → ℕ → List Pair → Bool
bad_pairs before size [] = false
bad_pairs before size (p ∷ ps) =
    ltb p.offset before || ltb size (p.offset + p.size) || bad_pairs (p.offset + p.size) size ps

unfoldable pub tray_refusal : List ℕ → ℕ
tray_refusal tray =
    cond (bad_tray tray) tray_refused (cond (bad_pairs (pairs_end tray) (length tray) (pairs tray)) pairs_refused 0)

-- "A frame is read as a part of the tray, starting at its offset."
unfoldable pub frame_at : List ℕ → Pair → List ℕ
frame_at tray p = take p.size (drop p.offset tray)

abbrev pub frames_of : List ℕ → List (List ℕ)
frames_of tray = map (frame_at tray) (pairs tray)

-- frames done, records and a number
pub record TrayOutcome : Type 0 where
  pub frames : ℕ
  pub records : List Record
  pub number : ℕ

abbrev pub stopped : ℕ → TrayOutcome
stopped n = record { frames = 0; records = []; number = n }

-- "it stops with 1 before a frame for which under 700 bytes are left, else ends with 0"
unfoldable pub run_frames : Model → ℕ → List (List ℕ) → TrayOutcome
run_frames m area [] = stopped 0
run_frames m area (f ∷ fs) =
    let o = step m f area in
    let rest = run_frames o.model (area - record_size * length o.records) fs in
    let done : TrayOutcome =
    record { frames = suc rest.frames; records = o.records ++ rest.records; number = rest.number } in
    cond (ltb area step_area) (stopped area_refused) done

unfoldable pub run_pairs : List ℕ → ℕ → TrayOutcome
run_pairs tray area = run_frames empty area (frames_of tray)

-- a tray that is refused has done nothing
unfoldable pub run_tray : List ℕ → ℕ → TrayOutcome
run_tray tray area =
    let n = tray_refusal tray in
    let run = run_pairs tray area in
    cond (leb n 0) run (stopped n)

-- "frames + 65,536 × records + 4,294,967,296 × number"
unfoldable pub host_number : TrayOutcome → ℕ
host_number o = o.frames + 65536 * length o.records + 4294967296 * o.number
