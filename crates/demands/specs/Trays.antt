-- A tray's run is a history of the rules; its records fit its area; its 64-bit number is read back uniquely; records'
-- bytes tell them.
use Rattle.std.specs.Prelude.{ℕ, ◌*◌, ◌/◌, ◌%◌, ◌≤◌, ◌<◌, ◌≡◌, ◌⊎◌, List, [], ◌∷◌, length, take, drop}
use Rattle.rules.specs.declared.Record.{Record}
use Rattle.rules.specs.Numbers.{record_size, area_refused}
use Rattle.rules.specs.State.{Model, empty}
use Rattle.rules.specs.Records.{answer_bytes}
use Rattle.rules.specs.Step.{step}
use Rattle.rules.specs.Allowed.{Answered}
use Rattle.rules.specs.Tray.{TrayOutcome, run_frames, run_tray, host_number}
use Rattle.rules.specs.SerialRun.{Logged}
use Rattle.rules.specs.Log.{records_of}
use Rattle.demands.specs.Machine.{StepsBy, the_rules}
use Rattle.demands.specs.History.{logged, History}
use Rattle.demands.specs.Bounds.{AllInRange}

-- the frames are handed in one after another, each with the part of the answers area that the records before it left,
-- as it stands then
pub data HandedIn : Model → List ℕ → List (List ℕ) → List Logged → Model → Type 0 where
  none_left : (m : Model) (area : List ℕ) → HandedIn m area [] [] m
  one_more : {m n o : Model} {area frame : List ℕ} {frames : List (List ℕ)} {log : List Logged} (a : Answered)
      → StepsBy step m (record { frame = frame; area = area }) n a
      → HandedIn n (drop (record_size * length a.records) a.area) frames log o
      → HandedIn m area (frame ∷ frames) (logged (record { frame = frame; area = area }) a ∷ log) o

-- a run of frames is a history of the first of them, as many as it has done; its records fit the area
pub record TrayHistory (frames : List (List ℕ)) (area : List ℕ) (o : TrayOutcome) : Type 0 where
  pub log : List Logged
  pub last : Model
  pub history : History the_rules empty log last
  pub handed_in : HandedIn empty area (take o.frames frames) log last
  pub count : o.frames ≡ length log
  pub records : o.records ≡ records_of log
  pub fit : record_size * length o.records ≤ length area
  -- it stops with 1, or has done all frames
  pub all_done : (o.number ≡ area_refused) ⊎ ((o.number ≡ 0) × (o.frames ≡ length frames))

unfoldable pub TraysAreHistories : Type 0
TraysAreHistories = (frames : List (List ℕ)) (area : List ℕ)
    → TrayHistory frames area (run_frames empty (length area) frames)

-- the host reads the number's parts back: 16 bits of frames done, 16 bits of records, then the number
pub record ReadBack (o : TrayOutcome) : Type 0 where
  pub frames : host_number o % 65536 ≡ o.frames
  pub records : host_number o / 65536 % 65536 ≡ length o.records
  pub number : host_number o / 4294967296 ≡ o.number
  pub narrow : host_number o < 18446744073709551616

unfoldable pub NumbersAreReadBack : Type 0
NumbersAreReadBack = (tray area : List ℕ) → ReadBack (run_tray tray (length area))

unfoldable pub BytesTellRecords : Type 0
BytesTellRecords = (rs qs : List Record) → AllInRange rs → AllInRange qs → answer_bytes rs ≡ answer_bytes qs → rs ≡ qs
