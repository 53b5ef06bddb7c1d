-- What the code ensures: the relation between a space before and after a frame, and between a tray and its answers.
use Rattle.std.specs.Prelude.{ℕ, ◌+◌, ◌*◌, ◌≡◌, List, length}
use Rattle.rules.specs.declared.Record.{Record}
use Rattle.rules.specs.Words.{view}
use Rattle.rules.specs.Records.{area_after}
use Rattle.rules.specs.Sound.{Sound}
use Rattle.rules.specs.Step.{step}
use Rattle.rules.specs.Tray.{run_tray, host_number}

-- what is answered to a frame: the records that its step wrote, their count and the refusal's number (0: carried out)
-- as they are returned, and the answers area afterwards
pub record Answered : Type 0 where
  pub records : List Record
  pub count : ℕ
  pub number : ℕ
  pub area : List ℕ

-- "A frame's statement covers every space that frames can make of the empty one": what is said of a frame that is
-- carried out is said of sound spaces. Of a refused one it is said of any words.
abbrev pub Covered : List ℕ → ℕ → Type 0
Covered before number = number ≡ 0 → Sound (view before)

-- The words of a space, a frame and an answers area are allowed to become the words `after` and what is answered:
-- exactly what the rules give. A refused frame gives the very same words back.
pub record Allowed (before frame area after : List ℕ) (a : Answered) : Type 0 where
  pub space : Covered before a.number → view after ≡ (step (view before) frame (length area)).model
  pub records : Covered before a.number → a.records ≡ (step (view before) frame (length area)).records
  pub count : a.count ≡ length a.records
  pub number : a.number ≡ (step (view before) frame (length area)).number
  pub bytes : a.area ≡ area_after a.records area
  pub unchanged : (a.number ≡ 0 → ⊥) → after ≡ before

-- `space_step` returns records + 65,536 × number, and leaves the answers area as `area'`
pub record Stepped (before frame area after : List ℕ) (returned : ℕ) (area' : List ℕ) : Type 0 where
  pub answered : Answered
  pub allowed : Allowed before frame area after answered
  pub returns : returned ≡ answered.count + 65536 * answered.number
  pub leaves : area' ≡ answered.area

-- `space_run_tray` returns the three numbers of a tray's run in one, and leaves the answers area as `area'`: exactly
-- what the rules give
pub record TrayRan (tray area : List ℕ) (returned : ℕ) (area' : List ℕ) : Type 0 where
  pub returns : returned ≡ host_number (run_tray tray (length area))
  pub leaves : area' ≡ area_after (run_tray tray (length area)).records area
