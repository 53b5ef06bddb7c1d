-- Bounds that are wrong: some run does not keep within them, or they are not document 02's.
use Rattle.std.specs.Prelude.{ℕ, ◌+◌, ◌-◌, ◌*◌, ◌≤◌, ◌≡◌, List, length}
use Rattle.rules.specs.State.{empty}
use Rattle.rules.specs.Frame.{is_look_up, is_create, is_notify}
use Rattle.rules.specs.Tray.{run_frames}
use Rattle.bounds.specs.Bounds.{many, bells_bound, records_bound}
use Rattle.bounds.specs.Within.{area_for}

-- "must keep within both when run"
abbrev pub Kept : (List (List ℕ) → ℕ) → Type 0
Kept bound = (fs : List (List ℕ)) (area : ℕ) → length (run_frames empty area fs).records ≤ bound fs

-- "never stops with 1" in an area of that size
abbrev pub Suffices : (List (List ℕ) → ℕ) → Type 0
Suffices size = (fs : List (List ℕ)) → (run_frames empty (size fs) fs).number ≡ 0

pub record WrongBounds : Type 0 where
  -- exceptions come besides
  pub without_creates : Kept (λ fs. length fs + many is_look_up fs + bells_bound 0 fs) → ⊥
  -- later answers come besides
  pub without_look_ups : Kept (λ fs. length fs + many is_create fs + bells_bound 0 fs) → ⊥
  -- bells come besides
  pub without_bells : Kept (λ fs. length fs + many is_look_up fs + many is_create fs) → ⊥
  -- "the notify frames ahead of it", not all of them
  pub with_all_notifies : ((fs : List (List ℕ))
      → length fs + many is_look_up fs + many is_create fs + bells_bound (many is_notify fs) fs ≡ records_bound fs) → ⊥
  -- the records within the bound are no bound for the area, nor is a byte less than what suffices
  pub records_alone : Suffices (λ fs. 28 * records_bound fs) → ⊥
  pub a_byte_less : Suffices (λ fs. area_for fs - 1) → ⊥
