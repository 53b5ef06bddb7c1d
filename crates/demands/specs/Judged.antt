-- Demand 1, for one frame: carried out, or refused with a number; a refused one changes nothing but the refusal record.
use Rattle.std.specs.Prelude.{◌*◌, ◌<◌, ◌≡◌, ◌↔◌, [], ◌∷◌, length, take, drop}
use Rattle.rules.specs.Numbers.{record_size, step_area, area_refused}
use Rattle.rules.specs.Records.{refused, answer_bytes}
use Rattle.rules.specs.Refusals.{refusal}
use Rattle.rules.specs.Allowed.{Answered}
use Rattle.demands.specs.Machine.{Handed, Machine}

-- the frame is not refused in this state
abbrev pub CarriedOut : (S : Machine) → S.State → Handed → Type 0
CarriedOut S t h = refusal (S.view t) h.frame (length h.area) ≡ 0

pub record Judged (S : Machine) (t : S.State) (h : Handed) (u : S.State) (a : Answered) : Type 0 where
  -- the number is that of the first row of the table that applies, and 0 where none does
  pub first_row : a.number ≡ refusal (S.view t) h.frame (length h.area)
  -- a refused frame leaves the space and its clock as they were
  pub unchanged : (a.number ≡ 0 → ⊥) → u ≡ t
  -- it writes its one record; or none for number 1, which is given exactly when the area is under 700 bytes
  pub one_record : (a.number ≡ 0 → ⊥) → (a.number ≡ area_refused → ⊥)
      → a.records ≡ refused h.frame a.number ∷ []
  pub no_record : a.number ≡ area_refused → a.records ≡ []
  pub too_short : (a.number ≡ area_refused) ↔ (length h.area < step_area)
  -- the area keeps its length; the records' bytes stand in front, and every byte after the last record keeps its
  -- contents
  pub same_length : length a.area ≡ length h.area
  pub written : take (record_size * length a.records) a.area ≡ answer_bytes a.records
  pub kept : drop (record_size * length a.records) a.area ≡ drop (record_size * length a.records) h.area
