-- "An abort of the transaction in which the party's own look-up waits is now carried out. .. From the same space,
-- frames that 6 did not refuse before answer as they did; 6 remains for every other frame of that party" (document 02,
-- T-01): the rules as they were, with the row of 6 as it was, beside the rules as they are.
use Rattle.std.specs.Prelude.{ℕ, Bool, true, false, cond, ◌≡◌, eqb, ltb}
use mathlib.Core.List.{List, ◌∷◌, ◌++◌, Memᴰ}
use Rattle.rules.specs.declared.LookUp.{LookUp}
use Rattle.rules.specs.Lists.{anyb, first_row}
use Rattle.rules.specs.Numbers.{step_area, area_refused, waiting_refused, not_live_refused, not_own_refused}
use Rattle.rules.specs.Numbers.{no_entry_refused}
use Rattle.rules.specs.Numbers.{not_writer_refused, held_refused}
use Rattle.rules.specs.State.{Model}
use Rattle.rules.specs.Frame.{Frame, decode}
use Rattle.rules.specs.Sound.{of_party}
use Rattle.rules.specs.Refusals.{withdraws, no_entry, not_writer, not_free, not_live, not_own, form_rows, room_rows}
use Rattle.rules.specs.Refusals.{refusal}
use Rattle.rules.specs.Step.{carried_out, accepted, refused_with, step}
use Rattle.demands.specs.Machine.{Stepper, the_rules}
use Rattle.demands.specs.History.{EveryState}

-- "6: the party has a waiting look-up"
abbrev pub waited_before : Model → Frame → Bool
waited_before m f = anyb (of_party f.party) m.waits

-- the table as it was: the rows ahead of 6, 6 itself, and those behind it
abbrev pub ahead_of6 : List ℕ → ℕ → List (Bool × ℕ)
ahead_of6 bs area = (ltb area step_area, area_refused) ∷ form_rows bs (decode bs)

abbrev pub behind6 : Model → Frame → List (Bool × ℕ)
behind6 m f =
    (no_entry m f, no_entry_refused)
    ∷ (not_writer m f, not_writer_refused)
    ∷ (not_free m f, held_refused)
    ∷ (not_live m f, not_live_refused)
    ∷ (not_own m f, not_own_refused)
    ∷ room_rows m f

unfoldable pub refusal_before : Model → List ℕ → ℕ → ℕ
refusal_before m bs area =
    let f = decode bs in
    first_row (ahead_of6 bs area ++ ((waited_before m f, waiting_refused) ∷ behind6 m f))

unfoldable pub step_before : Stepper
step_before m bs area =
    let n = refusal_before m bs area in
    cond (eqb n 0) (accepted (carried_out m (decode bs))) (refused_with m bs n)

pub record Withdrawn : Type 0 where
  -- from the same space, any at all, frames that 6 did not refuse answer as they did
  pub same : (m : Model) (bs : List ℕ) (area : ℕ) → (refusal_before m bs area ≡ waiting_refused → ⊥)
      → step_before m bs area ≡ step m bs area
  -- 6 remains for every frame that does not withdraw its party's waiting look-up
  pub remains : (m : Model) (bs : List ℕ) (area : ℕ) (w : LookUp) → Memᴰ w m.waits
      → w.party ≡ (decode bs).party → withdraws (decode bs) w ≡ false
      → refusal_before m bs area ≡ waiting_refused → refusal m bs area ≡ waiting_refused
  -- and one that does is carried out, after every history
  pub carried : EveryState the_rules (λ log m. (bs : List ℕ) (area : ℕ) (w : LookUp) → Memᴰ w m.waits
      → w.party ≡ (decode bs).party → withdraws (decode bs) w ≡ true
      → refusal_before m bs area ≡ waiting_refused → refusal m bs area ≡ 0)
