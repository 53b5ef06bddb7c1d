-- "On a space that frames made of the empty one, the case of number 14 cannot arise, because a look-up of a party that
-- already waits is stopped by 6 and there are 16 parties. Show it, then remove the number" (document 02, T-04): the
-- rules as they were, with the row of 14, and what is shown of them.
use Rattle.std.specs.Prelude.{ℕ, Bool, false, not, cond, ◌&&◌, ◌↔◌, ◌≡◌, List, [], ◌∷◌, ◌++◌, eqb, leb, length}
use Rattle.rules.specs.Lists.{first_row}
use Rattle.rules.specs.Numbers.{max_waits}
use Rattle.rules.specs.State.{Model}
use Rattle.rules.specs.Holds.{some_available}
use Rattle.rules.specs.Frame.{Frame, decode, is_look_up}
use Rattle.rules.specs.LookUp.{look_up_of, gives_nothing}
use Rattle.rules.specs.Refusals.{rows, refusal}
use Rattle.rules.specs.Step.{carried_out, accepted, refused_with}
use Rattle.rules.specs.SerialRun.{Logged}
use Rattle.demands.specs.Machine.{Machine, Stepper, space_of, the_rules}
use Rattle.demands.specs.History.{Made, EveryState, EveryStep}

-- "14: a look-up must wait and 16 wait already"
abbrev pub waits_refused : ℕ
waits_refused = 14

abbrev pub must_wait : Model → Frame → Bool
must_wait m f =
    let w = look_up_of m f in
    not (some_available m.txns w m.entries) && not (gives_nothing m w f.lease_or_timeout)

unfoldable pub waits_full : Model → Frame → Bool
waits_full m f = is_look_up f.op && must_wait m f && leb max_waits (length m.waits)

-- the table as it was: the row of 14 stood last
unfoldable pub refusal_before : Model → List ℕ → ℕ → ℕ
refusal_before m bs area = first_row (rows m bs area ++ ((waits_full m (decode bs), waits_refused) ∷ []))

unfoldable pub step_before : Stepper
step_before m bs area =
    let n = refusal_before m bs area in
    cond (eqb n 0) (accepted (carried_out m (decode bs))) (refused_with m bs n)

abbrev pub the_rules_before : Machine
the_rules_before = space_of step_before

pub record Tidied : Type 0 where
  -- after every history, by the rules as they were: the row of 14 never applies to a frame that the rows ahead of it
  -- let pass, so 14 is never given. (Where 16 wait it would apply to a look-up that must wait; 6 is then the first.)
  pub not_applies : EveryState the_rules_before (λ log m. (bs : List ℕ) (area : ℕ) → refusal m bs area ≡ 0
      → waits_full m (decode bs) ≡ false)
  pub never : EveryStep the_rules_before (λ m h n a. a.number ≡ waits_refused → ⊥)
  -- so nothing is lost with the row: the same histories, frame by frame and record by record
  pub same : (log : List Logged) (m : Model) → Made the_rules_before log m ↔ Made the_rules log m
