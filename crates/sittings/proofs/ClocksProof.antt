-- Waits are differences of clocks: a step's ticked records count the clock on.
use Rattle.std.proofs.Common.{◌≡◌, ℕ, ◌+◌, List, [], ◌∷◌, ap, ◌∙◌, ⊎_elim, append-nil, arith}
use Rattle.rules.specs.Lists.{anyb}
use Rattle.rules.specs.Numbers.{step_area}
use Rattle.rules.specs.Records.{is_ticked}
use Rattle.rules.specs.State.{Model}
use Rattle.rules.specs.Step.{step}
use Rattle.rules.specs.Log.{log_from, records_of}
use Rattle.rules.specs.Sound.{Sound}
use Rattle.rules.proofs.BoolLaws.{bool_cases}
use Rattle.rules.proofs.ListLaws.{count}
use Rattle.sound.proofs.SoundProof.{sound-step}
use Rattle.demands.specs.Answers.{closes}
use Rattle.demands.specs.Machine.{Input}
use Rattle.demands.proofs.Runs.{runs, answers_to}
use Rattle.demands.proofs.AnswersProof.{clock-counts}
use Rattle.sittings.specs.Waits.{waited}
use Rattle.sittings.specs.Clocks.{clock_at_end, DifferenceOfClocks}

clock_on : (m : Model) (f : List ℕ) → Sound m
    → (step m f step_area).model.clock ≡ m.clock + count is_ticked (step m f step_area).records
unfolding runs answers_to records_of
clock_on m f s =
    let i : Input = record { frame = f; area = step_area } in
    clock-counts m (i ∷ []) s
    ∙ ap (λ rs. m.clock + count is_ticked rs) (append-nil (step m f step_area).records)

counted : (m : Model) → Sound m → (p t : ℕ) (later : List (List ℕ))
    → m.clock + waited p t (log_from m later) ≡ clock_at_end p t m later
unfolding log_from waited clock_at_end
counted m s p t [] = omega arith
counted m s p t (f ∷ later) =
    let o = step m f step_area in
    let on = clock_on m f s in
    let rest = counted o.model (sound-step m f step_area s) p t later in
    ⊎_elim (λ e. rw e (omega (arith, on))) (λ e. rw e (omega (arith, on, rest)))
    (bool_cases (anyb (closes p t) o.records))

pub difference_of_clocks : DifferenceOfClocks
unfolding DifferenceOfClocks
difference_of_clocks = counted
