-- The row of 14 is never the first that applies, on a space that frames made: so the rules are the same without it.
use Prim.Native.Nat.{ℕ}
use mathlib.Core.Bool.{false, cond, ◌&&◌, and-false}
use mathlib.Core.Logic.{⊎_elim}
use mathlib.Core.Path.{◌≡◌, refl, sym, ap, ◌∙◌, subst⁻¹}
use mathlib.Core.List.{List, [], ◌∷◌}
use borrow.Author.Tests.{eqb-true, eqb-false, lt-leb}
use lib.Dec.{eqb}
use lib.ListN.{length}
use Rattle.rules.specs.Numbers.{max_waits}
use Rattle.rules.specs.State.{Model}
use Rattle.rules.specs.Frame.{decode, is_look_up}
use Rattle.rules.specs.Refusals.{rows, refusal}
use Rattle.rules.specs.Sound.{Sound}
use Rattle.rules.specs.Step.{Outcome, step, carried_out, accepted, refused_with}
use Rattle.rules.specs.Allowed.{Answered}
use Rattle.rules.specs.SerialRun.{Logged}
use Rattle.rules.proofs.BoolLaws.{bool_cases}
use Rattle.rules.proofs.RefusalLaws.{first-append, first-without, clear}
use Rattle.rules.proofs.SoundLaws.{room-left}
use Rattle.demands.specs.Machine.{Handed, Stepper, StepsBy, answered_by, space_of, the_rules}
use Rattle.demands.specs.History.{History, begun, handed, Made}
use Rattle.demands.specs.Tidied.{waits_refused, must_wait, waits_full, refusal_before, step_before, the_rules_before}
use Rattle.demands.specs.Tidied.{Tidied}
use Rattle.sound.proofs.SoundProof.{sound_empty, sound-step}
use Rattle.demands.proofs.JudgedProof.{number_is}

module _ (m : Model) (sound : Sound m) (bs : List ℕ) (area : ℕ) where
  not_full : refusal m bs area ≡ 0 → waits_full m (decode bs) ≡ false
  unfolding waits_full
  not_full e =
      let f = decode bs in
      let c = clear m bs area e in
      ⊎_elim (λ l. rw (lt-leb max_waits (length m.waits) (room-left m f l c.party c.free sound))
      (and-false (is_look_up f.op && must_wait m f))) (λ l. rw l) (bool_cases (is_look_up f.op))

  same-refusal : refusal_before m bs area ≡ refusal m bs area
  unfolding refusal_before refusal
  same-refusal =
      first-append (rows m bs area) ((waits_full m (decode bs), waits_refused) ∷ []) refl
      ∙ ⊎_elim (λ z. let e = eqb-true (refusal m bs area) 0 z in rw (z, not_full e) (sym e)) (λ z. rw z)
      (bool_cases (eqb (refusal m bs area) 0))

  same_step : step_before m bs area ≡ step m bs area
  unfolding step_before step
  same_step = ap (λ n. cond (eqb n 0) (accepted (carried_out m (decode bs))) (refused_with m bs n)) same-refusal

-- a step of the one is a step of the other, and leaves a sound space
module _ (does other : Stepper) (same : (m : Model) → Sound m → (bs : List ℕ) (area : ℕ)
    → does m bs area ≡ other m bs area)
    (kept : (m : Model) → Sound m → (bs : List ℕ) (area : ℕ) → Sound (does m bs area).model) where
  steps_too : (m : Model) → Sound m → (h : Handed) (n : Model) (a : Answered) → StepsBy does m h n a
      → StepsBy other m h n a × Sound n
  steps_too m s h n a p =
      let q = same m s h.frame (length h.area) in (
        record {
          space = p.space ∙ ap (λ (o : Outcome). o.model) q;
          answered = p.answered ∙ ap (λ (o : Outcome). answered_by o h.area) q;
        },
        subst⁻¹ Sound p.space (kept m s h.frame (length h.area)),
      )

  history_too : {m n : Model} {log : List Logged} → Sound m → History (space_of does) m log n
      → History (space_of other) m log n × Sound n
  history_too s (begun m) = (begun m, s)
  history_too s (handed {s = m} {t = k} h a p rest) =
      let q = steps_too m s h k a p in
      let r = history_too q.1 rest in (handed h a q.0 r.0, r.1)

  made_too : (log : List Logged) (n : Model) → Made (space_of does) log n → Made (space_of other) log n × Sound n
  made_too log n (m, e, r) = let q = history_too (subst⁻¹ Sound e sound_empty) r in ((m, e, q.0), q.1)

kept_now : (m : Model) → Sound m → (bs : List ℕ) (area : ℕ) → Sound (step m bs area).model
kept_now m s bs area = sound-step m bs area s

kept_before : (m : Model) → Sound m → (bs : List ℕ) (area : ℕ) → Sound (step_before m bs area).model
kept_before m s bs area = subst⁻¹ (λ (o : Outcome). Sound o.model) (same_step m s bs area) (kept_now m s bs area)

sound_before : (log : List Logged) (m : Model) → Made the_rules_before log m → Made the_rules log m × Sound m
sound_before = made_too step_before step same_step kept_before

pub the_number_is_tidied : Tidied
unfolding answered_by refusal
the_number_is_tidied =
    record {
      not_applies = λ log m r bs area. not_full m (sound_before log m r).1 bs area;
      never = λ log m n h a r p e.
          let s = (sound_before log m r).1 in
          let area = length h.area in
          let q = (steps_too step_before step same_step kept_before m s h n a p).0 in
          let number = ap (λ (x : Answered). x.number) q.answered ∙ number_is m h.frame area in
          eqb-false (refusal m h.frame area) waits_refused (first-without waits_refused (rows m h.frame area) refl
          refl)
          (sym number ∙ e);
      same = λ log m. (
        λ r. (sound_before log m r).0,
        λ r. (made_too step step_before (λ n s bs area. sym (same_step n s bs area)) kept_now log m r).0,
      );
    }
