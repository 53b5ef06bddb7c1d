-- A frame's own part, by its operation; and what a look-up frame is answered, for the four kinds together.
use Prim.Native.Nat.{ℕ}
use mathlib.Core.Bool.{true, cond}
use mathlib.Core.Path.{◌≡◌, refl, ap, ◌∙◌}
use mathlib.Core.List.{List, [], append-nil}
use Rattle.rules.specs.State.{Model}
use Rattle.rules.specs.Frame.{Frame, decode, is_write, is_look_up, is_create, is_commit, is_abort, is_renew, is_notify}
use Rattle.rules.specs.Done.{Carried, after, ending_with}
use Rattle.rules.specs.LookUp.{look_up}
use Rattle.rules.specs.Transactions.{create}
use Rattle.rules.specs.Renew.{renew}
use Rattle.rules.specs.Notify.{notify, made_public, ringing}
use Rattle.rules.specs.Tick.{tick}
use Rattle.rules.specs.Closing.{close_waits}
use Rattle.rules.specs.Refusals.{refusal}
use Rattle.rules.specs.Step.{step, accepted, own_part, finish, carried_out, write_frame, commit_frame, abort_frame}
use Rattle.rules.proofs.NotifyLaws.{look_up_silent}
use Rattle.rules.proofs.LayoutLaws.{look_up_cases, finish-quiet, look_up-serves, look_up-not-tick}

-- a frame that is not refused is carried out
pub step-accepted : (m : Model) (bs : List ℕ) (area : ℕ) → refusal m bs area ≡ 0
    → step m bs area ≡ accepted (carried_out m (decode bs))
unfolding step
step-accepted m bs area e = rw e

module _ (m : Model) (f : Frame) where
  -- the own part, by the operation
  abbrev pub part_of : ℕ → Carried
  part_of op =
      cond (is_write op) (write_frame m f)
      (cond (is_look_up op) (look_up m f)
      (cond (is_create op) (create m f)
      (cond (is_commit op) (commit_frame m f)
      (cond (is_abort op) (abort_frame m f)
      (cond (is_renew op) (renew m f)
      (cond (is_notify op) (notify m f) (tick m)))))))

  pub part_at : {op : ℕ} → f.op ≡ op → own_part m f ≡ part_of op
  unfolding own_part
  part_at q = ap part_of q

  pub part_look_up : is_look_up f.op ≡ true → own_part m f ≡ look_up m f
  unfolding own_part
  part_look_up t = look_up_cases (λ op. part_of op ≡ look_up m f) f.op t refl refl refl refl

  -- a look-up's is all that it does, but for who waits in vain from then on
  pub carried-look_up : is_look_up f.op ≡ true
      → carried_out m f ≡ after (look_up m f).own (close_waits (look_up m f).model)
  unfolding carried_out
  carried-look_up t =
      let c = look_up m f in
      ap (λ (p : Carried). after p.own (ending_with (ringing (made_public m f) m.registrations)
      (finish f p.model)))
      (part_look_up t)
      ∙ ap (λ rs. after c.own (ending_with rs (finish f c.model))) (look_up_silent m f t)
      ∙ ap (λ d. after c.own (ending_with [] d))
      (finish-quiet f c.model (look_up-not-tick f.op t) (look_up-serves f t))
      ∙ ap (λ rs. after c.own (record { model = (close_waits c.model).model; records = rs })) (append-nil _)
