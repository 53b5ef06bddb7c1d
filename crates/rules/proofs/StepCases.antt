-- Proofs by cases of a step, of a frame's own part and of service.
use Prim.Native.Nat.{ℕ}
use mathlib.Core.Bool.{true}
use mathlib.Core.Logic.{◌⊎◌, inl, inr}
use mathlib.Core.Path.{◌≡◌, subst⁻¹}
use mathlib.Core.Option.{none, some}
use mathlib.Core.List.{List, [], ◌∷◌}
use borrow.Author.Tests.{eqb-true}
use lib.Dec.{eqb}
use Rattle.rules.specs.declared.Entry.{Entry}
use Rattle.rules.specs.declared.Txn.{Txn}
use Rattle.rules.specs.declared.LookUp.{LookUp}
use Rattle.rules.specs.State.{Model}
use Rattle.rules.specs.Holds.{oldest}
use Rattle.rules.specs.Frame.{Frame, decode, is_operation, is_write, is_look_up, is_create, is_commit, is_abort}
use Rattle.rules.specs.Frame.{is_tick}
use Rattle.rules.specs.Frame.{is_renew, is_notify}
use Rattle.rules.specs.Done.{Carried}
use Rattle.rules.specs.LookUp.{look_up, hand_out}
use Rattle.rules.specs.Transactions.{create}
use Rattle.rules.specs.Renew.{renew}
use Rattle.rules.specs.Notify.{notify}
use Rattle.rules.specs.Service.{Served, serve, found_first, waits_first}
use Rattle.rules.specs.Tick.{tick}
use Rattle.rules.specs.Refusals.{refusal}
use Rattle.rules.specs.Step.{Outcome, step, accepted, refused_with, own_part, carried_out, write_frame, commit_frame}
use Rattle.rules.specs.Step.{abort_frame}
use Rattle.rules.proofs.BoolLaws.{cond_cases, option_cases}
use Rattle.rules.proofs.LayoutLaws.{left_is_tick}

-- a frame is refused, or carried out
pub step_cases : (Q : Outcome → Type 0) (m : Model) (bs : List ℕ) (area : ℕ)
    → ((n : ℕ) → Q (refused_with m bs n))
    → (refusal m bs area ≡ 0 → Q (accepted (carried_out m (decode bs))))
    → Q (step m bs area)
unfolding step
step_cases Q m bs area refused done =
    cond_cases Q (eqb (refusal m bs area) 0) (λ e. done (eqb-true (refusal m bs area) 0 e))
    (λ e. refused (refusal m bs area))

-- one of the eight things is the frame's own part
pub own_cases : (Q : Carried → Type 0) (m : Model) (f : Frame) → is_operation f.op ≡ true
    → (is_write f.op ≡ true → Q (write_frame m f))
    → (is_look_up f.op ≡ true → Q (look_up m f))
    → (is_create f.op ≡ true → Q (create m f))
    → (is_commit f.op ≡ true → Q (commit_frame m f))
    → (is_abort f.op ≡ true → Q (abort_frame m f))
    → (is_renew f.op ≡ true → Q (renew m f))
    → (is_notify f.op ≡ true → Q (notify m f))
    → (is_tick f.op ≡ true → Q (tick m))
    → Q (own_part m f)
unfolding own_part
own_cases Q m f is on_write on_look_up on_create on_commit on_abort on_renew on_notify on_tick =
    cond_cases Q (is_write f.op) on_write
    (λ e₁. cond_cases Q (is_look_up f.op) on_look_up
    (λ e₂. cond_cases Q (is_create f.op) on_create
    (λ e₃. cond_cases Q (is_commit f.op) on_commit
    (λ e₄. cond_cases Q (is_abort f.op) on_abort
    (λ e₅. cond_cases Q (is_renew f.op) on_renew
    (λ e₆. cond_cases Q (is_notify f.op) on_notify
    (λ e₇. on_tick (left_is_tick f.op is e₁ e₂ e₃ e₄ e₅ e₆ e₇))))))))

-- service: a look-up's turn
module _ (ts : List Txn) (es : List Entry) (w : LookUp) (ws : List LookUp) where
  pub serve-none : oldest ts w es ≡ none → serve ts es (w ∷ ws) ≡ waits_first w (serve ts es ws)
  unfolding serve
  serve-none e = rw (e, serve)

  pub serve_some : (x : Entry) → oldest ts w es ≡ some x
      → serve ts es (w ∷ ws) ≡ found_first w x (serve ts (hand_out ts w x es) ws)
  unfolding serve
  serve_some x e = rw (e, serve)

-- service, by induction: nobody waits; the first waits on; the first is answered found
module _ (ts : List Txn) (Q : List Entry → List LookUp → Served → Type 0) where
  pub serve_ind : ((es : List Entry) → Q es [] (record { entries = es; waits = []; records = [] }))
      → ((es : List Entry) (w : LookUp) (ws : List LookUp) → oldest ts w es ≡ none
      → Q es ws (serve ts es ws) → Q es (w ∷ ws) (waits_first w (serve ts es ws)))
      → ((es : List Entry) (w : LookUp) (ws : List LookUp) (x : Entry) → oldest ts w es ≡ some x
      → Q (hand_out ts w x es) ws (serve ts (hand_out ts w x es) ws)
      → Q es (w ∷ ws) (found_first w x (serve ts (hand_out ts w x es) ws)))
      → (es : List Entry) (ws : List LookUp) → Q es ws (serve ts es ws)
  unfolding serve
  serve_ind onNil onNone onSome es [] = onNil es
  serve_ind onNil onNone onSome es (w ∷ ws) =
      go (option_cases (oldest ts w es)) (λ es'. serve_ind onNil onNone onSome es' ws)
    where
      go : (oldest ts w es ≡ none) ⊎ ((x : Entry) × (oldest ts w es ≡ some x))
          → ((es' : List Entry) → Q es' ws (serve ts es' ws)) → Q es (w ∷ ws) (serve ts es (w ∷ ws))
      go (inl e) below = subst⁻¹ (Q es (w ∷ ws)) (serve-none ts es w ws e) (onNone es w ws e (below es))
      go (inr xe) below =
          subst⁻¹ (Q es (w ∷ ws)) (serve_some ts es w ws xe.0 xe.1)
          (onSome es w ws xe.0 xe.1 (below (hand_out ts w xe.0 es)))
