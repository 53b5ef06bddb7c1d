-- What is made public, and who hears of it.
use Prim.Native.Nat.{◌≤◌}
use mathlib.Core.Bool.{Bool, true, false, not, cond, ◌&&◌}
use mathlib.Core.Path.{◌≡◌, refl, ap, ◌∙◌}
use mathlib.Core.List.{List, [], ◌∷◌}
use native.Mathlib.Omega.{arith}
use borrow.Author.Tests.{eqb-true}
use lib.Dec.{eqb}
use lib.ListN.{length, length-map}
use Rattle.rules.specs.declared.Entry.{Entry}
use Rattle.rules.specs.declared.Registration.{Registration}
use Rattle.rules.specs.declared.Txn.{Txn}
use Rattle.rules.specs.Numbers.{op_commit, op_tick}
use Rattle.rules.specs.Lists.{filterb}
use Rattle.rules.specs.State.{Model}
use Rattle.rules.specs.Frame.{Frame, is_write, is_look_up, is_commit, is_tick, serves}
use Rattle.rules.specs.Records.{rung}
use Rattle.rules.specs.Done.{Done, quiet}
use Rattle.rules.specs.Transactions.{is_private_to, is_taken_by, abort}
use Rattle.rules.specs.Service.{service}
use Rattle.rules.specs.Tick.{ended_txns, abort_all, drop_ended, lapsed}
use Rattle.rules.specs.Closing.{close_waits}
use Rattle.rules.specs.Step.{finish}
use Rattle.rules.specs.Notify.{made_public, matching, hearing, ringing}
use Rattle.rules.proofs.BoolLaws.{cond_cases}
use Rattle.rules.proofs.ListLaws.{length-filter}
use Rattle.rules.proofs.LayoutLaws.{look_up_cases}

-- only a write or a commit makes entries public
pub none_public : (m : Model) (f : Frame) → is_write f.op ≡ false → is_commit f.op ≡ false → made_public m f ≡ []
unfolding made_public
none_public m f w c = rw (w, c)

pub commit_public : (m : Model) (f : Frame) → is_commit f.op ≡ true
    → made_public m f ≡ filterb (λ e. is_private_to f.txn e && not (is_taken_by f.txn e)) m.entries
unfolding made_public
commit_public m f t = rw (eqb-true f.op op_commit t)

pub tick_public : (m : Model) (f : Frame) → is_tick f.op ≡ true → made_public m f ≡ []
unfolding made_public
tick_public m f t = rw (eqb-true f.op op_tick t)

-- of no entries nobody hears
pub rings-none : (gs : List Registration) → ringing [] gs ≡ []
unfolding ringing matching
rings-none [] = refl
rings-none (g ∷ gs) = rings-none gs

-- one record for each registration at most
pub rings-length : (es : List Entry) (gs : List Registration) → length (ringing es gs) ≤ length gs
unfolding ringing
rings-length es gs =
    let hears : Registration → Bool = λ g. not (eqb (matching es g) 0) in
    omega (arith, length-map (filterb hears gs) (λ g. rung (matching es g) (hearing es g)), length-filter hears gs)

-- so the other frames are silent
pub none-rung : (m : Model) (f : Frame) → is_write f.op ≡ false → is_commit f.op ≡ false
    → ringing (made_public m f) m.registrations ≡ []
none-rung m f w c = ap (λ es. ringing es m.registrations) (none_public m f w c) ∙ rings-none m.registrations

pub look_up_silent : (m : Model) (f : Frame) → is_look_up f.op ≡ true
    → ringing (made_public m f) m.registrations ≡ []
look_up_silent m f t =
    none-rung m f (look_up_cases (λ op. is_write op ≡ false) f.op t refl refl refl refl)
    (look_up_cases (λ op. is_commit op ≡ false) f.op t refl refl refl refl)

-- what a frame finishes with leaves the registrations
aborted-registrations : (ts : List Txn) (m : Model) → (abort_all ts m).registrations ≡ m.registrations
unfolding abort_all abort
aborted-registrations [] m = refl
aborted-registrations (t ∷ ts) m = aborted-registrations ts (abort t.id.0 m)

pub finish-registrations : (f : Frame) (m : Model) → (finish f m).model.registrations ≡ m.registrations
unfolding finish lapsed drop_ended service close_waits
finish-registrations f m =
    cond_cases (λ (d : Done). d.model.registrations ≡ ended.model.registrations) (serves f) (λ _. refl) (λ _. refl)
    ∙ cond_cases (λ (d : Done). d.model.registrations ≡ m.registrations) (is_tick f.op)
    (λ _. aborted-registrations (ended_txns m) m) (λ _. refl)
  where
    ended : Done
    ended = cond (is_tick f.op) (lapsed m) (quiet m)
