-- The entry that the rules hand out is the oldest that is available; and what a look-up frame is answered, for the four
-- kinds together.
use Prim.Native.Nat.{ℕ}
use mathlib.Core.Bool.{true, false, not, ◌||◌}
use mathlib.Core.Path.{◌≡◌, refl, ap₂}
use mathlib.Core.List.Memᴰ
use mathlib.Core.List.{List, ◌∷◌, Memᴰ}
use borrow.Author.Tests.{eqb-false}
use lib.Dec.{eqb}
use mathlib.Core.Option.{some}
use Rattle.rules.specs.declared.LookUp.{LookUp}
use Rattle.rules.specs.Lists.{filterb}
use Rattle.rules.specs.State.{Model}
use Rattle.rules.specs.Holds.{available, oldest}
use Rattle.rules.specs.Frame.{Frame, decode, is_look_up}
use Rattle.rules.specs.Done.{Carried}
use Rattle.rules.specs.LookUp.{look_up_of, gives_nothing, answer_found, answer_nothing, answer_waiting, answer, look_up}
use Rattle.rules.specs.Closing.{is_over, close_waits}
use Rattle.rules.specs.Refusals.{refusal}
use Rattle.rules.specs.Step.{step, accepted}
use Rattle.rules.specs.declared.Entry.{Entry}
use Rattle.rules.specs.declared.Txn.{Txn}
use Rattle.rules.proofs.ListLaws.{any_none, any_find, filter_mem, find_some}
use Rattle.rules.proofs.BoolLaws.{or_left, or_right}
use Rattle.rules.proofs.TimeLaws.{until_later}
use Rattle.demands.specs.Answers.{AnsweredNow}
use Rattle.sound.proofs.OrderLaws.{InOrder, Numbered}
use Rattle.demands.specs.Said.{Oldest}
use Rattle.sound.proofs.AscendingLaws.{find_lowest, lowest-found}
use Rattle.sound.proofs.OwnPartLaws.{step-accepted, carried-look_up}

-- the entry that the rules hand out is the oldest that is available, and the other way round
module _ {n : ℕ} {ts : List Txn} {w : LookUp} {es : List Entry} {e : Entry} (h : Numbered n es) where
  pub oldest-said : oldest ts w es ≡ some e → Oldest ts w es e
  oldest-said q =
      let f = find_some (available ts w) es q in
      record {
        stored = f.0;
        is_available = f.1;
        lowest = λ x i av. find_lowest (λ (x : Entry). x.id.0) (available ts w) es h.0 q i av;
      }

  pub oldest_given : Oldest ts w es e → oldest ts w es ≡ some e
  oldest_given o =
      lowest-found (λ (x : Entry). x.id.0) (available ts w) es h.0 o.stored o.is_available o.lowest

module _ (m : Model) (f : Frame) where
  abbrev asked_for : LookUp
  asked_for = look_up_of m f

  -- one that waits is not over
  waits_there : gives_nothing m asked_for f.lease_or_timeout ≡ false
      → Memᴰ asked_for (close_waits (answer_waiting m asked_for).model).model.waits
  unfolding close_waits is_over answer_waiting gives_nothing look_up_of
  waits_there g =
      filter_mem (λ w. not (is_over (answer_waiting m asked_for).model w))
      (Memᴰ.append_right m.waits (Memᴰ.head refl))
      (ap₂ (λ x y. not (x || y)) (until_later m.clock f.lease_or_timeout (eqb-false _ 0 (or_left _ _ g)))
      (or_right (eqb f.lease_or_timeout 0) _ g))

  look_up_answered : InOrder m → let c = look_up m f in
      let d = close_waits c.model in
      AnsweredNow m asked_for f.lease_or_timeout (c.own ∷ d.records) d.model
  unfolding look_up answer answer_found answer_nothing answer_waiting close_waits
  look_up_answered h =
      let none_there = any_none (available m.txns asked_for) m.entries in
      let over : Carried → List LookUp = λ c. filterb (is_over c.model) c.model.waits in
      record {
        found_case = λ t.
            let r = any_find (available m.txns asked_for) m.entries t in
            (r.0, oldest-said h r.1, (over (answer_found m asked_for r.0), rw r.1));
        nothing_case = λ t g. (over (answer_nothing m asked_for), rw (none_there t, g));
        waiting_case = λ t g.
            ((over (answer_waiting m asked_for), rw (none_there t, g)), rw (none_there t, g) (waits_there g));
      }

pub answered_now : (m : Model) (bs : List ℕ) (area : ℕ) → InOrder m → refusal m bs area ≡ 0
    → is_look_up (decode bs).op ≡ true
    → AnsweredNow m (look_up_of m (decode bs)) (decode bs).lease_or_timeout (step m bs area).records
    (step m bs area).model
unfolding accepted
answered_now m bs area h n l =
    rw (step-accepted m bs area n, carried-look_up m (decode bs) l) (look_up_answered m (decode bs) h)
