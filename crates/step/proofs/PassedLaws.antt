-- What is known of a request that the refusals behind 5 let pass.
use Prim.Native.Nat.{ℕ, ◌+◌, ◌<◌}
use mathlib.Core.Bool.{false, not, ◌||◌}
use mathlib.Core.Path.{◌≡◌, refl, ap}
use mathlib.Core.List.{◌++◌}
use borrow.Author.Tests.{ltb-false, leb-false, ne_eqb}
use lib.Dec.{eqb, leb, ltb}
use lib.ListN.{length}
use Rattle.rules.specs.declared.FindRequest.{FindRequest}
use Rattle.rules.specs.declared.NotifyRequest.{NotifyRequest}
use Rattle.rules.specs.declared.WriteRequest.{WriteRequest}
use Rattle.rules.specs.declared.Request.TheVariants.{Write, Find, Create, Notify, Tick}
use Rattle.rules.specs.Numbers.{forever, last_clock, max_entries, max_txns, max_registrations}
use Rattle.rules.specs.State.{Model}
use Rattle.rules.specs.Frame.{Frame, layout_of}
use Rattle.rules.specs.Refusals.{too_late, entries_full, txns_full, registrations_full, no_number, admission_rows}
use Rattle.rules.specs.Refusals.{room_rows}
use Rattle.rules.specs.Requests.{frame, frame_of, space_refusal}
use Rattle.rules.proofs.BoolLaws.{and_false_right, or_left}
use Rattle.rules.proofs.RefusalLaws.{test_at, none_applies}
use Rattle.words.specs.Ends.{InTime}
use Rattle.judge.specs.Judge.{late}
use Rattle.rules.proofs.LookUpKinds.{kind_cases}

-- none of the rows applies: 10 to 12, 17 and 13 stand at the places 7 to 11
passed : (m : Model) (f : Frame) → space_refusal m f ≡ 0 → (k : ℕ) → test_at (admission_rows m f ++ room_rows m f) k
    ≡ false
unfolding space_refusal
passed m f e k = none_applies (admission_rows m f ++ room_rows m f) refl e k

in_time : (clock n : ℕ) → (late clock n || false) ≡ false → InTime clock n
in_time clock n e h =
    ltb-false last_clock (clock + n)
    (and_false_right (not (eqb n forever)) (ltb last_clock (clock + n)) (ap not (ne_eqb n forever h))
    (or_left (late clock n) false e))

module _ (m : Model) (w : WriteRequest) (e : space_refusal m (frame_of (Write w)) ≡ 0) where
  pub write_in_time : InTime m.clock w.lease
  unfolding too_late layout_of
  write_in_time = in_time m.clock w.lease (passed m (frame_of (Write w)) e 7)

  pub write-room : (w.lease ≡ 0 → ⊥) → length m.entries < max_entries
  unfolding entries_full
  write-room h =
      leb-false max_entries (length m.entries)
      (and_false_right (not (eqb w.lease 0)) (leb max_entries (length m.entries))
      (ap not (ne_eqb w.lease 0 h)) (passed m (frame_of (Write w)) e 8))

  pub write-number : m.next_entry < forever
  unfolding no_number
  write-number =
      leb-false forever m.next_entry
      (or_left (leb forever m.next_entry) false
      (or_left (leb forever m.next_entry || false) false (passed m (frame_of (Write w)) e 11)))

module _ (m : Model) (party lease : ℕ) (e : space_refusal m (frame_of (Create party lease)) ≡ 0) where
  pub create_in_time : InTime m.clock lease
  unfolding too_late layout_of
  create_in_time = in_time m.clock lease (passed m (frame_of (Create party lease)) e 7)

  pub create-room : length m.txns < max_txns
  unfolding txns_full
  create-room = leb-false max_txns (length m.txns) (passed m (frame_of (Create party lease)) e 9)

  pub create-number : m.next_txn < forever
  unfolding no_number
  create-number =
      leb-false forever m.next_txn
      (or_left (leb forever m.next_txn) false (passed m (frame_of (Create party lease)) e 11))

module _ (m : Model) (q : NotifyRequest) (e : space_refusal m (frame_of (Notify q)) ≡ 0) where
  pub notify_in_time : InTime m.clock q.lease
  unfolding too_late layout_of
  notify_in_time = in_time m.clock q.lease (passed m (frame_of (Notify q)) e 7)

  pub notify-room : length m.registrations < max_registrations
  unfolding registrations_full
  notify-room = leb-false max_registrations (length m.registrations) (passed m (frame_of (Notify q)) e 10)

  pub notify-number : m.next_registration < forever
  unfolding no_number
  notify-number = leb-false forever m.next_registration (passed m (frame_of (Notify q)) e 11)

pub find_in_time : (m : Model) (l : FindRequest) → space_refusal m (frame_of (Find l)) ≡ 0
    → InTime m.clock l.timeout
unfolding too_late layout_of
find_in_time m l e =
    let f : ℕ → Frame = λ op. frame op l.party l.mask l.txn.0 l.timeout l.fields in
    let g = in_time m.clock l.timeout in
    kind_cases (λ op. too_late m (f op) ≡ false → InTime m.clock l.timeout) l.takes l.if_exists g g g g
    (passed m (frame_of (Find l)) e 7)

pub tick-clock : (m : Model) → space_refusal m (frame_of Tick) ≡ 0 → m.clock < last_clock
unfolding too_late layout_of
tick-clock m e = leb-false last_clock m.clock (passed m (frame_of Tick) e 7)
