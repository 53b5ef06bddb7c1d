-- A run of a tray's frames is a history; its records fit the area; the host's number is read back; and bytes tell
-- records.
use Prim.Native.Nat.{ℕ, zero, suc, ◌-◌, ◌*◌, ◌≤◌, ◌<◌}
use mathlib.Core.Bool.{false, cond, ◌||◌}
use mathlib.Core.Logic.{◌⊎◌, inl, inr, ⊎_elim}
use mathlib.Core.Path.{◌≡◌, refl, ap, ◌∙◌, subst, sym, ap₂}
use mathlib.Core.List.Memᴰ
use mathlib.Core.List.{List, [], ◌∷◌, ◌++◌, map}
use native.Mathlib.Omega.{arith}
use borrow.Author.Tests.{ltb-false}
use lib.Dec.{leb, ltb}
use lib.ListN.{length, take, drop, length-append, length-drop, length-map}
use Rattle.rules.specs.declared.Record.{Record}
use Rattle.rules.specs.State.{Model, empty, Bounded}
use Rattle.rules.specs.Sound.{Sound}
use Rattle.rules.specs.Records.{area_after, record_bytes, record_at, answer_bytes}
use Rattle.rules.specs.Step.{Outcome, step}
use Rattle.rules.specs.Tray.{pairs_of, frame_count, pairs_end, pairs, bad_tray, bad_pairs, tray_refusal, frame_at}
use Rattle.rules.specs.Tray.{TrayOutcome}
use Rattle.rules.specs.Tray.{stopped, run_frames, run_pairs, run_tray, host_number}
use Rattle.rules.specs.Allowed.{Answered}
use Rattle.rules.specs.SerialRun.{Logged}
use Rattle.rules.specs.Log.{records_of}
use Rattle.rules.specs.Frame.{number_at}
use Rattle.rules.proofs.BoolLaws.{cond_cases, or_left, or_right}
use Rattle.rules.proofs.Capacity.{step_fits}
use Rattle.rules.proofs.AreaLaws.{area-length}
use Rattle.rules.proofs.NumberLaws.{word_is}
use Rattle.demands.specs.Machine.{StepsBy, answered_by, the_rules}
use Rattle.demands.specs.History.{History, begun, handed}
use Rattle.demands.specs.Trays.{HandedIn, none_left, one_more, TraysAreHistories, ReadBack, NumbersAreReadBack}
use Rattle.demands.specs.Trays.{BytesTellRecords}
use Rattle.demands.specs.Bounds.{InRange}
use Rattle.sound.proofs.SoundProof.{sound_empty, sound-step}

pub empty-bounded : Bounded empty
empty-bounded =
    record {
      entries_fit = omega arith;
      txns_fit = omega arith;
      waits_fit = omega arith;
      registrations_fit = omega arith;
    }

-- a run from any space
record From (m : Model) (area : List ℕ) (fs : List (List ℕ)) (o : TrayOutcome) : Type 0 where
  log : List Logged
  last : Model
  history : History the_rules m log last
  handed_in : HandedIn m area (take o.frames fs) log last
  count : o.frames ≡ length log
  records : o.records ≡ records_of log
  fit : 28 * length o.records ≤ length area
  few : length o.records ≤ 25 * length fs
  done-few : o.frames ≤ length fs
  all_done : (o.number ≡ 1) ⊎ ((o.number ≡ 0) × (o.frames ≡ length fs))

-- what is left of the area behind a step's records
left-length : (rs : List Record) (area : List ℕ) → 28 * length rs ≤ length area
    → length (drop (28 * length rs) (area_after rs area)) ≡ length area - 28 * length rs
left-length rs area h =
    length-drop (28 * length rs) (area_after rs area) ∙ ap (λ n. n - 28 * length rs) (area-length rs area h)

-- no frame is done: there is none left, or no room for its records
stops : (m : Model) (area : List ℕ) (fs : List (List ℕ)) (n : ℕ)
    → (n ≡ 1) ⊎ ((n ≡ 0) × (0 ≡ length fs))
    → From m area fs (stopped n)
unfolding records_of
stops m area fs n h =
    record {
      log = [];
      last = m;
      history = begun m;
      handed_in = none_left m area;
      count = refl;
      records = refl;
      fit = omega arith;
      few = omega arith;
      done-few = omega arith;
      all_done = h;
    }

from : (m : Model) (area : List ℕ) (fs : List (List ℕ)) → Sound m → Bounded m
    → From m area fs (run_frames m (length area) fs)
unfolding run_frames records_of answered_by
from m area [] sound b = stops m area [] 0 (inr (refl, refl))
from m area (f ∷ fs) sound b =
    cond_cases (From m area (f ∷ fs)) (ltb (length area) 700) (λ _. stops m area (f ∷ fs) 1 (inl refl))
    (λ t. more t (from o.model rest fs (sound-step m f (length area) sound) s.0))
  where
    o : Outcome
    o = step m f (length area)

    a : Answered
    a = answered_by o area

    rest : List ℕ
    rest = drop (28 * length o.records) (area_after o.records area)

    s : Bounded o.model × (length o.records ≤ 25)
    s = step_fits m f (length area) sound b

    does : StepsBy step m (record { frame = f; area = area }) o.model a
    does = record { space = refl; answered = refl }

    -- the run of the others, by the length of the area that is left
    others : ℕ → TrayOutcome
    others n = run_frames o.model n fs

    more : ltb (length area) 700 ≡ false → From o.model rest fs (others (length rest))
        → let r = others (length area - 28 * length o.records) in
        From m area (f ∷ fs) (record {
          frames = suc r.frames;
          records = o.records
              ++ r.records;
          number = r.number;
        })
    more t h =
        let l = ltb-false (length area) 700 t in
        let n = left-length o.records area (omega (arith, s.1)) in
        let k = subst (λ n. From o.model rest fs (others n)) n h in
        let r = others (length area - 28 * length o.records) in
        record {
          log = record { frame = f; records = o.records } ∷ k.log;
          last = k.last;
          history = handed (record { frame = f; area = area }) a does k.history;
          handed_in = one_more a does k.handed_in;
          count = ap suc k.count;
          records = ap (λ l. o.records ++ l) k.records;
          fit = omega (arith, s.1, k.fit, n, length-append o.records r.records);
          few = omega (arith, s.1, k.few, length-append o.records r.records);
          done-few = omega (arith, k.done-few);
          all_done = ⊎_elim inl (λ d. inr (d.0, ap suc d.1)) k.all_done;
        }

pub trays_are_histories : TraysAreHistories
unfolding TraysAreHistories
trays_are_histories fs area =
    let r = from empty area fs sound_empty empty-bounded in
    record {
      log = r.log;
      last = r.last;
      history = r.history;
      handed_in = r.handed_in;
      count = r.count;
      records = r.records;
      fit = r.fit;
      all_done = r.all_done;
    }

-- three numbers in one
read_back : (o : TrayOutcome) → o.frames < 65536 → length o.records < 65536 → o.number < 4294967296 → ReadBack o
unfolding host_number
read_back o a b c = record { frames = omega arith; records = omega arith; number = omega arith; narrow = omega arith }

pairs-length : (n : ℕ) (bs : List ℕ) → length (pairs_of n bs) ≡ n
unfolding pairs_of
pairs-length zero bs = refl
pairs-length (suc n) bs = ap suc (pairs-length n (drop 8 bs))

-- a tray that is not refused has at most 2,000 frames; the refusals are 15 and 16
tray_cases : (Q : ℕ → Type 0) (tray : List ℕ) → Q 15 → Q 16 → (frame_count tray ≤ 2000 → Q 0) → Q (tray_refusal tray)
unfolding tray_refusal bad_tray
tray_cases Q tray a b c =
    cond_cases Q (bad_tray tray) (λ _. a)
    (λ e. cond_cases Q (bad_pairs (pairs_end tray) (length tray) (pairs tray)) (λ _. b)
    (λ _. c (ltb-false 2000 (frame_count tray)
    (or_right (ltb (length tray) 4 || ltb 65536 (length tray)) _ (or_left _ (ltb (length tray) (pairs_end tray)) e)))))

pub numbers_are_read_back : NumbersAreReadBack
unfolding NumbersAreReadBack run_tray run_pairs pairs
numbers_are_read_back tray area =
    tray_cases (λ n. ReadBack (cond (leb n 0) run (stopped n))) tray
    (read_back (stopped 15) (omega arith) (omega arith) (omega arith))
    (read_back (stopped 16) (omega arith) (omega arith) (omega arith))
    (λ l. let r = from empty area fs sound_empty empty-bounded in
    let k : length fs ≡ frame_count tray =
    length-map (pairs tray) (frame_at tray) ∙ pairs-length (frame_count tray) (drop 4 tray) in
    read_back run (omega (arith, r.done-few)) (omega (arith, r.few))
    (⊎_elim (λ e. omega arith) (λ e. let z = e.0 in omega arith) r.all_done))
  where
    fs : List (List ℕ)
    fs = map (frame_at tray) (pairs tray)

    run : TrayOutcome
    run = run_frames empty (length area) fs

-- ---- a list of records is told by its bytes, where every number is in the range of its bytes

-- a record is read back
record_back : (r : Record) → InRange r → record_at (record_bytes r) 0 ≡ r
unfolding record_at record_bytes number_at
record_back r h =
    rw (
      ← word_is r.txn.0 h.txn,
      ← word_is r.entry.0 h.entry,
      ← word_is r.fields.kind h.field_kind,
      ← word_is r.fields.side h.field_side,
      ← word_is r.fields.image h.field_image,
      ← word_is r.fields.place h.field_place,
    )

pub bytes_tell_records : BytesTellRecords
unfolding BytesTellRecords answer_bytes record_bytes
bytes_tell_records [] [] h k e = refl
bytes_tell_records [] (q ∷ qs) h k e = absurd (let z = ap length e in omega arith)
bytes_tell_records (r ∷ rs) [] h k e = absurd (let z = ap length e in omega arith)
bytes_tell_records (r ∷ rs) (q ∷ qs) h k e =
    let same : record_bytes r ≡ record_bytes q = ap (take 28) e in
    ap₂ {C = List Record} (λ x l. x ∷ l)
    (sym (record_back r (h r (Memᴰ.head refl))) ∙ ap (λ bs. record_at bs 0) same
    ∙ record_back q (k q (Memᴰ.head refl)))
    (bytes_tell_records rs qs (λ x i. h x (Memᴰ.tail i)) (λ x i. k x (Memᴰ.tail i)) (ap (drop 28) e))
