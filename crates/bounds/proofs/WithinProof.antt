-- Every run keeps within the bounds.
use Prim.Native.Nat.{ℕ, ◌+◌, ◌-◌, ◌*◌, ◌≤◌}
use mathlib.Core.Bool.{cond}
use mathlib.Core.Path.{◌≡◌, refl, ◌∙◌, subst⁻¹}
use mathlib.Core.List.{List, [], ◌∷◌}
use native.Mathlib.Omega.{arith}
use borrow.Author.Tests.{le-ltb, eqb-true}
use lib.Dec.{eqb, ltb}
use lib.ListN.{length, length-append}
use Rattle.rules.specs.Lists.{All}
use Rattle.rules.specs.Numbers.{max_entries, record_size, step_area}
use Rattle.rules.specs.State.{Model, Bounded, empty}
use Rattle.rules.specs.Frame.{decode, is_write, is_notify}
use Rattle.rules.specs.Refusals.{refusal}
use Rattle.rules.specs.Sound.{Sound}
use Rattle.rules.specs.Step.{own_part, step}
use Rattle.rules.specs.Tray.{TrayOutcome, frames_of, run_frames, run_tray}
use Rattle.rules.proofs.BoolLaws.{cond_cases}
use Rattle.rules.proofs.RefusalLaws.{clear}
use Rattle.rules.proofs.Capacity.{own-fits, step_fits}
use Rattle.rules.proofs.Growth.{one}
use Rattle.sound.proofs.AllLaws.{all_none, all_cons, all_append}
use Rattle.sound.proofs.SoundProof.{sound_empty, sound-step}
use Rattle.tray.proofs.PairLaws.{frames-length}
use Rattle.tray.proofs.TrayLaws.{runs}
use Rattle.bounds.specs.Bounds.{kind_of, many, entries_bound, records_bound}
use Rattle.bounds.specs.Counts.{share}
use Rattle.bounds.specs.Within.{moments, area_for, BoundsAreKept}
use Rattle.bounds.proofs.Shares.{records_from, many_cons, records_cons, owed, own-entries}
use Rattle.bounds.proofs.Shares.{step_grown, within-share}

-- what is known of a space before a frame: it is sound, and has no more registrations than there were notify frames
pub record Before (ahead : ℕ) (m : Model) : Type 0 where
  pub sound : Sound m
  pub bounded : Bounded m
  pub notified : length m.registrations ≤ ahead

before_next : (ahead : ℕ) (m : Model) (f : List ℕ) (area : ℕ) → Before ahead m
    → Before (ahead + one (is_notify (kind_of f))) (step m f area).model
before_next ahead m f area b =
    record {
      sound = sound-step m f area b.sound;
      bounded = (step_fits m f area b.sound b.bounded).0;
      notified = omega (arith, (step_grown m f area).registrations, b.notified);
    }

-- ---- records
-- a step's records, and those that are owed then, are within the frame's share and those that were owed
step-share : (ahead : ℕ) (m : Model) (f : List ℕ) (area : ℕ) → Before ahead m
    → length (step m f area).records + owed (step m f area).model ≤ owed m + share (kind_of f) ahead
step-share ahead m f area b =
    omega (
      arith,
      (step_grown m f area).records,
      within-share (kind_of f) b.bounded.registrations_fit b.notified,
    )

few-records : (fs : List (List ℕ)) (ahead area : ℕ) (m : Model) → Before ahead m
    → length (run_frames m area fs).records ≤ owed m + records_from ahead fs
unfolding run_frames
few-records [] ahead area m b = omega arith
few-records (f ∷ fs) ahead area m b =
    let o = step m f area in
    let left = area - record_size * length o.records in
    let rest =
    few-records fs (ahead + one (is_notify (kind_of f))) left o.model (before_next ahead m f area b) in
    cond_cases (λ (r : TrayOutcome). length r.records ≤ owed m + records_from ahead (f ∷ fs)) (ltb area step_area)
    (λ _. omega arith)
    (λ _. omega (
      arith,
      rest,
      step-share ahead m f area b,
      records_cons ahead f fs,
      length-append o.records (run_frames o.model left fs).records,
    ))

-- ---- entries
abbrev Within : ℕ → Model → Type 0
Within most m = (length m.entries ≤ max_entries) × (length m.entries ≤ most)

few-entries : (fs : List (List ℕ)) (ahead area most : ℕ) (m : Model) → Before ahead m
    → length m.entries + many is_write fs ≤ most → All (Within most) (moments m area fs)
unfolding moments
few-entries [] ahead area most m b h =
    all_cons (b.bounded.entries_fit, omega arith) (all_none (Within most))
few-entries (f ∷ fs) ahead area most m b h =
    let o = step m f area in
    let next = before_next ahead m f area b in
    let written = many_cons is_write f fs in
    let rest =
    few-entries fs (ahead + one (is_notify (kind_of f))) (area - record_size * length o.records) most o.model next
    (omega (arith, h, written, (step_grown m f area).entries)) in
    let own : All (Within most) (cond (eqb (refusal m f area) 0) ((own_part m (decode f)).model ∷ []) []) =
    cond_cases (All (Within most)) (eqb (refusal m f area) 0)
    (λ q. let e = eqb-true (refusal m f area) 0 q in
    all_cons (
      (own-fits m f area (clear m f area e) b.sound b.bounded).entries_fit,
      omega (arith, h, written, own-entries m f area e),
    ) (all_none (Within most)))
    (λ _. all_none (Within most)) in
    all_cons (b.bounded.entries_fit, omega arith)
    (cond_cases (All (Within most)) (ltb area step_area) (λ _. all_none (Within most))
    (λ _. all_append (cond (eqb (refusal m f area) 0) ((own_part m (decode f)).model ∷ []) []) own rest))

-- ---- the area
-- an area with room for the records within the bound, and 672 bytes more, is large enough for every frame
pub record Through (fs : List (List ℕ)) (r : TrayOutcome) : Type 0 where
  pub number : r.number ≡ 0
  pub frames : r.frames ≡ length fs

enough : (fs : List (List ℕ)) (ahead area : ℕ) (m : Model) → Before ahead m
    → record_size * (owed m + records_from ahead fs) + (step_area - record_size) ≤ area
    → Through fs (run_frames m area fs)
unfolding run_frames
enough [] ahead area m b h = record { number = refl; frames = refl }
enough (f ∷ fs) ahead area m b h =
    let o = step m f area in
    let shares = records_cons ahead f fs in
    let rest =
    enough fs (ahead + one (is_notify (kind_of f))) (area - record_size * length o.records) o.model
    (before_next ahead m f area b) (omega (arith, h, shares, step-share ahead m f area b)) in
    rw (le-ltb area step_area (omega (arith, h, shares)))
    (record { number = rest.number; frames = omega (arith, rest.frames) })

-- ---- trays
before_empty : Before 0 empty
before_empty =
    record {
      sound = sound_empty;
      bounded = record {
        entries_fit = omega arith;
        txns_fit = omega arith;
        waits_fit = omega arith;
        registrations_fit = omega arith;
      };
      notified = omega arith;
    }

pub bounds_are_kept : BoundsAreKept
unfolding BoundsAreKept entries_bound records_bound area_for
bounds_are_kept tray area fine =
    let fs = frames_of tray in
    let run = runs tray fine area in
    let through : area_for fs ≤ area → Through fs (run_tray tray area) = λ h.
    subst⁻¹ (Through fs) run (enough fs 0 area empty before_empty (omega (arith, h))) in
    record {
      entries = λ m i.
          let w = few-entries fs 0 area (many is_write fs) empty before_empty (omega arith) m i in
          omega (arith, w);
      records = rw run (omega (arith, few-records fs 0 area empty before_empty));
      not_stopped = λ h. (through h).number;
      all_done = λ h. (through h).frames ∙ frames-length tray;
    }
