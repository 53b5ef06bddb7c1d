-- The runner's loop: what stands in the space and in the answers area after some frames.
use Prim.Native.Nat.{ℕ, suc, ◌+◌, ◌-◌, ◌*◌, ◌%◌, ◌≤◌, ◌<◌}
use mathlib.Core.Path.{◌≡◌, refl, sym, ap, ap₂, ◌∙◌, subst⁻¹}
use mathlib.Core.List.{List, [], ◌∷◌, ◌++◌}
use native.Mathlib.Omega.{arith}
use lib.ListN.{length, get_or, take, drop, length-append, length-drop}
use lib.Seq.{split_at, length-take-le, take_all}
use Rattle.rules.specs.declared.Record.{Record}
use Rattle.rules.specs.Numbers.{record_size, step_records, step_area, area_refused}
use Rattle.rules.specs.State.{empty}
use Rattle.rules.specs.Words.{view}
use Rattle.rules.specs.Records.{answer_bytes, area_after}
use Rattle.rules.specs.Sound.{Sound}
use Rattle.rules.specs.Step.{Outcome, step}
use Rattle.rules.specs.Tray.{frame_count, frame_at, run_frames, frames_of}
use Rattle.rules.specs.Allowed.{Answered, Allowed, Stepped}
use Rattle.rules.proofs.AreaLaws.{area-length, area-then}
use Rattle.rules.proofs.Capacity.{step_fits}
use Rattle.sound.proofs.SoundProof.{sound_empty, sound-step}
use Rattle.rules.proofs.ViewLaws.{view-bounded}
use Rattle.hints.specs.declared.known.Hints.{Hints}
use Rattle.hints.specs.Hints.{Reliable}
use Rattle.step.specs.Carries.{StaysReliable}
use Rattle.tray.proofs.RunLaws.{Ran, ran_none, ran_more, ran_all, ran_stops}
use Rattle.tray.specs.Pairs.{pair_at}
use Rattle.tray.proofs.PairLaws.{frames-length, frames-next}

-- k frames are done: n records stand in the area, the space's words are ws, and the hints hs are so
pub record Running (tray a₀ ws : List ℕ) (hs : Hints) (a : List ℕ) (k n : ℕ) : Type 0 where
  pub records : List Record
  pub ran : Ran (take k (frames_of tray)) (length a₀) (view ws) records
  pub counts : n ≡ length records
  pub area : a ≡ area_after records a₀
  pub room : record_size * n ≤ length a₀
  pub few : n ≤ step_records * k
  pub sound : Sound (view ws)
  pub reliable : Reliable hs (view ws)

pub running_none : {tray a ws : List ℕ} {hs : Hints} → view ws ≡ empty → Reliable hs empty → Running tray a ws hs a 0 0
unfolding area_after answer_bytes
running_none {a = a} {hs = hs} e h =
    record {
      records = [];
      ran = subst⁻¹ (λ m. Ran [] (length a) m []) e (ran_none (length a));
      counts = refl;
      area = refl;
      room = omega arith;
      few = omega arith;
      sound = subst⁻¹ Sound e sound_empty;
      reliable = subst⁻¹ (Reliable hs) e h;
    }

pub running_length : {tray a₀ ws a : List ℕ} {hs : Hints} {k n : ℕ} → Running tray a₀ ws hs a k n → length a ≡ length a₀
running_length {a₀ = a₀} r =
    ap length r.area ∙ area-length r.records a₀ (omega (arith, r.room, r.counts))

-- one frame more, run in the part of the area behind the records
pub running_more : {tray a₀ ws a ws' a' frame part part' : List ℕ} {hs hs' : Hints} {k n returned : ℕ}
    → Running tray a₀ ws hs a k n
    → k < frame_count tray → record_size * n + step_area ≤ length a₀ → frame ≡ frame_at tray (pair_at tray k)
    → part ≡ drop (record_size * n) a → Stepped ws frame part ws' returned part' → StaysReliable ws ws' hs'
    → a' ≡ take (record_size * n) a ++ part' → Running tray a₀ ws' hs' a' (k + 1) (n + returned % 65536)
running_more {tray} {a₀} {ws} {a = a} {ws'} {frame = frame} {part} {k = k} {n} {returned} r h room q p s known e =
    record {
      records = rs ++ x.records;
      ran = subst⁻¹ (λ l. Ran l (length a₀) (view ws') (rs ++ x.records)) (frames-next tray k h)
          (subst⁻¹ (λ m. Ran (take k (frames_of tray) ++ (f ∷ [])) (length a₀) m (rs ++ x.records))
          (space ∙ ap (λ (o : Outcome). o.model) same)
          (subst⁻¹ (λ l. Ran (take k (frames_of tray) ++ (f ∷ [])) (length a₀) o.model (rs ++ l))
          (records ∙ ap (λ (o : Outcome). o.records) same)
          (ran_more (take k (frames_of tray)) (length a₀) (view ws) rs f r.ran room')));
      counts = omega (arith, r.counts, count, length-append rs x.records);
      area =
          e
          ∙ ap (λ l. take (record_size * n) a ++ l) (s.leaves ∙ al.bytes ∙ ap (area_after x.records) p)
          ∙ ap₂ (λ j l. take (record_size * j) l ++ area_after x.records (drop (record_size * j) l)) r.counts
          r.area
          ∙ area-then rs x.records a₀;
      room = omega (arith, count, few);
      few = omega (arith, count, few, r.few);
      sound = subst⁻¹ Sound space (sound-step (view ws) frame (length part) r.sound);
      reliable = known r.sound;
    }
  where
    rs : List Record
    rs = r.records

    x : Answered
    x = s.answered

    al : Allowed ws frame part ws' x
    al = s.allowed

    space : view ws' ≡ (step (view ws) frame (length part)).model
    space = al.space (λ _. r.sound)

    records : x.records ≡ (step (view ws) frame (length part)).records
    records = al.records (λ _. r.sound)

    f : List ℕ
    f = frame_at tray (pair_at tray k)

    left : ℕ
    left = length a₀ - record_size * length rs

    o : Outcome
    o = step (view ws) f left

    room' : record_size * length rs + step_area ≤ length a₀
    room' = omega (arith, room, r.counts)

    size : length part ≡ left
    size =
        ap length p
        ∙ length-drop (record_size * n) a
        ∙ ap₂ (λ x y. x - record_size * y) (running_length r) r.counts

    same : step (view ws) frame (length part) ≡ step (view ws) f left
    same = ap₂ (λ l j. step (view ws) l j) q size

    few : length x.records ≤ step_records
    few =
        let fits = (step_fits (view ws) frame (length part) r.sound (view-bounded ws)).1 in
        omega (arith, ap (λ (l : List Record). length l) records, fits)

    count : returned % 65536 ≡ length x.records
    count = omega (arith, s.returns, al.count, few)

-- the run is over: all frames are done
pub running_all : {tray a₀ ws a : List ℕ} {hs : Hints} {n : ℕ} (r : Running tray a₀ ws hs a (frame_count tray) n)
    → run_frames empty (length a₀) (frames_of tray)
    ≡ record { frames = frame_count tray; records = r.records; number = 0 }
running_all {tray} {a₀} {ws} r =
    ap (run_frames empty (length a₀)) (sym whole)
    ∙ ran_all (take (frame_count tray) (frames_of tray)) (length a₀) (view ws) r.records r.ran
    ∙ ap (λ (j : ℕ). record { frames = j; records = r.records; number = 0 }) (ap length whole ∙ frames-length tray)
  where
    whole : take (frame_count tray) (frames_of tray) ≡ frames_of tray
    whole = take_all (frame_count tray) (frames_of tray) (omega (arith, frames-length tray))

-- it stops before a frame for which under 700 bytes are left
pub running_stops : {tray a₀ ws a : List ℕ} {hs : Hints} {k n : ℕ} (r : Running tray a₀ ws hs a k n)
    → k < frame_count tray → length a₀ < record_size * n + step_area
    → run_frames empty (length a₀) (frames_of tray)
    ≡ record { frames = k; records = r.records; number = area_refused }
running_stops {tray} {a₀} {ws} {k = k} r h l =
    ap (run_frames empty (length a₀)) (split_at (frames_of tray) k [] (omega (arith, frames-length tray)))
    ∙ ran_stops (take k (frames_of tray)) (drop (suc k) (frames_of tray)) (get_or (frames_of tray) k []) (length a₀)
    (view ws) r.records r.ran (omega (arith, r.counts))
    ∙ ap (λ (j : ℕ). record { frames = j; records = r.records; number = area_refused })
    (length-take-le k (frames_of tray) (omega (arith, frames-length tray)))
