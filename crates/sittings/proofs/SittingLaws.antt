-- A tray's frames run one after another, and what is noted of them.
use Rattle.std.proofs.Common.{◌≡◌, ℕ, zero, suc, ◌+◌, ◌*◌, ◌%◌, ◌<◌, ◌≤◌, List, [], ◌∷◌, ◌++◌, map, length}
use Rattle.std.proofs.Common.{get_or, take, drop, replicate, sym, refl, ap, ◌∙◌, subst, ap₂, add-one, arith}
use Rattle.std.proofs.Common.{get_or-drop, Option, None}
use mathlib.Core.Path.{subst⁻¹}
use mathlib.Core.List.Memᴰ
use lib.ListN.{get_or-replicate}
use lib.Seq.{drop-length}
use Rattle.rules.specs.declared.Record.{Record}
use Rattle.rules.specs.Fits.{RecordFits}
use Rattle.rules.specs.Lists.{All}
use Rattle.rules.specs.Numbers.{step_area, step_records, record_size}
use Rattle.rules.specs.State.{Model, empty}
use Rattle.rules.specs.Words.{view}
use Rattle.rules.specs.Records.{plain, area_after}
use Rattle.rules.specs.Sound.{IsParty, Sound}
use Rattle.rules.specs.SerialRun.{Logged}
use Rattle.rules.specs.Step.{Outcome, step}
use Rattle.rules.specs.Tray.{Pair, frame_count, pairs, frame_at, frames_of, tray_refusal}
use Rattle.rules.specs.Allowed.{Answered, Allowed, Stepped}
use Rattle.rules.specs.Log.{log_from, records_of}
use Rattle.rules.proofs.AreaLaws.{area-length}
use Rattle.rules.proofs.Capacity.{step_fits}
use Rattle.rules.proofs.ReadBack.{answer_back}
use Rattle.rules.proofs.ViewLaws.{view-bounded}
use Rattle.sound.proofs.AllLaws.{all_map}
use Rattle.sound.proofs.SoundProof.{sound_empty, sound-step}
use Rattle.hints.specs.declared.known.Hints.{Hints}
use Rattle.hints.specs.Hints.{Reliable}
use Rattle.step.specs.Carries.{StaysReliable}
use Rattle.tray.specs.declared.pairs.Pair.{Pair as Place}
use Rattle.tray.specs.Pairs.{pair_at, Stands}
use Rattle.tray.proofs.PairLaws.{pairs-length, pairs_from}
use Rattle.tray.proofs.TrayLaws.{frame_in}
use Rattle.demands.specs.Bounds.{InRange, AllInRange, AreBytes}
use Rattle.demands.specs.Machine.{Input}
use Rattle.demands.proofs.Runs.{runs, answers_to}
use Rattle.demands.proofs.BoundsRange.{range_demand}
use Rattle.sittings.specs.declared.figures.Figures.{Figures}
use Rattle.sittings.specs.declared.waits.Wait.{Wait}
use Rattle.sittings.specs.Waits.{sitting}
use Rattle.sittings.specs.Figures.{figures_for, figures_of, plus, Gained}
use Rattle.sittings.specs.Watch.{wait_at, gain_of, next_wait, rest_of, left_of, Stand, Noted, logged}
use Rattle.sittings.proofs.FigureLaws.{plus_assoc, none-plus, gained-none, gained-same, gained-then}
use Rattle.sittings.proofs.WatchLaws.{rest_none, rest_more}
use Rattle.sittings.proofs.PartyLaws.{Party, party-none, party-once, party-next}

-- ---- every record of a sitting fits its bytes
abbrev input_for : List ℕ → Input
input_for f = record { frame = f; area = step_area }

log_is : (m : Model) (fs : List (List ℕ)) → log_from m fs ≡ (runs m (map input_for fs)).log
unfolding log_from runs
log_is m [] = refl
log_is m (f ∷ fs) =
    let o = step m f step_area in ap (λ ls. logged f o.records ∷ ls) (log_is o.model fs)

are_bytes : (l : List ℕ) → ((i : ℕ) → get_or l i 0 < 256) → AreBytes l
are_bytes [] h b i = elim i [ ]
are_bytes (x ∷ l) h b (Memᴰ.head e) = subst⁻¹ (λ n. n < 256) e (h 0)
are_bytes (x ∷ l) h b (Memᴰ.tail j) = are_bytes l (λ i. h (suc i)) b j

frame-bytes : (tray : List ℕ) (p : Pair) → ((i : ℕ) → get_or tray i 0 < 256) → AreBytes (frame_at tray p)
unfolding frame_at
frame-bytes tray p h = are_bytes (take p.size (drop p.offset tray)) (λ i. go i p.size (drop p.offset tray)
    (λ j. subst⁻¹ (λ n. n < 256) (get_or-drop p.offset tray j 0) (h (p.offset + j))))
  where
    go : (i n : ℕ) (l : List ℕ) → ((j : ℕ) → get_or l j 0 < 256) → get_or (take n l) i 0 < 256
    go i zero l k = omega arith
    go i (suc n) [] k = omega arith
    go zero (suc n) (x ∷ l) k = k 0
    go (suc i) (suc n) (x ∷ l) k = go i n l (λ j. k (suc j))

pub sitting-fits : (tray : List ℕ) → ((i : ℕ) → get_or tray i 0 < 256) → AllInRange (records_of (sitting tray))
unfolding sitting answers_to
sitting-fits tray h =
    subst⁻¹ (λ log. AllInRange (records_of log)) (log_is empty (frames_of tray))
    (range_demand (map input_for (frames_of tray))
    (all_map (λ (i : Input). AreBytes i.frame) input_for (frames_of tray)
    (all_map AreBytes (frame_at tray) (pairs tray) (λ p _. frame-bytes tray p h))))

-- ---- a step's records, in the area that is lent to each step
record_fits : (a : Record) → InRange a → RecordFits a
record_fits a h =
    record {
      txn = h.txn;
      entry = h.entry;
      fields =
          record { kind = h.field_kind; side = h.field_side; image = h.field_image; place = h.field_place };
    }

all-at : {A : Type 0} {Q : A → Type 0} (xs : List A) (i : ℕ) (d : A) → All Q xs → i < length xs → Q (get_or xs i d)
all-at [] i d h l = absurd (omega arith)
all-at (x ∷ xs) zero d h l = h x (Memᴰ.head refl)
all-at (x ∷ xs) (suc i) d h l = all-at xs i d (λ y j. h y (Memᴰ.tail j)) (omega arith)

stand-after : {n : ℕ} (rs : List Record) (area : List ℕ) → AllInRange rs → n ≡ length rs
    → Stand (area_after rs area) n rs
unfolding area_after
stand-after rs area h e =
    record {
      counts = e;
      each = λ i l. answer_back rs (drop (record_size * length rs) area) i (plain 0 0 0) (omega arith)
          (record_fits _ (all-at rs i (plain 0 0 0) h (omega arith)));
    }

-- the records of a step on words, as many as it returns
pub record Told (ws frame : List ℕ) (n : ℕ) (area' : List ℕ) (ws' : List ℕ) : Type 0 where
  pub space : view ws' ≡ (step (view ws) frame step_area).model
  pub counts : n ≡ length (step (view ws) frame step_area).records
  pub few : n ≤ step_records
  pub long : length area' ≡ step_area
  pub stands : AllInRange (step (view ws) frame step_area).records
      → Stand area' n (step (view ws) frame step_area).records

pub told : {ws frame area ws' area' : List ℕ} {returned : ℕ} → Sound (view ws) → length area ≡ step_area
    → Stepped ws frame area ws' returned area' → Told ws frame (returned % 65536) area' ws'
told {ws} {frame} {area} {ws'} {area'} {returned} s size k =
    record {
      space = al.space (λ _. s) ∙ ap (λ (o : Outcome). o.model) same;
      counts = counts;
      few = omega (arith, few, counts);
      long = ap length left ∙ area-length o area (omega (arith, few, size)) ∙ size;
      stands = λ h. subst⁻¹ (λ l. Stand l (returned % 65536) o) left (stand-after o area h counts);
    }
  where
    x : Answered
    x = k.answered

    al : Allowed ws frame area ws' x
    al = k.allowed

    same : step (view ws) frame (length area) ≡ step (view ws) frame step_area
    same = ap (step (view ws) frame) size

    o : List Record
    o = (step (view ws) frame step_area).records

    said : x.records ≡ o
    said = al.records (λ _. s) ∙ ap (λ (o : Outcome). o.records) same

    left : area' ≡ area_after o area
    left = k.leaves ∙ al.bytes ∙ ap (λ rs. area_after rs area) said

    few : length o ≤ step_records
    few = (step_fits (view ws) frame step_area s (view-bounded ws)).1

    counts : returned % 65536 ≡ length o
    counts = omega (arith, k.returns, al.count, ap (λ (l : List Record). length l) said, few)

-- a frame ends within the tray
pub ends_in : (tray : List ℕ) {k : ℕ} {p : Place} → tray_refusal tray ≡ 0 → Stands tray k p → k < frame_count tray
    → p.end ≤ length tray
ends_in tray {k} fine s h = omega (arith, frame_in tray fine k h, s.begins, s.ends)

-- ---- k frames are done
abbrev pub frames_from : List ℕ → ℕ → List (List ℕ)
frames_from tray k = map (frame_at tray) (drop k (pairs tray))

pub record Watching (tray r₀ ws : List ℕ) (hs : Hints) (r : List ℕ) (os : List (Option Wait)) (k clock : ℕ)
    : Type 0 where
  pub sound : Sound (view ws)
  pub reliable : Reliable hs (view ws)
  pub in_range : AllInRange (records_of (log_from (view ws) (frames_from tray k)))
  pub few : clock ≤ step_records * k
  pub parties : (p : ℕ) → IsParty p → Party p (view ws) clock (wait_at os p)
  -- what is noted so far, and what is still to come, is all
  pub so_far : ℕ → Figures
  pub gained : Gained r₀ so_far r
  pub whole : (p : ℕ) → IsParty p
      → plus (so_far p) (rest_of p clock (wait_at os p) (log_from (view ws) (frames_from tray k)))
      ≡ figures_of p (sitting tray)

pub watching_none : {tray ws : List ℕ} {hs : Hints} (r : List ℕ) → ((i : ℕ) → get_or tray i 0 < 256) → view ws ≡ empty
    → Reliable hs empty → Watching tray r ws hs r (replicate 17 None) 0 0
unfolding sitting
watching_none {tray} {ws} {hs} r h e k =
    record {
      sound = subst⁻¹ Sound e sound_empty;
      reliable = subst⁻¹ (Reliable hs) e k;
      in_range = subst⁻¹ (λ m. AllInRange (records_of (log_from m (frames_of tray)))) e (sitting-fits tray h);
      few = omega arith;
      parties = λ p i. subst⁻¹ (Party p (view ws) 0) (nobody p i) (party-none p (view ws) 0);
      so_far = λ p. figures_for 0 0 [];
      gained = gained-none r;
      whole = λ p i. none-plus (rest_of p 0 (wait_at (replicate 17 None) p) (log_from (view ws) (frames_of tray)))
          ∙ ap₂ (λ w m. rest_of p 0 w (log_from m (frames_of tray))) (nobody p i) e;
    }
  where
    nobody : (p : ℕ) → IsParty p → wait_at (replicate 17 None) p ≡ None
    nobody p i = let l = i.last in get_or-replicate {A = Option Wait} 17 p None None (omega arith)

module _ {tray r₀ ws r : List ℕ} {hs : Hints} {os : List (Option Wait)} {k clock : ℕ}
    (w : Watching tray r₀ ws hs r os k clock) (h : k < frame_count tray) where
  abbrev frame : List ℕ
  frame = frame_at tray (pair_at tray k)

  abbrev now : Logged
  now = logged frame (step (view ws) frame step_area).records

  abbrev later : List Logged
  later = log_from (step (view ws) frame step_area).model (frames_from tray (k + 1))

  log-next : log_from (view ws) (frames_from tray k) ≡ now ∷ later
  unfolding log_from
  log-next =
      ap (λ ps. log_from (view ws) (map (frame_at tray) ps)) (pairs_from tray k h)
      ∙ ap (λ j. log_from (view ws) (frame ∷ map (frame_at tray) (drop j (pairs tray)))) (sym (add-one k))

  all_in_range : AllInRange (now.records ++ records_of later)
  unfolding records_of
  all_in_range = subst (λ log. AllInRange (records_of log)) log-next w.in_range

  -- one frame more
  pub watching_more : {f ws' r' area' : List ℕ} {hs' : Hints} {os' : List (Option Wait)} {n clock' : ℕ}
      → f ≡ frame → Told ws f n area' ws'
      → StaysReliable ws ws' hs'
      → ((rs : List Record) → Stand area' n rs → Noted clock r os (logged f rs) clock' r' os')
      → clock' ≤ clock + n → Watching tray r₀ ws' hs' r' os' (k + 1) clock'
  watching_more {f} {ws'} {r' = r'} {os'} {n = n} {clock'} e t known note far =
      record {
        sound = subst⁻¹ Sound space (sound-step (view ws) frame step_area w.sound);
        reliable = known w.sound;
        in_range = subst⁻¹ (λ m. AllInRange (records_of (log_from m (frames_from tray (k + 1))))) space
            (λ a j. all_in_range a (Memᴰ.append_right now.records j));
        few = omega (arith, far, w.few, t.few);
        parties = λ p i. subst⁻¹ (λ m. Party p m clock' (wait_at os' p)) space
            (subst⁻¹ (Party p (step (view ws) frame step_area).model clock') (noted.left p i)
            (subst⁻¹ (λ c. Party p (step (view ws) frame step_area).model c (next_wait p c (wait_at os p) now))
            noted.clock_on (party-next (view ws) frame w.sound (w.parties p i))));
        so_far = λ p. plus (w.so_far p) (gain_of p clock' (wait_at os p) now);
        gained = gained-then w.gained noted.gained;
        whole = λ p i. plus_assoc (w.so_far p) (gain_of p clock' (wait_at os p) now)
            (rest_of p clock' (wait_at os' p) (log_from (view ws') (frames_from tray (k + 1))))
            ∙ ap (plus (w.so_far p)) (rest p i) ∙ w.whole p i;
      }
    where
      space : view ws' ≡ (step (view ws) frame step_area).model
      space = t.space ∙ ap (λ b. (step (view ws) b step_area).model) e

      noted : Noted clock r os now clock' r' os'
      noted =
          subst (λ b. Noted clock r os (logged b (step (view ws) b step_area).records) clock' r' os') e
          (note (step (view ws) f step_area).records (t.stands
          (subst⁻¹ (λ b. AllInRange (step (view ws) b step_area).records) e
          (λ a j. all_in_range a (Memᴰ.append_left (records_of later) j)))))

      rest : (p : ℕ) → IsParty p
          → plus (gain_of p clock' (wait_at os p) now)
          (rest_of p clock' (wait_at os' p) (log_from (view ws') (frames_from tray (k + 1))))
          ≡ rest_of p clock (wait_at os p) (log_from (view ws) (frames_from tray k))
      rest p i =
          let v = wait_at os p in
          let party = w.parties p i in
          ap₂ (λ u m. plus (gain_of p clock' v now) (rest_of p clock' u (log_from m (frames_from tray (k + 1)))))
          (noted.left p i) space
          ∙ ap (λ c. plus (gain_of p c v now) (rest_of p c (next_wait p c v now) later)) noted.clock_on
          ∙ sym (rest_more p clock now later v party.sooner (party-once (view ws) frame w.sound party))
          ∙ ap (rest_of p clock v) (sym log-next)

-- all frames are done
pub watching_done : {tray r₀ ws r r' : List ℕ} {hs : Hints} {os : List (Option Wait)} {k clock : ℕ}
    (w : Watching tray r₀ ws hs r os k clock)
    → k ≡ frame_count tray → Gained r (λ p. left_of clock (wait_at os p)) r'
    → Gained r₀ (λ p. figures_of p (sitting tray)) r'
unfolding log_from
watching_done {tray} {ws = ws} {os = os} {k = k} {clock} w e g =
    gained-same (λ p i. ap (plus (w.so_far p)) (sym (rest_none p clock (wait_at os p))
    ∙ ap (λ fs. rest_of p clock (wait_at os p) (log_from (view ws) (map (frame_at tray) fs))) (sym over)) ∙ w.whole p i)
    (gained-then w.gained g)
  where
    over : drop k (pairs tray) ≡ []
    over = ap (λ j. drop j (pairs tray)) (e ∙ sym (pairs-length tray)) ∙ drop-length (pairs tray)
