-- The figures of a sitting are small: at most 2,000 frames, each with at most 25 records; and the waits of a party do
-- not overlap, so that together they are no longer than the tray's ticks.
use Rattle.std.proofs.Common.{◌≡◌, ℕ, ◌+◌, ◌-◌, ◌*◌, ◌%◌, ◌<◌, ◌≤◌, Bool, true, false, cond, ◌&&◌, eqb, List, [], ◌∷◌}
use Rattle.std.proofs.Common.{◌++◌, length, refl, ap, true≢false, arith, length-append, Option, Some, None}
use Rattle.rules.specs.declared.Record.{Record}
use Rattle.rules.specs.Lists.{anyb}
use Rattle.rules.specs.Numbers.{step_area, step_records, max_frames, kind_ticked}
use Rattle.rules.specs.State.{Model, Bounded, empty}
use Rattle.rules.specs.Frame.{decode}
use Rattle.rules.specs.Sound.{Sound}
use Rattle.rules.specs.SerialRun.{Logged}
use Rattle.rules.specs.Step.{step}
use Rattle.rules.specs.Tray.{frames_of, tray_refusal}
use Rattle.rules.specs.Log.{log_from, records_of}
use Rattle.rules.proofs.Capacity.{step_fits}
use Rattle.rules.proofs.ListLaws.{length-filter}
use Rattle.sound.proofs.SoundProof.{sound_empty, sound-step}
use Rattle.tray.proofs.PairLaws.{frames-length}
use Rattle.tray.proofs.PairsJudged.{few-frames}
use Rattle.tray.proofs.TrayLaws.{passes}
use Rattle.demands.specs.Answers.{closes}
use Rattle.demands.specs.WaitingList.{is_asked}
use Rattle.demands.proofs.TraysProof.{empty-bounded}
use Rattle.sittings.specs.declared.figures.Figures.{Figures}
use Rattle.sittings.specs.declared.waits.Wait.{Wait}
use Rattle.sittings.specs.Waits.{sitting, ticks, is_of, waits, waited, waits_of, asked_by, founds_of}
use Rattle.sittings.specs.Report.{sum}
use Rattle.sittings.specs.Figures.{figures_of, plus, wrapped}
use Rattle.sittings.specs.Watch.{open_for, is_found_of, ended, wait_after, begun, next_wait, pending, rest_of, logged}
use Rattle.sittings.proofs.FigureLaws.{greatest-sum}
use Rattle.sittings.proofs.WatchLaws.{rest_more}
use Rattle.sittings.proofs.PartyLaws.{Party, party-none, party-once, party-next}

pub record Within (n : ℕ) (f : Figures) : Type 0 where
  pub asked : f.asked ≤ n
  pub founds : f.founds ≤ n
  pub longest : f.longest ≤ n
  pub total : f.total ≤ n
  pub count : f.count ≤ n

pub within_more : {n k : ℕ} (f : Figures) → n ≤ k → Within n f → Within k f
within_more f l h =
    record {
      asked = omega (arith, h.asked);
      founds = omega (arith, h.founds);
      longest = omega (arith, h.longest);
      total = omega (arith, h.total);
      count = omega (arith, h.count);
    }

pub within-plus : {n k : ℕ} (f g : Figures) → Within n f → Within k g → Within (n + k) (plus f g)
within-plus {n} {k} f g x y =
    record {
      asked = omega (arith, x.asked, y.asked);
      founds = omega (arith, x.founds, y.founds);
      longest = omega (arith, x.longest, y.longest);
      total = omega (arith, x.total, y.total);
      count = omega (arith, x.count, y.count);
    }

-- small sums do not wrap
pub small_whole : {n : ℕ} (f : Figures) → n < 4294967296 → Within n f → wrapped f ≡ f
small_whole f l h =
    rw (
      whole f.asked (omega (arith, h.asked)),
      whole f.founds (omega (arith, h.founds)),
      whole f.total (omega (arith, h.total)),
      whole f.count (omega (arith, h.count)),
    ) refl
  where
    whole : (a : ℕ) → a < 4294967296 → a % 4294967296 ≡ a
    whole a k = omega arith

-- ---- a sitting
module _ (p : ℕ) where
  few-waits : (log : List Logged) → length (waits_of p log) ≤ length log
  unfolding waits_of
  few-waits [] = omega arith
  few-waits (l ∷ later) =
      go (waited p (decode l.frame).txn later) (is_of p l && waits l) (few-waits later)
    where
      go : (w : ℕ) (b : Bool) → length (waits_of p later) ≤ length later
          → length (cond b (w ∷ waits_of p later) (waits_of p later)) ≤ length (l ∷ later)
      go w true h = omega arith
      go w false h = omega arith

  -- what has been waited of the wait that is open
  abbrev owed : ℕ → Option Wait → ℕ
  owed clock w = sum (open_for clock w)

  no_overlap : (fs : List (List ℕ)) (m : Model) (clock : ℕ) (w : Option Wait) → Sound m → Bounded m → Party p m clock w
      → (rest_of p clock w (log_from m fs)).total ≤ owed clock w + step_records * length fs
  unfolding log_from waits_of waited sum
  no_overlap [] m clock w s b h =
      go w
    where
      go : (w : Option Wait) → sum (pending p clock w [] ++ []) ≤ sum (open_for clock w) + step_records * 0
      go None = omega arith
      go (Some w) = omega arith
  no_overlap (f ∷ fs) m clock w s b h =
      let fit = step_fits m f step_area s b in
      let later = no_overlap fs (step m f step_area).model after (next_wait p after w l) (sound-step m f step_area s)
      fit.0 (party-next m f s h) in
      let more = ap (λ (x : Figures). x.total) (rest_more p clock l (log_from (step m f step_area).model fs) w
      h.sooner (party-once m f s h)) in
      omega (
        arith,
        more,
        later,
        fit.1,
        length-filter (λ (a : Record). eqb a.kind kind_ticked) l.records,
        go w (is_of p l && waits l) (party-once m f s h),
      )
    where
      l : Logged
      l = logged f (step m f step_area).records

      after : ℕ
      after = clock + ticks l

      go : (w : Option Wait) (n : Bool) → ((u : Wait) → w ≡ Some u → n ≡ false)
          → sum (ended p after w l.records) + owed after (cond n (begun after l) (wait_after p w l.records))
          ≤ owed clock w + ticks l
      go None true o = omega arith
      go None false o = omega arith
      go (Some u) true o = absurd (true≢false (o u refl))
      go (Some u) false o = shut (anyb (closes p u.txn.0) l.records)
        where
          shut : (x : Bool) → sum (cond x ((after - u.since) ∷ []) []) + owed after (cond x None (Some u))
              ≤ owed clock (Some u) + ticks l
          shut true = omega arith
          shut false = omega arith

  few-records : (fs : List (List ℕ)) (m : Model) → Sound m → Bounded m
      → (length (log_from m fs) ≡ length fs) × (length (records_of (log_from m fs)) ≤ step_records * length fs)
  unfolding log_from records_of
  few-records [] m s b = (refl, omega arith)
  few-records (f ∷ fs) m s b =
      let o = step m f step_area in
      let fit = step_fits m f step_area s b in
      let later = few-records fs o.model (sound-step m f step_area s) fit.0 in
      let all = length-append o.records (records_of (log_from o.model fs)) in
      (omega (arith, later.0), omega (arith, later.1, fit.1, all))

  pub sitting_small : (tray : List ℕ) → tray_refusal tray ≡ 0
      → Within (step_records * max_frames) (figures_of p (sitting tray))
  unfolding sitting asked_by founds_of sum
  sitting_small tray fine =
      let log = log_from empty (frames_of tray) in
      let few = few-frames tray (passes tray fine).0 in
      let long = frames-length tray in
      let some = few-records (frames_of tray) empty sound_empty empty-bounded in
      let all =
      no_overlap (frames_of tray) empty 0 None sound_empty empty-bounded (party-none p empty 0) in
      record {
        asked = omega (arith, few, long, some.0, length-filter (λ l. is_of p l && is_asked l) log);
        founds = omega (arith, few, long, some.1, length-filter (is_found_of p) (records_of log));
        longest = omega (arith, few, long, all, greatest-sum (waits_of p log));
        total = omega (arith, few, long, all);
        count = omega (arith, few, long, some.0, few-waits log);
      }
