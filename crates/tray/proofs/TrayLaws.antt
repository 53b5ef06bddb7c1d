-- A tray that is refused, one that is not, and what their runs come to.
use Prim.Native.Nat.{ℕ, ◌+◌, ◌-◌, ◌*◌, ◌≤◌, ◌<◌}
use mathlib.Core.Bool.{Bool, true, false, cond}
use mathlib.Core.Path.{◌≡◌, refl, sym, ap, ap₂, ◌∙◌}
use mathlib.Core.List.{List}
use native.Mathlib.Omega.{arith}
use borrow.Author.Tests.{lt-leb}
use lib.Dec.{leb}
use lib.ListN.{length, take, drop}
use Rattle.rules.specs.State.{empty}
use Rattle.rules.specs.Numbers.{record_size, step_area, area_refused, tray_refused, pairs_refused}
use Rattle.rules.specs.Records.{area_after, answer_bytes}
use Rattle.rules.specs.Tray.{frame_count, pairs_end, pairs, bad_tray, tray_refusal, frame_at, TrayOutcome, stopped}
use Rattle.rules.specs.Tray.{frames_of, run_frames, run_pairs, run_tray, host_number}
use Rattle.rules.specs.Allowed.{TrayRan}
use Rattle.hints.specs.declared.known.Hints.{Hints}
use Rattle.tray.specs.declared.pairs.Pair.{Pair as Place}
use Rattle.tray.specs.Pairs.{pair_at, Stands}
use Rattle.tray.proofs.PairLaws.{pairs-length, pair_is, pair_in}
use Rattle.tray.proofs.PairsJudged.{verdict}
use Rattle.tray.proofs.RunningLaws.{Running, running_all, running_stops}

-- the part of the tray from the offset to the end is the frame
pub part_is_frame : (tray : List ℕ) {k : ℕ} {p : Place} → Stands tray k p
    → take (p.end - p.offset) (drop p.offset tray) ≡ frame_at tray (pair_at tray k)
unfolding frame_at
part_is_frame tray {k} {p} s =
    let long : p.end - p.offset ≡ (pair_at tray k).size = omega (arith, s.begins, s.ends) in
    ap₂ (λ n o. take n (drop o tray)) long s.begins

neither : (bad out : Bool) → cond bad tray_refused (cond out pairs_refused 0) ≡ 0 → (bad ≡ false) × (out ≡ false)
neither true out e = absurd (omega (arith, e))
neither false true e = absurd (omega (arith, e))
neither false false e = (refl, refl)

-- what a run comes to, in the words of the host
ran_to : (tray a a' : List ℕ) (returned : ℕ) (o : TrayOutcome) → run_tray tray (length a) ≡ o
    → returned ≡ host_number o → a' ≡ area_after o.records a → TrayRan tray a returned a'
ran_to tray a a' returned o e r q =
    record {
      returns = r ∙ ap host_number (sym e);
      leaves = q ∙ ap (λ (x : TrayOutcome). area_after x.records a) (sym e);
    }

-- a tray that is refused has done nothing, and leaves the area as it is
pub tray_refused_lem : (tray a : List ℕ) (n returned : ℕ) → n ≡ tray_refusal tray → (n ≡ 0 → ⊥)
    → returned ≡ 0 + 65536 * 0 + 4294967296 * n
    → TrayRan tray a returned a
unfolding run_tray host_number area_after answer_bytes
tray_refused_lem tray a n returned e h r = ran_to tray a a returned (stopped n) run r refl
  where
    run : run_tray tray (length a) ≡ stopped n
    run =
        ap (λ m. cond (leb m 0) (run_pairs tray (length a)) (stopped m)) (sym e)
        ∙ ap (λ b. cond b (run_pairs tray (length a)) (stopped n)) (lt-leb n 0 (omega (arith, h)))

module _ (tray : List ℕ) (fine : tray_refusal tray ≡ 0) where
  pub passes : (bad_tray tray ≡ false) × (verdict tray ≡ false)
  unfolding tray_refusal
  passes = neither (bad_tray tray) (verdict tray) fine

  -- a frame ends within the tray
  pub frame_in : (k : ℕ) → k < frame_count tray → (pair_at tray k).offset + (pair_at tray k).size ≤ length tray
  frame_in k h =
      let within =
      pair_in (pairs_end tray) (length tray) (pairs tray) k (pair_at tray k) passes.1
      (omega (arith, pairs-length tray)) in
      rw (pair_is tray k h) at within

  pub runs : (size : ℕ) → run_tray tray size ≡ run_frames empty size (frames_of tray)
  unfolding run_tray run_pairs
  runs size = ap (λ n. cond (leb n 0) (run_pairs tray size) (stopped n)) fine

  module _ {a₀ ws a : List ℕ} {hs : Hints} {k n returned : ℕ} (r : Running tray a₀ ws hs a k n) where
    -- all frames are done
    pub tray_done : k ≡ frame_count tray → returned ≡ k + 65536 * n + 4294967296 * 0 → TrayRan tray a₀ returned a
    unfolding host_number
    tray_done e q =
        let whole : Running tray a₀ ws hs a (frame_count tray) n = rw e at r in
        ran_to tray a₀ a returned (record { frames = frame_count tray; records = whole.records; number = 0 })
        (runs (length a₀) ∙ running_all whole) (omega (arith, q, e, whole.counts)) whole.area

    -- under 700 bytes are left before a frame
    pub tray_stops : k < frame_count tray → length a₀ < record_size * n + step_area
        → returned ≡ k + 65536 * n + 4294967296 * area_refused → TrayRan tray a₀ returned a
    unfolding host_number
    tray_stops h l q =
        ran_to tray a₀ a returned (record { frames = k; records = r.records; number = area_refused })
        (runs (length a₀) ∙ running_stops r h l) (omega (arith, q, r.counts)) r.area
