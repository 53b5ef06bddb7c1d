-- The loop that judges a tray's pairs.
use Prim.Native.Nat.{ℕ, suc, ◌+◌, ◌*◌, ◌≤◌, ◌<◌}
use mathlib.Core.Bool.{Bool, true, false, ◌||◌}
use mathlib.Core.Path.{◌≡◌, sym, ap, ◌∙◌}
use mathlib.Core.List.{List}
use native.Mathlib.Numerals.{add-one}
use native.Mathlib.Omega.{arith}
use borrow.Author.Tests.{ltb-false}
use lib.Dec.{ltb}
use lib.ListN.{length, drop, drop_of_length-le}
use Rattle.rules.specs.Numbers.{max_tray, max_frames}
use Rattle.rules.specs.Tray.{frame_count, pairs_end, pairs, bad_tray, bad_pairs}
use Rattle.rules.proofs.BoolLaws.{or_left, or_right}
use Rattle.tray.specs.declared.pairs.Pair.{Pair as Place}
use Rattle.tray.specs.Pairs.{pair_at, place_of, Stands, misplaced}
use Rattle.tray.proofs.PairLaws.{pairs-length, pairs_from}

-- what has come of the tray's pairs
abbrev pub verdict : List ℕ → Bool
verdict tray = bad_pairs (pairs_end tray) (length tray) (pairs tray)

-- a tray that 15 does not refuse has at most 2,000 frames
pub few-frames : (tray : List ℕ) → bad_tray tray ≡ false → frame_count tray ≤ max_frames
unfolding bad_tray
few-frames tray e =
    ltb-false max_frames (frame_count tray)
    (or_right (ltb (length tray) 4 || ltb max_tray (length tray)) _ (or_left _ (ltb (length tray) (pairs_end tray)) e))

-- and their pairs are there
pub pair_there : (tray : List ℕ) (i : ℕ) → bad_tray tray ≡ false → i < frame_count tray → 4 + 8 * (i + 1) ≤ length tray
unfolding bad_tray
pair_there tray i e h =
    omega (
      arith,
      ltb-false (length tray) (pairs_end tray)
          (or_right (ltb (length tray) 4 || ltb max_tray (length tray) || ltb max_frames (frame_count tray)) _ e),
    )

-- a pair in its place ends within the tray
pub in_place : (tray : List ℕ) (i free : ℕ) {p : Place} → Stands tray i p
    → misplaced free (length tray) (place_of (pair_at tray i)) ≡ false → p.end ≤ length tray
in_place tray i free s h =
    let q = pair_at tray i in
    omega (arith, s.ends, ltb-false (length tray) (q.offset + q.size) (or_right (ltb q.offset free) _ h))

-- i pairs have been judged, and what is free begins at `free`
pub record Judging (tray : List ℕ) (free i : ℕ) : Type 0 where
  pub rest : verdict tray ≡ bad_pairs free (length tray) (drop i (pairs tray))

pub judging_none : (tray : List ℕ) {free : ℕ} → free ≡ pairs_end tray → Judging tray free 0
judging_none tray e = record { rest = ap (λ f. bad_pairs f (length tray) (pairs tray)) (sym e) }

module _ {tray : List ℕ} {free i : ℕ} (j : Judging tray free i) where
  module _ (l : i < frame_count tray) where
    so_far : verdict tray
        ≡ (misplaced free (length tray) (place_of (pair_at tray i))
        || bad_pairs ((pair_at tray i).offset + (pair_at tray i).size) (length tray) (drop (suc i) (pairs tray)))
    unfolding bad_pairs
    so_far = j.rest ∙ ap (bad_pairs free (length tray)) (pairs_from tray i l)

    pub out_of_place : misplaced free (length tray) (place_of (pair_at tray i)) ≡ true → verdict tray ≡ true
    out_of_place h = so_far ∙ rw h

    pub judging_more : {p : Place} → Stands tray i p → misplaced free (length tray) (place_of (pair_at tray i)) ≡ false
        → Judging tray p.end (i + 1)
    judging_more {p} s h =
        record {
          rest = rw add-one (so_far ∙ rw h
              (ap (λ e. bad_pairs e (length tray) (drop (suc i) (pairs tray))) (sym s.ends)));
        }

  pub judging_all : frame_count tray ≤ i → verdict tray ≡ false
  unfolding bad_pairs
  judging_all l =
      j.rest ∙ ap (bad_pairs free (length tray))
      (drop_of_length-le (pairs tray) {i = i} (omega (arith, pairs-length tray)))
