-- The wrong trials, each by a setup that is computed: a count, or the number returned, is another.
use Prim.Native.Nat.{ℕ, ◌*◌}
use mathlib.Core.Path.{◌≡◌, refl, ap}
use mathlib.Core.List.{List, [], ◌∷◌, ◌++◌}
use native.Mathlib.Omega.{arith}
use lib.ListN.{length, get_or, drop}
use Rattle.rules.specs.Numbers.{forever}
use Rattle.rules.specs.Log.{log_from, records_of}
use Rattle.trial.specs.Setup.{pane_count, bad_setup, setup_refusal}
use Rattle.trial.specs.Trial.{trial, tally, counts_in}
use Rattle.trial.specs.Holds.{others_found, tick_found}
use Rattle.trial.specs.WrongTrials.{rounds_by, counts_by, tick_counting, tick_unheard, round_with, round_served}
use Rattle.trial.specs.WrongTrials.{counts_turned, Keeps, setup_of, room_for, WrongTrials}
use Rattle.trial.proofs.HoldsProof.{all_trials}

-- a setup with other rounds
abbrev lasting : ℕ → List ℕ → List ℕ
lasting n ws = n ∷ drop 1 ws

-- its transaction ends in every second round
abbrev short_lease : List ℕ
short_lease = (4 ∷ 1 ∷ 1 ∷ []) ++ (2 ∷ 0 ∷ 7 ∷ forever ∷ 8 ∷ 50 ∷ []) ++ (7 ∷ 0 ∷ 0 ∷ 0 ∷ forever ∷ [])

-- words of counts behind those of the panes
abbrev behind : List ℕ → List ℕ → List ℕ
behind ws counts = drop (3 * pane_count ws) counts

same_count : (counted : List ℕ → List ℕ) → Keeps counted → (ws counts : List ℕ)
    → setup_refusal ws (length counts) ≡ 0 → (i : ℕ)
    → get_or (counted ws ++ behind ws counts) i 0 ≡ get_or (counts_in ws ++ behind ws counts) i 0
same_count counted keeps ws counts accepted i = ap (λ l. get_or l i 0) ((keeps ws counts accepted).counted accepted)

pub wrong_trials : WrongTrials
unfolding all_trials log_from records_of bad_setup setup_refusal trial tally counts_in rounds_by counts_by tick_counting
    tick_unheard round_with round_served counts_turned setup_of room_for
wrong_trials =
    record {
      -- hold 2, found by the tick of round 3: it commits in round 7, not in round 6
      serving_tick = λ keeps.
          let one : ◌≡◌ {A = ℕ} 1 0 =
          same_count (counts_by (round_with tick_counting)) keeps (lasting 6 (tick_found 2)) (room_for 2) refl 3 in
          omega (arith, one);
      -- it starts over after the first exception, and gets a second
      after_exceptions = λ keeps.
          let one : ◌≡◌ {A = ℕ} 1 2 =
          same_count (counts_by (round_with tick_unheard)) keeps short_lease (room_for 1) refl 1 in
          omega (arith, one);
      -- found in the middle of round 4: it commits in round 6, not in round 5
      served_sends = λ keeps.
          let one : ◌≡◌ {A = ℕ} 1 0 =
          same_count (counts_by round_served) keeps (lasting 5 (others_found 0)) (room_for 2) refl 3 in
          omega (arith, one);
      -- the first pane commits in round 4, and the second does not
      others_counts = λ keeps.
          let none : ◌≡◌ {A = ℕ} 0 1 =
          same_count counts_turned keeps (lasting 4 (others_found 0)) (room_for 2) refl 0 in
          omega (arith, none);
      none_accepted = λ after t. omega (arith, t.number);
      five_accepted = λ after t. omega (arith, t.number);
      nine_accepted = λ after t. omega (arith, t.number);
      short_accepted = λ after t. omega (arith, t.number);
      crowded_accepted = λ after t. omega (arith, t.number);
      long_accepted = λ after t. omega (arith, t.number);
      most_refused = λ after t. omega (arith, t.number);
      longest_refused = λ after t. omega (arith, t.number);
      rounds_first = λ after t. omega (arith, t.number);
      refused_and_changed = λ t.
          let kept : ◌≡◌ {A = ℕ} 0 9 = ap (λ l. get_or l 0 0) (t.refused (λ e. omega (arith, e))) in omega
          (arith, kept);
      word_behind = λ t. let kept : ◌≡◌ {A = ℕ} 0 9 = ap (λ l. get_or l 3 0) (t.counted refl) in omega (arith, kept);
    }
