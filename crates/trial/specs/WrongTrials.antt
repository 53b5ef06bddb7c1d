-- Trials that are wrong: the contract, `Tried`, rules out each.
use Rattle.std.specs.Prelude.{ℕ, zero, suc, ◌-◌, ◌*◌, not, true, ◌≡◌, List, [], ◌∷◌, ◌++◌, map, eqb, length, take, drop}
use Rattle.rules.specs.declared.Record.{Record}
use Rattle.rules.specs.declared.Request.TheVariants.{Tick}
use Rattle.rules.specs.Lists.{filterb, joined}
use Rattle.rules.specs.Numbers.{step_area, kind_exception, panes_refused, rounds_refused}
use Rattle.rules.specs.State.{empty}
use Rattle.rules.specs.Frame.{frame_bytes}
use Rattle.rules.specs.Requests.{frame_of}
use Rattle.rules.specs.Step.{step}
use Rattle.rules.specs.Log.{log_from}
use Rattle.trial.specs.Setup.{rounds_in, pane_count, places, panes_in, starting_frames, setup_refusal}
use Rattle.trial.specs.Panes.{ticked}
use Rattle.trial.specs.Trial.{Trier, in_stage, is_ready, Round, hears_all, send, turns, tick, trial, send_all, triers}
use Rattle.trial.specs.Trial.{counts_of, Tried}

-- ---- the counts of a trial by other rounds
unfoldable pub rounds_by : (Round → Round) → ℕ → Round → Round
rounds_by f zero r = r
rounds_by f (suc n) r = f (rounds_by f n r)

unfoldable pub counts_by : (Round → Round) → List ℕ → List ℕ
counts_by f ws =
    let begun : Round = record { model = empty; panes = triers 1 (panes_in ws); sent = [] } in
    let r = rounds_by f (rounds_in ws) (send_all (starting_frames ws) begun) in
    joined (places (λ i. counts_of (log_from empty r.sent) (suc i)) (pane_count ws))

-- ---- ticks, turns
abbrev held_all : List Trier → List Trier
held_all xs = map (λ x. in_stage (ticked x.stage) x) xs

abbrev tick_frame : List ℕ
tick_frame = frame_bytes (frame_of Tick)

-- a hold counts the tick that served its found
unfoldable pub tick_counting : Round → Round
tick_counting r =
    let n = send tick_frame r in record { model = n.model; panes = held_all n.panes; sent = n.sent }

-- panes go on after an exception
unfoldable pub tick_unheard : Round → Round
tick_unheard r =
    let n = tick r in
    let all = (step r.model tick_frame step_area).records in
    let rs = filterb (λ (a : Record). not (eqb a.kind kind_exception)) all in
    record { model = n.model; panes = map (hears_all rs) (held_all r.panes); sent = n.sent }

-- the rounds so made; and those in which a pane that is served in the middle of a round sends in it
unfoldable pub round_with : (Round → Round) → Round → Round
round_with f r = f (turns (map is_ready r.panes) 0 r)

unfoldable pub round_served : Round → Round
round_served r = tick (turns (map (λ x. true) r.panes) 0 r)

-- the counts of the last pane first
unfoldable pub counts_turned : List ℕ → List ℕ
counts_turned ws = joined (places (λ i. counts_of (log_from empty (trial ws).sent) (pane_count ws - i)) (pane_count ws))

-- a program that counts so keeps the contract
abbrev pub Keeps : (List ℕ → List ℕ) → Type 0
Keeps counted =
    (ws counts : List ℕ) → setup_refusal ws (length counts) ≡ 0
    → Tried ws counts 0 (counted ws ++ drop (3 * pane_count ws) counts)

-- ---- refusals: rounds, panes and starting entries, all alike
unfoldable pub setup_of : ℕ → ℕ → ℕ → List ℕ
setup_of rounds panes starting =
    (rounds ∷ panes ∷ starting ∷ [])
    ++ joined (places (λ _. 9 ∷ 0 ∷ 7 ∷ 9 ∷ 8 ∷ 0 ∷ []) panes)
    ++ joined (places (λ _. 7 ∷ 0 ∷ 0 ∷ 0 ∷ 9 ∷ []) starting)

-- counts before the call: room for so many panes
unfoldable pub room_for : ℕ → List ℕ
room_for panes = joined (places (λ _. 9 ∷ 9 ∷ 9 ∷ []) panes)

pub record WrongTrials : Type 0 where
  pub serving_tick : Keeps (counts_by (round_with tick_counting)) → ⊥
  pub after_exceptions : Keeps (counts_by (round_with tick_unheard)) → ⊥
  pub served_sends : Keeps (counts_by round_served) → ⊥
  pub others_counts : Keeps counts_turned → ⊥
  -- what is to be refused is accepted: no pane, five; nine starting entries; a word too few; counts for one pane of
  -- two; 1,001 rounds
  pub none_accepted : (after : List ℕ) → Tried (setup_of 2 0 0) (room_for 5) 0 after → ⊥
  pub five_accepted : (after : List ℕ) → Tried (setup_of 2 5 0) (room_for 5) 0 after → ⊥
  pub nine_accepted : (after : List ℕ) → Tried (setup_of 2 1 9) (room_for 5) 0 after → ⊥
  pub short_accepted : (after : List ℕ) → Tried (take 8 (setup_of 2 1 0)) (room_for 5) 0 after → ⊥
  pub crowded_accepted : (after : List ℕ) → Tried (setup_of 2 2 0) (room_for 1) 0 after → ⊥
  pub long_accepted : (after : List ℕ) → Tried (setup_of 1001 1 0) (room_for 5) 0 after → ⊥
  -- what is to be accepted is refused: four panes, eight starting entries and 1,000 rounds are not too many
  pub most_refused : (after : List ℕ) → Tried (setup_of 1000 4 8) (room_for 4) (65536 * panes_refused) after → ⊥
  pub longest_refused : (after : List ℕ) → Tried (setup_of 1000 4 8) (room_for 4) (65536 * rounds_refused) after → ⊥
  -- "24 .. after 23"
  pub rounds_first : (after : List ℕ) → Tried (setup_of 1001 0 0) (room_for 5) (65536 * rounds_refused) after → ⊥
  -- counts that a refusal changes; a word behind those of the panes
  pub refused_and_changed : Tried (setup_of 2 0 0) (room_for 1) (65536 * panes_refused) (0 ∷ 0 ∷ 0 ∷ []) → ⊥
  pub word_behind : Tried (setup_of 2 1 0) (9 ∷ 9 ∷ 9 ∷ 9 ∷ []) 0 (0 ∷ 0 ∷ 1 ∷ 0 ∷ []) → ⊥
