-- A trial: the frames that panes send in rounds, and what is counted of them (document 02, T-13).
use Rattle.std.specs.Prelude.{ℕ, zero, suc, ◌*◌, Bool, true, false, cond, ◌&&◌, ◌≡◌, List, [], ◌∷◌, ◌++◌, map, eqb}
use Rattle.std.specs.Prelude.{length, drop, Option, Some, None, is_some}
use Rattle.rules.specs.declared.Record.{Record}
use Rattle.rules.specs.declared.Request.{Request}
use Rattle.rules.specs.declared.Request.TheVariants.{Tick}
use Rattle.rules.specs.Lists.{filterb, joined}
use Rattle.rules.specs.Numbers.{step_area, kind_nothing, kind_committed, kind_exception}
use Rattle.rules.specs.State.{Model, empty}
use Rattle.rules.specs.Frame.{frame_bytes}
use Rattle.rules.specs.Requests.{frame_of}
use Rattle.rules.specs.Step.{step}
use Rattle.rules.specs.SerialRun.{Logged}
use Rattle.rules.specs.Log.{log_from, records_of}
use Rattle.trial.specs.declared.Pane.{Pane}
use Rattle.trial.specs.declared.Stage.{Stage}
use Rattle.trial.specs.declared.Stage.TheVariants.{Creates}
use Rattle.trial.specs.Setup.{rounds_in, pane_count, setup_refusal, places, panes_in, starting_frames}
use Rattle.trial.specs.Panes.{sends, hears, ticked}

-- a pane: its party ("parties 1 to 4"), its setup and its stage
pub record Trier : Type 0 where
  pub party : ℕ
  pub pane : Pane
  pub stage : Stage

abbrev pub in_stage : Stage → Trier → Trier
in_stage s x = record { party = x.party; pane = x.pane; stage = s }

-- "not waiting or holding"
abbrev pub is_ready : Trier → Bool
is_ready x = is_some (sends x.pane x.party x.stage)

-- the space, the panes, and the frames sent so far
pub record Round : Type 0 where
  pub model : Model
  pub panes : List Trier
  pub sent : List (List ℕ)

-- each pane hears the records to its party, in order
unfoldable pub hears_all : List Record → Trier → Trier
hears_all [] x = x
hears_all (a ∷ later) x = hears_all later (cond (eqb a.party x.party) (in_stage (hears x.pane a x.stage) x) x)

-- a frame is sent, and its step's records are heard
unfoldable pub send : List ℕ → Round → Round
send bs r =
    let o = step r.model bs step_area in
    record { model = o.model; panes = map (hears_all o.records) r.panes; sent = r.sent ++ (bs ∷ []) }

-- what the pane at a place sends now, if it was ready when the round began: "A pane that is served in the middle of a
-- round sends nothing more in that round"
abbrev pub sends_now : Bool → Option Request → Round → Round
sends_now false q r = r
sends_now true None r = r
sends_now true (Some q) r = send (frame_bytes (frame_of q)) r

abbrev pub next_of : List Trier → ℕ → Option Request
next_of [] i = None
next_of (x ∷ xs) zero = sends x.pane x.party x.stage
next_of (x ∷ xs) (suc i) = next_of xs i

-- "every pane not waiting or holding sends one frame, by number": from the pane at a place on
unfoldable pub turns : List Bool → ℕ → Round → Round
turns [] i r = r
turns (ready ∷ rest) i r = turns rest (suc i) (sends_now ready (next_of r.panes i) r)

-- "then a tick follows"
unfoldable pub tick : Round → Round
tick r =
    let held = map (λ x. in_stage (ticked x.stage) x) r.panes in
    send (frame_bytes (frame_of Tick)) (record { model = r.model; panes = held; sent = r.sent })

unfoldable pub round : Round → Round
round r = tick (turns (map is_ready r.panes) 0 r)

unfoldable pub rounds : ℕ → Round → Round
rounds zero r = r
rounds (suc n) r = round (rounds n r)

-- "starting entries .. are written first"
unfoldable pub send_all : List (List ℕ) → Round → Round
send_all [] r = r
send_all (f ∷ fs) r = send_all fs (send f r)

-- parties are counted from 1
unfoldable pub triers : ℕ → List Pane → List Trier
triers party [] = []
triers party (p ∷ ps) = record { party = party; pane = p; stage = Creates } ∷ triers (suc party) ps

unfoldable pub trial : List ℕ → Round
trial ws =
    rounds (rounds_in ws)
    (send_all (starting_frames ws) (record { model = empty; panes = triers 1 (panes_in ws); sent = [] }))

-- the records of a kind to a party in a log: "Every record of kind 6, 8 or 3 to the pane counts, in whatever step"
unfoldable pub tally : ℕ → ℕ → List Logged → ℕ
tally kind party log =
    length (filterb (λ (a : Record). eqb a.kind kind && eqb a.party party) (records_of log))

-- "counts commits, exceptions and nothings per pane"
abbrev pub counts_of : List Logged → ℕ → List ℕ
counts_of log party =
    tally kind_committed party log ∷ tally kind_exception party log ∷ tally kind_nothing party log ∷ []

-- the counts of all panes; they are those of "what the space's rules give for the same frames"
unfoldable pub counts_in : List ℕ → List ℕ
counts_in ws = joined (places (λ i. counts_of (log_from empty (trial ws).sent) (suc i)) (pane_count ws))

-- a trial is handed in: a number is returned, and the counts become `after`
pub record Tried (ws counts : List ℕ) (returned : ℕ) (after : List ℕ) : Type 0 where
  pub number : returned ≡ 65536 * setup_refusal ws (length counts)
  -- a refused one leaves them as they were
  pub refused : (setup_refusal ws (length counts) ≡ 0 → ⊥) → after ≡ counts
  -- else three words of each pane stand in front
  pub counted : setup_refusal ws (length counts) ≡ 0 → after ≡ counts_in ws ++ drop (3 * pane_count ws) counts
