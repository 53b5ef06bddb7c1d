-- A trial as far as the code has come: its words, hints and panes beside the space, the panes and the frames of the
-- rules' `Round`.
use Rattle.std.specs.Prelude.{ℕ, suc, ◌+◌, ◌*◌, ◌%◌, ◌≤◌, ◌<◌, ◌≡◌, List, ◌++◌, map, length}
use Rattle.rules.specs.declared.TxnId.{TxnId}
use Rattle.rules.specs.Numbers.{step_records, kind_nothing, kind_committed, kind_exception}
use Rattle.rules.specs.State.{empty}
use Rattle.rules.specs.Words.{up_to, view}
use Rattle.rules.specs.Sound.{Sound}
use Rattle.rules.specs.SerialRun.{Logged}
use Rattle.rules.specs.Log.{log_from, records_of}
use Rattle.hints.specs.declared.known.Hints.{Hints}
use Rattle.hints.specs.Hints.{Reliable}
use Rattle.trial.specs.declared.Progress.{Progress}
use Rattle.trial.specs.declared.Stage.{Stage}
use Rattle.trial.specs.declared.Stage.TheVariants.{Creates, Takes, Waits, Holds, Commits, Aborts}
use Rattle.trial.specs.Setup.{pane_count, pane_at}
use Rattle.trial.specs.Trial.{Trier, in_stage, Round, tally}
use Rattle.trial.specs.declared.rounds.Trial.{Trial}
use Rattle.trial.specs.Progress.{fresh, at}

-- a transaction's number as four bytes tell it: a pane knows no other
abbrev pub as_word : ℕ → ℕ
as_word n = n % 4294967296

abbrev pub word_id : TxnId → TxnId
word_id t = record { 0 = as_word t.0 }

unfoldable pub in_words : Stage → Stage
in_words Creates = Creates
in_words (Takes t) = Takes (word_id t)
in_words (Waits t) = Waits (word_id t)
in_words (Holds t n) = Holds (word_id t) n
in_words (Commits t) = Commits (word_id t)
in_words (Aborts t) = Aborts (word_id t)

-- the pane at a place, counted from 0, as the rules have it
abbrev pub trier_at : List ℕ → ℕ → Progress → Trier
trier_at ws i x = record { party = suc i; pane = pane_at ws i; stage = x.stage }

abbrev pub triers_at : List ℕ → List Progress → List Trier
triers_at ws xs = up_to (λ i. trier_at ws i (at xs i)) (pane_count ws)

-- a pane's counts are those of a log
pub record Counted (log : List Logged) (party : ℕ) (x : Progress) : Type 0 where
  pub commits : x.commits ≡ tally kind_committed party log
  pub exceptions : x.exceptions ≡ tally kind_exception party log
  pub nothings : x.nothings ≡ tally kind_nothing party log

-- after at most k frames
pub record Trying (ws : List ℕ) (k : ℕ) (r : Round) (space : List ℕ) (hints : Hints) (xs : List Progress) : Type 0 where
  pub model : view space ≡ r.model
  pub sound : Sound (view space)
  pub reliable : Reliable hints (view space)
  pub log : (more : List (List ℕ))
      → log_from empty (r.sent ++ more) ≡ log_from empty r.sent ++ log_from r.model more
  pub few : length (records_of (log_from empty r.sent)) ≤ step_records * k
  pub panes : map (λ x. in_stage (in_words x.stage) x) r.panes ≡ triers_at ws xs
  pub counts : (i : ℕ) → i < pane_count ws → Counted (log_from empty r.sent) (suc i) (at xs i)

-- "up to 8 starting entries"; 1,000 rounds, each with a frame of up to 4 panes and a tick
abbrev pub most_frames : ℕ
most_frames = 8 + 5 * 1000

-- a trial is under way, in which n frames more may be sent
pub record Underway (n : ℕ) (t : Trial) : Type 0 where
  pub sent : ℕ
  pub round : Round
  pub trying : Trying t.setup.words.now sent round t.space t.hints t.panes
  pub left : sent + n ≤ most_frames

-- it goes on as the rules do, with at most n frames
pub record Goes (n : ℕ) (f : Round → Round) (t t' : Trial) : Type 0 where
  pub setup : t'.setup.words.now ≡ t.setup.words.now
  pub trying : (k : ℕ) (r : Round) → Trying t.setup.words.now k r t.space t.hints t.panes
      → Trying t.setup.words.now (k + n) (f r) t'.space t'.hints t'.panes

-- nothing is sent yet
pub record Begun (ws : List ℕ) (t : Trial) : Type 0 where
  pub setup : t.setup.words.now ≡ ws
  pub space : view t.space ≡ empty
  pub hints : Reliable t.hints empty
  pub panes : (i : ℕ) → i < 4 → at t.panes i ≡ fresh
