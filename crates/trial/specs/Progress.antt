-- The panes as the code has them: what they do next and what is counted of them, and what a record or a tick does.
use Rattle.std.specs.Prelude.{ℕ, suc, ◌+◌, ◌*◌, ◌<◌, cond, ◌≡◌, List, [], ◌∷◌, eqb, get_or, Option}
use Rattle.rules.specs.declared.Record.{Record}
use Rattle.rules.specs.declared.Request.{Request}
use Rattle.rules.specs.Numbers.{record_size, kind_nothing, kind_committed, kind_exception}
use Rattle.rules.specs.Records.{record_at}
use Rattle.rules.specs.Words.{up_to}
use Rattle.trial.specs.declared.Pane.{Pane}
use Rattle.trial.specs.declared.Progress.{Progress}
use Rattle.trial.specs.declared.Stage.TheVariants.{Creates}
use Rattle.trial.specs.Setup.{pane_count, pane_at}
use Rattle.trial.specs.Panes.{sends, hears, ticked}

-- a pane that has not begun
abbrev pub fresh : Progress
fresh = record { stage = Creates; commits = 0; exceptions = 0; nothings = 0 }

abbrev pub at : List Progress → ℕ → Progress
at xs i = get_or xs i fresh

-- what the pane at a place sends next
abbrev pub next_at : List ℕ → List Progress → ℕ → Option Request
next_at ws xs i = sends (pane_at ws i) (suc i) (at xs i).stage

-- commits, exceptions and nothings
abbrev pub counts_at : Progress → List ℕ
counts_at x = x.commits ∷ x.exceptions ∷ x.nothings ∷ []

-- what has been counted of a pane; and room to count n records more, of each
abbrev pub total : Progress → ℕ
total x = x.commits + x.exceptions + x.nothings

abbrev pub Room : List ℕ → ℕ → List Progress → Type 0
Room ws n xs = (i : ℕ) → i < pane_count ws → total (at xs i) + 3 * n < 4294967296

-- a record to it: it goes on, and the record is counted
unfoldable pub heard_by : Pane → Record → Progress → Progress
heard_by p a x =
    record {
      stage = hears p a x.stage;
      commits = x.commits + cond (eqb a.kind kind_committed) 1 0;
      exceptions = x.exceptions + cond (eqb a.kind kind_exception) 1 0;
      nothings = x.nothings + cond (eqb a.kind kind_nothing) 1 0;
    }

-- a record to anyone, and several: to the pane at a place, which is counted from 0
unfoldable pub heard_as : List ℕ → Record → ℕ → Progress → Progress
heard_as ws a i x = cond (eqb a.party (suc i)) (heard_by (pane_at ws i) a x) x

unfoldable pub follows : List ℕ → List Record → ℕ → Progress → Progress
follows ws [] i x = x
follows ws (a ∷ later) i x = follows ws later i (heard_as ws a i x)

-- the records in front of an area
abbrev pub records_at : List ℕ → ℕ → List Record
records_at area n = up_to (λ k. record_at area (record_size * k)) n

-- a tick
unfoldable pub held_by : Progress → Progress
held_by x =
    record { stage = ticked x.stage; commits = x.commits; exceptions = x.exceptions; nothings = x.nothings }

-- four panes become others, by what becomes of each that there is
pub record Each (ws : List ℕ) (f : ℕ → Progress → Progress) (xs ys : List Progress) : Type 0 where
  pub each : (i : ℕ) → i < pane_count ws → at ys i ≡ f i (at xs i)
