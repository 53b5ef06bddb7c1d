-- What is kept of each party while a tray is run, and what a record, a look-up and a whole frame change of it.
use Rattle.std.specs.Prelude.{◌≡◌, ℕ, ◌+◌, ◌-◌, ◌*◌, ◌<◌, Bool, cond, ◌&&◌, List, [], ◌∷◌, ◌++◌, length}
use Rattle.std.specs.Prelude.{◌==◌, Option, Some, None, get_or, slice_index_or}
use Rattle.rules.specs.declared.Record.{Record}
use Rattle.rules.specs.Lists.{anyb}
use Rattle.rules.specs.Numbers.{record_size, kind_found}
use Rattle.rules.specs.Frame.{decode}
use Rattle.rules.specs.Records.{plain, record_at}
use Rattle.rules.specs.SerialRun.{Logged}
use Rattle.rules.specs.Sound.{IsParty}
use Rattle.demands.specs.Answers.{closes}
use Rattle.demands.specs.WaitingList.{is_asked, number}
use Rattle.sittings.specs.declared.figures.Figures.{Figures}
use Rattle.sittings.specs.declared.waits.Wait.{Wait}
use Rattle.sittings.specs.Waits.{ticks, is_of, waits, waited, waits_of, asked_by, founds_of}
use Rattle.sittings.specs.Figures.{figures_for, plus, Gained}

-- ---- the waits: of each party the one that is open, at its number
abbrev pub wait_at : List (Option Wait) → ℕ → Option Wait
wait_at ws p = get_or ws p None

-- the ticks of a wait that is open, up to a clock
abbrev pub open_for : ℕ → Option Wait → List ℕ
open_for clock None = []
open_for clock (Some w) = (clock - w.since) ∷ []

-- ---- a party, at a clock
abbrev pub one : Bool → ℕ
one b = cond b 1 0

abbrev pub is_found_of : ℕ → Record → Bool
is_found_of p a = a.party == p && a.kind == kind_found

-- the ticks of its wait, if records close it
abbrev pub ended : ℕ → ℕ → Option Wait → List Record → List ℕ
ended p clock None rs = []
ended p clock (Some w) rs = cond (anyb (closes p w.txn.0) rs) ((clock - w.since) ∷ []) []

-- what records add to its figures, and what is left of its wait
abbrev pub heard_of : ℕ → ℕ → Option Wait → List Record → Figures
heard_of p clock w rs = figures_for 0 (number (is_found_of p) rs) (ended p clock w rs)

abbrev pub wait_after : ℕ → Option Wait → List Record → Option Wait
wait_after p None rs = None
wait_after p (Some w) rs = cond (anyb (closes p w.txn.0) rs) None (Some w)

-- what its look-up adds, and the wait that it begins
abbrev pub asked_of : ℕ → Logged → Figures
asked_of p l = figures_for (one (is_of p l && is_asked l)) 0 []

abbrev pub begun : ℕ → Logged → Option Wait
begun clock l = Some (record { since = clock; txn = record { 0 = (decode l.frame).txn } })

abbrev pub begins_if : ℕ → ℕ → Logged → Option Wait → Option Wait
begins_if p clock l w = cond (is_of p l && waits l) (begun clock l) w

-- what a frame adds, and what is its wait then
abbrev pub gain_of : ℕ → ℕ → Option Wait → Logged → Figures
gain_of p clock w l = plus (heard_of p clock w l.records) (asked_of p l)

abbrev pub next_wait : ℕ → ℕ → Option Wait → Logged → Option Wait
next_wait p clock w l = begins_if p clock l (wait_after p w l.records)

-- what is still to come of a history: the wait that is open, and the later ones
abbrev pub pending : ℕ → ℕ → Option Wait → List Logged → List ℕ
pending p clock None log = []
pending p clock (Some w) log = (clock - w.since + waited p w.txn.0 log) ∷ []

abbrev pub rest_of : ℕ → ℕ → Option Wait → List Logged → Figures
rest_of p clock w log = figures_for (asked_by p log) (founds_of p log) (pending p clock w log ++ waits_of p log)

-- at the end of the tray
abbrev pub left_of : ℕ → Option Wait → Figures
left_of clock w = figures_for 0 0 (open_for clock w)

-- ---- what the code ensures of a report, the waits, and an answers area
-- the records of a step, in an area
pub record Stand (area : List ℕ) (n : ℕ) (rs : List Record) : Type 0 where
  pub counts : n ≡ length rs
  pub each : (i : ℕ) → i < n → record_at area (record_size * i) ≡ slice_index_or rs i (plain 0 0 0)

pub record Heard (clock : ℕ) (report : List ℕ) (ws : List (Option Wait)) (rs : List Record) (report' : List ℕ)
    (ws' : List (Option Wait)) : Type 0 where
  pub gained : Gained report (λ p. heard_of p clock (wait_at ws p) rs) report'
  pub left : (p : ℕ) → IsParty p → wait_at ws' p ≡ wait_after p (wait_at ws p) rs

pub record Asked (clock : ℕ) (report : List ℕ) (ws : List (Option Wait)) (l : Logged) (report' : List ℕ)
    (ws' : List (Option Wait)) : Type 0 where
  pub gained : Gained report (λ p. asked_of p l) report'
  pub left : (p : ℕ) → IsParty p → wait_at ws' p ≡ begins_if p clock l (wait_at ws p)

pub record Noted (clock : ℕ) (report : List ℕ) (ws : List (Option Wait)) (l : Logged) (clock' : ℕ) (report' : List ℕ)
    (ws' : List (Option Wait)) : Type 0 where
  pub clock_on : clock' ≡ clock + ticks l
  pub gained : Gained report (λ p. gain_of p clock' (wait_at ws p) l) report'
  pub left : (p : ℕ) → IsParty p → wait_at ws' p ≡ next_wait p clock' (wait_at ws p) l

abbrev pub logged : List ℕ → List Record → Logged
logged frame rs = record { frame = frame; records = rs }
