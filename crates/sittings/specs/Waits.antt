-- A sitting: a tray's run, and the waits that its frames and records tell (document 02, T-14).
use Rattle.std.specs.Prelude.{ℕ, ◌+◌, Bool, cond, ◌&&◌, List, [], ◌∷◌, ◌==◌, nat_eq}
use Rattle.rules.specs.declared.Record.{Record}
use Rattle.rules.specs.Lists.{anyb}
use Rattle.rules.specs.Numbers.{kind_found, kind_waiting, kind_ticked}
use Rattle.rules.specs.State.{empty}
use Rattle.rules.specs.Frame.{decode, is_look_up}
use Rattle.rules.specs.Tray.{frames_of}
use Rattle.rules.specs.SerialRun.{Logged}
use Rattle.rules.specs.Log.{log_from, records_of}
use Rattle.demands.specs.Answers.{closes}
use Rattle.demands.specs.WaitingList.{is_asked, number}

-- "each run from an empty space to its last frame"
unfoldable pub sitting : List ℕ → List Logged
sitting tray = log_from empty (frames_of tray)

-- by how much a frame advances the clock
abbrev pub ticks : Logged → ℕ
ticks l = number (λ (a : Record). nat_eq a.kind kind_ticked) l.records

-- a frame of a party
abbrev pub is_of : ℕ → Logged → Bool
is_of p l = (decode l.frame).party == p

-- "Only a look-up answered waiting has a wait"
unfoldable pub waits : Logged → Bool
waits l = is_look_up (decode l.frame).op && anyb (λ (a : Record). nat_eq a.kind kind_waiting) l.records

-- "It runs from the look-up to its closing answer, or to the end of the tray, and is the difference of the two clocks
-- after those frames": the ticks of the frames behind the look-up of a party in a transaction, up to the first that
-- closes it
unfoldable pub waited : ℕ → ℕ → List Logged → ℕ
waited p t [] = 0
waited p t (l ∷ later) =
    let rest = waited p t later in
    ticks l + cond (anyb (closes p t) l.records) 0 rest

-- the waits of a party's look-ups, in order
unfoldable pub waits_of : ℕ → List Logged → List ℕ
waits_of p [] = []
waits_of p (l ∷ later) =
    let rest = waits_of p later in
    cond (is_of p l && waits l) (waited p (decode l.frame).txn later ∷ rest) rest

-- "look-ups not refused, founds"
unfoldable pub asked_by : ℕ → List Logged → ℕ
asked_by p log = number (λ l. is_of p l && is_asked l) log

unfoldable pub founds_of : ℕ → List Logged → ℕ
founds_of p log = number (λ (a : Record). (a.party == p) && a.kind == kind_found) (records_of log)
