-- How long a pane holds: "A hold counts whole ticks, without the tick that itself served the found; hold 0 writes in
-- the next round" (document 02, T-13): after how many ticks, for every hold; in which round, as a table of some.
use Rattle.std.specs.Prelude.{ℕ, zero, suc, Bool, cond, ◌&&◌, ◌≡◌, List, [], ◌∷◌, ◌++◌, map, eqb, leb, length, drop}
use Rattle.std.specs.Prelude.{None}
use Rattle.rules.specs.declared.TxnId.{TxnId}
use Rattle.rules.specs.Lists.{anyb}
use Rattle.rules.specs.Numbers.{forever, op_write}
use Rattle.rules.specs.State.{empty}
use Rattle.rules.specs.Frame.{byte_at}
use Rattle.trial.specs.declared.Pane.{Pane}
use Rattle.trial.specs.declared.Stage.{Stage}
use Rattle.trial.specs.declared.Stage.TheVariants.{Holds}
use Rattle.trial.specs.Setup.{panes_in, starting_frames}
use Rattle.trial.specs.Panes.{sends, ticked}
use Rattle.trial.specs.Trial.{Round, rounds, send_all, triers}

-- so many ticks come
unfoldable pub after_ticks : ℕ → Stage → Stage
after_ticks zero s = s
after_ticks (suc n) s = ticked (after_ticks n s)

-- after so many rounds
unfoldable pub after : List ℕ → ℕ → Round
after ws n =
    rounds n (send_all (starting_frames ws) (record { model = empty; panes = triers 1 (panes_in ws); sent = [] }))

-- a party's write is among the frames
abbrev pub writes_among : ℕ → List (List ℕ) → Bool
writes_among party fs = anyb (λ f. eqb (byte_at f 0) op_write && eqb (byte_at f 1) party) fs

-- the rounds in which it writes, of the first n; they are counted from 1
unfoldable pub writes_in : List ℕ → ℕ → ℕ → List ℕ
writes_in ws party zero = []
writes_in ws party (suc n) =
    let before = writes_in ws party n in
    cond (writes_among party (drop (length (after ws n).sent) (after ws (suc n)).sent)) (before ++ (suc n ∷ [])) before

-- a pane: transaction lease, take's timeout, kind taken, lease of what it writes, kind written, hold
abbrev pane : ℕ → ℕ → ℕ → ℕ → ℕ → List ℕ
pane lease timeout taken written hold = lease ∷ timeout ∷ taken ∷ forever ∷ written ∷ hold ∷ []

-- a starting entry of a kind
abbrev entry : ℕ → List ℕ
entry kind = kind ∷ 0 ∷ 0 ∷ 0 ∷ forever ∷ []

-- it finds in round 2, by its own take
abbrev pub own_found : ℕ → List ℕ
own_found hold = (8 ∷ 1 ∷ 1 ∷ []) ++ pane forever 0 7 8 hold ++ entry 7

-- it finds in round 4, by the commit of the pane before it, which writes what it waits for
abbrev pub others_found : ℕ → List ℕ
others_found hold = (8 ∷ 2 ∷ 1 ∷ []) ++ pane forever 0 5 7 0 ++ pane forever forever 7 8 hold ++ entry 5

-- it finds by the tick of round 3, which ends the transaction that has taken the entry
abbrev pub tick_found : ℕ → List ℕ
tick_found hold = (8 ∷ 2 ∷ 1 ∷ []) ++ pane 3 0 7 8 50 ++ pane forever forever 7 8 hold ++ entry 7

-- found by a frame in round r, holds 0 and 1 write in r + 1 and hold h in r + h; found by its tick, in r + 1 + h
pub record HoldTable : Type 0 where
  -- whatever the hold: the write is sent once so many ticks have come, and nothing before, unless a record comes first
  pub every_hold : (p : Pane) (party : ℕ) (t : TxnId) (hold n : ℕ)
      → sends p party (after_ticks n (Holds t hold)) ≡ cond (leb hold n) (sends p party (Holds t 0)) None
  pub by_own_frame : map (λ h. writes_in (own_found h) 1 6) (0 ∷ 1 ∷ 2 ∷ 3 ∷ [])
      ≡ (3 ∷ []) ∷ (3 ∷ []) ∷ (4 ∷ []) ∷ (5 ∷ []) ∷ []
  pub by_others_frame : map (λ h. writes_in (others_found h) 2 7) (0 ∷ 1 ∷ 2 ∷ 3 ∷ [])
      ≡ (5 ∷ []) ∷ (5 ∷ []) ∷ (6 ∷ []) ∷ (7 ∷ []) ∷ []
  pub by_tick : map (λ h. writes_in (tick_found h) 2 7) (0 ∷ 1 ∷ 2 ∷ 3 ∷ [])
      ≡ (4 ∷ []) ∷ (5 ∷ []) ∷ (6 ∷ []) ∷ (7 ∷ []) ∷ []
