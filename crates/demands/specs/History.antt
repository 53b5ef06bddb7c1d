-- Histories: lists of frames handed in order, each to the space that the one before it left. Refused ones stand in
-- them.
use Rattle.std.specs.Prelude.{List, [], ◌∷◌, map}
use Rattle.rules.specs.Allowed.{Answered}
use Rattle.rules.specs.SerialRun.{Logged}
use Rattle.demands.specs.Machine.{Handed, Input, input_of, Machine}

abbrev pub logged : Handed → Answered → Logged
logged h a = record { frame = h.frame; records = a.records }

-- from a state to a state
pub data History (S : Machine) : S.State → List Logged → S.State → Type 0 where
  begun : (s : S.State) → History S s [] s
  handed : {s t u : S.State} {log : List Logged} (h : Handed) (a : Answered) → S.Steps s h t a → History S t log u
      → History S s (logged h a ∷ log) u

-- what was handed in, and what was answered, in order
unfoldable pub handed_of : {S : Machine} {s t : S.State} {log : List Logged} → History S s log t → List Handed
handed_of (begun s) = []
handed_of (handed h a p rest) = h ∷ handed_of rest

unfoldable pub answers_of : {S : Machine} {s t : S.State} {log : List Logged} → History S s log t → List Answered
answers_of (begun s) = []
answers_of (handed h a p rest) = a ∷ answers_of rest

-- a state that frames make of an empty space, with the log of them
abbrev pub Made : (S : Machine) → List Logged → S.State → Type 0
Made S log t = (s : S.State) × S.Empty s × History S s log t

-- its frames, with the lengths of their answers areas
abbrev pub inputs_of : {S : Machine} {log : List Logged} {t : S.State} → Made S log t → List Input
inputs_of made = map input_of (handed_of made.2)

-- what holds of every state, with its log, and of every step, after every history
abbrev pub EveryState : (S : Machine) → (List Logged → S.State → Type 0) → Type 0
EveryState S P = (log : List Logged) (t : S.State) → Made S log t → P log t

abbrev pub EveryStep : (S : Machine) → (S.State → Handed → S.State → Answered → Type 0) → Type 0
EveryStep S P = (log : List Logged) (t u : S.State) (h : Handed) (a : Answered)
    → Made S log t → S.Steps t h u a → P t h u a
