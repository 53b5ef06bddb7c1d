-- The plan of a search: each action as a step, which has the slot of the action's number. The slot of a number is where
-- the number stands first among those handed in.
use Rattle.std.specs.Prelude.{ℕ, suc, ◌≤◌, ◌<◌, true, false, cond, ◌≡◌, List, [], ◌∷◌, map, eqb, length, get_or, take}
use Rattle.rules.specs.Lists.{All, distinct, joined}
use Rattle.order.specs.declared.action.Action.{Action}
use Rattle.order.specs.declared.plan.Step.{Step}
use Rattle.order.specs.Export.{written_by, words_of, Accepted}
use Rattle.order.specs.Reading.{slots}

-- where a number stands first
unfoldable pub slot_in : List ℕ → ℕ → ℕ
slot_in [] n = 0
slot_in (m ∷ ms) n = let later = slot_in ms n in cond (eqb m n) 0 (suc later)

abbrev pub numbers_of : List Action → List ℕ
numbers_of acts = map (λ (a : Action). a.number) acts

-- the slot of the number of the action at j
abbrev pub slot_at : List Action → ℕ → ℕ
slot_at acts j = slot_in (numbers_of acts) (get_or (numbers_of acts) j 0)

abbrev pub step_in : List ℕ → Action → Step
step_in numbers a = record { kind = a.kind; slot = slot_in numbers a.number }

-- the numbers that actions write
abbrev pub written_in : List Action → List ℕ
written_in acts = joined (map written_by acts)

-- every step has a slot below 48
abbrev pub AllPlaced : List Step → Type 0
AllPlaced steps = All (λ s. s.slot < slots) steps

-- the steps of actions that write no number twice, or a number is written twice by them
pub record Resolved (acts : List Action) (steps : List Step) : Type 0 where
  pub once : distinct (written_in acts) ≡ true
  pub are : take (length acts) steps ≡ map (step_in (numbers_of acts)) acts
  pub placed : AllPlaced steps

abbrev pub WrittenTwice : List Action → Type 0
WrittenTwice acts = distinct (written_in acts) ≡ false

-- the plan of transactions: the steps of their actions, one after another, by the slots among their numbers; `starts`
-- is as in `Holds`
pub record Plan (ts : List (List Action)) (steps : List Step) (starts : List ℕ) : Type 0 where
  pub few : length (joined ts) ≤ slots
  pub are : take (length (joined ts)) steps ≡ map (step_in (numbers_of (joined ts))) (joined ts)
  pub begins : (p : ℕ) → p ≤ length ts → get_or starts p 0 ≡ length (joined (take p ts))

-- the words stand for transactions that are accepted, and their plan is made; or they stand for none
pub record Planned (words : List ℕ) (n : ℕ) (steps : List Step) (starts : List ℕ) : Type 0 where
  pub ts : List (List Action)
  pub as_many : n ≡ length ts
  pub stand_for : words ≡ words_of ts
  pub accepted : Accepted ts
  pub plan : Plan ts steps starts

abbrev pub Unplanned : List ℕ → Type 0
Unplanned words = (ts : List (List Action)) → words ≡ words_of ts → Accepted ts → ⊥
