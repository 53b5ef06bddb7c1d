-- "Study exports hold transactions without their order": what is handed in (document 02, T-12).
use Rattle.std.specs.Prelude.{ℕ, ◌≤◌, true, ◌≡◌, Result, MatchResult, List, [], ◌∷◌, map, length}
use Rattle.rules.specs.Lists.{All, distinct, joined}
use Rattle.order.specs.declared.action.Kind.{Kind}
use Rattle.order.specs.declared.action.Kind.TheVariants.{Write, Read, Take}
use Rattle.order.specs.declared.action.Action.{Action}

-- "write of a number, found read, found take"
abbrev pub writes : ℕ → Action
writes n = record { kind = Write; number = n }

abbrev pub reads : ℕ → Action
reads n = record { kind = Read; number = n }

abbrev pub takes : ℕ → Action
takes n = record { kind = Take; number = n }

-- an action's two words: its kind, and its number
abbrev pub kind_word : Kind → ℕ
kind_word Write = 1
kind_word Read = 2
kind_word Take = 3

abbrev pub action_words : Action → List ℕ
action_words a = kind_word a.kind ∷ a.number ∷ []

-- a word tells a kind, or is none's
abbrev pub IsKindOf : ℕ → Result Kind (Unit {0}) → Type 0
IsKindOf word r = MatchResult r (λ kind. kind_word kind ≡ word) (λ e. (kind : Kind) → kind_word kind ≡ word → ⊥)

-- a transaction's words: the number of its actions, then the actions
unfoldable pub txn_words : List Action → List ℕ
txn_words t = length t ∷ joined (map action_words t)

-- the words handed in: the number of transactions, then the transactions
unfoldable pub words_of : List (List Action) → List ℕ
words_of ts = length ts ∷ joined (map txn_words ts)

abbrev pub written_as : Kind → ℕ → List ℕ
written_as Write n = n ∷ []
written_as Read n = []
written_as Take n = []

abbrev pub written_by : Action → List ℕ
written_by a = written_as a.kind a.number

-- the numbers written, once for each write
unfoldable pub written : List (List Action) → List ℕ
written ts = joined (map written_by (joined ts))

-- "up to 6 transactions of up to 8 actions each .., with each number written at most once"
pub record Accepted (ts : List (List Action)) : Type 0 where
  pub transactions : length ts ≤ 6
  pub actions : All (λ t. length t ≤ 8) ts
  pub written_once : distinct (written ts) ≡ true
