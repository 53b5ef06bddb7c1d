-- What reading the words ensures: the actions in one array, and where each transaction's begin.
use Rattle.std.specs.Prelude.{ℕ, ◌+◌, ◌≤◌, ◌≡◌, List, ◌++◌, length, get_or, take}
use Rattle.rules.specs.Lists.{All, joined}
use Rattle.order.specs.declared.action.Action.{Action}
use Rattle.order.specs.Export.{txn_words, words_of}

-- at most this many transactions, actions in one, and actions in all
abbrev pub max_txns : ℕ
max_txns = 6

abbrev pub max_actions : ℕ
max_actions = 8

abbrev pub slots : ℕ
slots = 48

-- "up to 8 actions": a transaction is read from the front of some words into the array, from `len` on; or no such
-- transaction stands there
pub record TxnRead (words : List ℕ) (len : ℕ) (actions actions' : List Action) (end : ℕ) (rest : List ℕ) : Type 0 where
  pub txn : List Action
  pub few : length txn ≤ max_actions
  pub stand_for : words ≡ txn_words txn ++ rest
  pub ends : end ≡ len + length txn
  pub are : take end actions' ≡ take len actions ++ txn

abbrev pub NoTxn : List ℕ → Type 0
NoTxn words = (txn : List Action) (rest : List ℕ) → words ≡ txn_words txn ++ rest → length txn ≤ max_actions → ⊥

-- the array holds the actions of the transactions one after another; `starts` has where each transaction's begin, and
-- behind them where the last one's end
pub record Holds (ts : List (List Action)) (actions : List Action) (starts : List ℕ) : Type 0 where
  pub are : take (length (joined ts)) actions ≡ joined ts
  pub begins : (p : ℕ) → p ≤ length ts → get_or starts p 0 ≡ length (joined (take p ts))
  pub within : (p : ℕ) → get_or starts p 0 ≤ slots

-- "up to 6 transactions of up to 8 actions each"
pub record Few (ts : List (List Action)) : Type 0 where
  pub transactions : length ts ≤ max_txns
  pub actions : All (λ t. length t ≤ max_actions) ts

-- the transactions that the words stand for are read, or the words stand for no such transactions
pub record ExportRead (words : List ℕ) (n : ℕ) (actions : List Action) (starts : List ℕ) : Type 0 where
  pub ts : List (List Action)
  pub as_many : n ≡ length ts
  pub stand_for : words ≡ words_of ts
  pub few : Few ts
  pub holds : Holds ts actions starts

abbrev pub NoExport : List ℕ → Type 0
NoExport words = (ts : List (List Action)) → words ≡ words_of ts → Few ts → ⊥
