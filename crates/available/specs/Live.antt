-- Live transactions, as the code hands them on.
use Rattle.std.specs.Prelude.{ℕ, ◌≤◌, ◌≡◌, List, Option as Answer}
use Rattle.std.proofs.Math.Option.{Option, none, some}
use Rattle.rules.specs.declared.Txn.{Txn}
use Rattle.rules.specs.Holds.{live_txn}
use Rattle.rules.specs.Numbers.{max_txns}
use Rattle.rules.specs.Words.{view}
use Rattle.words.specs.Answers.{as_found}

abbrev pub live_of : Answer Txn → Option Txn
live_of r = as_found r

-- no slot, as a number: slots are below it
abbrev pub no_slot : ℕ
no_slot = max_txns

-- its slot among the read holders
abbrev pub slot_of : Option Txn → ℕ
slot_of none = no_slot
slot_of (some t) = t.slot

-- what the search for a transaction finds
pub record Finds (ws : List ℕ) (id : ℕ) (r : Answer Txn) : Type 0 where
  pub live : live_of r ≡ live_txn id (view ws).txns
  pub low : slot_of (live_of r) ≤ no_slot
