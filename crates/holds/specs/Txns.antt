-- What the refusals leave of a create.
use Rattle.std.specs.Prelude.{ℕ, ◌<◌, length}
use Rattle.rules.specs.Numbers.{forever, max_txns}
use Rattle.rules.specs.State.{Model}
use Rattle.words.specs.Ends.{InTime}

-- none of 10, 12 and 13 applies
pub record Creatable (m : Model) (lease : ℕ) : Type 0 where
  pub in_time : InTime m.clock lease
  pub room : length m.txns < max_txns
  pub number : m.next_txn < forever
