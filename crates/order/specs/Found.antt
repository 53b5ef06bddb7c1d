-- What the search ensures: the answer, and the bytes of `order` then (document 02, T-12).
use Rattle.std.specs.Prelude.{ℕ, ◌≤◌, ◌*◌, ◌≡◌, List, ◌++◌, length, drop}
use Rattle.rules.specs.Numbers.{order_refused}
use Rattle.order.specs.declared.action.Action.{Action}
use Rattle.order.specs.Export.{words_of, Accepted}
use Rattle.order.specs.Orders.{First, NoneSucceeds}

-- the words stand for transactions that are accepted, and their positions fit into `order`
pub record HandedIn (words order : List ℕ) (ts : List (List Action)) : Type 0 where
  pub stand_for : words ≡ words_of ts
  pub accepted : Accepted ts
  pub fits : length ts ≤ length order

-- 1 with the first order that succeeds, 0 where none does, 65,536 × 22 where nothing of the kind is handed in
pub data OrderFound (words order : List ℕ) : ℕ → List ℕ → Type 0 where
  found : (ts : List (List Action)) → HandedIn words order ts
      → (ps : List ℕ) → First ts ps
      → OrderFound words order 1 (ps ++ drop (length ts) order)
  none_found : (ts : List (List Action)) → HandedIn words order ts
      → NoneSucceeds ts
      → OrderFound words order 0 order
  refused : ((ts : List (List Action)) → HandedIn words order ts → ⊥)
      → OrderFound words order (65536 * order_refused) order
