-- Wrong answers that the search's contract rules out, each by words that are handed in.
use Rattle.std.specs.Prelude.{ℕ, ◌*◌, List, [], ◌∷◌}
use Rattle.rules.specs.Numbers.{order_refused}
use Rattle.order.specs.Found.{OrderFound}

pub record WrongOrders : Type 0 where
  -- two writes: both orders succeed, and the last is given
  pub last_order : OrderFound (2 ∷ 1 ∷ 1 ∷ 5 ∷ 1 ∷ 1 ∷ 6 ∷ []) (9 ∷ 9 ∷ []) 1 (1 ∷ 0 ∷ []) → ⊥
  -- a take, and its write: the take comes first
  pub take_before_write : OrderFound (2 ∷ 1 ∷ 3 ∷ 5 ∷ 1 ∷ 1 ∷ 5 ∷ []) (9 ∷ 9 ∷ []) 1 (0 ∷ 1 ∷ []) → ⊥
  -- none is reported though the other order succeeds
  pub none_though_one : (o : List ℕ) → OrderFound (2 ∷ 1 ∷ 3 ∷ 5 ∷ 1 ∷ 1 ∷ 5 ∷ []) (9 ∷ 9 ∷ []) 0 o → ⊥
  -- an entry written and taken is read
  pub read_behind_take : (o : List ℕ) → OrderFound (1 ∷ 3 ∷ 1 ∷ 5 ∷ 3 ∷ 5 ∷ 2 ∷ 5 ∷ []) (9 ∷ []) 1 o → ⊥
  -- a write counted twice: its entry is taken twice, by one transaction and by two
  pub taken_twice_by_one : (o : List ℕ) → OrderFound (1 ∷ 3 ∷ 1 ∷ 5 ∷ 3 ∷ 5 ∷ 3 ∷ 5 ∷ []) (9 ∷ []) 1 o → ⊥
  pub taken_twice_by_two : OrderFound (2 ∷ 2 ∷ 1 ∷ 5 ∷ 3 ∷ 5 ∷ 1 ∷ 3 ∷ 5 ∷ []) (9 ∷ 9 ∷ []) 1 (0 ∷ 1 ∷ []) → ⊥
  -- a number written twice, in one transaction and in two
  pub twice_in_one : (o : List ℕ) → OrderFound (1 ∷ 2 ∷ 1 ∷ 5 ∷ 1 ∷ 5 ∷ []) (9 ∷ []) 1 o → ⊥
  pub twice_in_two : (o : List ℕ) → OrderFound (2 ∷ 1 ∷ 1 ∷ 5 ∷ 1 ∷ 1 ∷ 5 ∷ []) (9 ∷ 9 ∷ []) 1 o → ⊥
  -- seven transactions
  pub seven : (o : List ℕ) → OrderFound (7 ∷ 0 ∷ 0 ∷ 0 ∷ 0 ∷ 0 ∷ 0 ∷ 0 ∷ []) (9 ∷ 9 ∷ 9 ∷ 9 ∷ 9 ∷ 9 ∷ 9 ∷ []) 1 o → ⊥
  -- a byte behind the positions is changed, or `order` where none is found
  pub byte_behind : OrderFound (0 ∷ []) (9 ∷ []) 1 (0 ∷ []) → ⊥
  pub none_and_changed : OrderFound (1 ∷ 1 ∷ 2 ∷ 5 ∷ []) (9 ∷ []) 0 (0 ∷ []) → ⊥
  -- what is accepted is refused
  pub refused_though_fit : (o : List ℕ) → OrderFound (0 ∷ []) [] (65536 * order_refused) o → ⊥
