-- The search over a plan: what a transaction does to the set of present slots, and which order is the first that goes
-- through.
use Rattle.std.specs.Prelude.{ℕ, ◌+◌, ◌≤◌, ◌<◌, Bool, true, false, not, cond, ◌&&◌, ◌≡◌, Option, Some, None}
use Rattle.std.specs.Prelude.{List, [], ◌∷◌, length, get_or, set, take, drop, slice_range}
use Rattle.rules.specs.Lists.{All, distinct}
use Rattle.order.specs.declared.action.Kind.{Kind}
use Rattle.order.specs.declared.action.Kind.TheVariants.{Write, Read, Take}
use Rattle.order.specs.declared.plan.Step.{Step}
use Rattle.order.specs.Orders.{comes_before}

abbrev pub is_write : Kind → Bool
is_write Write = true
is_write Read = false
is_write Take = false

abbrev pub is_take : Kind → Bool
is_take Write = false
is_take Read = false
is_take Take = true

-- a read or a take whose entry is missing
unfoldable pub misses : Step → List Bool → Bool
misses s present = not (is_write s.kind) && not (get_or present s.slot false)

-- a step carried out: the entry is present then, but for a take
unfoldable pub after_step : Step → List Bool → List Bool
after_step s present = set present s.slot (not (is_take s.kind))

-- steps, one after another, until one's entry is missing
unfoldable pub after_steps : List Step → List Bool → Option (List Bool)
after_steps [] present = Some present
after_steps (s ∷ steps) present = let rest = after_steps steps (after_step s present) in
    cond (misses s present) None rest

-- the transaction at a position
unfoldable pub after_txn : List Step → List ℕ → ℕ → List Bool → Option (List Bool)
after_txn steps starts p present = after_steps (slice_range steps (get_or starts p 0) (get_or starts (p + 1) 0)) present

abbrev pub then_goes : (List Bool → Bool) → Option (List Bool) → Bool
then_goes f None = false
then_goes f (Some present) = f present

module _ (steps : List Step) (starts : List ℕ) where
  -- whether the transactions at some positions, one after another, are carried out
  unfoldable pub goes : List ℕ → List Bool → Bool
  goes [] present = true
  goes (p ∷ ps) present = then_goes (goes ps) (after_txn steps starts p present)

-- an order of what is left of n transactions once d are placed
pub record OrderOf (n d : ℕ) (left : List Bool) (ps : List ℕ) : Type 0 where
  pub as_many : d + length ps ≡ n
  pub positions : All (λ p. (p < n) × (get_or left p false ≡ true)) ps
  pub once : distinct ps ≡ true

module _ (steps : List Step) (starts : List ℕ) (n d : ℕ) (left present : List Bool) where
  -- the first order of what is left that goes through stands in `order` from d on; or none goes through
  pub record FirstGoes (order : List ℕ) : Type 0 where
    pub ps : List ℕ
    pub room : n ≤ length order
    pub stands : drop d (take n order) ≡ ps
    pub is_order : OrderOf n d left ps
    pub good : goes steps starts ps present ≡ true
    pub first : (qs : List ℕ) → OrderOf n d left qs → comes_before qs ps ≡ true → goes steps starts qs present ≡ false

  abbrev pub NoneGoes : Type 0
  NoneGoes = (qs : List ℕ) → OrderOf n d left qs → goes steps starts qs present ≡ false
