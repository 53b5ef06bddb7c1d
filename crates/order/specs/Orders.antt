-- Orders of transactions, and which of them succeed: "Its meaning is that of document 01's serial run, leases and
-- fields not considered" (document 02, T-12).
use Rattle.std.specs.Prelude.{ℕ, ◌<◌, Bool, true, false, ◌&&◌, ◌||◌, ◌≡◌, List, [], ◌∷◌, map, eqb, ltb, length, get_or}
use Rattle.rules.specs.declared.until.Until.TheVariants.{Forever}
use Rattle.rules.specs.Lists.{All, distinct, joined}
use Rattle.rules.specs.Records.{no_mark}
use Rattle.rules.specs.SerialRun.{Operation, adds, finds, start, carry_out_all}
use Rattle.order.specs.declared.action.Kind.{Kind}
use Rattle.order.specs.declared.action.Kind.TheVariants.{Write, Read, Take}
use Rattle.order.specs.declared.action.Action.{Action}

-- an action as an operation of the serial run: every entry has the same fields, and none ends
abbrev pub operation_as : Kind → ℕ → Operation
operation_as Write n = adds (record { number = n; fields = no_mark; end = Forever })
operation_as Read n = finds false n no_mark
operation_as Take n = finds true n no_mark

abbrev pub operation_of : Action → Operation
operation_of a = operation_as a.kind a.number

-- the operations of the transactions at some positions, "counted from 0", one transaction after the other
unfoldable pub operations_at : List (List Action) → List ℕ → List Operation
operations_at ts ps = joined (map (λ p. map operation_of (get_or ts p [])) ps)

-- whether "the serial run from an empty plain set succeeds"
unfoldable pub succeeds : List (List Action) → List ℕ → Bool
succeeds ts ps = (carry_out_all (operations_at ts ps) start).succeeds

-- an order: "lists of the positions handed in", each of them once
pub record IsOrder (ts : List (List Action)) (ps : List ℕ) : Type 0 where
  pub as_many : length ps ≡ length ts
  pub positions : All (λ p. p < length ts) ps
  pub once : distinct ps ≡ true

-- "first when orders .. are compared place by place"
unfoldable pub comes_before : List ℕ → List ℕ → Bool
comes_before [] qs = false
comes_before (p ∷ ps) [] = false
comes_before (p ∷ ps) (q ∷ qs) = ltb p q || eqb p q && comes_before ps qs

-- "of several, the one first": it succeeds, and every order before it fails
pub record First (ts : List (List Action)) (ps : List ℕ) : Type 0 where
  pub order : IsOrder ts ps
  pub good : succeeds ts ps ≡ true
  pub first : (qs : List ℕ) → IsOrder ts qs → comes_before qs ps ≡ true → succeeds ts qs ≡ false

-- "exactly when no order succeeds"
abbrev pub NoneSucceeds : List (List Action) → Type 0
NoneSucceeds ts = (qs : List ℕ) → IsOrder ts qs → succeeds ts qs ≡ false
