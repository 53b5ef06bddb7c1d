-- The frames of the four look-ups: what holds of each kind's operation.
use Prim.Native.Nat.{ℕ}
use mathlib.Core.Bool.{Bool, true, false}
use mathlib.Core.Path.{◌≡◌, refl}
use Rattle.rules.specs.declared.FindRequest.{FindRequest}
use Rattle.rules.specs.declared.Request.TheVariants.{Find}
use Rattle.rules.specs.Numbers.{op_read, op_take, op_read_if_exists, op_take_if_exists}
use Rattle.rules.specs.State.{Model}
use Rattle.rules.specs.Frame.{Frame, is_look_up, is_take, is_if_exists, look_up_op}
use Rattle.rules.specs.LookUp.{look_up}
use Rattle.rules.specs.Requests.{frame, frame_of}
use Rattle.rules.specs.Step.{own_part}

pub kind_cases : (P : ℕ → Type 0) (takes if_exists : Bool) → P op_read → P op_take → P op_read_if_exists
    → P op_take_if_exists
    → P (look_up_op takes if_exists)
kind_cases P false false r t re te = r
kind_cases P true false r t re te = t
kind_cases P false true r t re te = re
kind_cases P true true r t re te = te

pub looks_up : (takes if_exists : Bool) → is_look_up (look_up_op takes if_exists) ≡ true
looks_up takes if_exists = kind_cases (λ op. is_look_up op ≡ true) takes if_exists refl refl refl refl

-- the kind is read back
pub kind_back : (takes if_exists : Bool)
    → (is_take (look_up_op takes if_exists) ≡ takes) × (is_if_exists (look_up_op takes if_exists) ≡ if_exists)
kind_back false false = (refl, refl)
kind_back true false = (refl, refl)
kind_back false true = (refl, refl)
kind_back true true = (refl, refl)

-- a look-up's own part is one
pub own_find : (m : Model) (l : FindRequest) → look_up m (frame_of (Find l)) ≡ own_part m (frame_of (Find l))
unfolding own_part
own_find m l =
    let f : ℕ → Frame = λ op. frame op l.party l.mask l.txn.0 l.timeout l.fields in
    kind_cases (λ op. look_up m (f op) ≡ own_part m (f op)) l.takes l.if_exists refl refl refl refl
