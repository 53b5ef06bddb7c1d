-- Service leaves no more entries than there were, and each look-up is answered or waits on.
use Prim.Native.Nat.{◌+◌, ◌≤◌}
use mathlib.Core.Bool.{cond, not}
use mathlib.Core.Path.{◌≡◌, refl}
use mathlib.Core.List.{List}
use native.Mathlib.Omega.{arith}
use lib.ListN.{length, length-map}
use Rattle.rules.specs.declared.Entry.{Entry}
use Rattle.rules.specs.declared.Txn.{Txn}
use Rattle.rules.specs.declared.LookUp.{LookUp}
use Rattle.rules.specs.LookUp.{removes, is_entry, marked, hand_out}
use Rattle.rules.specs.Service.{Served, serve}
use Rattle.rules.proofs.ListLaws.{length-filter}
use Rattle.rules.proofs.StepCases.{serve_ind}
use Rattle.rules.proofs.BoolLaws.{cond_cases}

pub hand_out-length : (ts : List Txn) (w : LookUp) (e : Entry) (es : List Entry)
    → length (hand_out ts w e es) ≤ length es
unfolding hand_out
hand_out-length ts w e es =
    cond_cases (λ (l : List Entry). length l ≤ length es) (removes w e)
    (λ q. length-filter (λ x. not (is_entry e x)) es)
    (λ q. omega (arith, length-map es (λ x. cond (is_entry e x) (marked ts w x) x)))

-- each look-up is answered or waits on
pub record ServeLength (es : List Entry) (ws : List LookUp) (r : Served) : Type 0 where
  pub entries : length r.entries ≤ length es
  pub waits : length r.waits + length r.records ≡ length ws

pub serve-length : (ts : List Txn) (es : List Entry) (ws : List LookUp) → ServeLength es ws (serve ts es ws)
serve-length ts es ws =
    serve_ind ts ServeLength (λ es. record { entries = omega arith; waits = refl })
    (λ es w ws q below. record { entries = below.entries; waits = omega (arith, below.waits) })
    (λ es w ws x q below. record {
      entries = omega (arith, below.entries, hand_out-length ts w x es);
      waits = omega (arith, below.waits);
    })
    es
    ws
