-- The wrong bounds, each by a run that is computed.
use Prim.Native.Nat.{ℕ, ◌≤◌}
use mathlib.Core.Path.{◌≡◌}
use mathlib.Core.List.{List, [], ◌∷◌, ◌++◌}
use native.Mathlib.Omega.{arith}
use Rattle.rules.specs.Frame.{four_bytes}
use Rattle.rules.specs.Numbers.{forever, op_write, op_read, op_create, op_tick, op_notify}
use Rattle.rules.proofs.Computed.{all-trays}
use Rattle.bounds.specs.Bounds.{many, bells_bound, records_bound}
use Rattle.bounds.specs.Within.{area_for}
use Rattle.bounds.specs.WrongBounds.{WrongBounds}

-- a frame of party 1 with a lease or timeout, and four fields of 0
abbrev long : ℕ → ℕ → List ℕ
long op time =
    (op ∷ 1 ∷ 0 ∷ 0 ∷ []) ++ four_bytes 0 ++ four_bytes time ++ four_bytes 0 ++ four_bytes 0 ++ four_bytes 0
    ++ four_bytes 0

abbrev create : List ℕ
create = (op_create ∷ 1 ∷ 0 ∷ 0 ∷ []) ++ four_bytes 0 ++ four_bytes 1

abbrev tick : List ℕ
tick = op_tick ∷ 0 ∷ 0 ∷ 0 ∷ []

pub wrong_bounds : WrongBounds
unfolding all-trays many bells_bound records_bound area_for
wrong_bounds =
    record {
      -- created; ticked, exception
      without_creates = λ kept. let few : 3 ≤ 2 = kept (create ∷ tick ∷ []) 1400 in omega (arith, few);
      -- waiting; ticked, nothing
      without_look_ups = λ kept. let few : 3 ≤ 2 = kept (long op_read 1 ∷ tick ∷ []) 1400 in omega (arith, few);
      -- notified; written, a bell
      without_bells = λ kept.
          let few : 3 ≤ 2 = kept (long op_notify forever ∷ long op_write forever ∷ []) 1400 in omega (arith, few);
      -- the notify comes behind the write
      with_all_notifies = λ same.
          let more : ◌≡◌ {A = ℕ} 3 2 = same (long op_write forever ∷ long op_notify forever ∷ []) in omega
          (arith, more);
      -- 28 bytes for a tick; 699
      records_alone = λ enough. let stops : ◌≡◌ {A = ℕ} 1 0 = enough (tick ∷ []) in omega (arith, stops);
      a_byte_less = λ enough. let stops : ◌≡◌ {A = ℕ} 1 0 = enough (tick ∷ tick ∷ []) in omega (arith, stops);
    }
