-- The table of operations, operation by operation.
use Prim.Native.Nat.{ℕ, zero, suc}
use mathlib.Core.Bool.{Bool, true, false, true≢false}
use mathlib.Core.Path.{◌≡◌, refl, sym}
use Rattle.rules.specs.Numbers.{op_write, op_read, op_take, op_read_if_exists, op_take_if_exists, op_create, op_commit}
use Rattle.rules.specs.Numbers.{op_abort, op_tick, op_notify, op_renew}
use Rattle.rules.specs.Frame.{layout_of, frame_length, is_operation, look_up_op}

-- what holds of every operation
pub op_cases : (P : ℕ → Type 0) (op : ℕ) → is_operation op ≡ true
    → P op_write → P op_read → P op_take → P op_read_if_exists → P op_take_if_exists → P op_create → P op_commit
    → P op_abort
    → P op_tick → P op_notify → P op_renew
    → P op
unfolding layout_of
op_cases P op is p1 p2 p3 p4 p5 p6 p7 p8 p9 p10 p11 = go op is
  where
    go : (n : ℕ) → is_operation n ≡ true → P n
    go zero t = absurd (true≢false (sym t))
    go (suc zero) t = p1
    go (suc (suc zero)) t = p2
    go (suc (suc (suc zero))) t = p3
    go (suc (suc (suc (suc zero)))) t = p4
    go (suc (suc (suc (suc (suc zero))))) t = p5
    go (suc (suc (suc (suc (suc (suc zero)))))) t = p6
    go (suc (suc (suc (suc (suc (suc (suc zero))))))) t = p7
    go (suc (suc (suc (suc (suc (suc (suc (suc zero)))))))) t = p8
    go (suc (suc (suc (suc (suc (suc (suc (suc (suc zero))))))))) t = p9
    go (suc (suc (suc (suc (suc (suc (suc (suc (suc (suc zero)))))))))) t = p10
    go (suc (suc (suc (suc (suc (suc (suc (suc (suc (suc (suc zero))))))))))) t = p11
    go (suc (suc (suc (suc (suc (suc (suc (suc (suc (suc (suc (suc n)))))))))))) t = absurd (true≢false (sym t))

-- a frame ends behind its first four bytes, its transaction, its lease or its fields
pub length_cases : (P : ℕ → Type 0) (op : ℕ) → is_operation op ≡ true → P 4 → P 8 → P 12 → P 28 → P (frame_length op)
unfolding frame_length layout_of
length_cases P op is p4 p8 p12 p28 = op_cases (λ n. P (frame_length n)) op is p28 p28 p28 p28 p28 p12 p8 p8 p4 p28 p12

-- the operation of each kind of look-up, and its length
pub find_op : (takes if_exists : Bool)
    → (is_operation (look_up_op takes if_exists) ≡ true) × (frame_length (look_up_op takes if_exists) ≡ 28)
unfolding frame_length layout_of
find_op true true = (refl, refl)
find_op true false = (refl, refl)
find_op false true = (refl, refl)
find_op false false = (refl, refl)
