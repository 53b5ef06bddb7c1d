-- The table of operations: what its rows say of each operation, and with what a frame of each finishes.
use Prim.Native.Nat.{ℕ, zero, suc, ◌≤◌}
use mathlib.Core.Bool.{true, false, not, ◌&&◌, ◌||◌, or-false, true≢false}
use mathlib.Core.Path.{◌≡◌, refl}
use native.Mathlib.Omega.{arith}
use borrow.Author.Tests.{eqb-true, leb-true}
use lib.Dec.{eqb, leb, ltb}
use Rattle.rules.specs.Numbers.{op_write, op_read, op_take, op_read_if_exists, op_take_if_exists, op_create, op_commit}
use Rattle.rules.specs.Numbers.{op_abort, op_tick, op_notify, op_renew}
use Rattle.rules.specs.State.{Model}
use Rattle.rules.specs.Frame.{Frame, layout_of, is_operation, is_write, is_look_up, is_create, is_commit, is_abort}
use Rattle.rules.specs.Frame.{is_tick, is_notify, is_renew, names_entry, look_up_op, is_take, is_if_exists, serves}
use Rattle.rules.specs.Frame.{has_lease_or_timeout, names_no_txn, ends_txn}
use Rattle.rules.specs.Refusals.{bad_blanks, malformed}
use Rattle.rules.specs.Closing.{close_waits}
use Rattle.rules.specs.Step.{finish}
use Rattle.rules.proofs.BoolLaws.{and_left, and_right, twice_not}
use Rattle.rules.proofs.OperationLaws.{op_cases}

-- what holds of the four look-ups' operations
pub look_up_cases : (P : ℕ → Type 0) (op : ℕ) → is_look_up op ≡ true
    → P op_read → P op_take → P op_read_if_exists → P op_take_if_exists → P op
look_up_cases P op e p2 p3 p4 p5 =
    go op (leb-true op_read op (and_left _ (leb op op_take_if_exists) e))
    (leb-true op op_take_if_exists (and_right (leb op_read op) _ e))
  where
    go : (n : ℕ) → op_read ≤ n → n ≤ op_take_if_exists → P n
    go zero l h = absurd (omega arith)
    go (suc zero) l h = absurd (omega arith)
    go (suc (suc zero)) l h = p2
    go (suc (suc (suc zero))) l h = p3
    go (suc (suc (suc (suc zero)))) l h = p4
    go (suc (suc (suc (suc (suc zero))))) l h = p5
    go (suc (suc (suc (suc (suc (suc n)))))) l h = absurd (omega arith)

-- they have one layout, and the operation is that of its kind
pub look_up-layout : (op : ℕ) → is_look_up op ≡ true → layout_of op ≡ layout_of op_read
unfolding layout_of
look_up-layout op e = look_up_cases (λ n. layout_of n ≡ layout_of op_read) op e refl refl refl refl

pub look_up-op : (op : ℕ) → is_look_up op ≡ true → look_up_op (is_take op) (is_if_exists op) ≡ op
look_up-op op e = look_up_cases (λ n. look_up_op (is_take n) (is_if_exists n) ≡ n) op e refl refl refl refl

-- 4, of a write
pub write_form : (f : Frame) → f.op ≡ op_write
    → malformed f ≡ (not (eqb f.byte3 0) || ltb 15 f.mask || bad_blanks f.mask f.fields)
unfolding malformed layout_of
write_form f e = rw e (simp or-false)

-- an operation that is none of the others is tick
pub left_is_tick : (op : ℕ) → is_operation op ≡ true → is_write op ≡ false → is_look_up op ≡ false → is_create op
    ≡ false
    → is_commit op ≡ false → is_abort op ≡ false → is_renew op ≡ false → is_notify op ≡ false → is_tick op ≡ true
left_is_tick op is =
    op_cases (λ n. is_write n ≡ false → is_look_up n ≡ false → is_create n ≡ false → is_commit n ≡ false
    → is_abort n ≡ false → is_renew n ≡ false → is_notify n ≡ false → is_tick n ≡ true) op is
    (λ w l c k a r n. absurd (true≢false w)) (λ w l c k a r n. absurd (true≢false l))
    (λ w l c k a r n. absurd (true≢false l)) (λ w l c k a r n. absurd (true≢false l))
    (λ w l c k a r n. absurd (true≢false l)) (λ w l c k a r n. absurd (true≢false c))
    (λ w l c k a r n. absurd (true≢false k)) (λ w l c k a r n. absurd (true≢false a)) (λ w l c k a r n. refl)
    (λ w l c k a r n. absurd (true≢false n)) (λ w l c k a r n. absurd (true≢false r))

-- a frame after which service does not follow, and that is no tick, is over but for who waits in vain
module _ (f : Frame) (m : Model) where
  pub finish-quiet : is_tick f.op ≡ false → serves f ≡ false → finish f m ≡ close_waits m
  unfolding finish
  finish-quiet t s = rw (t, s)

-- which those are
module _ (f : Frame) where
  pub write-serves : is_write f.op ≡ true → serves f ≡ eqb f.txn 0
  unfolding serves layout_of
  write-serves e = go f.op f.txn (eqb-true f.op op_write e)
    where
      go : (op t : ℕ) → op ≡ op_write → ((layout_of op).serves && not (is_write op && not (eqb t 0))) ≡ eqb t 0
      go op t q = rw q (twice_not (eqb t 0))

  pub look_up-serves : is_look_up f.op ≡ true → serves f ≡ false
  unfolding serves layout_of
  look_up-serves e = rw (look_up-layout f.op e)

  pub create-serves : is_create f.op ≡ true → serves f ≡ false
  unfolding serves layout_of
  create-serves e = rw (eqb-true f.op op_create e)

  pub commit-serves : is_commit f.op ≡ true → serves f ≡ true
  unfolding serves layout_of
  commit-serves e = rw (eqb-true f.op op_commit e)

  pub abort-serves : is_abort f.op ≡ true → serves f ≡ true
  unfolding serves layout_of
  abort-serves e = rw (eqb-true f.op op_abort e)

  pub renew-serves : is_renew f.op ≡ true → serves f ≡ false
  unfolding serves layout_of
  renew-serves e = rw (eqb-true f.op op_renew e)

  pub notify-serves : is_notify f.op ≡ true → serves f ≡ false
  unfolding serves layout_of
  notify-serves e = rw (eqb-true f.op op_notify e)

  pub tick-serves : is_tick f.op ≡ true → serves f ≡ true
  unfolding serves layout_of
  tick-serves e = rw (eqb-true f.op op_tick e)

-- and none of them but tick is tick
pub write-not-tick : (op : ℕ) → is_write op ≡ true → is_tick op ≡ false
write-not-tick op e = rw (eqb-true op op_write e)

pub look_up-not-tick : (op : ℕ) → is_look_up op ≡ true → is_tick op ≡ false
look_up-not-tick op e = look_up_cases (λ n. is_tick n ≡ false) op e refl refl refl refl

pub look_up-not-abort : (op : ℕ) → is_look_up op ≡ true → is_abort op ≡ false
look_up-not-abort op e = look_up_cases (λ n. is_abort n ≡ false) op e refl refl refl refl

pub write-not-abort : (op : ℕ) → is_write op ≡ true → is_abort op ≡ false
write-not-abort op e = rw (eqb-true op op_write e)

pub commit-not-abort : (op : ℕ) → is_commit op ≡ true → is_abort op ≡ false
commit-not-abort op e = rw (eqb-true op op_commit e)

pub create-not-tick : (op : ℕ) → is_create op ≡ true → is_tick op ≡ false
create-not-tick op e = rw (eqb-true op op_create e)

pub commit-not-tick : (op : ℕ) → is_commit op ≡ true → is_tick op ≡ false
commit-not-tick op e = rw (eqb-true op op_commit e)

pub abort-not-tick : (op : ℕ) → is_abort op ≡ true → is_tick op ≡ false
abort-not-tick op e = rw (eqb-true op op_abort e)

pub renew-not-tick : (op : ℕ) → is_renew op ≡ true → is_tick op ≡ false
renew-not-tick op e = rw (eqb-true op op_renew e)

pub notify-not-tick : (op : ℕ) → is_notify op ≡ true → is_tick op ≡ false
notify-not-tick op e = rw (eqb-true op op_notify e)

pub notify-not-abort : (op : ℕ) → is_notify op ≡ true → is_abort op ≡ false
notify-not-abort op e = rw (eqb-true op op_notify e)

pub renew-not-abort : (op : ℕ) → is_renew op ≡ true → is_abort op ≡ false
renew-not-abort op e = rw (eqb-true op op_renew e)

pub write-names : (op : ℕ) → is_write op ≡ true → names_entry op ≡ false
unfolding layout_of
write-names op e = rw (eqb-true op op_write e)

pub look_up-names : (op : ℕ) → is_look_up op ≡ true → names_entry op ≡ false
unfolding layout_of
look_up-names op e = rw (look_up-layout op e)

-- renew alone names an entry
pub entry_is : (op : ℕ) → is_operation op ≡ true → names_entry op ≡ is_renew op
unfolding layout_of
entry_is op is =
    op_cases (λ n. names_entry n ≡ is_renew n) op is refl refl refl refl refl refl refl refl refl refl refl

-- commit and abort end a transaction
pub commit-ends : (op : ℕ) → is_commit op ≡ true → ends_txn op ≡ true
unfolding layout_of
commit-ends op e = rw (eqb-true op 7 e)

pub abort-ends : (op : ℕ) → is_abort op ≡ true → ends_txn op ≡ true
unfolding layout_of
abort-ends op e = rw (eqb-true op 8 e)

-- a write, a look-up, a create, a renewal and a notify have a lease or a timeout
pub write_leases : (op : ℕ) → is_write op ≡ true → has_lease_or_timeout op ≡ true
unfolding layout_of
write_leases op e = rw (eqb-true op 1 e)

pub look_up_leases : (op : ℕ) → is_look_up op ≡ true → has_lease_or_timeout op ≡ true
unfolding layout_of
look_up_leases op e = rw (look_up-layout op e)

pub create_leases : (op : ℕ) → is_create op ≡ true → has_lease_or_timeout op ≡ true
unfolding layout_of
create_leases op e = rw (eqb-true op 6 e)

pub renew_leases : (op : ℕ) → is_renew op ≡ true → has_lease_or_timeout op ≡ true
unfolding layout_of
renew_leases op e = rw (eqb-true op op_renew e)

pub notify_leases : (op : ℕ) → is_notify op ≡ true → has_lease_or_timeout op ≡ true
unfolding layout_of
notify_leases op e = rw (eqb-true op op_notify e)

pub notify-outside : (op : ℕ) → is_notify op ≡ true → names_no_txn op ≡ true
unfolding layout_of
notify-outside op e = rw (eqb-true op op_notify e)

pub renew-names : (op : ℕ) → is_renew op ≡ true → names_entry op ≡ true
unfolding layout_of
renew-names op e = rw (eqb-true op op_renew e)
