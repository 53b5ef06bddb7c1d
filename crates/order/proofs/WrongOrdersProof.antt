-- Wrong answers are ruled out.
use Prim.Native.Nat.{ℕ, ◌*◌, ◌≤◌, ◌<◌}
use mathlib.Core.Bool.{true, false, not, true≢false}
use mathlib.Core.Path.{◌≡◌, refl, sym, ap, ◌∙◌, subst}
use mathlib.Core.List.Memᴰ
use mathlib.Core.List.{List, [], ◌∷◌, ◌++◌}
use native.Mathlib.Omega.{arith}
use borrow.Author.Tests.{ltb-true, not-false}
use lib.Dec.{ltb}
use lib.ListN.{length, get_or, take, drop}
use lib.Seq.{take_at, take_all}
use Rattle.rules.specs.Lists.{All, anyb, distinct}
use Rattle.rules.specs.Numbers.{order_refused}
use Rattle.rules.specs.SerialRun.{same_fields, is_kept, failed, taking, carry_out, carry_out_all}
use Rattle.rules.proofs.ListLaws.{none_mem}
use Rattle.order.specs.declared.action.Action.{Action}
use Rattle.order.specs.Export.{writes, reads, takes, txn_words, words_of, written, Accepted}
use Rattle.order.specs.Orders.{operations_at, succeeds, IsOrder, comes_before, First, NoneSucceeds}
use Rattle.order.specs.Found.{OrderFound, found, none_found, refused}
use Rattle.order.specs.WrongOrders.{WrongOrders}
use Rattle.order.proofs.TxnLaws.{same_words}

-- what an answer says of the transactions that are handed in
pub record One (ts : List (List Action)) (order o : List ℕ) : Type 0 where
  accepted : Accepted ts
  positions : List ℕ
  first : First ts positions
  bytes : o ≡ positions ++ drop (length ts) order

one : (ts : List (List Action)) {words order o : List ℕ} {r : ℕ} → words ≡ words_of ts → OrderFound words order r o
    → r ≡ 1 → One ts order o
one ts e a t = go a e t
  where
    go : {words order o : List ℕ} {r : ℕ} → OrderFound words order r o → words ≡ words_of ts → r ≡ 1 → One ts order o
    go {order = order} (found us h ps f) e t =
        subst (λ vs. One vs order (ps ++ drop (length us) order)) (same_words us ts (sym h.stand_for ∙ e))
        (record { accepted = h.accepted; positions = ps; first = f; bytes = refl })
    go (none_found us h z) e t = absurd (omega arith)
    go (refused z) e t = absurd (omega arith)

-- the positions, where nothing stands behind them
are : (ts : List (List Action)) {order ps : List ℕ} → length ps ≡ length ts → (a : One ts order ps) → a.positions ≡ ps
are ts {order} {ps} n a =
    sym (take_at a.positions (drop (length ts) order) (length ts) a.first.order.as_many)
    ∙ ap (take (length ts)) (sym a.bytes) ∙ take_all (length ts) ps (omega arith)

only_zero : (ps : List ℕ) → length ps ≡ 1 → All (λ p. p < 1) ps → ps ≡ 0 ∷ []
only_zero [] n h = absurd (omega arith)
only_zero (p ∷ []) n h =
    let l = h p (Memᴰ.head refl) in
    let z : p ≡ 0 = omega arith in
    ap {B = List ℕ} (λ q. q ∷ []) z
only_zero (p ∷ q ∷ ps) n h = absurd (omega arith)

-- an order that fails is not given, nor one of a transaction that fails alone
fails : (ts : List (List Action)) {order : List ℕ} (ps : List ℕ) → length ps ≡ length ts → succeeds ts ps ≡ false
    → One ts order ps → ⊥
fails ts ps n f a = true≢false (sym (subst (First ts) (are ts n a) a.first).good ∙ f)

alone_fails : (t : List Action) {order o : List ℕ} → succeeds (t ∷ []) (0 ∷ []) ≡ false → One (t ∷ []) order o → ⊥
alone_fails t f a =
    let is = only_zero a.positions a.first.order.as_many a.first.order.positions in
    true≢false (sym (subst (First (t ∷ [])) is a.first).good ∙ f)

is_order : (ts : List (List Action)) (ps : List ℕ) → length ps ≡ length ts
    → anyb (λ p. not (ltb p (length ts))) ps ≡ false → distinct ps ≡ true → IsOrder ts ps
is_order ts ps n low d =
    record {
      as_many = n;
      positions = λ p i. ltb-true p (length ts) (not-false _ (none_mem (λ q. not (ltb q (length ts))) low i));
      once = d;
    }

-- none
none_found_there : (ts : List (List Action)) {words order o : List ℕ} {r : ℕ} → words ≡ words_of ts
    → OrderFound words order r o → r ≡ 0 → NoneSucceeds ts × (o ≡ order)
none_found_there ts e a t = go a e t
  where
    go : {words order o : List ℕ} {r : ℕ} → OrderFound words order r o → words ≡ words_of ts → r ≡ 0
        → NoneSucceeds ts × (o ≡ order)
    go (found us h ps f) e t = absurd (omega arith)
    go {order = order} (none_found us h z) e t =
        (subst NoneSucceeds (same_words us ts (sym h.stand_for ∙ e)) z, refl)
    go (refused z) e t = absurd (omega arith)

not-refused : (ts : List (List Action)) {words order o : List ℕ} {r : ℕ} → words ≡ words_of ts → Accepted ts
    → length ts ≤ length order → OrderFound words order r o → r ≡ 65536 * order_refused → ⊥
not-refused ts e acc fits a t = go a e fits t
  where
    go : {words order o : List ℕ} {r : ℕ} → OrderFound words order r o → words ≡ words_of ts → length ts ≤ length order
        → r ≡ 65536 * order_refused → ⊥
    go (found us h ps f) e fits t = omega arith
    go (none_found us h z) e fits t = omega arith
    go (refused z) e fits t = z ts (record { stand_for = e; accepted = acc; fits = fits })

take_and_write : List (List Action)
take_and_write = (takes 5 ∷ []) ∷ (writes 5 ∷ []) ∷ []

pub each_wrong : WrongOrders
unfolding words_of txn_words written distinct take_and_write succeeds operations_at carry_out_all carry_out is_kept
    same_fields
    failed taking comes_before
each_wrong =
    record {
      last_order = λ a.
          let ts : List (List Action) = (writes 5 ∷ []) ∷ (writes 6 ∷ []) ∷ [] in
          let o = one ts refl a refl in
          let is = are ts refl o in
          true≢false ((subst (First ts) is o.first).first (0 ∷ 1 ∷ []) (is_order ts (0 ∷ 1 ∷ []) refl refl refl)
          refl);
      take_before_write = λ a. fails take_and_write (0 ∷ 1 ∷ []) refl refl (one take_and_write refl a refl);
      none_though_one = λ o a.
          true≢false ((none_found_there take_and_write refl a refl).0 (1 ∷ 0 ∷ [])
          (is_order take_and_write (1 ∷ 0 ∷ []) refl refl refl));
      read_behind_take = λ o a. alone_fails (writes 5 ∷ takes 5 ∷ reads 5 ∷ []) refl (one _ refl a refl);
      taken_twice_by_one = λ o a. alone_fails (writes 5 ∷ takes 5 ∷ takes 5 ∷ []) refl (one _ refl a refl);
      taken_twice_by_two = λ a.
          let ts : List (List Action) = (writes 5 ∷ takes 5 ∷ []) ∷ (takes 5 ∷ []) ∷ [] in
          fails ts (0 ∷ 1 ∷ []) refl refl (one ts refl a refl);
      twice_in_one = λ o a. true≢false
          (sym (one ((writes 5 ∷ writes 5 ∷ []) ∷ []) refl a refl).accepted.written_once);
      twice_in_two = λ o a.
          true≢false (sym (one ((writes 5 ∷ []) ∷ (writes 5 ∷ []) ∷ []) refl a refl).accepted.written_once);
      seven = λ o a.
          let t = (one ([] ∷ [] ∷ [] ∷ [] ∷ [] ∷ [] ∷ [] ∷ []) refl a refl).accepted.transactions in omega arith;
      byte_behind = λ a.
          let o = one [] refl a refl in
          nothing o.positions o.first.order.as_many o.bytes;
      none_and_changed = λ a.
          let same = (none_found_there ((reads 5 ∷ []) ∷ []) refl a refl).1 in
          let q : ◌≡◌ {A = ℕ} 0 9 = ap (λ l. get_or l 0 0) same in
          omega arith;
      refused_though_fit = λ o a.
          not-refused [] refl
          (record { transactions = omega arith; actions = λ t i. absurd (Memᴰ.not-nil i); written_once = refl })
          (omega arith) a refl;
    }
  where
    nothing : (ps : List ℕ) → length ps ≡ 0 → (0 ∷ []) ≡ ps ++ (9 ∷ []) → ⊥
    nothing [] n e = let q : ◌≡◌ {A = ℕ} 0 9 = ap (λ l. get_or l 0 0) e in omega arith
    nothing (p ∷ ps) n e = omega arith
