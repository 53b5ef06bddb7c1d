-- Aborting again changes nothing; so the transactions that end now may be aborted one by one,
-- the first that is left each time.
use Prim.Native.Nat.{ℕ, ◌<◌}
use mathlib.Core.Bool.{true, false, cond, not}
use mathlib.Core.Logic.{◌⊎◌, inl, inr}
use mathlib.Core.Option.{none}
use mathlib.Core.Path.{◌≡◌, refl, sym, ap, ap₂, ◌∙◌, subst}
use mathlib.Core.List.Memᴰ
use mathlib.Core.List.{List, [], ◌∷◌, map, Memᴰ}
use native.Mathlib.Omega.{arith}
use borrow.Author.Tests.{not-true, eqb-true, eq-eqb}
use lib.Dec.{eqb}
use lib.ListN.{length}
use Rattle.rules.specs.declared.Entry.{Entry}
use Rattle.rules.specs.declared.Txn.{Txn}
use Rattle.rules.specs.declared.TxnId.{TxnId}
use Rattle.rules.specs.declared.LookUp.{LookUp}
use Rattle.rules.specs.Lists.{filterb}
use Rattle.rules.specs.Time.{reached}
use Rattle.rules.specs.State.{Model, with_entries, with_txns, with_waits}
use Rattle.rules.specs.Holds.{live_txn}
use Rattle.rules.specs.Transactions.{no_txn, is_private_to, released, without_txn, abort}
use Rattle.rules.specs.Tick.{ended_txns, abort_all}
use Rattle.rules.proofs.ListLaws.{mem_filter, filter_pass, filter_comm, find_fail, map_same, length_split, count_mem}
use Rattle.rules.proofs.BoolLaws.{cond_cases, bool_cases}

-- a transaction's number, or none in place of t
abbrev cleared : ℕ → TxnId → TxnId
cleared t x = cond (eqb x.0 t) no_txn x

none_cleared : (t : ℕ) → cleared t no_txn ≡ no_txn
none_cleared t = cond_cases (λ (x : TxnId). x ≡ no_txn) (eqb 0 t) (λ e. refl) (λ e. refl)

-- what is cleared of t stays so when u is cleared; and clearing clears
still_cleared : (t u : ℕ) (x : TxnId) → cleared t x ≡ x → cleared t (cleared u x) ≡ cleared u x
still_cleared t u x h = cond_cases (λ (y : TxnId). cleared t y ≡ y) (eqb x.0 u) (λ e. none_cleared t) (λ e. h)

twice_cleared : (t : ℕ) (x : TxnId) → cleared t (cleared t x) ≡ cleared t x
twice_cleared t x = cond_cases (λ (y : TxnId). cleared t y ≡ y) (eqb x.0 t) (λ e. none_cleared t) (λ e. rw e)

-- nothing of the transaction t is left
pub record Gone (t : ℕ) (m : Model) : Type 0 where
  pub not_private : (e : Entry) → Memᴰ e m.entries → is_private_to t e ≡ false
  pub not_taken : (e : Entry) → Memᴰ e m.entries → cleared t e.taken_by ≡ e.taken_by
  pub not_inside : (w : LookUp) → Memᴰ w m.waits → eqb w.txn.0 t ≡ false
  pub not_live : (x : Txn) → Memᴰ x m.txns → eqb x.id.0 t ≡ false

module _ (u : ℕ) (m : Model) where
  -- what an abort leaves: of the entries
  entry-left : (e : Entry) → Memᴰ e (abort u m).entries
      → (x : Entry) × Memᴰ x m.entries × (is_private_to u x ≡ false) × (released m.txns u x ≡ e)
  unfolding abort
  entry-left e i =
      let r = Memᴰ.of_map (released m.txns u) (filterb (λ x. not (is_private_to u x)) m.entries) i in
      let k = mem_filter (λ x. not (is_private_to u x)) m.entries r.1 in
      (r.0, k.0, not-true (is_private_to u r.0) k.1, r.2)

  -- of the look-ups
  wait_left : (w : LookUp) → Memᴰ w (abort u m).waits → Memᴰ w m.waits × (eqb w.txn.0 u ≡ false)
  unfolding abort
  wait_left w i =
      let k = mem_filter (λ w. not (eqb w.txn.0 u)) m.waits i in
      (k.0, not-true (eqb w.txn.0 u) k.1)

  -- and of the transactions
  txn-left : (x : Txn) → Memᴰ x (abort u m).txns → Memᴰ x m.txns × (eqb x.id.0 u ≡ false)
  unfolding abort without_txn
  txn-left x i =
      let k = mem_filter (λ x. not (eqb x.id.0 u)) m.txns i in
      (k.0, not-true (eqb x.id.0 u) k.1)

  -- what is left of an entry is private to whom it was
  same-owner : (t : ℕ) (x : Entry) → is_private_to u x ≡ false → is_private_to t (released m.txns u x)
      ≡ is_private_to t x
  unfolding released
  same-owner t x h = rw h

  pub gone_aborted : Gone u (abort u m)
  unfolding released
  gone_aborted =
      record {
        not_private = λ e i. let r = entry-left e i in subst (λ x. is_private_to u x ≡ false) r.3
            (same-owner u r.0 r.2 ∙ r.2);
        not_taken = λ e i.
            let r = entry-left e i in
            subst (λ (x : Entry). cleared u x.taken_by ≡ x.taken_by) r.3 (twice_cleared u r.0.taken_by);
        not_inside = λ w i. (wait_left w i).1;
        not_live = λ x i. (txn-left x i).1;
      }

  pub gone_still : (t : ℕ) → Gone t m → Gone t (abort u m)
  unfolding released
  gone_still t g =
      record {
        not_private = λ e i.
            let r = entry-left e i in
            subst (λ x. is_private_to t x ≡ false) r.3 (same-owner t r.0 r.2 ∙ g.not_private r.0 r.1);
        not_taken = λ e i.
            let r = entry-left e i in
            subst (λ (x : Entry). cleared t x.taken_by ≡ x.taken_by) r.3
            (still_cleared t u r.0.taken_by (g.not_taken r.0 r.1));
        not_inside = λ w i. g.not_inside w (wait_left w i).0;
        not_live = λ x i. g.not_live x (txn-left x i).0;
      }

released-same : (ts : List Txn) (t : ℕ) (e : Entry) → is_private_to t e ≡ false → cleared t e.taken_by ≡ e.taken_by
    → live_txn t ts ≡ none
    → released ts t e ≡ e
unfolding released
released-same ts t e p q l = rw (p, q, l)

pub abort_gone : (t : ℕ) (m : Model) → Gone t m → abort t m ≡ m
unfolding abort without_txn live_txn
abort_gone t m g =
    ap (λ es. with_entries es
    (with_txns (without_txn t m.txns) (with_waits (filterb (λ w. not (eqb w.txn.0 t)) m.waits) m)))
    (ap (map (released m.txns t))
    (filter_pass (λ e. not (is_private_to t e)) m.entries (λ e i. ap not (g.not_private e i)))
    ∙ map_same (released m.txns t) m.entries
    (λ e i. released-same m.txns t e (g.not_private e i) (g.not_taken e i)
    (find_fail (λ x. eqb x.id.0 t) m.txns g.not_live)))
    ∙ ap₂ (λ ts ws. with_entries m.entries (with_txns ts (with_waits ws m)))
    (filter_pass (λ x. not (eqb x.id.0 t)) m.txns (λ x i. ap not (g.not_live x i)))
    (filter_pass (λ w. not (eqb w.txn.0 t)) m.waits (λ w i. ap not (g.not_inside w i)))

-- of several aborts those of t may be left out, where nothing of t is left
abort_rest : (t : ℕ) (ts : List Txn) (m : Model) → Gone t m → abort_all ts m ≡ abort_all (without_txn t ts) m
unfolding abort_all without_txn
abort_rest t [] m g = refl
abort_rest t (u ∷ us) m g = go (bool_cases (eqb u.id.0 t)) (λ n h. abort_rest t us n h)
  where
    go : (eqb u.id.0 t ≡ true) ⊎ (eqb u.id.0 t ≡ false)
        → ((n : Model) → Gone t n → abort_all us n ≡ abort_all (without_txn t us) n)
        → abort_all us (abort u.id.0 m)
        ≡ abort_all (cond (not (eqb u.id.0 t)) (u ∷ without_txn t us) (without_txn t us)) m
    go (inl e) below =
        rw e (ap (λ k. abort_all us (abort k m)) (eqb-true u.id.0 t e) ∙ ap (abort_all us) (abort_gone t m g)
        ∙ below m g)
    go (inr e) below = rw e (below (abort u.id.0 m) (gone_still u.id.0 m t g))

-- the first that ends now is aborted; then those that are left
ended-left : (m : Model) (t : Txn) (ts : List Txn) → ended_txns m ≡ t ∷ ts → ended_txns (abort t.id.0 m)
    ≡ without_txn t.id.0 ts
unfolding ended_txns abort without_txn
ended-left m t ts e =
    filter_comm (λ x. reached m.clock x.end) (λ x. not (eqb x.id.0 t.id.0)) m.txns
    ∙ ap (without_txn t.id.0) e
    ∙ rw (eq-eqb t.id.0 t.id.0 refl)

pub abort-first : (m : Model) (t : Txn) (ts : List Txn) → ended_txns m ≡ t ∷ ts
    → abort_all (ended_txns m) m ≡ abort_all (ended_txns (abort t.id.0 m)) (abort t.id.0 m)
unfolding abort_all
abort-first m t ts e =
    ap (λ l. abort_all l m) e
    ∙ abort_rest t.id.0 ts (abort t.id.0 m) (gone_aborted t.id.0 m)
    ∙ ap (λ l. abort_all l (abort t.id.0 m)) (sym (ended-left m t ts e))

-- an abort of a live transaction leaves fewer
pub abort_fewer : (m : Model) (t : Txn) → Memᴰ t m.txns → length (abort t.id.0 m).txns < length m.txns
unfolding abort without_txn
abort_fewer m t i =
    omega (
      arith,
      length_split (λ x. not (eqb x.id.0 t.id.0)) m.txns,
      count_mem (λ x. not (not (eqb x.id.0 t.id.0))) i (ap (λ b. not (not b)) (eq-eqb t.id.0 t.id.0 refl)),
    )
