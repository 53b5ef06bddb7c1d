-- What the code does by the slot of a live transaction is what the rules do by its number.
use Prim.Native.Nat.{ℕ, zero, suc, ◌<◌}
use mathlib.Core.Bool.{Bool, true, false, cond, not}
use mathlib.Core.Path.{◌≡◌, refl, sym, ap, ap₂, ◌∙◌, subst}
use mathlib.Core.List.Memᴰ
use mathlib.Core.List.{List, [], ◌∷◌, map, map-id, Memᴰ}
use native.Mathlib.Omega.{arith}
use borrow.Author.Tests.{eq-eqb, ne_eqb}
use lib.Dec.{eqb}
use lib.ListN.{length, get_or, set}
use lib.Seq.{set-get_or}
use Rattle.rules.specs.declared.Entry.{Entry}
use Rattle.rules.specs.declared.Txn.{Txn}
use Rattle.rules.specs.declared.TxnId.{TxnId}
use Rattle.rules.specs.declared.LookUp.{LookUp}
use Rattle.rules.specs.Lists.{filterb}
use Rattle.rules.specs.State.{Model, with_entries, with_txns, with_waits}
use Rattle.rules.specs.Holds.{live_txn}
use Rattle.rules.specs.LookUp.{hand_out, removes, held_by, with_hold, marked, is_entry}
use Rattle.rules.specs.Transactions.{released_by, released, commit, abort, without_txn, is_taken_by, is_private_to}
use Rattle.rules.specs.Tick.{drop_ended}
use Rattle.rules.specs.Time.{reached}
use Rattle.rules.specs.Sound.{Ascending}
use Rattle.rules.specs.Words.{entry_of, view}
use Rattle.rules.proofs.ListLaws.{filter_pass, map_same}
use Rattle.rules.proofs.BoolLaws.{cond_cases}
use Rattle.tables.specs.Rows.{without, FitsWord}
use Rattle.tables.proofs.Tables.{end_read}
use Rattle.available.proofs.ReaderLaws.{drops, adds}
use Rattle.available.specs.Live.{no_slot, slot_of}
use Rattle.holds.specs.Sweep.{released_at, marked_at, sweep_model}
use Rattle.holds.specs.Hand.{hand_at, handed_at}

-- ---- an entry handed out, by its row i: no other has its number
abbrev Alone : Entry → ℕ → List Entry → Type 0
Alone e i es =
    (filterb (λ x. not (is_entry e x)) es ≡ without i es)
    × ((g : Entry → Entry) → map (λ x. cond (is_entry e x) (g x) x) es ≡ set es i (g e))

mem-get_or : {A : Type 0} (xs : List A) (i : ℕ) (d : A) → i < length xs → Memᴰ (get_or xs i d) xs
mem-get_or [] i d h = absurd (omega arith)
mem-get_or (x ∷ xs) zero d h = Memᴰ.head refl
mem-get_or (x ∷ xs) (suc i) d h = Memᴰ.tail (mem-get_or xs i d (omega arith))

pub alone : (e : Entry) (es : List Entry) (i : ℕ) → i < length es → get_or es i e ≡ e
    → Ascending (map (λ (x : Entry). x.id.0) es) → Alone e i es
unfolding Ascending
alone e [] i h q a = absurd (omega arith)
alone e (x ∷ xs) zero h q a =
    let mine : is_entry e x ≡ true = eq-eqb _ _ (ap (λ (y : Entry). y.id.0) q) in
    let others : (y : Entry) → Memᴰ y xs → is_entry e y ≡ false =
    λ y m. let l : x.id.0 < y.id.0 = a.0 y.id.0 (Memᴰ.map (λ (z : Entry). z.id.0) m) in
    let same : x.id.0 ≡ e.id.0 = ap (λ (z : Entry). z.id.0) q in
    ne_eqb y.id.0 e.id.0 (λ s. omega arith) in (
      rw mine (filter_pass (λ y. not (is_entry e y)) xs (λ y m. ap not (others y m))),
      λ g.
          rw mine
          (ap₂ {C = List Entry} (λ y ys. y ∷ ys) (ap g q)
          (map_same (λ y. cond (is_entry e y) (g y) y) xs (λ y m. ap (λ b. cond b (g y) y) (others y m)))),
    )
alone e (x ∷ xs) (suc i) h q a =
    let below = alone e xs i (omega arith) q a.1 in
    let m = subst (λ y. Memᴰ y xs) q (mem-get_or xs i e (omega arith)) in
    let l : x.id.0 < e.id.0 = a.0 e.id.0 (Memᴰ.map (λ (z : Entry). z.id.0) m) in
    let other : is_entry e x ≡ false = ne_eqb x.id.0 e.id.0 (λ s. omega arith) in (
      rw other (ap {B = List Entry} (λ ys. x ∷ ys) below.0),
      λ g. rw other (ap {B = List Entry} (λ ys. x ∷ ys) (below.1 g)),
    )

-- so to hand out by the row is to hand out by the number
pub by_row : (ts : List Txn) (w : LookUp) (e : Entry) (es : List Entry) (i : ℕ) → i < length es → get_or es i e ≡ e
    → Ascending (map (λ (x : Entry). x.id.0) es) → hand_at ts w e i es ≡ hand_out ts w e es
unfolding hand_at hand_out
by_row ts w e es i h q a =
    let r = alone e es i h q a in ap₂ (cond (removes w e)) (sym r.0) (sym (r.1 (marked ts w)))

-- ---- what the code does, by the slot p of the look-up's transaction
module _ (ws : List ℕ) (w : LookUp) (p : ℕ) (q : p ≡ slot_of (live_txn w.txn.0 (view ws).txns)) (e : Entry)
    (t : removes w e ≡ false) where
  -- the mark
  marks : marked (view ws).txns w e ≡ marked_at w.takes w.txn p e
  unfolding marked marked_at with_hold
  marks =
      ap₂ (λ add drop. cond (is_private_to w.txn.0 e) e (held_by add drop w.takes w.txn e))
      (adds ws w.txn.0 p q) (drops ws w.txn.0 p q)

  pub handed-marked : (i : ℕ)
      → with_entries (set (view ws).entries i (marked_at w.takes w.txn p e)) (view ws) ≡ handed_at w e i (view ws)
  unfolding handed_at hand_at
  handed-marked i = rw (t, marks)

  -- a read of no live transaction leaves none
  pub handed_unmarked : (i : ℕ) → get_or (view ws).entries i e ≡ e → p ≡ no_slot → w.takes ≡ false
      → view ws ≡ handed_at w e i (view ws)
  unfolding handed_at hand_at marked_at
  handed_unmarked i r z n =
      let same : marked_at w.takes w.txn p e ≡ e = ap₂ (λ takes k. marked_at takes w.txn k e) n z
      ∙ cond_cases (λ y. y ≡ e) (is_private_to w.txn.0 e) (λ k. refl) (λ k. refl) in
      rw (t, marks ∙ same) (ap (λ es. with_entries es (view ws))
      (sym (ap (set (view ws).entries i) (sym r) ∙ set-get_or (view ws).entries i e)))

pub handed_removed : (w : LookUp) (e : Entry) (i : ℕ) (m : Model) → removes w e ≡ true
    → with_entries (without i m.entries) m ≡ handed_at w e i m
unfolding handed_at hand_at
handed_removed w e i m t = rw t

-- a marked entry fits its row
pub marked-fits : (takes : Bool) (t : TxnId) (p : ℕ) (r : List ℕ) → FitsWord (marked_at takes t p (entry_of r)).end
unfolding marked_at entry_of
marked-fits takes t p r =
    cond_cases (λ (x : Entry). FitsWord x.end) (is_private_to t.0 (entry_of r)) (λ k. end_read r) (λ k. end_read r)

-- ---- entries that end, and a transaction that ends
pub drop-ended : (m : Model) → drop_ended m ≡ sweep_model (λ e. not (reached m.clock e.end)) (λ e. e) m
unfolding drop_ended sweep_model
drop-ended m = ap (λ es. with_entries es m) (sym (map-id _))

module _ (ws : List ℕ) (t : TxnId) (p : ℕ) (q : p ≡ slot_of (live_txn t.0 (view ws).txns)) where
  -- the model with other entries, and the transaction live no longer
  abbrev ended : List Entry → Model → Model
  ended es m = with_entries es (with_txns (without_txn t.0 m.txns) m)

  -- the pass, and then the transaction is live no longer
  pub committed-model : (m₁ m₂ : Model) → m₁ ≡ sweep_model (λ e. not (is_taken_by t.0 e)) (released_at t.0 p) (view ws)
      → m₂ ≡ with_txns (without_txn t.0 m₁.txns) m₁ → m₂ ≡ commit t.0 (view ws)
  unfolding sweep_model commit released released_at
  committed-model m₁ m₂ e f =
      f
      ∙ ap (λ (m : Model). with_txns (without_txn t.0 m.txns) m) e
      ∙ sym (ap (λ drop. ended (map (released_by drop t.0)
      (filterb (λ x. not (is_taken_by t.0 x)) (view ws).entries)) (view ws)) (drops ws t.0 p q))

  -- the pass, the look-ups inside, and then the transaction is live no longer
  pub aborted-model : (m₁ m₂ m₃ : Model)
      → m₁ ≡ sweep_model (λ e. not (is_private_to t.0 e)) (released_at t.0 p) (view ws)
      → m₂ ≡ with_waits (filterb (λ w. not (eqb w.txn.0 t.0)) m₁.waits) m₁
      → m₃ ≡ with_txns (without_txn t.0 m₂.txns) m₂ → m₃ ≡ abort t.0 (view ws)
  unfolding sweep_model abort released released_at
  aborted-model m₁ m₂ m₃ e f g =
      g
      ∙ ap (λ (m : Model). with_txns (without_txn t.0 m.txns) m) (f
      ∙ ap (λ (m : Model). with_waits (filterb (λ w. not (eqb w.txn.0 t.0)) m.waits) m) e)
      ∙ sym (ap (λ drop. ended (map (released_by drop t.0)
      (filterb (λ x. not (is_private_to t.0 x)) (view ws).entries))
      (with_waits (filterb (λ w. not (eqb w.txn.0 t.0)) (view ws).waits) (view ws))) (drops ws t.0 p q))
