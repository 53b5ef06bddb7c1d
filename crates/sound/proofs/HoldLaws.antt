-- Who holds what, in parts: what availability says of an entry, what becomes of one that is handed out, and of one that
-- a transaction releases.
use Prim.Native.Nat.{ℕ}
use mathlib.Core.Bool.{Bool, true, false, cond, not, ◌&&◌, ◌||◌, and-false, or-true, true≢false}
use mathlib.Core.Logic.{◌⊎◌, inl, inr, ⊎_elim}
use mathlib.Core.Path.{◌≡◌, refl, sym, ap, ap₂, ◌∙◌, subst⁻¹}
use mathlib.Core.List.Memᴰ
use mathlib.Core.List.{List, Memᴰ}
use borrow.Author.Tests.{eqb-true, eqb-false, eq-eqb, ne_eqb, not-true, not-false}
use lib.Dec.{eqb}
use Rattle.rules.specs.declared.Entry.{Entry}
use Rattle.rules.specs.declared.Txn.{Txn}
use Rattle.rules.specs.declared.TxnId.{TxnId}
use Rattle.rules.specs.declared.LookUp.{LookUp}
use Rattle.rules.specs.Template.{matches}
use Rattle.rules.specs.Holds.{live_txn, add_reader_of, drop_reader_of, read_by_other, visible, available}
use Rattle.rules.specs.LookUp.{removes, with_hold, marked, is_entry, hand_out}
use Rattle.rules.specs.Transactions.{no_txn}
use Rattle.rules.specs.Lists.{All}
use Rattle.rules.proofs.BoolLaws.{cond_cases, bool_cases, and_left, and_right, or_cases}
use Rattle.rules.proofs.ListLaws.{filter_mem}
use Rattle.sound.proofs.AllLaws.{all_filter, all_map}

-- a number is another, or is not
pub equal_or : (a b : ℕ) → (a ≡ b) ⊎ (a ≡ b → ⊥)
equal_or a b = ⊎_elim (λ t. inl (eqb-true a b t)) (λ t. inr (eqb-false a b t)) (bool_cases (eqb a b))

pub eqb_cases : {A : Type 0} (Q : A → Type 0) (a b : ℕ) {x y : A} → (a ≡ b → Q x) → ((a ≡ b → ⊥) → Q y)
    → Q (cond (eqb a b) x y)
eqb_cases Q a b h k = cond_cases Q (eqb a b) (λ t. h (eqb-true a b t)) (λ t. k (eqb-false a b t))

-- a test that cannot pass fails
pub not_so : (b : Bool) → (b ≡ true → ⊥) → b ≡ false
not_so b h = ⊎_elim (λ t. absurd (h t)) (λ t. t) (bool_cases b)

-- what availability says of an entry
pub record Free (ts : List Txn) (w : LookUp) (e : Entry) : Type 0 where
  pub matching : matches w.mask w.fields e.fields ≡ true
  pub untaken : e.taken_by.0 ≡ 0
  pub owner : (e.private_to.0 ≡ 0) ⊎ (e.private_to.0 ≡ w.txn.0)
  pub unread : w.takes ≡ true → drop_reader_of (live_txn w.txn.0 ts) e.readers ≡ 0

pub available_free : (ts : List Txn) (w : LookUp) (e : Entry) → available ts w e ≡ true → Free ts w e
unfolding available visible read_by_other
available_free ts w e h =
    let p = e.private_to.0 in
    let k = e.taken_by.0 in
    let m = matches w.mask w.fields e.fields in
    let r = drop_reader_of (live_txn w.txn.0 ts) e.readers in
    let seen = and_right m (eqb k 0 && (eqb p 0 || eqb p w.txn.0))
    (and_left _ (not (w.takes && not (eqb r 0))) h) in
    let unread : not (w.takes && not (eqb r 0)) ≡ true = and_right (m && (eqb k 0 && (eqb p 0 || eqb p w.txn.0))) _
    h in
    record {
      matching =
          and_left m (eqb k 0 && (eqb p 0 || eqb p w.txn.0)) (and_left _ (not (w.takes && not (eqb r 0))) h);
      untaken = eqb-true k 0 (and_left _ (eqb p 0 || eqb p w.txn.0) seen);
      owner =
          ⊎_elim (λ t. inl (eqb-true p 0 t)) (λ t. inr (eqb-true p w.txn.0 t))
          (or_cases (eqb p 0) (eqb p w.txn.0) (and_right (eqb k 0) _ seen));
      unread = λ t. eqb-true r 0 (not-false _ (sym (ap (λ b. b && not (eqb r 0)) t) ∙ not-true _ unread));
    }

pub free_available : (ts : List Txn) (w : LookUp) (e : Entry) → Free ts w e → available ts w e ≡ true
unfolding available visible read_by_other
free_available ts w e h =
    let p = e.private_to.0 in
    let r = drop_reader_of (live_txn w.txn.0 ts) e.readers in
    let seen : (eqb p 0 || eqb p w.txn.0) ≡ true =
    ⊎_elim (λ q. rw (eq-eqb p 0 q)) (λ q. rw (eq-eqb p w.txn.0 q, or-true)) h.owner in
    let unread : (w.takes && not (eqb r 0)) ≡ false =
    ⊎_elim (λ t. ap (λ b. w.takes && not b) (eq-eqb r 0 (h.unread t)) ∙ and-false w.takes)
    (λ t. ap (λ b. b && not (eqb r 0)) t) (bool_cases w.takes) in
    ap₂ (λ x y. x && y && not (w.takes && not (eqb r 0))) h.matching
    (ap₂ (λ x y. x && y) (eq-eqb e.taken_by.0 0 h.untaken) seen) ∙ ap not unread

-- the entry as it stays when it is handed out: as it was, or committed and with the hold of the look-up's transaction
module _ (ts : List Txn) (w : LookUp) (e : Entry) where
  -- with the take hold, or with the read hold
  abbrev pub held_by : Bool → Entry
  held_by takes =
      record {
        id = e.id;
        fields = e.fields;
        end = e.end;
        private_to = e.private_to;
        taken_by = cond takes w.txn e.taken_by;
        readers =
            cond takes (drop_reader_of (live_txn w.txn.0 ts) e.readers)
            (add_reader_of (live_txn w.txn.0 ts) e.readers);
        writer = e.writer;
      }

  pub removes_why : removes w e ≡ true → (w.takes ≡ true) × (e.private_to.0 ≡ w.txn.0)
  unfolding removes
  removes_why r = (and_left w.takes _ r, eqb-true e.private_to.0 w.txn.0 (and_right w.takes _ r))

  pub mark_cases : (Q : Entry → Type 0) → (e.private_to.0 ≡ w.txn.0 → Q e)
      → ((b : Bool) → w.takes ≡ b → (e.private_to.0 ≡ w.txn.0 → ⊥) → Q (held_by b)) → Q (marked ts w e)
  unfolding marked with_hold
  mark_cases Q plain held = eqb_cases Q e.private_to.0 w.txn.0 plain (λ d. held w.takes refl d)

  pub removed : w.takes ≡ true → e.private_to.0 ≡ w.txn.0 → removes w e ≡ true
  unfolding removes
  removed t q = rw (t, eq-eqb e.private_to.0 w.txn.0 q)

  module _ (es : List Entry) (av : available ts w e ≡ true) where
    -- where an entry comes from: another one, unchanged; or the one handed out, unchanged in its own transaction's or
    -- nobody's read, or with a hold
    pub handed-all : (Q : Entry → Type 0) → All (λ x. x.id.0 ≡ e.id.0 → x ≡ e) es
        → All (λ x. (x.id.0 ≡ e.id.0 → ⊥) → Q x) es → (w.takes ≡ false → e.private_to.0 ≡ w.txn.0 → Q e)
        → ((b : Bool) → w.takes ≡ b → e.private_to.0 ≡ 0 → (w.txn.0 ≡ 0 → ⊥) → Q (held_by b))
        → All Q (hand_out ts w e es)
    unfolding hand_out
    handed-all Q unique others plain held =
        cond_cases (All Q) (removes w e) (λ r. all_filter (λ x. not (is_entry e x)) es
        (λ x i t. others x i (eqb-false x.id.0 e.id.0 (not-true _ t))))
        (λ r. all_map Q (λ x. cond (is_entry e x) (marked ts w x) x) es
        (λ x i. eqb_cases Q x.id.0 e.id.0 (λ q. subst⁻¹ (λ y. Q (marked ts w y)) (unique x i q) (stays r))
        (others x i)))
      where
        stays : removes w e ≡ false → Q (marked ts w e)
        stays r =
            mark_cases Q (λ q. plain (not_so w.takes (λ t. true≢false (sym (removed t q) ∙ r))) q)
            (λ b t d. let c = ⊎_elim (λ q. q) (λ q. absurd (d q)) (available_free ts w e av).owner in held b t c
            (λ z. d (c ∙ sym z)))

    -- and what becomes of it: the others stay, and so does the one handed out unless it is removed
    pub others_stay : (x : Entry) → Memᴰ x es → (x.id.0 ≡ e.id.0 → ⊥) → Memᴰ x (hand_out ts w e es)
    unfolding hand_out
    others_stay x i d =
        let q : is_entry e x ≡ false = ne_eqb x.id.0 e.id.0 d in
        cond_cases (λ (l : List Entry). Memᴰ x l) (removes w e)
        (λ _. filter_mem (λ y. not (is_entry e y)) i (ap not q))
        (λ _. Memᴰ.cast (sym (ap (λ b. cond b (marked ts w x) x) q))
        (Memᴰ.map (λ y. cond (is_entry e y) (marked ts w y) y) i))

    pub mark_stays : Memᴰ e es → removes w e ≡ false → Memᴰ (marked ts w e) (hand_out ts w e es)
    unfolding hand_out
    mark_stays i r =
        let q : is_entry e e ≡ true = eq-eqb e.id.0 e.id.0 refl in
        let here = Memᴰ.map (λ y. cond (is_entry e y) (marked ts w y) y) i in
        rw r (Memᴰ.cast (sym (ap (λ b. cond b (marked ts w e) e) q)) here)

-- a transaction's number once t has ended
pub cleared_cases : (Q : TxnId → Type 0) (t : ℕ) (x : TxnId) → (x.0 ≡ t → Q no_txn) → ((x.0 ≡ t → ⊥) → Q x)
    → Q (cond (eqb x.0 t) no_txn x)
cleared_cases Q t x = eqb_cases Q x.0 t
