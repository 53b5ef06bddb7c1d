-- What is handed out becomes available to nobody; so after service nobody who waits on has an available entry.
use Prim.Native.Nat.{ℕ}
use mathlib.Core.Bool.{Bool, true, false, cond, not, true≢false}
use mathlib.Core.Logic.{⊎_elim}
use mathlib.Core.Path.{◌≡◌, sym, ap, ◌∙◌, subst⁻¹}
use mathlib.Core.Option.{Option, none, some}
use mathlib.Core.List.Memᴰ
use mathlib.Core.List.{List, Memᴰ}
use Rattle.rules.specs.declared.Entry.{Entry}
use Rattle.rules.specs.declared.Txn.{Txn}
use Rattle.rules.specs.declared.LookUp.{LookUp}
use Rattle.rules.specs.Template.{bit}
use Rattle.rules.specs.Holds.{live_txn, add_reader, drop_reader, add_reader_of, drop_reader_of, available}
use Rattle.rules.specs.Holds.{some_available}
use Rattle.rules.specs.LookUp.{removes, marked, is_entry, hand_out}
use Rattle.rules.specs.Service.{serve}
use Rattle.rules.proofs.ListLaws.{find_some, none_any, none_mem, all_false}
use Rattle.rules.proofs.StepCases.{serve_ind}
use Rattle.rules.proofs.BoolLaws.{cond_cases}
use Rattle.rules.proofs.ReaderLaws.{added, added_other, dropped, dropped_other, bit_of_zero, no_bits}
use Rattle.sound.proofs.AllLaws.{all_filter, all_map}
use Rattle.sound.proofs.HoldLaws.{equal_or, not_so, available_free, free_available, held_by, mark_cases, removed}

-- with one reader more an entry is read by another as before
still_read : (p q n : ℕ) → drop_reader p (add_reader q n) ≡ 0 → drop_reader p n ≡ 0
still_read p q n e = no_bits (drop_reader p n) (λ i. ⊎_elim (own i) (other i) (equal_or i p))
  where
    clear : (i : ℕ) → (i ≡ p → ⊥) → bit i (add_reader q n) ≡ false
    clear i d = sym (dropped_other i p (add_reader q n) d) ∙ ap (bit i) e ∙ bit_of_zero i

    own : (i : ℕ) → i ≡ p → bit i (drop_reader p n) ≡ false
    own i r = ap (λ k. bit k (drop_reader p n)) r ∙ dropped p n

    other : (i : ℕ) → (i ≡ p → ⊥) → bit i (drop_reader p n) ≡ false
    other i d =
        dropped_other i p n d
        ∙ ⊎_elim (λ u. absurd (true≢false (sym (added q n) ∙ ap (λ k. bit k (add_reader q n)) (sym u) ∙ clear i d)))
        (λ u. sym (added_other i q n u) ∙ clear i d) (equal_or i q)

pub still-read_of : (p q : Option Txn) (n : ℕ) → drop_reader_of p (add_reader_of q n) ≡ 0 → drop_reader_of p n ≡ 0
still-read_of p none n e = e
still-read_of (some x) (some y) n e = still_read x.slot y.slot n e
still-read_of none (some y) n e =
    absurd (true≢false (sym (added y.slot n) ∙ ap (bit y.slot) e ∙ bit_of_zero y.slot))

-- one more read hold makes it available to nobody
pub read_hides : (ts : List Txn) (v w : LookUp) (x : Entry) → available ts v x ≡ false
    → available ts v (held_by ts w x false) ≡ false
read_hides ts v w x n =
    not_so _ (λ u. let h = available_free ts v (held_by ts w x false) u in
    true≢false (sym (free_available ts v x
    (record {
      matching = h.matching;
      untaken = h.untaken;
      owner = h.owner;
      unread = λ k. still-read_of (live_txn v.txn.0 ts) (live_txn w.txn.0 ts) x.readers (h.unread k);
    })) ∙ n))

module _ (ts : List Txn) (v w : LookUp) (e : Entry) (av : available ts w e ≡ true) where
  hidden : (x : Entry) → removes w e ≡ false → available ts v x ≡ false → available ts v (marked ts w x) ≡ false
  hidden x r n = mark_cases ts w x (λ y. available ts v y ≡ false) (λ _. n) (λ b t d. held b t d)
    where
      held : (b : Bool) → w.takes ≡ b → (x.private_to.0 ≡ w.txn.0 → ⊥) → available ts v (held_by ts w x b) ≡ false
      held true t d =
          not_so _ (λ u. let z = (available_free ts v (held_by ts w x true) u).untaken in
          true≢false (sym (removed ts w e t (⊎_elim (λ q. q ∙ sym z) (λ q. q) (available_free ts w e av).owner)) ∙ r))
      held false t d = read_hides ts v w x n

  pub hand_out_unavailable : (es : List Entry) → some_available ts v es ≡ false
      → some_available ts v (hand_out ts w e es) ≡ false
  unfolding hand_out
  hand_out_unavailable es n =
      let no : Entry → Type 0 = λ x. available ts v x ≡ false in
      all_false (available ts v) (hand_out ts w e es)
      (cond_cases (λ (l : List Entry). (x : Entry) → Memᴰ x l → no x) (removes w e)
      (λ r. all_filter (λ x. not (is_entry e x)) es (λ x i t. none_mem (available ts v) n i))
      (λ r. all_map no (λ x. cond (is_entry e x) (marked ts w x) x) es
      (λ x i. let h = none_mem (available ts v) n i in cond_cases no (is_entry e x) (λ q. hidden x r h) (λ q. h))))

serve_unavailable : (ts : List Txn) (v : LookUp) (es : List Entry) (ws : List LookUp)
    → some_available ts v es ≡ false → some_available ts v (serve ts es ws).entries ≡ false
serve_unavailable ts v =
    serve_ind ts (λ es ws r. some_available ts v es ≡ false → some_available ts v r.entries ≡ false) (λ es n. n)
    (λ es w ws q below. below)
    (λ es w ws x q below n. below (hand_out_unavailable ts v w x (find_some (available ts w) es q).1 es n))

pub serve-settled : (ts : List Txn) (es : List Entry) (ws : List LookUp) (v : LookUp)
    → Memᴰ v (serve ts es ws).waits → some_available ts v (serve ts es ws).entries ≡ false
serve-settled ts es ws v =
    serve_ind ts (λ es ws r. Memᴰ v r.waits → some_available ts v r.entries ≡ false)
    (λ es i. absurd (Memᴰ.not-nil i)) (λ es w ws q below i.
    ⊎_elim (λ e. serve_unavailable ts v es ws
    (subst⁻¹ (λ u. some_available ts u es ≡ false) e (none_any (available ts w) es q))) below
    (Memᴰ.cases_cons i)) (λ es w ws x q below. below)
    es
    ws
