-- A renewal keeps the agreement: the entry's end changes in the set as it does in the space.
use Prim.Native.Nat.{ℕ, ◌+◌, ◌≤◌}
use mathlib.Core.Bool.{Bool, true, false, cond, not, true≢false}
use mathlib.Core.Logic.{◌⊎◌, inl, inr, ⊎_elim}
use mathlib.Core.Path.{◌≡◌, sym, ap, ◌∙◌, subst}
use mathlib.Core.List.Memᴰ
use mathlib.Core.List.{List, [], ◌∷◌, map, Memᴰ}
use native.Mathlib.Omega.{arith}
use borrow.Author.Tests.{eq-eqb, ne_eqb}
use lib.Dec.{eqb}
use Rattle.rules.specs.declared.Entry.{Entry}
use Rattle.rules.specs.declared.Txn.{Txn}
use Rattle.rules.specs.declared.until.Until.{Until}
use Rattle.rules.specs.Time.{until, reached}
use Rattle.rules.specs.Template.{bit}
use Rattle.rules.specs.State.{Model}
use Rattle.rules.specs.Frame.{Frame, entry_named}
use Rattle.rules.specs.Renew.{has_number, ending_at, renewed_to, renew_entries}
use Rattle.rules.specs.SerialRun.{Kept, Operation, kept_of, kept_to}
use Rattle.rules.specs.Sound.{Consistent}
use Rattle.rules.proofs.BoolLaws.{cond_cases}
use Rattle.rules.proofs.ListLaws.{filter_mem, count, count_cons, count_mem}
use Rattle.rules.proofs.ReaderLaws.{bit_of_zero}
use Rattle.rules.proofs.TimeLaws.{until_now}
use Rattle.sound.proofs.AllLaws.{all_map}
use Rattle.sound.proofs.HoldLaws.{equal_or, eqb_cases, not_so}
use Rattle.sound.proofs.Events.{Renewable}
use Rattle.sound.proofs.Becomes.{renewed-all}
use Rattle.sound.proofs.Consistent.{unique-entry}
use Rattle.demands.proofs.SerialRunOps.{after_all, mentions, can_keep}
use Rattle.demands.proofs.SerialRunAgree.{Holds, Stored, Same, Ties, Agree, AgreeIn}

-- where at most one passes, those that pass are one
pub only_one : {A : Type 0} (p : A → Bool) {x y : A} {xs : List A} → count p xs ≤ 1 → Memᴰ x xs → p x ≡ true
    → Memᴰ y xs → p y ≡ true → x ≡ y
only_one p h (Memᴰ.head q) s (Memᴰ.head r) t = q ∙ sym r
only_one p h (Memᴰ.head {x = z} {xs = zs} q) s (Memᴰ.tail j) t =
    let first : count p (z ∷ zs) ≡ cond true 1 0 + count p zs =
    count_cons p z zs ∙ ap (λ b. cond b 1 0 + count p zs) (ap p (sym q) ∙ s) in
    let more = count_mem p j t in absurd (omega arith)
only_one p h (Memᴰ.tail {x = z} {xs = zs} i) s (Memᴰ.head r) t =
    let first : count p (z ∷ zs) ≡ cond true 1 0 + count p zs =
    count_cons p z zs ∙ ap (λ b. cond b 1 0 + count p zs) (ap p (sym r) ∙ t) in
    let more = count_mem p i s in absurd (omega arith)
only_one p h (Memᴰ.tail {x = z} {xs = zs} i) s (Memᴰ.tail j) t =
    only_one p (let l = count_cons p z zs in omega arith) i s j t

module _ (f : Frame) (m : Model) (s : Consistent m) (x : Renewable f m) where
  abbrev end : Until
  end = until m.clock f.lease_or_timeout

  -- what the run makes of an entry of its set
  abbrev pub turned : Kept → Kept
  turned k = cond (eqb k.number (entry_named f)) (kept_to end k) k

  turned-one : (k : Kept) → k.number ≡ entry_named f → turned k ≡ kept_to end k
  turned-one k q = rw (eq-eqb k.number (entry_named f) q)

  turned_other : (k : Kept) → (k.number ≡ entry_named f → ⊥) → turned k ≡ k
  turned_other k d = rw (ne_eqb k.number (entry_named f) d)

  -- the entry is the one with that number
  only : (e : Entry) → Memᴰ e m.entries → e.id.0 ≡ entry_named f → e ≡ x.entry
  only e i q = unique-entry s i x.stored (q ∙ sym x.number)

  -- the others stay
  stays : (e : Entry) → Memᴰ e m.entries → (e.id.0 ≡ entry_named f → ⊥) → Memᴰ e (renew_entries m f)
  unfolding renew_entries
  stays e i d =
      let other : has_number (entry_named f) e ≡ false = ne_eqb e.id.0 (entry_named f) d in
      cond_cases (Memᴰ e) (eqb f.lease_or_timeout 0)
      (λ _. filter_mem (λ y. not (has_number (entry_named f) y)) i (ap not other))
      (λ _. subst (λ (y : Entry). Memᴰ y (renewed_to (entry_named f) end m.entries))
      (ap {B = Entry} (λ b. cond b (ending_at end e) e) other)
      (Memᴰ.map (λ y. cond (has_number (entry_named f) y) (ending_at end y) y) i))

  is_there : (f.lease_or_timeout ≡ 0 → ⊥) → Memᴰ (ending_at end x.entry) (renew_entries m f)
  unfolding renew_entries
  is_there d =
      let its = eq-eqb x.entry.id.0 (entry_named f) x.number in
      eqb_cases (Memᴰ (ending_at end x.entry)) f.lease_or_timeout 0 (λ z. absurd (d z))
      (λ _. subst (λ (y : Entry). Memᴰ y (renewed_to (entry_named f) end m.entries))
      (ap {B = Entry} (λ b. cond b (ending_at end x.entry) x.entry) its)
      (Memᴰ.map (λ y. cond (has_number (entry_named f) y) (ending_at end y) y) x.stored))

  module _ {ks : List Kept} {lists : ℕ → List Operation} (a : AgreeIn m ks lists)
      (alone : (k : Kept) → Memᴰ k ks → k.number ≡ entry_named f → k ≡ kept_of x.entry) where
    -- nobody has found it
    unfound : (t : Txn) → Memᴰ t m.txns → mentions (lists t.id.0) (entry_named f) ≡ false
    unfound t i =
        not_so _ (λ e. nobody ((a.ties t i x.entry x.stored).holds
        (ap (mentions (lists t.id.0)) x.number ∙ e)))
      where
        nobody : Holds t x.entry → ⊥
        nobody =
            ⊎_elim (λ q. let p = x.committed in let l = s.txns_ok.above t i in omega arith)
            (⊎_elim (λ q. let p = x.untaken in let l = s.txns_ok.above t i in omega arith)
            (λ b. absurd (not-bit b)))
          where
            not-bit : bit t.slot x.entry.readers ≡ true → ⊥
            not-bit b = true≢false (sym b ∙ ap (bit t.slot) x.unread ∙ bit_of_zero t.slot)

    set : Same m.clock (renew_entries m f) 0 (map turned ks)
    set =
        record {
          kept-stored = all_map _ turned ks (λ k i. eqb_cases Q k.number (entry_named f) (one k i) (other k i));
          stored-kept =
              renewed-all (λ e. e.private_to.0 ≡ 0 → Memᴰ (kept_of e) (map turned ks)) f m
              (λ e i d c. Memᴰ.cast (sym (turned_other (kept_of e) d)) (Memᴰ.map turned (a.set.stored-kept e i c)))
              (λ _ e i q c. Memᴰ.cast (sym (turned-one (kept_of e) q)) (Memᴰ.map turned (a.set.stored-kept e i c)));
        }
      where
        Q : Kept → Type 0
        Q k = (reached m.clock k.end ≡ true) ⊎ Stored (renew_entries m f) 0 k

        one : (k : Kept) → Memᴰ k ks → k.number ≡ entry_named f → Q (kept_to end k)
        one k i q =
            ⊎_elim (λ z. inl (ap (λ l. reached m.clock (until m.clock l)) z ∙ until_now m.clock))
            (λ d. inr (ending_at end x.entry, is_there d, x.committed, ap (kept_to end) (sym (alone k i q))))
            (equal_or f.lease_or_timeout 0)

        other : (k : Kept) → Memᴰ k ks → (k.number ≡ entry_named f → ⊥) → Q k
        other k i d =
            ⊎_elim inl
            (λ e. inr (e.0, stays e.0 e.1 (λ q. d (sym (ap (λ (l : Kept). l.number) e.3) ∙ q)), e.2, e.3))
            (a.set.kept-stored k i)

    own : (t : Txn) → Memᴰ t m.txns
        → Same m.clock (renew_entries m f) t.id.0 (after_all (lists t.id.0) [])
    own t i =
        record {
          kept-stored = λ k j.
              ⊎_elim inl (λ e. inr (e.0, stays e.0 e.1 (λ q. another e.0 e.1 e.2 q), e.2, e.3))
              ((a.own t i).kept-stored k j);
          stored-kept =
              renewed-all (λ e. e.private_to.0 ≡ t.id.0 → Memᴰ (kept_of e) (after_all (lists t.id.0) []))
              f m
              (λ e j _ c. (a.own t i).stored-kept e j c) (λ _ e j q c. absurd (another e j c q));
        }
      where
        -- it is committed
        another : (e : Entry) → Memᴰ e m.entries → e.private_to.0 ≡ t.id.0 → e.id.0 ≡ entry_named f → ⊥
        another e j c q =
            let same = ap (λ (y : Entry). y.private_to.0) (only e j q) in
            let free = x.committed in
            let l = s.txns_ok.above t i in omega arith

    pub agree_renew : Agree m.clock (renew_entries m f) m.txns m.next_entry (map turned ks) lists
    agree_renew =
        record {
          set = set;
          own = own;
          ties = λ t i.
              renewed-all (Ties t (lists t.id.0)) f m (λ e j _. a.ties t i e j)
              (λ _ e j _. let h = a.ties t i e j in
              record { held = h.held; holds = h.holds; reads = h.reads; fitting = h.fitting });
          can = λ t i.
              can_keep (lists t.id.0) ks (map turned ks)
              (λ k j e. Memᴰ.cast (sym (turned_other k
              (λ q. true≢false (sym e ∙ ap (mentions (lists t.id.0)) q ∙ unfound t i)))) (Memᴰ.map turned j))
              (a.can t i);
          apart = a.apart;
          known = a.known;
          live = a.live;
        }
