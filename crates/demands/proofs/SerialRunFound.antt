-- A found look-up keeps the agreement.
use Prim.Native.Nat.{ℕ, ◌<◌}
use mathlib.Core.Bool.{Bool, true, false, not, ◌&&◌, ◌||◌, true≢false, or-false, or-true}
use mathlib.Core.Logic.{inl, inr, ⊎_elim}
use mathlib.Core.Path.{◌≡◌, refl, sym, ap, ap₂, ◌∙◌, subst⁻¹}
use mathlib.Core.List.Memᴰ
use mathlib.Core.List.{List, [], ◌∷◌, ◌++◌, Memᴰ}
use native.Mathlib.Omega.{arith}
use borrow.Author.Tests.{eqb-true, eq-eqb, ne_eqb, not-true}
use lib.Dec.{eqb}
use Rattle.rules.specs.declared.Entry.{Entry}
use Rattle.rules.specs.declared.Txn.{Txn}
use Rattle.rules.specs.declared.LookUp.{LookUp}
use Rattle.rules.specs.Lists.{filterb, anyb, All}
use Rattle.rules.specs.State.{Model}
use Rattle.rules.specs.Template.{bit}
use Rattle.rules.specs.Holds.{available}
use Rattle.rules.specs.LookUp.{removes, marked, hand_out}
use Rattle.rules.specs.SerialRun.{Kept, Operation, finds, is_kept, kept_of}
use Rattle.rules.specs.Sound.{Ok, Consistent}
use Rattle.rules.proofs.BoolLaws.{and_left, and_right, bool_cases}
use Rattle.rules.proofs.ListLaws.{filter_mem, mem_any}
use Rattle.rules.proofs.ReaderLaws.{bit_of_zero}
use Rattle.demands.specs.Told.{takes_number, reads_number}
use Rattle.sound.proofs.AllLaws.{all_snoc, all_filter}
use Rattle.sound.proofs.HoldLaws.{equal_or, not_so, Free, available_free, held_by, mark_cases, removes_why, handed-all}
use Rattle.sound.proofs.HoldLaws.{others_stay, mark_stays}
use Rattle.sound.proofs.HolderLaws.{add-own, add_other, drop_own, drop_other}
use Rattle.sound.proofs.Consistent.{unique-entry}
use Rattle.demands.proofs.SerialRunOps.{after, after_all, after_find, Can, CanOne, mentions, survives, after_split}
use Rattle.demands.proofs.SerialRunOps.{can_keep, kept-number}
use Rattle.demands.proofs.SerialRunAgree.{fits, Holds, Stored, Same, Ties, AgreeIn, fields-same, kept_is}
use Rattle.demands.proofs.SerialRunAgree.{takes_same, takes_mentions, any_snoc, ties_more, Performs}

module _ {m : Model} {ks : List Kept} {lists : ℕ → List Operation} (s : Consistent m) (a : AgreeIn m ks lists)
    (w : LookUp)
    (e : Entry) (i : Memᴰ e m.entries) (av : available m.txns w e ≡ true) where
  abbrev t : ℕ
  t = w.txn.0

  abbrev n : ℕ
  n = e.id.0

  abbrev ts : List Txn
  ts = m.txns

  abbrev rest : List Entry
  rest = hand_out ts w e m.entries

  abbrev pub operation : Operation
  operation = finds w.takes n e.fields

  free : Free ts w e
  free = available_free ts w e av

  unique : All (λ x. x.id.0 ≡ n → x ≡ e) m.entries
  unique x j q = unique-entry s j i q

  rest_all : (Q : Entry → Type 0) → All (λ x. (x.id.0 ≡ n → ⊥) → Q x) m.entries
      → (w.takes ≡ false → e.private_to.0 ≡ t → Q e)
      → ((b : Bool) → w.takes ≡ b → e.private_to.0 ≡ 0 → (t ≡ 0 → ⊥) → Q (held_by ts w e b)) → All Q rest
  rest_all Q = handed-all ts w e m.entries av Q unique

  -- a stored entry stays so, unless it is the one removed
  stays : {u : ℕ} {k : Kept} → (r : Stored m.entries u k) → (r.0 ≡ e → removes w e ≡ false) → Stored rest u k
  stays {u} {k} r keep =
      ⊎_elim (λ q. let z = unique r.0 r.1 q in
      let same : (x : Entry) → Type 0 = λ x. (x.private_to.0 ≡ e.private_to.0) × (kept_of x ≡ kept_of e) in
      let h : same (marked ts w e) = mark_cases ts w e same (λ _. (refl, refl)) (λ b _ _. (refl, refl)) in (
        marked ts w e,
        mark_stays ts w e m.entries av i (keep z),
        h.0 ∙ ap (λ (x : Entry). x.private_to.0)
            (sym z) ∙ r.2,
        h.1 ∙ ap kept_of (sym z) ∙ r.3,
      )) (λ d. (r.0, others_stay ts w e m.entries av r.0 r.1 d, r.2, r.3)) (equal_or r.0.id.0 n)

  -- what is available to a take no other transaction holds
  not-held : (x : Txn) → Memᴰ x ts → (x.id.0 ≡ t → ⊥) → w.takes ≡ true → Holds x e → ⊥
  not-held x j d tk (inl q) =
      ⊎_elim (λ c. let z = s.txns_ok.above x j in omega arith) (λ c. d (sym q ∙ c)) free.owner
  not-held x j d tk (inr (inl q)) = let z = s.txns_ok.above x j in omega (arith, free.untaken)
  not-held x j d tk (inr (inr q)) =
      true≢false (sym q ∙ sym (drop_other s.txns_ok x j t e.readers d) ∙ ap (bit x.slot) (free.unread tk)
      ∙ bit_of_zero x.slot)

  unfound : (x : Txn) → Memᴰ x ts → (x.id.0 ≡ t → ⊥) → w.takes ≡ true → (c : ℕ) → c ≡ n
      → mentions (lists x.id.0) c ≡ false
  unfound x j d tk c q =
      not_so _ (λ r. not-held x j d tk ((a.ties x j e i).holds (ap (mentions (lists x.id.0)) (sym q) ∙ r)))

  -- the set of its own transaction, or of none, is changed by the operation, and no other
  same_other : (u : ℕ) (ls : List Kept) → (u ≡ t → ⊥) → Same m.clock m.entries u ls → Same m.clock rest u ls
  same_other u ls d h =
      record {
        kept-stored = λ k j. ⊎_elim inl
            (λ r. inr (stays r (λ z. not_so _
            (λ c. d (sym r.2 ∙ ap (λ (x : Entry). x.private_to.0) z ∙ (removes_why ts w e c).1)))))
            (h.kept-stored k j);
        stored-kept = rest_all (λ x. x.private_to.0 ≡ u → Memᴰ (kept_of x) ls) (λ x j _. h.stored-kept x j)
            (λ _ _. h.stored-kept e i) (λ b _ _ _. h.stored-kept e i);
      }

  same-own : (ls : List Kept) → Same m.clock m.entries t ls → Same m.clock rest t (after operation ls)
  same-own ls h = go w.takes refl
    where
      other : Kept → Bool
      other k = not (is_kept n e.fields k)

      go : (b : Bool) → w.takes ≡ b → Same m.clock rest t (after_find b n e.fields ls)
      go true tk =
          record {
            kept-stored = all_filter other ls (λ k j o. ⊎_elim inl
                (λ r. inr (stays r (λ z. absurd
                (true≢false (sym (kept_is e) ∙ ap (is_kept n e.fields) (ap kept_of (sym z) ∙ r.3) ∙ not-true _ o)))))
                (h.kept-stored k j));
            stored-kept = rest_all (λ x. x.private_to.0 ≡ t → Memᴰ (kept_of x) (filterb other ls))
                (λ x j d q. filter_mem other (h.stored-kept x j q)
                (ap not (not_so _ (λ c. d (kept-number n e.fields (kept_of x) c)))))
                (λ rd _ _. absurd (true≢false (sym tk ∙ rd))) (λ b _ c d q. absurd (d (sym q ∙ c)));
          }
      go false rd =
          record {
            kept-stored = λ k j. ⊎_elim inl
                (λ r. inr (stays r (λ _. not_so _ (λ c. true≢false (sym (removes_why ts w e c).0 ∙ rd)))))
                (h.kept-stored k j);
            stored-kept = rest_all (λ x. x.private_to.0 ≡ t → Memᴰ (kept_of x) ls) (λ x j _. h.stored-kept x j)
                (λ _ _. h.stored-kept e i) (λ b _ c d q. absurd (d (sym q ∙ c)));
          }

  -- the lists of others
  module _ (x : Txn) (j : Memᴰ x ts) where
    abbrev os : List Operation
    os = lists x.id.0

    abbrev tie : Ties x os e
    tie = a.ties x j e i

    z : 0 < x.id.0
    z = s.txns_ok.above x j

    untaken : eqb e.taken_by.0 x.id.0 ≡ false
    untaken = ne_eqb e.taken_by.0 x.id.0 (λ r. omega (arith, free.untaken, z))

    held_other : (x.id.0 ≡ t → ⊥) → (b : Bool) → w.takes ≡ b → Ties x os (held_by ts w e b)
    held_other d true tk =
        record {
          held = λ q. tie.held q ∙ untaken ∙ sym (ne_eqb t x.id.0 (λ r. d (sym r)));
          holds = λ q. absurd (not-held x j d tk (tie.holds q));
          reads = λ q. ((tie.reads (sym (drop_other s.txns_ok x j t e.readers d) ∙ q)).0, λ r. d (sym r));
          fitting = tie.fitting;
        }
    held_other d false rd =
        record {
          held = tie.held;
          holds = λ q. ⊎_elim inl (λ r. inr (⊎_elim inl (λ c. inr (same ∙ c)) r)) (tie.holds q);
          reads = λ q. tie.reads (sym same ∙ q);
          fitting = tie.fitting;
        }
      where
        same : bit x.slot (held_by ts w e false).readers ≡ bit x.slot e.readers
        same = add_other s.txns_ok x j t e.readers d

    -- and its own, with the operation last
    fits_it : All (λ o. fits n e.fields o ≡ true) (os ++ (operation ∷ []))
    fits_it = all_snoc os tie.fitting (rw (fields-same e.fields, or-true))

    plain-own : x.id.0 ≡ t → e.private_to.0 ≡ t → Ties x (os ++ (operation ∷ [])) e
    plain-own q o =
        record {
          held = λ c. absurd (omega (arith, z));
          holds = λ _. inl (o ∙ sym q);
          reads =
              λ b. let r = tie.reads b in
              (any_snoc (reads_number n) os operation ∙ ap (λ c. c || reads_number n operation) r.0, r.1);
          fitting = fits_it;
        }

    held-own : x.id.0 ≡ t → e.private_to.0 ≡ 0 → (b : Bool) → w.takes ≡ b
        → Ties x (os ++ (operation ∷ [])) (held_by ts w e b)
    unfolding reads_number
    held-own q c true tk =
        record {
          held = λ o. any_snoc (takes_number n) os operation ∙ ap₂ (λ x y. x || y && eqb n n) (tie.held o ∙ untaken) tk
              ∙ eq-eqb n n refl ∙ sym (eq-eqb t x.id.0 (sym q));
          holds = λ _. inr (inl (sym q));
          reads = λ b. absurd (true≢false (sym b ∙ drop_own s.txns_ok x j t e.readers q));
          fitting = fits_it;
        }
    held-own q c false rd =
        record {
          held =
              λ o. any_snoc (takes_number n) os operation ∙ ap₂ (λ x y. x || y && eqb n n) (tie.held o) rd ∙ or-false _;
          holds = λ _. inr (inr (add-own s.txns_ok x j t e.readers q));
          reads = λ _. (
            any_snoc (reads_number n) os operation ∙ ap₂ (λ x y. anyb (reads_number n) os || not x && y) rd
                (eq-eqb n n refl) ∙ or-true (anyb (reads_number n) os),
            λ r. omega (arith, free.untaken, z),
          );
          fitting = fits_it;
        }

    -- it can be carried out: the entry is in the set, or among what it adds
    there : x.id.0 ≡ t → Memᴰ (kept_of e) (after_all os ks)
    there q =
        subst⁻¹ (Memᴰ (kept_of e)) (after_split os ks) (⊎_elim
        (λ c. Memᴰ.append_left (after_all os []) (filter_mem (survives os) (a.set.stored-kept e i c)
        (ap not (takes_same e os tie.fitting ∙ tie.held c ∙ untaken))))
        (λ c. Memᴰ.append_right (filterb (survives os) ks) ((a.own x j).stored-kept e i (c ∙ sym q))) free.owner)

    can_still : (x.id.0 ≡ t → ⊥) → Can os (after operation ks)
    can_still d = go w.takes refl
      where
        go : (b : Bool) → w.takes ≡ b → Can os (after_find b n e.fields ks)
        go false rd = a.can x j
        go true tk =
            can_keep os ks (after_find true n e.fields ks)
            (λ k c q. filter_mem (λ k. not (is_kept n e.fields k)) c
            (ap not (not_so _ (λ p. true≢false
            (sym q ∙ unfound x j d tk k.number (kept-number n e.fields k p)))))) (a.can x j)

    -- another does not take what is available
    untaken_other : (x.id.0 ≡ t → ⊥) → (c : ℕ) → anyb (takes_number c) os ≡ true → eqb n c ≡ false
    untaken_other d c v = ne_eqb n c (λ b. no (ap (λ k. anyb (takes_number k) os) b ∙ v))
      where
        private : (e.private_to.0 ≡ 0 → ⊥) → Holds x e → ⊥
        private p (inl q) = ⊎_elim p (λ c. d (sym q ∙ c)) free.owner
        private p (inr (inl q)) = omega (arith, free.untaken, z)
        private p (inr (inr q)) =
            ⊎_elim p (λ f. true≢false (sym q ∙ ap (bit x.slot) f.1 ∙ bit_of_zero x.slot)) (s.held e i).own

        no : anyb (takes_number n) os ≡ true → ⊥
        no v =
            ⊎_elim (λ o. true≢false (sym v ∙ tie.held o ∙ untaken))
            (λ o. ⊎_elim (λ r. private o (tie.holds r)) (λ r. true≢false (sym v ∙ takes_mentions n os r))
            (bool_cases (mentions os n))) (equal_or e.private_to.0 0)

  pub performs_found : Ok t ts
      → Performs m.clock m.entries rest ts m.next_entry m.next_entry ks lists t operation
  performs_found l =
      record {
        inside = l;
        same_other = same_other;
        same-own = same-own;
        ties_other = λ x j d.
            rest_all (Ties x (lists x.id.0)) (λ f k _. a.ties x j f k) (λ _ _. a.ties x j e i)
            (λ b tk _ _. held_other x j d b tk);
        ties_own = λ x j q.
            rest_all (Ties x (lists x.id.0 ++ (operation ∷ [])))
            (λ f k d. ties_more operation (ne_eqb n f.id.0 (λ r. d (sym r))) (a.ties x j f k))
            (λ _ o. plain-own x j q o) (λ b tk c _. held-own x j q c b tk);
        can_other = λ x j d. can_still x j d;
        can_own = λ x j q. mem_any (is_kept n e.fields) (there x j q) (kept_is e);
        takes-apart =
            λ x j d c r. unfound x j d (and_left w.takes _ r) c (sym (eqb-true n c (and_right w.takes _ r)));
        finds-apart = λ y j d c v. untaken_other y j d c v;
        later = omega arith;
        found = λ c r. let b = s.below e i in let q = eqb-true n c r in omega arith;
      }

  -- outside transactions the entry is in the set
  pub can_now : t ≡ 0 → CanOne operation ks
  can_now q =
      mem_any (is_kept n e.fields) (a.set.stored-kept e i (⊎_elim (λ c. c) (λ c. c ∙ q) free.owner)) (kept_is e)
