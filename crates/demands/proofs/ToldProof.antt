-- The space stores what its answers tell, held as they tell.
use Prim.Native.Nat.{ℕ, ◌+◌, ◌≤◌, ◌<◌}
use mathlib.Core.Bool.{Bool, true, false, cond, not, ◌||◌, true≢false}
use mathlib.Core.Logic.{◌⊎◌, inl, inr, ⊎_elim}
use mathlib.Core.Path.{◌≡◌, refl, sym, ap, ◌∙◌, subst, subst⁻¹}
use mathlib.Core.List.{List, [], ◌∷◌, ◌++◌, map, Memᴰ}
use native.Mathlib.Omega.{arith}
use borrow.Author.Tests.{eqb-true, eqb-false, eq-eqb, ne_eqb, not-true}
use lib.Dec.{eqb}
use Rattle.rules.specs.declared.Entry.{Entry}
use Rattle.rules.specs.declared.Txn.{Txn}
use Rattle.rules.specs.Lists.{filterb, anyb, joined, All}
use Rattle.rules.specs.Time.{reached}
use Rattle.rules.specs.State.{Model, empty}
use Rattle.rules.specs.Template.{bit}
use Rattle.rules.specs.SerialRun.{Kept, Operation, adds, finds, Pending, Run, is_kept, taking, carry_out, carry_out_all}
use Rattle.rules.specs.SerialRun.{serial_run, kept_of}
use Rattle.rules.specs.Sound.{Live, Consistent}
use Rattle.rules.proofs.BoolLaws.{cond_cases, and_right}
use Rattle.rules.proofs.ListLaws.{mem_filter, filter_mem, any_mem, mem_any, none_mem, all_false, count, count_cons}
use Rattle.rules.proofs.ListLaws.{count_mem, count_map, count-filter}
use Rattle.rules.proofs.ReaderLaws.{bit_of_zero}
use Rattle.demands.specs.Machine.{Input}
use Rattle.demands.specs.Told.{Told, takes_number, reads_number, who_takes, who_reads, committed_told, private_told}
use Rattle.demands.specs.Told.{told, AsTold, Explained}
use Rattle.demands.proofs.Runs.{runs, made}
use Rattle.sound.proofs.AllLaws.{all_none, all_cons, all_append, all_filter, all_map}
use Rattle.sound.proofs.AscendingLaws.{ascending-distinct}
use Rattle.sound.proofs.HoldLaws.{not_so, eqb_cases}
use Rattle.sound.proofs.Consistent.{live-above}
use Rattle.demands.proofs.ByEvents.{consistent, lasting}
use Rattle.demands.proofs.SerialRunOps.{after, after_all, CanOne, Can, carry_out_can, carry_out_all_can, takes_it}
use Rattle.demands.proofs.SerialRunOps.{after_split, survives, mentions_it, is_number, adds_it, total-carry_out_all}
use Rattle.demands.proofs.SerialRunAgree.{Holds, Same, takes-number}
use Rattle.demands.proofs.SerialRunProof.{listed, pending_adds, TracksIn, linked}

-- whose lists have an operation that passes a test
abbrev who : (Operation → Bool) → List Pending → List ℕ
who q ps = map (λ (p : Pending). p.txn) (filterb (λ (p : Pending). q p.operation) ps)

in_list : (t : ℕ) (ps : List Pending) (p : Pending) → Memᴰ p ps → p.txn ≡ t
    → Memᴰ p.operation (listed ps t)
in_list t ps p i e =
    mathlib.Core.List.Memᴰ.map (λ (p : Pending). p.operation)
    (filter_mem (λ (p : Pending). eqb p.txn t) i (eq-eqb p.txn t e))

of_list : (t : ℕ) (ps : List Pending) (o : Operation) → Memᴰ o (listed ps t)
    → (p : Pending) × Memᴰ p ps × (p.txn ≡ t) × (p.operation ≡ o)
of_list t ps o i =
    let p = mathlib.Core.List.Memᴰ.of_map (λ (p : Pending). p.operation) (filterb (λ (p : Pending). eqb p.txn t) ps) i
    in
    let r = mem_filter (λ (p : Pending). eqb p.txn t) ps p.1 in
    (p.0, r.0, eqb-true p.0.txn t r.1, p.2)

in_who : (q : Operation → Bool) (t : ℕ) (ps : List Pending) → anyb q (listed ps t) ≡ true → Memᴰ t (who q ps)
in_who q t ps e =
    let o = any_mem q (listed ps t) e in
    let p = of_list t ps o.0 o.1 in
    mathlib.Core.List.Memᴰ.cast (sym p.2)
    (mathlib.Core.List.Memᴰ.map (λ (p : Pending). p.txn)
    (filter_mem (λ (p : Pending). q p.operation) p.1 (ap q p.3 ∙ o.2)))

who_in : (q : Operation → Bool) (t : ℕ) (ps : List Pending) → Memᴰ t (who q ps) → anyb q (listed ps t) ≡ true
who_in q t ps i =
    let p = mathlib.Core.List.Memᴰ.of_map (λ (p : Pending). p.txn) (filterb (λ (p : Pending). q p.operation) ps) i in
    let r = mem_filter (λ (p : Pending). q p.operation) ps p.1 in
    mem_any q (in_list t ps p.0 r.0 p.2) r.1

untaken-told : (n : ℕ) (r : Run) (t : ℕ) → anyb (takes_number n) (listed r.pending t) ≡ false
    → anyb (eqb t) (who_takes n r) ≡ false
unfolding who_takes
untaken-told n r t none =
    not_so _ (λ q. let u = any_mem (eqb t) (who_takes n r) q in
    let same = ap (λ v. anyb (takes_number n) (listed r.pending v)) (eqb-true t u.0 u.2) in
    true≢false (sym (same ∙ who_in (takes_number n) u.0 r.pending u.1) ∙ none))

-- what a list leaves was there or is added by it; and what it adds and does not take it leaves
after-added : (os : List Operation) (ks : List Kept) (k : Kept) → Memᴰ k (after_all os ks)
    → Memᴰ k ks ⊎ Memᴰ (adds k) os
after-added [] ks k i = inl i
after-added (o ∷ os) ks k i = ⊎_elim (one o) (λ h. inr (mathlib.Core.List.Memᴰ.tail h))
    (after-added os (after o ks) k i)
  where
    one : (o : Operation) → Memᴰ k (after o ks) → Memᴰ k ks ⊎ Memᴰ (adds k) (o ∷ os)
    one (adds j) h =
        ⊎_elim inl (λ l. inr (mathlib.Core.List.Memᴰ.head (ap adds (mathlib.Core.List.Memᴰ.eq_of_singleton l))))
        (mathlib.Core.List.Memᴰ.append_cases ks h)
    one (finds true n x) h = inl (mem_filter (λ j. not (is_kept n x j)) ks h).0
    one (finds false n x) h = inl h

added-after : (os : List Operation) (ks : List Kept) (k : Kept) → Memᴰ (adds k) os
    → All (λ o. takes_it k o ≡ false) os → Memᴰ k (after_all os ks)
added-after [] ks k i h = absurd (mathlib.Core.List.Memᴰ.not-nil i)
added-after (o ∷ os) ks k i h =
    ⊎_elim (here o) (λ j. added-after os (after o ks) k j (λ p l. h p (mathlib.Core.List.Memᴰ.tail l)))
    (mathlib.Core.List.Memᴰ.cases_cons i)
  where
    here : (o : Operation) → adds k ≡ o → Memᴰ k (after_all os (after o ks))
    here o e =
        let last = mathlib.Core.List.Memᴰ.append_right ks (mathlib.Core.List.Memᴰ.head refl) in
        let there = subst (λ (p : Operation). Memᴰ k (after p ks)) e last in
        let lasts = ap not (all_false (takes_it k) os (λ p l. h p (mathlib.Core.List.Memᴰ.tail l))) in
        subst⁻¹ (Memᴰ k) (after_split os (after o ks))
        (mathlib.Core.List.Memᴰ.append_left _ (filter_mem (survives os) there lasts))

-- what a list takes is among the taken
taken-one : (n : ℕ) (o : Operation) (r : Run) → CanOne o r.kept
    → count (eqb n) r.taken + cond (takes_number n o) 1 0 ≤ count (eqb n) (carry_out o r).taken
unfolding carry_out taking
taken-one n (adds k) r c = omega arith
taken-one n (finds true i x) r c =
    let one = count_cons (eqb n) i r.taken in
    rw c (eqb_cases (λ (k : ℕ). count (eqb n) r.taken + k ≤ count (eqb n) (i ∷ r.taken)) i n
    (λ q. let turned : ◌≡◌ {A = ℕ} (cond (eqb n i) 1 0) 1 = rw (eq-eqb n i (sym q)) in omega arith) (λ _. omega arith))
taken-one n (finds false i x) r c = rw c (omega arith)

taken-all : (n : ℕ) (os : List Operation) (r : Run) → Can os r.kept
    → count (eqb n) r.taken + cond (anyb (takes_number n) os) 1 0 ≤ count (eqb n) (carry_out_all os r).taken
unfolding carry_out_all
taken-all n [] r c = omega arith
taken-all n (o ∷ os) r c =
    go (count (eqb n) r.taken) (count (eqb n) (carry_out o r).taken) (takes_number n o) (anyb (takes_number n) os)
    (taken-one n o r c.0) (taken-all n os (carry_out o r) (subst⁻¹ (Can os) (carry_out_can o r c.0).0 c.1))
  where
    go : {k : ℕ} (i j : ℕ) (a b : Bool) → i + cond a 1 0 ≤ j → j + cond b 1 0 ≤ k → i + cond (a || b) 1 0 ≤ k
    go i j true b p q = omega arith
    go i j false true p q = omega arith
    go i j false false p q = omega arith

joined-all : {A B : Type 0} (Q : B → Type 0) (g : A → List B) (xs : List A) → All (λ x. All Q (g x)) xs
    → All Q (joined (map g xs))
joined-all Q g [] h = all_none Q
joined-all Q g (x ∷ xs) h =
    all_append (g x) (h x (mathlib.Core.List.Memᴰ.head refl))
    (joined-all Q g xs (λ z i. h z (mathlib.Core.List.Memᴰ.tail i)))

in_joined : {A B : Type 0} (g : A → List B) {x : A} {xs : List A} {y : B} → Memᴰ x xs → Memᴰ y (g x)
    → Memᴰ y (joined (map g xs))
in_joined g {y = y} (mathlib.Core.List.Memᴰ.head {x = z} {xs = zs} e) i =
    mathlib.Core.List.Memᴰ.append_left (joined (map g zs)) (subst (λ w. Memᴰ y (g w)) e i)
in_joined g (mathlib.Core.List.Memᴰ.tail {x = z} {xs = zs} m) i = mathlib.Core.List.Memᴰ.append_right (g z)
    (in_joined g m i)

-- what a transaction has written and not taken is told
abbrev as_private : ℕ → Kept → Told
as_private t k = record { kept = k; private_to = t; takers = []; readers = [] }

private_in : (r : Run) (p : Pending) (k : Kept) → p.operation ≡ adds k
    → anyb (eqb p.txn) (who_takes k.number r) ≡ false → Memᴰ (as_private p.txn k) (private_told r p)
unfolding private_told
private_in r p k q n =
    subst⁻¹ (λ (o : Operation). Memᴰ (as_private p.txn k)
    (private_told r (record { txn = p.txn; operation = o }))) q (rw n (mathlib.Core.List.Memᴰ.head refl))

private_all : (Q : Told → Type 0) (r : Run) (p : Pending)
    → ((k : Kept) → p.operation ≡ adds k → anyb (eqb p.txn) (who_takes k.number r) ≡ false
    → Q (as_private p.txn k)) → All Q (private_told r p)
unfolding private_told
private_all Q r p h = go p.operation refl
  where
    go : (o : Operation) → p.operation ≡ o → All Q (private_told r (record { txn = p.txn; operation = o }))
    go (finds b n y) e = all_none Q
    go (adds k) e =
        cond_cases (All Q) (anyb (eqb p.txn) (who_takes k.number r)) (λ _. all_none Q)
        (λ n. all_cons (h k e n) (all_none Q))

module _ (m : Model) (r : Run) (s : Consistent m) (h : TracksIn m r) where
  -- a committed entry
  module _ (e : Entry) (i : Memᴰ e m.entries) (o : e.private_to.0 ≡ 0) where
    abbrev n : ℕ
    n = e.id.0

    held : (t : ℕ) → Live t m.txns → anyb (takes_number n) (listed r.pending t) ≡ eqb e.taken_by.0 t
    held t x =
        subst (λ u. anyb (takes_number n) (listed r.pending u) ≡ eqb e.taken_by.0 u) x.2
        ((h.agree.ties x.0 x.1 e i).held o)

    taker-told : (t : ℕ) → 0 < t → e.taken_by.0 ≡ t → Memᴰ t (who_takes n r)
    unfolding who_takes
    taker-told t z q =
        ⊎_elim (λ c. absurd (omega arith))
        (λ x. in_who (takes_number n) t r.pending (held t (x.0, x.1, x.2 ∙ q) ∙ eq-eqb _ t q)) (s.held e i).taker

    told-taker : (t : ℕ) → Memᴰ t (who_takes n r) → e.taken_by.0 ≡ t
    unfolding who_takes
    told-taker t j =
        let any = who_in (takes_number n) t r.pending j in
        let f = any_mem (takes_number n) (listed r.pending t) any in
        eqb-true _ t (sym (held t (h.agree.live t f.0 f.1)) ∙ any)

    reader_told : (x : Txn) → Memᴰ x m.txns → bit x.slot e.readers ≡ true
        → Memᴰ x.id.0 (who_reads n r)
    unfolding who_reads
    reader_told x j b =
        let d = (h.agree.ties x j e i).reads b in
        filter_mem (λ t. not (anyb (eqb t) (who_takes n r))) (in_who (reads_number n) x.id.0 r.pending d.0)
        (ap not (all_false (eqb x.id.0) (who_takes n r)
        (λ t l. ne_eqb x.id.0 t (λ q. d.1 (told-taker t l ∙ sym q)))))

    told_reader : (x : Txn) → Memᴰ x m.txns → Memᴰ x.id.0 (who_reads n r)
        → bit x.slot e.readers ≡ true
    unfolding who_reads reads_number
    told_reader x j l =
        let d = mem_filter (λ t. not (anyb (eqb t) (who_takes n r))) (who (reads_number n) r.pending) l in
        let f = any_mem (reads_number n) (listed r.pending x.id.0)
        (who_in (reads_number n) x.id.0 r.pending d.0) in
        go (s.txns_ok.above x j) (not-true _ d.1)
        ((h.agree.ties x j e i).holds (mem_any (mentions_it n) f.1 (mentioned f.0 f.2)))
      where
        mentioned : (o : Operation) → reads_number n o ≡ true → mentions_it n o ≡ true
        mentioned (adds k) q = absurd (true≢false (sym q))
        mentioned (finds b i x) q = and_right (not b) _ q

        go : 0 < x.id.0 → anyb (eqb x.id.0) (who_takes n r) ≡ false → Holds x e → bit x.slot e.readers ≡ true
        go z c (inl a) = absurd (omega arith)
        go z c (inr (inl a)) =
            absurd (eqb-false x.id.0 x.id.0 (none_mem (eqb x.id.0) c (taker-told x.id.0 z a)) refl)
        go z c (inr (inr a)) = a

    as_committed : AsTold m.txns e (committed_told r (kept_of e))
    unfolding committed_told
    as_committed =
        record {
          kept = refl;
          private_to = o;
          taken_by = λ t z. (taker-told t z, told-taker t);
          readers = λ x j. (reader_told x j, told_reader x j);
        }

  -- a private entry: nobody holds it
  as_private_lem : (e : Entry) → Memᴰ e m.entries → (t : ℕ) → 0 < t → e.private_to.0 ≡ t
      → AsTold m.txns e (as_private t (kept_of e))
  as_private_lem e i t z o =
      record {
        kept = refl;
        private_to = o;
        taken_by = λ u y. (
          (λ q. let n = free.0 in absurd (omega arith)),
          λ j. absurd
              (mathlib.Core.List.Memᴰ.not-nil j),
        );
        readers = λ x j. ((λ b. absurd (unread x b)), λ l. absurd (mathlib.Core.List.Memᴰ.not-nil l));
      }
    where
      free : (e.taken_by.0 ≡ 0) × (e.readers ≡ 0)
      free = ⊎_elim (λ q. absurd (omega arith)) (λ q. q) (s.held e i).own

      unread : (x : Txn) → bit x.slot e.readers ≡ true → ⊥
      unread x b = true≢false (sym b ∙ ap (bit x.slot) free.1 ∙ bit_of_zero x.slot)

  -- a transaction takes none of what it has written and still has
  not_taken : (x : Txn) → Memᴰ x m.txns → (k : Kept)
      → Memᴰ k (after_all (listed r.pending x.id.0) [])
      → anyb (takes_number k.number) (listed r.pending x.id.0) ≡ false
  not_taken x j k l =
      not_so _ (λ q. let taken = rw q at (taken-all n os r c) in
      let once = h.once n in
      let added = count_map (adds_it n) (λ (p : Pending). p.operation) (filterb its r.pending) in
      omega (arith, total-carry_out_all n os r c, in_set, count-filter (pending_adds n) its r.pending))
    where
      os : List Operation
      os = listed r.pending x.id.0

      its : Pending → Bool
      its p = eqb p.txn x.id.0

      c : Can os r.kept
      c = h.agree.can x j

      n : ℕ
      n = k.number

      in_set : 1 ≤ count (is_number n) (carry_out_all os r).kept
      in_set =
          subst⁻¹ (λ (ks : List Kept). 1 ≤ count (is_number n) ks)
          ((carry_out_all_can os r c).0 ∙ after_split os r.kept)
          (count_mem (is_number n) (mathlib.Core.List.Memᴰ.append_right (filterb (survives os) r.kept) l)
          (eq-eqb n n refl))

  module _ (lasts : All (λ e. reached m.clock e.end ≡ false) m.entries) where
    abbrev lasting-told : Told → Bool
    lasting-told x = not (reached r.clock x.kept.end)

    not-over : (e : Entry) → Memᴰ e m.entries → not (reached r.clock e.end) ≡ true
    not-over e i = ap not (ap (λ c. reached c e.end) h.same-clock ∙ lasts e i)

    abbrev private_told_lem : List Told
    private_told_lem = joined (map (private_told r) r.pending)

    -- a stored entry is told
    stored_told : All (λ e. (x : Told) × Memᴰ x (told r) × AsTold m.txns e x) m.entries
    unfolding told committed_told
    stored_told e i = ⊎_elim committed private (s.held e i).owner
      where
        n : ℕ
        n = e.id.0

        ps : List Pending
        ps = r.pending

        committed : e.private_to.0 ≡ 0 → (x : Told) × Memᴰ x (told r) × AsTold m.txns e x
        committed o =
            let there = mathlib.Core.List.Memᴰ.append_left private_told_lem
            (mathlib.Core.List.Memᴰ.map (committed_told r) (h.agree.set.stored-kept e i o)) in
            (committed_told r (kept_of e), filter_mem lasting-told there (not-over e i), as_committed e i o)

        private : Live e.private_to.0 m.txns → (x : Told) × Memᴰ x (told r) × AsTold m.txns e x
        private y =
            let t = y.0.id.0 in
            let l = (h.agree.own y.0 y.1).stored-kept e i (sym y.2) in
            let none = not_taken y.0 y.1 (kept_of e) l in
            let a = ⊎_elim (λ j. absurd (mathlib.Core.List.Memᴰ.not-nil j)) (λ j. j)
            (after-added (listed ps t) [] (kept_of e) l) in
            let p = of_list t ps (adds (kept_of e)) a in
            let z = s.txns_ok.above y.0 y.1 in
            let q = p.2 in
            let free = untaken-told n r p.0.txn (ap (λ v. anyb (takes_number n) (listed ps v)) q ∙ none) in
            let told-it = in_joined (private_told r) p.1 (private_in r p.0 (kept_of e) p.3 free) in
            let among = mathlib.Core.List.Memᴰ.append_right (map (committed_told r) r.kept) told-it in
            let there = filter_mem lasting-told among (not-over e i) in
            (as_private p.0.txn (kept_of e), there, as_private_lem e i p.0.txn (omega arith) (sym y.2 ∙ sym q))

    -- and what is told is stored
    abbrev Storing : Told → Type 0
    Storing x = lasting-told x ≡ true → (e : Entry) × Memᴰ e m.entries × AsTold m.txns e x

    over-late : (k : Kept) → reached m.clock k.end ≡ true → not (reached r.clock k.end) ≡ true → ⊥
    over-late k c late = true≢false (sym (ap (λ u. reached u k.end) h.same-clock ∙ c) ∙ not-true _ late)

    kept-stored : All (λ k. Storing (committed_told r k)) r.kept
    unfolding committed_told
    kept-stored k i late =
        ⊎_elim (λ c. absurd (over-late k c late)) (λ e. let it = as_committed e.0 e.1 e.2 in
        (e.0, e.1, subst (AsTold m.txns e.0) (ap (committed_told r) e.3) it))
        (h.agree.set.kept-stored k i)

    private_stored : (p : Pending) → Memᴰ p r.pending → (k : Kept) → p.operation ≡ adds k
        → anyb (eqb p.txn) (who_takes k.number r) ≡ false → Storing (as_private p.txn k)
    unfolding who_takes
    private_stored p i k q n late =
        let t = p.txn in
        let os = listed r.pending t in
        let added = subst (λ (o : Operation). Memᴰ o os) q (in_list t r.pending p i refl) in
        let y = h.agree.live t (adds k) added in
        let Q : ℕ → Type 0 = λ u. Same m.clock m.entries u (after_all (listed r.pending u) []) in
        let taker : anyb (takes_it k) os ≡ true → Memᴰ t (who (takes_number k.number) r.pending) =
        λ c. in_who (takes_number k.number) t r.pending (takes-number k os c) in
        ⊎_elim (λ c. absurd (over-late k c late)) (λ e. let it = as_private_lem e.0 e.1 t (live-above s y) e.2 in
        (e.0, e.1, subst (λ (l : Kept). AsTold m.txns e.0 (as_private t l)) e.3 it))
        ((subst Q y.2 (h.agree.own y.0 y.1)).kept-stored k (added-after os [] k added
        (λ o j. not_so _ (λ c. eqb-false t t (none_mem (eqb t) n (taker (mem_any (takes_it k) j c))) refl))))

    told_stored : All (λ x. (e : Entry) × Memᴰ e m.entries × AsTold m.txns e x) (told r)
    unfolding told
    told_stored =
        all_filter lasting-told (map (committed_told r) r.kept ++ private_told_lem)
        (all_append (map (committed_told r) r.kept) (all_map Storing (committed_told r) r.kept kept-stored)
        (joined-all Storing (private_told r) r.pending (λ p i. private_all Storing r p (private_stored p i))))

pub told_demand : (is : List Input) → Explained (serial_run (runs empty is).log) (made is)
told_demand is =
    let m = made is in
    let r = serial_run (runs empty is).log in
    let s = consistent is in
    let h = (linked is).tracks in
    record {
      stored_told = stored_told m r s h (lasting is);
      told_stored = told_stored m r s h (lasting is);
      holders_live = λ e p i b. (s.held e i).readers p b;
      once = ascending-distinct _ s.ordered.entries;
      own_slot = s.txns_ok.slot;
    }
