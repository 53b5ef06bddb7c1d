-- Commit, abort, the end of leases and the clock keep the agreement.
use Prim.Native.Nat.{ℕ, ◌+◌, ◌<◌}
use mathlib.Core.Bool.{Bool, true, false, cond, not, true≢false}
use mathlib.Core.Logic.{◌⊎◌, inl, inr, ⊎_elim}
use mathlib.Core.Path.{◌≡◌, refl, sym, ap, ◌∙◌, subst⁻¹}
use mathlib.Core.List.Memᴰ
use mathlib.Core.List.{List, [], ◌++◌, map, Memᴰ}
use native.Mathlib.Omega.{arith}
use borrow.Author.Tests.{eqb-true, eqb-false, eq-eqb, ne_eqb, not-true, leb-true, le-leb}
use lib.Dec.{eqb}
use Rattle.rules.specs.declared.Entry.{Entry}
use Rattle.rules.specs.declared.Txn.{Txn}
use Rattle.rules.specs.declared.until.Until.{Until}
use Rattle.rules.specs.declared.until.Until.TheVariants.{Tick, Forever}
use Rattle.rules.specs.Lists.{filterb, anyb, All}
use Rattle.rules.specs.Time.{reached}
use Rattle.rules.specs.State.{Model, with_clock}
use Rattle.rules.specs.Template.{bit}
use Rattle.rules.specs.Holds.{live_txn, drop_reader_of}
use Rattle.rules.specs.Transactions.{no_txn, released, without_txn, commit, abort, is_private_to, is_taken_by}
use Rattle.rules.specs.Tick.{drop_ended}
use Rattle.rules.specs.SerialRun.{Kept, Operation, kept_of}
use Rattle.rules.specs.Sound.{Live, Consistent}
use Rattle.rules.proofs.BoolLaws.{bool_cases}
use Rattle.rules.proofs.ListLaws.{mem_filter, filter_mem}
use Rattle.rules.proofs.ReaderLaws.{bit_of_zero}
use Rattle.demands.specs.Told.{takes_number}
use Rattle.sound.proofs.AllLaws.{all_append, all_filter, all_map}
use Rattle.sound.proofs.HoldLaws.{eqb_cases, not_so, cleared_cases}
use Rattle.sound.proofs.HolderLaws.{drop_other, stays-live}
use Rattle.demands.proofs.SerialRunOps.{after_all, Can, mentions, takes_it, survives, after_split, can_keep}
use Rattle.demands.proofs.SerialRunAgree.{Holds, Stored, Same, Ties, Agree, AgreeIn, takes_same, takes_mentions}
use Rattle.demands.proofs.SerialRunAgree.{takes-number}

-- what ended stays so
reached_later : (c : ℕ) (u : Until) → reached c u ≡ true → reached (c + 1) u ≡ true
unfolding reached
reached_later c (Tick t) e = let l = leb-true t c e in le-leb t (c + 1) (omega arith)
reached_later c Forever e = e

-- the sets change, and nothing else
module _ (m : Model) {ks : List Kept} {lists : ℕ → List Operation} (a : AgreeIn m ks lists) where
  pub agree_tick : AgreeIn (with_clock (m.clock + 1) m) ks lists
  agree_tick =
      record {
        set = later a.set;
        own = λ x i. later (a.own x i);
        ties = a.ties;
        can = a.can;
        apart = a.apart;
        known = a.known;
        live = a.live;
      }
    where
      later : {u : ℕ} {ls : List Kept} → Same m.clock m.entries u ls → Same (m.clock + 1) m.entries u ls
      later h =
          record {
            kept-stored = λ k i. ⊎_elim (λ r. inl (reached_later m.clock k.end r)) inr (h.kept-stored k i);
            stored-kept = h.stored-kept;
          }

  pub agree_expire : AgreeIn (drop_ended m) ks lists
  unfolding drop_ended
  agree_expire =
      record {
        set = left a.set;
        own = λ x i. left (a.own x i);
        ties = λ x i. all_filter lasts m.entries (λ e j _. a.ties x i e j);
        can = a.can;
        apart = a.apart;
        known = a.known;
        live = a.live;
      }
    where
      lasts : Entry → Bool
      lasts e = not (reached m.clock e.end)

      left : {u : ℕ} {ls : List Kept} → Same m.clock m.entries u ls
          → Same m.clock (filterb lasts m.entries) u ls
      left h =
          record {
            kept-stored = λ k i. ⊎_elim inl
                (λ s. ⊎_elim (λ r. inl (ap (λ (j : Kept). reached m.clock j.end) (sym s.3) ∙ r))
                (λ r. inr (s.0, filter_mem lasts s.1 (ap not r), s.2, s.3))
                (bool_cases (reached m.clock s.0.end))) (h.kept-stored k i);
            stored-kept = all_filter lasts m.entries (λ e i _. h.stored-kept e i);
          }

-- the lists without one
abbrev pub without : ℕ → (ℕ → List Operation) → ℕ → List Operation
without t lists u = cond (eqb u t) [] (lists u)

-- a transaction t ends: the entries that p keeps are released, and its list goes
module _ {m : Model} {ks : List Kept} {lists : ℕ → List Operation} (s : Consistent m) (a : AgreeIn m ks lists) (t : ℕ)
    (z : 0 < t) (p : Entry → Bool) where
  abbrev ts : List Txn
  ts = m.txns

  abbrev rest : List Entry
  rest = map (released ts t) (filterb p m.entries)

  rest_all : (Q : Entry → Type 0) → ((e : Entry) → Memᴰ e m.entries → p e ≡ true → Q (released ts t e))
      → All Q rest
  rest_all Q h = all_map Q (released ts t) (filterb p m.entries) (all_filter p m.entries h)

  stays : {u : ℕ} {k : Kept} → (r : Stored m.entries u k) → p r.0 ≡ true → (u ≡ t → ⊥) → Stored rest u k
  unfolding released
  stays {u} r q d = (
    released ts t r.0,
    Memᴰ.map (released ts t) (filter_mem p r.1 q),
    cleared_cases (λ x. x.0 ≡ u) t r.0.private_to (λ c. absurd (d (sym r.2 ∙ c))) (λ _. r.2),
    r.3,
  )

  private_free : (e : Entry) → Memᴰ e m.entries → e.private_to.0 ≡ t
      → (e.taken_by.0 ≡ 0) × (e.readers ≡ 0)
  private_free e i q = ⊎_elim (λ c. absurd (omega arith)) (λ f. f) (s.held e i).own

  -- the set of another, whose private entries stay
  same_other : (u : ℕ) (ls : List Kept) → (u ≡ t → ⊥) → (0 ≡ u → ⊥)
      → All (λ e. e.private_to.0 ≡ u → p e ≡ true) m.entries
      → Same m.clock m.entries u ls → Same m.clock rest u ls
  unfolding released
  same_other u ls d nz keep h =
      record {
        kept-stored = λ k i. ⊎_elim inl (λ r. inr (stays r (keep r.0 r.1 r.2) d)) (h.kept-stored k i);
        stored-kept = rest_all (λ x. x.private_to.0 ≡ u → Memᴰ (kept_of x) ls)
            (λ e i _. cleared_cases (λ x. x.0 ≡ u → Memᴰ (kept_of e) ls) t e.private_to (λ _ q. absurd (nz q))
            (λ _. h.stored-kept e i));
      }

  -- another's list and the entries that are released
  ties_other : (x : Txn) → Memᴰ x ts → (x.id.0 ≡ t → ⊥) → All (Ties x (lists x.id.0)) rest
  unfolding released
  ties_other x j d =
      rest_all (Ties x (lists x.id.0)) (λ e i _.
      record {
        held =
            cleared_cases (λ o. o.0 ≡ 0 → anyb (takes_number e.id.0) (lists x.id.0) ≡ eqb (taker e) x.id.0)
            t e.private_to (λ q _. own e i q) (λ _ q. (a.ties x j e i).held q ∙ sym (same-taker e));
        holds = λ q. stay e ((a.ties x j e i).holds q);
        reads =
            λ q. let r = (a.ties x j e i).reads (sym (same_bit e) ∙ q) in
            (r.0, λ c. r.1 (eqb-true _ _ (sym (same-taker e) ∙ eq-eqb (taker e) x.id.0 c)));
        fitting = (a.ties x j e i).fitting;
      })
    where
      nz : 0 < x.id.0
      nz = s.txns_ok.above x j

      taker : Entry → ℕ
      taker e = (cond (eqb e.taken_by.0 t) no_txn e.taken_by).0

      same-taker : (e : Entry) → eqb (taker e) x.id.0 ≡ eqb e.taken_by.0 x.id.0
      same-taker e =
          cleared_cases (λ o. eqb o.0 x.id.0 ≡ eqb e.taken_by.0 x.id.0) t e.taken_by
          (λ q. ne_eqb 0 x.id.0 (λ c. omega (arith, nz)) ∙ sym
          (ne_eqb e.taken_by.0 x.id.0 (λ c. d (sym c ∙ q)))) (λ _. refl)

      same_bit : (e : Entry) → bit x.slot (drop_reader_of (live_txn t ts) e.readers) ≡ bit x.slot e.readers
      same_bit e = drop_other s.txns_ok x j t e.readers d

      stay : (e : Entry) → Holds x e → Holds x (released ts t e)
      stay e (inl q) =
          inl (cleared_cases (λ o. o.0 ≡ x.id.0) t e.private_to (λ c. absurd (d (sym q ∙ c))) (λ _. q))
      stay e (inr (inl q)) = inr (inl (eqb-true _ _ (same-taker e ∙ eq-eqb e.taken_by.0 x.id.0 q)))
      stay e (inr (inr q)) = inr (inr (same_bit e ∙ q))

      -- t's private entries nobody else finds
      unheld : (e : Entry) → Memᴰ e m.entries → e.private_to.0 ≡ t → Holds x e → ⊥
      unheld e i q (inl o) = d (sym o ∙ q)
      unheld e i q (inr (inl o)) = omega (arith, (private_free e i q).0, nz)
      unheld e i q (inr (inr o)) =
          true≢false (sym o ∙ ap (bit x.slot) (private_free e i q).1 ∙ bit_of_zero x.slot)

      own : (e : Entry) → Memᴰ e m.entries → e.private_to.0 ≡ t
          → anyb (takes_number e.id.0) (lists x.id.0) ≡ eqb (taker e) x.id.0
      own e i q =
          takes_mentions e.id.0 (lists x.id.0) (not_so _ (λ r. unheld e i q ((a.ties x j e i).holds r)))
          ∙ sym (same-taker e ∙ ne_eqb e.taken_by.0 x.id.0 (λ c. omega (arith, (private_free e i q).0, nz)))

  other : (x : Txn) → Memᴰ x (without_txn t ts) → Memᴰ x ts × (x.id.0 ≡ t → ⊥)
  unfolding without_txn
  other x i =
      let r = mem_filter (λ (y : Txn). not (eqb y.id.0 t)) ts i in
      (r.0, eqb-false x.id.0 t (not-true _ r.1))

  agree_end : (ls : List Kept)
      → All (λ e. (e.private_to.0 ≡ 0 → ⊥) → (e.private_to.0 ≡ t → ⊥) → p e ≡ true) m.entries
      → Same m.clock rest 0 ls → ((x : Txn) → Memᴰ x ts → (x.id.0 ≡ t → ⊥) → Can (lists x.id.0) ls)
      → Agree m.clock rest (without_txn t ts) m.next_entry ls (without t lists)
  agree_end ls keep set cans =
      record {
        set = set;
        own = λ x i. let r = other x i in let nz = s.txns_ok.above x r.0 in
            rw (ne_eqb x.id.0 t r.1) (same_other x.id.0 _ r.1 (λ c. omega arith)
            (λ e j q. keep e j (λ c. omega arith) (λ c. r.1 (sym q ∙ c))) (a.own x r.0));
        ties = λ x i. let r = other x i in rw (ne_eqb x.id.0 t r.1) (ties_other x r.0 r.1);
        can = λ x i. let r = other x i in rw (ne_eqb x.id.0 t r.1) (cans x r.0 r.1);
        apart = λ x y i j d. let r = other x i in let q = other y j in
            rw (ne_eqb x.id.0 t r.1, ne_eqb y.id.0 t q.1) (a.apart x y r.0 q.0 d);
        known = λ u o i. a.known u o (listed u o i);
        live =
            λ u o. eqb_cases (λ (os : List Operation). Memᴰ o os → Live u (without_txn t ts)) u t
            (λ _ i. absurd (Memᴰ.not-nil i)) (λ d i. stays-live t u ts d (a.live u o i));
      }
    where
      listed : (u : ℕ) (o : Operation) → Memᴰ o (without t lists u) → Memᴰ o (lists u)
      listed u o =
          eqb_cases (λ (os : List Operation). Memᴰ o os → Memᴰ o (lists u)) u t
          (λ _ i. absurd (Memᴰ.not-nil i)) (λ _ i. i)

module _ {m : Model} {ks : List Kept} {lists : ℕ → List Operation} (s : Consistent m) (a : AgreeIn m ks lists) where
  pub agree_abort : (t : ℕ) → 0 < t → AgreeIn (abort t m) ks (without t lists)
  unfolding abort released
  agree_abort t z =
      agree_end s a t z public ks (λ e i _ d. ap not (ne_eqb e.private_to.0 t d))
      (record {
        kept-stored = λ k i. ⊎_elim inl
            (λ r. inr (stays s a t z public r
            (ap not (ne_eqb r.0.private_to.0 t (λ q. let o = r.2 in omega arith))) (λ q. omega arith)))
            (a.set.kept-stored k i);
        stored-kept = rest_all s a t z public (λ x. x.private_to.0 ≡ 0 → Memᴰ (kept_of x) ks)
            (λ e i q. cleared_cases (λ x. x.0 ≡ 0 → Memᴰ (kept_of e) ks) t e.private_to
            (λ c. absurd (eqb-false e.private_to.0 t (not-true _ q) c)) (λ _. a.set.stored-kept e i));
      })
      (λ x i d. a.can x i)
    where
      public : Entry → Bool
      public e = not (is_private_to t e)

  pub agree_commit : (y : Txn) → Memᴰ y m.txns
      → AgreeIn (commit y.id.0 m) (after_all (lists y.id.0) ks) (without y.id.0 lists)
  unfolding commit released
  agree_commit y j =
      agree_end s a t z left ls (λ e i c d. ap not (ne_eqb e.taken_by.0 t (free_of e i c)))
      (record {
        kept-stored = subst⁻¹ (All KeptNow) (after_split os ks)
            (all_append (filterb (survives os) ks) (all_filter (survives os) ks
            (λ k i q. ⊎_elim inl (λ r. inr (stays s a t z left r (untaken k r q) (λ c. omega (arith, z))))
            (a.set.kept-stored k i)))
            (λ k i. ⊎_elim inl (λ r. inr (released-own k r)) ((a.own y j).kept-stored k i)));
        stored-kept = rest_all s a t z left (λ x. x.private_to.0 ≡ 0 → Memᴰ (kept_of x) ls)
            (λ e i q o. subst⁻¹ (Memᴰ (kept_of e)) (after_split os ks)
            (cleared_cases (λ x. x.0 ≡ 0 → Memᴰ (kept_of e) (filterb (survives os) ks ++ after_all os [])) t
            e.private_to (λ c _. Memᴰ.append_right (filterb (survives os) ks) ((a.own y j).stored-kept e i c))
            (λ _ c. Memᴰ.append_left (after_all os [])
            (filter_mem (survives os) (a.set.stored-kept e i c) (ap not (taken e i c ∙ not-true _ q)))) o));
      })
      (λ x i d. can_keep (lists x.id.0) ks ls (λ k c q. subst⁻¹ (Memᴰ k) (after_split os ks)
      (Memᴰ.append_left (after_all os []) (filter_mem (survives os) c (ap not (unhurt x i d k q))))) (a.can x i))
    where
      t : ℕ
      t = y.id.0

      z : 0 < t
      z = s.txns_ok.above y j

      os : List Operation
      os = lists t

      ls : List Kept
      ls = after_all os ks

      left : Entry → Bool
      left e = not (is_taken_by t e)

      KeptNow : Kept → Type 0
      KeptNow k = (reached m.clock k.end ≡ true) ⊎ Stored (rest s a t z left) 0 k

      free_of : (e : Entry) → Memᴰ e m.entries → (e.private_to.0 ≡ 0 → ⊥) → e.taken_by.0 ≡ t → ⊥
      free_of e i c q = ⊎_elim c (λ f. let n = f.0 in omega (arith, z)) (s.held e i).own

      -- y takes exactly the committed entries that it has a take hold on
      taken : (e : Entry) → Memᴰ e m.entries → e.private_to.0 ≡ 0
          → anyb (takes_it (kept_of e)) os ≡ is_taken_by t e
      taken e i q = takes_same e os (a.ties y j e i).fitting ∙ (a.ties y j e i).held q

      untaken : (k : Kept) (r : Stored m.entries 0 k) → survives os k ≡ true → left r.0 ≡ true
      untaken k r q = ap not (sym (taken r.0 r.1 r.2) ∙ ap (λ c. anyb (takes_it c) os) r.3 ∙ not-true _ q)

      released-own : (k : Kept) → Stored m.entries t k → Stored (rest s a t z left) 0 k
      released-own k r = (
        released m.txns t r.0,
        Memᴰ.map (released m.txns t)
            (filter_mem left r.1
            (ap not (ne_eqb r.0.taken_by.0 t (free_of r.0 r.1 (λ c. let o = r.2 in omega (arith, z)))))),
        cleared_cases (λ x. x.0 ≡ 0) t r.0.private_to (λ _. refl) (λ d. absurd (d r.2)),
        r.3,
      )

      -- y takes nothing that another finds
      unhurt : (x : Txn) → Memᴰ x m.txns → (x.id.0 ≡ t → ⊥) → (k : Kept)
          → mentions (lists x.id.0) k.number ≡ true → anyb (takes_it k) os ≡ false
      unhurt x i d k q = not_so _ (λ r. true≢false (sym q ∙ a.apart x y i j d k.number (takes-number k os r)))
