-- How the serial run's set and lists agree with the space's entries and holds; and that an operation that is performed
-- keeps the agreement.
use Prim.Native.Nat.{ℕ, ◌≤◌, ◌<◌}
use mathlib.Core.Bool.{Bool, true, false, cond, not, ◌&&◌, ◌||◌, and-false, or-false}
use mathlib.Core.Logic.{◌⊎◌, inl, inr, ⊎_elim}
use mathlib.Core.Path.{◌≡◌, refl, sym, ap, ap₂, ◌∙◌, subst, subst⁻¹}
use mathlib.Core.List.{List, [], ◌∷◌, ◌++◌, Memᴰ}
use native.Mathlib.Omega.{arith}
use borrow.Author.Tests.{eqb-true, eqb-false, eq-eqb, ne_eqb}
use lib.Dec.{eqb}
use Rattle.rules.specs.declared.Entry.{Entry}
use Rattle.rules.specs.declared.Mark.{Mark}
use Rattle.rules.specs.declared.Txn.{Txn}
use Rattle.rules.specs.Lists.{anyb, All}
use Rattle.rules.specs.Time.{reached}
use Rattle.rules.specs.State.{Model}
use Rattle.rules.specs.Template.{bit}
use Rattle.rules.specs.SerialRun.{Kept, Operation, adds, finds, is_kept, same_fields, kept_of}
use Rattle.rules.specs.Sound.{Live}
use Rattle.rules.proofs.BoolLaws.{cond_cases, and_left, and_right, or_cases}
use Rattle.rules.proofs.ListLaws.{any_append, any_mem, mem_any, none_mem, all_false}
use Rattle.demands.specs.Told.{takes_number, reads_number}
use Rattle.sound.proofs.AllLaws.{all_snoc}
use Rattle.sound.proofs.HoldLaws.{eqb_cases}
use Rattle.demands.proofs.SerialRunOps.{after, after_all, CanOne, Can, mentions_it, mentions, takes_it, kept-number}
use Rattle.demands.proofs.SerialRunOps.{after_snoc, can_snoc}

-- whether an operation that finds a number gives these fields
abbrev pub fits : ℕ → Mark → Operation → Bool
fits n x (adds k) = true
fits n x (finds b i y) = not (eqb i n) || same_fields y x

-- a live transaction's private entry, or one that it holds
abbrev pub Holds : Txn → Entry → Type 0
Holds x e = (e.private_to.0 ≡ x.id.0) ⊎ ((e.taken_by.0 ≡ x.id.0) ⊎ (bit x.slot e.readers ≡ true))

-- a stored entry that is private to u (0: committed), as the set keeps it
abbrev pub Stored : List Entry → ℕ → Kept → Type 0
Stored es u k = (e : Entry) × Memᴰ e es × (e.private_to.0 ≡ u) × (kept_of e ≡ k)

-- what is kept of u is stored, or past its lease; and what is stored of u is kept
pub record Same (clock : ℕ) (es : List Entry) (u : ℕ) (ks : List Kept) : Type 0 where
  pub kept-stored : All (λ k. (reached clock k.end ≡ true) ⊎ Stored es u k) ks
  pub stored-kept : All (λ e. e.private_to.0 ≡ u → Memᴰ (kept_of e) ks) es

-- a live transaction's list and an entry: a committed one it takes exactly if the transaction has a take hold on it;
-- what it finds is held; a read hold has its read; and it gives the entry's fields
pub record Ties (x : Txn) (os : List Operation) (e : Entry) : Type 0 where
  pub held : e.private_to.0 ≡ 0 → anyb (takes_number e.id.0) os ≡ eqb e.taken_by.0 x.id.0
  pub holds : mentions os e.id.0 ≡ true → Holds x e
  pub reads : bit x.slot e.readers ≡ true
      → (anyb (reads_number e.id.0) os ≡ true) × (e.taken_by.0 ≡ x.id.0 → ⊥)
  pub fitting : All (λ o. fits e.id.0 e.fields o ≡ true) os

pub record Agree (clock : ℕ) (es : List Entry) (ts : List Txn) (next : ℕ) (ks : List Kept)
    (lists : ℕ → List Operation) : Type 0 where
  -- the set is the committed entries; what a live transaction's list adds and does not take is its private ones
  pub set : Same clock es 0 ks
  pub own : (x : Txn) → Memᴰ x ts → Same clock es x.id.0 (after_all (lists x.id.0) [])
  pub ties : (x : Txn) → Memᴰ x ts → All (Ties x (lists x.id.0)) es
  -- it can be carried out
  pub can : (x : Txn) → Memᴰ x ts → Can (lists x.id.0) ks
  -- what one live transaction takes no other finds
  pub apart : (x y : Txn) → Memᴰ x ts → Memᴰ y ts → (x.id.0 ≡ y.id.0 → ⊥)
      → (n : ℕ) → anyb (takes_number n) (lists y.id.0) ≡ true → mentions (lists x.id.0) n ≡ false
  pub known : (t : ℕ) (o : Operation) → Memᴰ o (lists t) → (n : ℕ) → mentions_it n o ≡ true → n < next
  pub live : (t : ℕ) (o : Operation) → Memᴰ o (lists t) → Live t ts

abbrev pub AgreeIn : Model → List Kept → (ℕ → List Operation) → Type 0
AgreeIn m ks lists = Agree m.clock m.entries m.txns m.next_entry ks lists

-- fields are the same as themselves
pub fields-same : (x : Mark) → same_fields x x ≡ true
unfolding same_fields
fields-same x =
    rw (
      eq-eqb x.kind x.kind refl,
      eq-eqb x.side x.side refl,
      eq-eqb x.image x.image refl,
      eq-eqb x.place x.place refl,
      eq-eqb x.blanks x.blanks refl,
    )

pub kept_is : (e : Entry) → is_kept e.id.0 e.fields (kept_of e) ≡ true
unfolding is_kept
kept_is e = rw (eq-eqb e.id.0 e.id.0 refl, fields-same e.fields)

-- a list that fits an entry takes it exactly when it takes its number
pub takes_same : (e : Entry) (os : List Operation) → All (λ o. fits e.id.0 e.fields o ≡ true) os
    → anyb (takes_it (kept_of e)) os ≡ anyb (takes_number e.id.0) os
unfolding is_kept
takes_same e [] h = refl
takes_same e (o ∷ os) h =
    ap₂ (λ a b. a || b) (one o (h o (Memᴰ.head refl))) (takes_same e os (λ p i. h p (Memᴰ.tail i)))
  where
    pair : (b : Bool) (n : ℕ) (x : Mark) (c : Bool) → eqb n e.id.0 ≡ c
        → (not c || same_fields x e.fields) ≡ true → (b && is_kept n x (kept_of e)) ≡ (b && c)
    pair b n x true q t = ap (λ d. b && d) (rw (eq-eqb e.id.0 n (sym (eqb-true n e.id.0 q)), t))
    pair b n x false q t = ap (λ d. b && d) (rw (ne_eqb e.id.0 n (λ z. eqb-false n e.id.0 q (sym z))))

    one : (o : Operation) → fits e.id.0 e.fields o ≡ true → takes_it (kept_of e) o ≡ takes_number e.id.0 o
    one (adds k) t = refl
    one (finds b n x) t = pair b n x (eqb n e.id.0) refl t

-- what is taken is found, and what is not found fits
pub takes_mentions : (n : ℕ) (os : List Operation) → mentions os n ≡ false → anyb (takes_number n) os ≡ false
takes_mentions n os e = all_false (takes_number n) os (λ o i. one o (none_mem (mentions_it n) e i))
  where
    one : (o : Operation) → mentions_it n o ≡ false → takes_number n o ≡ false
    one (adds k) q = refl
    one (finds b j x) q = rw (q, and-false)

pub fits_unfound : (n : ℕ) (x : Mark) (o : Operation) → mentions_it n o ≡ false → fits n x o ≡ true
fits_unfound n x (adds k) q = refl
fits_unfound n x (finds b i y) q = rw q

-- what an operation takes it takes by number
pub takes-number : (k : Kept) (os : List Operation) → anyb (takes_it k) os ≡ true
    → anyb (takes_number k.number) os ≡ true
takes-number k os e = let r = any_mem (takes_it k) os e in mem_any (takes_number k.number) r.1 (one r.0 r.2)
  where
    one : (o : Operation) → takes_it k o ≡ true → takes_number k.number o ≡ true
    one (adds j) q = q
    one (finds b n x) q =
        rw (and_left b (is_kept n x k) q) (eq-eqb n k.number (sym (kept-number n x k (and_right b (is_kept n x k) q))))

-- the lists with an operation put last in one
abbrev pub put : ℕ → Operation → (ℕ → List Operation) → ℕ → List Operation
put t o lists u = cond (eqb u t) (lists u ++ (o ∷ [])) (lists u)

pub any_snoc : {A : Type 0} (p : A → Bool) (xs : List A) (x : A) → anyb p (xs ++ (x ∷ [])) ≡ (anyb p xs || p x)
any_snoc p xs x = any_append p xs (x ∷ []) ∙ ap (λ b. anyb p xs || b) (or-false (p x))

-- an operation that does not find the entry's number changes nothing for it
pub ties_more : {x : Txn} {os : List Operation} {e : Entry} (o : Operation) → mentions_it e.id.0 o ≡ false
    → Ties x os e → Ties x (os ++ (o ∷ [])) e
ties_more {x} {os} {e} o q h =
    record {
      held =
          λ c. any_snoc (takes_number n) os o ∙ ap (λ b. anyb (takes_number n) os || b) untaken ∙ or-false _ ∙ h.held c;
      holds = λ c. h.holds (sym (any_snoc (mentions_it n) os o ∙ ap (λ b. mentions os n || b) q ∙ or-false _) ∙ c);
      reads = λ b. let r = h.reads b in (any_snoc (reads_number n) os o ∙ ap (λ c. c || reads_number n o) r.0, r.1);
      fitting = all_snoc os h.fitting (fits_unfound n e.fields o q);
    }
  where
    n : ℕ
    n = e.id.0

    untaken : takes_number n o ≡ false
    untaken = sym (or-false _) ∙ takes_mentions n (o ∷ []) (ap (λ b. b || false) q)

-- what an operation o in t, 0 for none, makes of the entries
pub record Performs (clock : ℕ) (es es' : List Entry) (ts : List Txn) (next next' : ℕ) (ks : List Kept)
    (lists : ℕ → List Operation) (t : ℕ) (o : Operation) : Type 0 where
  pub inside : (t ≡ 0) ⊎ Live t ts
  pub same_other : (u : ℕ) (ls : List Kept) → (u ≡ t → ⊥) → Same clock es u ls → Same clock es' u ls
  pub same-own : (ls : List Kept) → Same clock es t ls → Same clock es' t (after o ls)
  pub ties_other : (x : Txn) → Memᴰ x ts → (x.id.0 ≡ t → ⊥) → All (Ties x (lists x.id.0)) es'
  pub ties_own : (x : Txn) → Memᴰ x ts → x.id.0 ≡ t → All (Ties x (lists x.id.0 ++ (o ∷ []))) es'
  pub can_other : (x : Txn) → Memᴰ x ts → (x.id.0 ≡ t → ⊥) → Can (lists x.id.0) (after o ks)
  pub can_own : (x : Txn) → Memᴰ x ts → x.id.0 ≡ t → CanOne o (after_all (lists x.id.0) ks)
  pub takes-apart : (x : Txn) → Memᴰ x ts → (x.id.0 ≡ t → ⊥) → (n : ℕ) → takes_number n o ≡ true
      → mentions (lists x.id.0) n ≡ false
  pub finds-apart : (y : Txn) → Memᴰ y ts → (y.id.0 ≡ t → ⊥) → (n : ℕ)
      → anyb (takes_number n) (lists y.id.0) ≡ true → mentions_it n o ≡ false
  pub later : next ≤ next'
  pub found : (n : ℕ) → mentions_it n o ≡ true → n < next'

module _ {clock : ℕ} {es es' : List Entry} {ts : List Txn} {next next' : ℕ} {ks : List Kept}
    {lists : ℕ → List Operation} {t : ℕ}
    {o : Operation} (a : Agree clock es ts next ks lists) (p : Performs clock es es' ts next next' ks lists t o)
    (above : All (λ x. 0 < x.id.0) ts) where
  -- outside transactions it is carried out at once
  pub agree_now : t ≡ 0 → Agree clock es' ts next' (after o ks) lists
  agree_now z =
      record {
        set =
            subst (λ u. Same clock es' u (after o ks)) z
            (p.same-own ks (subst⁻¹ (λ u. Same clock es u ks) z a.set));
        own = λ x i. p.same_other x.id.0 _ (elsewhere x i) (a.own x i);
        ties = λ x i. p.ties_other x i (elsewhere x i);
        can = λ x i. p.can_other x i (elsewhere x i);
        apart = a.apart;
        known = λ u q i n e. let l = a.known u q i n e in let k = p.later in omega arith;
        live = a.live;
      }
    where
      elsewhere : (x : Txn) → Memᴰ x ts → x.id.0 ≡ t → ⊥
      elsewhere x i q = let l = above x i in omega arith

  -- inside one it is put last in its list
  pub agree_put : (t ≡ 0 → ⊥) → Agree clock es' ts next' ks (put t o lists)
  agree_put d =
      record {
        set = p.same_other 0 ks (λ q. d (sym q)) a.set;
        own = λ x i.
            eqb_cases (λ (os : List Operation). Same clock es' x.id.0 (after_all os [])) x.id.0 t
            (λ q. rw (after_snoc (lists x.id.0) o [], q) (p.same-own _ (rw q at (a.own x i))))
            (λ e. p.same_other x.id.0 _ e (a.own x i));
        ties =
            λ x i. eqb_cases (λ (os : List Operation). All (Ties x os) es') x.id.0 t (p.ties_own x i)
            (p.ties_other x i);
        can = λ x i.
            eqb_cases (λ (os : List Operation). Can os ks) x.id.0 t
            (λ q. can_snoc (lists x.id.0) o ks (a.can x i) (p.can_own x i q)) (λ _. a.can x i);
        apart = apart_now;
        known = λ u q i n e.
            ⊎_elim (λ j. let l = a.known u q j n e in let k = p.later in omega arith)
            (λ r. p.found n (subst (λ c. mentions_it n c ≡ true) r e)) (put_mem u q i);
        live =
            λ u q. eqb_cases (λ (os : List Operation). Memᴰ q os → Live u ts) u t
            (λ e _. subst⁻¹ (λ v. Live v ts) e inside) (λ _. a.live u q);
      }
    where
      inside : Live t ts
      inside = ⊎_elim (λ z. absurd (d z)) (λ l. l) p.inside

      put_mem : (u : ℕ) (q : Operation) → Memᴰ q (put t o lists u) → Memᴰ q (lists u) ⊎ (q ≡ o)
      put_mem u q =
          cond_cases (λ (l : List Operation). Memᴰ q l → Memᴰ q (lists u) ⊎ (q ≡ o)) (eqb u t)
          (λ _. all_snoc {Q = λ c. Memᴰ c (lists u) ⊎ (c ≡ o)} (lists u) (λ c j. inl j) (inr refl) q)
          (λ _ i. inl i)

      apart_now : (x y : Txn) → Memᴰ x ts → Memᴰ y ts → (x.id.0 ≡ y.id.0 → ⊥) → (n : ℕ)
          → anyb (takes_number n) (put t o lists y.id.0) ≡ true → mentions (put t o lists x.id.0) n ≡ false
      apart_now x y i j e n =
          eqb_cases (λ (os : List Operation). anyb (takes_number n) os ≡ true → mentions (put t o lists x.id.0) n
          ≡ false) y.id.0 t (λ q v. rw (ne_eqb x.id.0 t (λ r. e (r ∙ sym q)))
          (⊎_elim (a.apart x y i j e n) (p.takes-apart x i (λ r. e (r ∙ sym q)) n)
          (or_cases (anyb (takes_number n) (lists y.id.0)) (takes_number n o)
          (sym (any_snoc (takes_number n) (lists y.id.0) o) ∙ v))))
          (λ q v. eqb_cases (λ (os : List Operation). mentions os n ≡ false) x.id.0 t
          (λ _. any_snoc (mentions_it n) (lists x.id.0) o ∙ ap₂ (λ b c. b || c) (a.apart x y i j e n v)
          (p.finds-apart y j q n v)) (λ _. a.apart x y i j e n v))
