-- What a list of operations does to the plain set, and when it can be carried out.
use Prim.Native.Nat.{ℕ, ◌+◌, ◌≤◌}
use mathlib.Core.Bool.{Bool, true, false, cond, not, ◌&&◌, ◌||◌, or-true}
use mathlib.Core.Logic.{⊎_elim}
use mathlib.Core.Path.{◌≡◌, refl, sym, ap, ◌∙◌, subst⁻¹}
use mathlib.Core.List.Memᴰ
use mathlib.Core.List.{List, [], ◌∷◌, ◌++◌, append_assoc, append-nil, Memᴰ}
use borrow.Author.Tests.{eqb-true, eq-eqb}
use lib.Dec.{eqb}
use native.Mathlib.Omega.{arith}
use Rattle.rules.specs.declared.Mark.{Mark}
use Rattle.rules.specs.Lists.{filterb, anyb}
use Rattle.rules.specs.SerialRun.{Kept, Operation, adds, finds, Run, is_kept, taking, carry_out, carry_out_all}
use Rattle.rules.proofs.ListLaws.{filter-filter, filter_same, filter-append, mem_filter, filter_mem, any_mem, mem_any}
use Rattle.rules.proofs.ListLaws.{count, count-append, count_cons, count-filter, count_mem, filter-all}
use Rattle.rules.proofs.BoolLaws.{and_left}

-- the set after an operation, and after a list of them
abbrev pub after_find : Bool → ℕ → Mark → List Kept → List Kept
after_find true n x ks = filterb (λ k. not (is_kept n x k)) ks
after_find false n x ks = ks

abbrev pub after : Operation → List Kept → List Kept
after (adds k) ks = ks ++ (k ∷ [])
after (finds b n x) ks = after_find b n x ks

abbrev pub after_all : List Operation → List Kept → List Kept
after_all [] ks = ks
after_all (o ∷ os) ks = after_all os (after o ks)

-- each operation's entry is there when its turn comes
abbrev pub CanOne : Operation → List Kept → Type 0
CanOne (adds k) ks = Unit {0}
CanOne (finds b n x) ks = anyb (is_kept n x) ks ≡ true

abbrev pub Can : List Operation → List Kept → Type 0
Can [] ks = Unit {0}
Can (o ∷ os) ks = CanOne o ks × Can os (after o ks)

-- such a list is carried out with success
pub carry_out_can : (o : Operation) (r : Run) → CanOne o r.kept
    → ((carry_out o r).kept ≡ after o r.kept) × ((carry_out o r).succeeds ≡ r.succeeds)
unfolding carry_out taking
carry_out_can (adds k) r c = (refl, refl)
carry_out_can (finds true n x) r c = (rw c, rw c)
carry_out_can (finds false n x) r c = (rw c, rw c)

pub carry_out_all_can : (os : List Operation) (r : Run) → Can os r.kept
    → ((carry_out_all os r).kept ≡ after_all os r.kept) × ((carry_out_all os r).succeeds ≡ r.succeeds)
unfolding carry_out_all
carry_out_all_can [] r c = (refl, refl)
carry_out_all_can (o ∷ os) r c =
    let one = carry_out_can o r c.0 in
    let rest = carry_out_all_can os (carry_out o r) (subst⁻¹ (Can os) one.0 c.1) in
    (rest.0 ∙ ap (after_all os) one.0, rest.1 ∙ one.1)

-- whether an operation takes an entry of the set; whether an entry survives a list of operations
abbrev pub takes_it : Kept → Operation → Bool
takes_it k (adds j) = false
takes_it k (finds b n x) = b && is_kept n x k

abbrev pub survives : List Operation → Kept → Bool
survives os k = not (anyb (takes_it k) os)

not-or : (a b : Bool) → not (a || b) ≡ (not a && not b)
not-or true b = refl
not-or false b = refl

-- the set after a list of operations: what survives of it, and what the list adds by itself
pub after_split : (os : List Operation) (ks : List Kept) → after_all os ks ≡ filterb (survives os) ks ++ after_all os []
after_split [] ks = sym (append-nil _ ∙ filter-all ks)
after_split (adds k ∷ os) ks =
    after_split os (ks ++ (k ∷ []))
    ∙ rw (filter-append (survives os) ks (k ∷ []), append_assoc, after_split os (k ∷ []))
after_split (finds true n x ∷ os) ks =
    after_split os (after_find true n x ks)
    ∙ ap (λ l. l ++ after_all os []) (filter-filter (survives os) (λ k. not (is_kept n x k)) ks
    ∙ filter_same _ (survives (finds true n x ∷ os)) (λ k. sym (not-or (is_kept n x k) (anyb (takes_it k) os))) ks)
after_split (finds false n x ∷ os) ks = after_split os ks

-- whether a list of operations finds an entry number
abbrev pub mentions_it : ℕ → Operation → Bool
mentions_it n (adds k) = false
mentions_it n (finds b i x) = eqb i n

abbrev pub mentions : List Operation → ℕ → Bool
mentions os n = anyb (mentions_it n) os

pub kept-number : (n : ℕ) (x : Mark) (k : Kept) → is_kept n x k ≡ true → k.number ≡ n
unfolding is_kept
kept-number n x k e = eqb-true k.number n (and_left _ _ e)

-- a list that can be carried out on a set can be on any set that has the entries that it finds
pub can_keep : (os : List Operation) (ks ls : List Kept)
    → ((k : Kept) → Memᴰ k ks → mentions os k.number ≡ true → Memᴰ k ls) → Can os ks → Can os ls
can_keep [] ks ls h c = tt
can_keep (adds j ∷ os) ks ls h c = (
  tt,
  can_keep os (ks ++ (j ∷ [])) (ls ++ (j ∷ []))
      (λ k m t. ⊎_elim (λ a. Memᴰ.append_left (j ∷ []) (h k a t)) (λ b. Memᴰ.append_right ls b)
      (Memᴰ.append_cases ks m)) c.1,
)
can_keep (finds b n x ∷ os) ks ls h c =
    let r = any_mem (is_kept n x) ks c.0 in
    let same = kept-number n x r.0 r.2 in
    let here = h r.0 r.1 (ap (λ q. q || mentions os r.0.number) (eq-eqb n r.0.number (sym same))) in
    (mem_any (is_kept n x) here r.2, can_keep os (after_find b n x ks) (after_find b n x ls) (go b) c.1)
  where
    later : (k : Kept) → mentions os k.number ≡ true → mentions (finds b n x ∷ os) k.number ≡ true
    later k t = rw (t, or-true)

    go : (d : Bool) → (k : Kept) → Memᴰ k (after_find d n x ks) → mentions os k.number ≡ true
        → Memᴰ k (after_find d n x ls)
    go true k m t =
        let s = mem_filter (λ j. not (is_kept n x j)) ks m in
        filter_mem (λ j. not (is_kept n x j)) (h k s.0 (later k t)) s.1
    go false k m t = h k m (later k t)

-- one operation more
pub after_snoc : (os : List Operation) (o : Operation) (ks : List Kept)
    → after_all (os ++ (o ∷ [])) ks ≡ after o (after_all os ks)
after_snoc [] o ks = refl
after_snoc (i ∷ os) o ks = after_snoc os o (after i ks)

pub can_snoc : (os : List Operation) (o : Operation) (ks : List Kept) → Can os ks → CanOne o (after_all os ks)
    → Can (os ++ (o ∷ [])) ks
can_snoc [] o ks c d = (d, tt)
can_snoc (i ∷ os) o ks c d = (c.0, can_snoc os o (after i ks) c.1 d)

-- how often a number stands in the set and among those taken; how often a list of operations adds it
abbrev pub is_number : ℕ → Kept → Bool
is_number n k = eqb k.number n

abbrev pub total : ℕ → Run → ℕ
total n r = count (is_number n) r.kept + count (eqb n) r.taken

abbrev pub adds_it : ℕ → Operation → Bool
adds_it n (adds k) = eqb k.number n
adds_it n (finds b i x) = false

-- what is taken leaves the set
taken-leaves : (n i : ℕ) (x : Mark) (ks : List Kept) → anyb (is_kept i x) ks ≡ true
    → count (is_number n) (filterb (λ k. not (is_kept i x k)) ks) + cond (eqb n i) 1 0 ≤ count (is_number n) ks
taken-leaves n i x ks e = go (eqb n i) refl
  where
    r : (k : Kept) × Memᴰ k ks × (is_kept i x k ≡ true)
    r = any_mem (is_kept i x) ks e

    go : (b : Bool) → eqb n i ≡ b
        → count (is_number n) (filterb (λ k. not (is_kept i x k)) ks) + cond b 1 0 ≤ count (is_number n) ks
    go true t =
        let one : 1 ≤ count (is_number n) (filterb (is_kept i x) ks) = count_mem (is_number n)
        (filter_mem (is_kept i x) r.1 r.2)
        (eq-eqb r.0.number n (kept-number i x r.0 r.2 ∙ sym (eqb-true n i t))) in
        omega (arith, count-filter (is_number n) (is_kept i x) ks)
    go false t = omega (arith, count-filter (is_number n) (is_kept i x) ks)

pub total-carry_out : (n : ℕ) (o : Operation) (r : Run) → CanOne o r.kept
    → total n (carry_out o r) ≤ total n r + count (adds_it n) (o ∷ [])
unfolding carry_out taking
total-carry_out n (adds k) r c =
    omega (
      arith,
      count-append (is_number n) r.kept (k ∷ []),
      count_cons (is_number n) k [],
      count_cons (adds_it n)
          (adds k) [],
    )
total-carry_out n (finds true i x) r c =
    rw c (omega (arith, taken-leaves n i x r.kept c, count_cons (eqb n) i r.taken))
total-carry_out n (finds false i x) r c = rw c (omega arith)

pub total-carry_out_all : (n : ℕ) (os : List Operation) (r : Run) → Can os r.kept
    → total n (carry_out_all os r) ≤ total n r + count (adds_it n) os
unfolding carry_out_all
total-carry_out_all n [] r c = omega arith
total-carry_out_all n (o ∷ os) r c =
    let one = total-carry_out n o r c.0 in
    let rest = total-carry_out_all n os (carry_out o r) (subst⁻¹ (Can os) (carry_out_can o r c.0).0 c.1) in
    omega (arith, one, rest, count_cons (adds_it n) o os, count_cons (adds_it n) o [])
