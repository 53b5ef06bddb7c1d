-- Figures added, and where they stand in a report.
use Rattle.std.proofs.Common.{◌≡◌, ℕ, ◌+◌, ◌%◌, ◌<◌, ◌≤◌, max, eqb, List, [], ◌∷◌, ◌++◌, length, get_or}
use Rattle.std.proofs.Common.{set, sym, refl, ap, ◌∙◌, ⊎_elim, add-zero, arith, length-append, eqb-true}
use native.Mathlib.Numerals.{towards_suc}
use borrow.Author.Tests.{eqb-false}
use Rattle.rules.specs.Sound.{IsParty}
use Rattle.rules.proofs.BoolLaws.{bool_cases}
use Rattle.tables.proofs.RowLaws.{sets_in, sets_other}
use Rattle.sittings.specs.declared.figures.Figures.{Figures}
use Rattle.sittings.specs.Report.{sum, greatest}
use Rattle.sittings.specs.Figures.{five, figures_for, plus, wrapped, place_of, figures_at, words_of, adding}
use Rattle.sittings.specs.Figures.{only, Gained}

-- ---- of two lists, one behind the other
pub sum-append : (xs ys : List ℕ) → sum (xs ++ ys) ≡ sum xs + sum ys
unfolding sum
sum-append [] ys = omega arith
sum-append (x ∷ xs) ys = omega (arith, sum-append xs ys)

greatest-append : (xs ys : List ℕ) → greatest (xs ++ ys) ≡ max (greatest xs) (greatest ys)
unfolding greatest
greatest-append [] ys = omega arith
greatest-append (x ∷ xs) ys = omega (arith, greatest-append xs ys)

pub greatest-sum : (xs : List ℕ) → greatest xs ≤ sum xs
unfolding greatest sum
greatest-sum [] = omega arith
greatest-sum (x ∷ xs) = omega (arith, greatest-sum xs)

-- ---- figures
five-same : {a f l t n a' f' l' t' n' : ℕ} → a ≡ a' → f ≡ f' → l ≡ l' → t ≡ t' → n ≡ n'
    → five a f l t n ≡ five a' f' l' t' n'
five-same p q r s u = rw (p, q, r, s, u) refl

pub figures-same : {a f a' f' : ℕ} {ws ws' : List ℕ} → a ≡ a' → f ≡ f' → ws ≡ ws'
    → figures_for a f ws ≡ figures_for a' f' ws'
figures-same p q r = rw (p, q, r) refl

-- of no wait
pub no_wait : {a f l t n : ℕ} → l ≡ 0 → t ≡ 0 → n ≡ 0 → five a f l t n ≡ figures_for a f []
unfolding sum greatest
no_wait x y z = five-same refl refl x y z

-- no figures
abbrev pub none : Figures
none = figures_for 0 0 []

pub figures-plus : (a f b g : ℕ) (xs ys : List ℕ)
    → plus (figures_for a f xs) (figures_for b g ys) ≡ figures_for (a + b) (f + g) (xs ++ ys)
figures-plus a f b g xs ys =
    five-same refl refl (sym (greatest-append xs ys)) (sym (sum-append xs ys)) (sym (length-append xs ys))

pub plus_none : (a : Figures) → plus a none ≡ a
unfolding sum greatest
plus_none a =
    five-same (omega arith) (omega arith) (omega arith) (omega arith) (omega arith)

pub none-plus : (a : Figures) → plus none a ≡ a
unfolding sum greatest
none-plus a =
    five-same (omega arith) (omega arith) (omega arith) (omega arith) (omega arith)

pub plus_assoc : (a b c : Figures) → plus (plus a b) c ≡ plus a (plus b c)
plus_assoc a b c =
    five-same (omega arith) (omega arith) (omega arith) (omega arith)
    (omega arith)

-- ---- wrapped
wrap_sum : (a b : ℕ) → (a % 4294967296 + b) % 4294967296 ≡ (a + b) % 4294967296
wrap_sum a b = omega arith

wrapped-plus : (a b : Figures) → wrapped (plus (wrapped a) b) ≡ wrapped (plus a b)
wrapped-plus a b =
    five-same (wrap_sum a.asked b.asked) (wrap_sum a.founds b.founds) refl
    (wrap_sum a.total b.total) (wrap_sum a.count b.count)

wrapped_twice : (a : Figures) → wrapped (wrapped a) ≡ wrapped a
wrapped_twice a = five-same (omega arith) (omega arith) refl (omega arith) (omega arith)

pub wrapped_same : (a b c : Figures) → wrapped a ≡ wrapped b → wrapped (plus a c) ≡ wrapped (plus b c)
wrapped_same a b c e = sym (wrapped-plus a c) ∙ ap (λ x. wrapped (plus x c)) e ∙ wrapped-plus b c

-- ---- what a party gains
pub gained-none : (ws : List ℕ) → Gained ws (λ p. none) ws
gained-none ws =
    record {
      figures = λ p h. ap wrapped (sym (plus_none (figures_at ws p)));
      fits = λ p h e. e;
      front = λ j h. refl;
    }

pub gained-same : {ws ws' : List ℕ} {g h : ℕ → Figures} → ((p : ℕ) → IsParty p → g p ≡ h p) → Gained ws g ws'
    → Gained ws h ws'
gained-same {ws} e k =
    record {
      figures = λ p i. k.figures p i ∙ ap (λ x. wrapped (plus (figures_at ws p) x)) (e p i);
      fits = k.fits;
      front = k.front;
    }

pub gained-then : {a b c : List ℕ} {g h : ℕ → Figures} → Gained a g b → Gained b h c
    → Gained a (λ p. plus (g p) (h p)) c
gained-then {a} {b} {g = g} {h} k l =
    record {
      figures = λ p i. l.figures p i ∙ wrapped_same (figures_at b p) (plus (figures_at a p) (g p)) (h p) (k.figures p i)
          ∙ ap wrapped (plus_assoc (figures_at a p) (g p) (h p));
      fits = λ p i e. l.fits p i (k.fits p i e);
      front = λ j i. l.front j i ∙ k.front j i;
    }

-- ---- where a party's figures stand
module _ (ws : List ℕ) (p : ℕ) where
  first_of : (f : ℕ → ℕ) → ((j : ℕ) → j < 5 → get_or ws (place_of p + j) 0 ≡ f j) → get_or ws (place_of p) 0 ≡ f 0
  first_of f h = ap (λ i. get_or ws i 0) (sym (add-zero (place_of p))) ∙ h 0 (omega arith)

  -- word by word
  figures_are : (f : Figures) → ((j : ℕ) → j < 5 → get_or ws (place_of p + j) 0 ≡ get_or (words_of f) j 0)
      → figures_at ws p ≡ f
  figures_are f h =
      five-same (first_of (λ j. get_or (words_of f) j 0) h) (h 1 (omega arith)) (h 2 (omega arith)) (h 3 (omega arith))
      (h 4 (omega arith))

  pub figures-kept : (vs : List ℕ) → ((j : ℕ) → j < 5 → get_or ws (place_of p + j) 0 ≡ get_or vs (place_of p + j) 0)
      → figures_at ws p ≡ figures_at vs p
  figures-kept vs h =
      five-same (first_of (λ j. get_or vs (place_of p + j) 0) h ∙ ap (λ i. get_or vs i 0) (add-zero (place_of p)))
      (h 1 (omega arith)) (h 2 (omega arith)) (h 3 (omega arith)) (h 4 (omega arith))

-- one party's figures are added to
gained-one : (ws : List ℕ) (p : ℕ) (more : Figures) → length ws ≡ 82 → IsParty p
    → Gained ws (only p more) (adding ws p more)
gained-one ws p more long is =
    record {
      figures = λ q i. ⊎_elim (λ e. ap wrapped (own q (eqb-true p q e)) ∙ wrapped_twice (plus (figures_at ws q) more)
          ∙ rw e refl)
          (λ e. ap wrapped (other q i (eqb-false p q e) ∙ sym (plus_none (figures_at ws q))) ∙ rw e refl)
          (bool_cases (eqb p q));
      fits = λ q i w. ⊎_elim (λ e. let o = own q (eqb-true p q e) in
          ap wrapped o ∙ wrapped_twice (plus (figures_at ws q) more) ∙ sym o)
          (λ e. let o = other q i (eqb-false p q e) in ap wrapped o ∙ w ∙ sym o) (bool_cases (eqb p q));
      front = λ j h. sets_other row ws (place_of p) j (λ l. absurd (omega arith));
    }
  where
    row : List ℕ
    row = words_of (wrapped (plus (figures_at ws p) more))

    fits : place_of p + length row ≤ length ws
    fits = let l = is.first in let k = is.last in omega arith

    own : (q : ℕ) → p ≡ q → figures_at (adding ws p more) q ≡ wrapped (plus (figures_at ws q) more)
    own q e =
        ap (figures_at (adding ws p more)) (sym e)
        ∙ figures_are (adding ws p more) p (wrapped (plus (figures_at ws p) more))
        (λ j h. sets_in row ws (place_of p) j h fits)
        ∙ ap (λ k. wrapped (plus (figures_at ws k) more)) e

    other : (q : ℕ) → IsParty q → (p ≡ q → ⊥) → figures_at (adding ws p more) q ≡ figures_at ws q
    other q i n =
        let l = is.first in
        let k = i.first in
        figures-kept (adding ws p more) q ws
        (λ j h. sets_other row ws (place_of p) (place_of q + j) (λ m. omega (arith, n)))

-- as the code stores them, one after another
pub stored_one : (ws : List ℕ) (p : ℕ) (more old : Figures) {a f l t n : ℕ} → length ws ≡ 82 → IsParty p
    → old ≡ figures_at ws p → a ≡ (old.asked + more.asked) % 4294967296
    → f ≡ (old.founds + more.founds) % 4294967296 → l ≡ max old.longest more.longest
    → t ≡ (old.total + more.total) % 4294967296 → n ≡ (old.count + more.count) % 4294967296
    → let o = place_of p in
    Gained ws (only p more) (set (set (set (set (set ws o a) (o + 1) f) (o + 2) l) (o + 3) t) (o + 4) n)
stored_one ws p more old long is e qa qf ql qt qn =
    rw (qa, qf, ql, qt, qn, e) (simp towards_suc (simp towards_suc at (gained-one ws p more long is)))
