-- One answer meets the search's contract.
use Prim.Native.Nat.{ℕ, ◌<◌}
use mathlib.Core.Bool.{true, ◌&&◌, ◌||◌, true≢false, or-true}
use mathlib.Core.Logic.{◌⊎◌, inl, inr, ⊎_elim}
use mathlib.Core.Path.{◌≡◌, refl, sym, ap, ap₂, ◌∙◌, subst}
use mathlib.Core.List.{List, [], ◌∷◌, ◌++◌}
use native.Mathlib.Decide.{ℕ_discrete, dec_lt}
use native.Mathlib.Omega.{arith}
use borrow.Author.Tests.{lt-ltb, eq-eqb}
use lib.Dec.{eqb, ltb}
use lib.ListN.{length, drop}
use Rattle.order.specs.declared.action.Action.{Action}
use Rattle.order.specs.Orders.{comes_before, First, NoneSucceeds}
use Rattle.order.specs.Found.{HandedIn, OrderFound, found, none_found, refused}
use Rattle.order.specs.OnlyOne.{OnlyOne}
use Rattle.order.proofs.TxnLaws.{same_words}

-- of two lists as long as each other one comes first, or they are the same
compared : (ps qs : List ℕ) → length ps ≡ length qs
    → (ps ≡ qs) ⊎ ((comes_before ps qs ≡ true) ⊎ (comes_before qs ps ≡ true))
unfolding comes_before
compared [] [] e = inl refl
compared [] (q ∷ qs) e = absurd (omega arith)
compared (p ∷ ps) [] e = absurd (omega arith)
compared (p ∷ ps) (q ∷ qs) e = go (ℕ_discrete p q) (dec_lt p q) (compared ps qs (omega arith))
  where
    behind : (a b : ℕ) (xs ys : List ℕ) → a ≡ b → comes_before xs ys ≡ true
        → (ltb a b || eqb a b && comes_before xs ys) ≡ true
    behind a b xs ys s t = ap₂ (λ x y. ltb a b || x && y) (eq-eqb a b s) t ∙ or-true (ltb a b)

    go : Dec (p ≡ q) → Dec (p < q) → (ps ≡ qs) ⊎ ((comes_before ps qs ≡ true) ⊎ (comes_before qs ps ≡ true))
        → ((p ∷ ps) ≡ (q ∷ qs))
        ⊎ (((ltb p q || eqb p q && comes_before ps qs) ≡ true) ⊎ ((ltb q p || eqb q p && comes_before qs ps) ≡ true))
    go (yes s) l (inl t) = inl (ap₂ {C = List ℕ} (λ x y. x ∷ y) s t)
    go (yes s) l (inr (inl t)) = inr (inl (behind p q ps qs s t))
    go (yes s) l (inr (inr t)) = inr (inr (behind q p qs ps (sym s) t))
    go (no s) (yes l) t = inr (inl (ap (λ b. b || eqb p q && comes_before ps qs) (lt-ltb p q l)))
    go (no s) (no l) t = inr (inr (ap (λ b. b || eqb q p && comes_before qs ps) (lt-ltb q p (omega arith))))

one_first : (ts : List (List Action)) (ps qs : List ℕ) → First ts ps → First ts qs → ps ≡ qs
one_first ts ps qs f g =
    ⊎_elim (λ s. s)
    (⊎_elim (λ b. absurd (true≢false (sym f.good ∙ g.first ps f.order b)))
    (λ b. absurd (true≢false (sym g.good ∙ f.first qs g.order b))))
    (compared ps qs (f.order.as_many ∙ sym g.order.as_many))

pub only_one : OnlyOne
unfolding OnlyOne
only_one words order r r' o o' a b = go a b
  where
    same : {ts us : List (List Action)} → HandedIn words order ts → HandedIn words order us → ts ≡ us
    same {ts} {us} h k = same_words ts us (sym h.stand_for ∙ k.stand_for)

    go : {r r' : ℕ} {o o' : List ℕ} → OrderFound words order r o → OrderFound words order r' o' → (r ≡ r') × (o ≡ o')
    go (found ts h ps f) (found us k qs g) =
        let s = same k h in (
          refl,
          ap₂ (λ (l : List ℕ) (us : List (List Action)). l ++ drop (length us) order)
              (one_first ts ps qs f (subst (λ vs. First vs qs) s g)) (sym s),
        )
    go (found ts h ps f) (none_found us k z) =
        absurd (true≢false (sym f.good ∙ subst NoneSucceeds (same k h) z ps f.order))
    go (found ts h ps f) (refused z) = absurd (z ts h)
    go (none_found ts h z) (found us k ps f) =
        absurd (true≢false (sym f.good ∙ subst NoneSucceeds (same h k) z ps f.order))
    go (none_found ts h z) (none_found us k y) = (refl, refl)
    go (none_found ts h z) (refused y) = absurd (y ts h)
    go (refused z) (found us k ps f) = absurd (z us k)
    go (refused z) (none_found us k y) = absurd (z us k)
    go (refused z) (refused y) = (refl, refl)
