-- A party waits once: of what is left, and of one that arrives.
use Prim.Native.Nat.{ℕ, ◌≤◌}
use mathlib.Core.Bool.{Bool, cond}
use mathlib.Core.Path.{◌≡◌, refl, sym, ap, ◌∙◌}
use mathlib.Core.List.{List, ◌∷◌, Memᴰ}
use native.Mathlib.Omega.{arith}
use borrow.Author.Tests.{eq-eqb}
use Rattle.rules.specs.declared.LookUp.{LookUp}
use Rattle.rules.specs.Lists.{filterb}
use Rattle.rules.specs.Sound.{of_party}
use Rattle.rules.proofs.ListLaws.{count, count_cons, count-filter, count_mem}
use Rattle.sound.proofs.AllLaws.{Out, here, there}

abbrev pub Each : List LookUp → Type 0
Each ws = (p : ℕ) → count (of_party p) ws ≤ 1

pub filtered : (q : LookUp → Bool) (ws : List LookUp) → Each ws → Each (filterb q ws)
filtered q ws h p = let l = h p in omega (arith, count-filter (of_party p) q ws)

pub each_out : {w : LookUp} {ws vs : List LookUp} → Out w ws vs → Each ws → Each vs
each_out o h p = let l = h p in omega (arith, fewer o)
  where
    fewer : {w : LookUp} {ws vs : List LookUp} → Out w ws vs → count (of_party p) vs ≤ count (of_party p) ws
    fewer {w} (here xs) = omega (arith, count_cons (of_party p) w xs)
    fewer (there {y} {xs} {ys} o) = omega (arith, fewer o, count_cons (of_party p) y xs, count_cons (of_party p) y ys)

pub each_tail : (w : LookUp) (ws : List LookUp) → Each (w ∷ ws) → Each ws
each_tail w ws h p = let l = h p in omega (arith, count_cons (of_party p) w ws)

pub other_party : (w v : LookUp) (ws : List LookUp) → Each (w ∷ ws) → Memᴰ v ws → v.party ≡ w.party → ⊥
other_party w v ws h i e =
    let two = h w.party in
    let one = count_mem (of_party w.party) i (eq-eqb v.party w.party e) in
    let here : ◌≡◌ {A = ℕ} (cond (of_party w.party w) 1 0) 1 = ap (λ b. cond b 1 0)
    (eq-eqb w.party w.party refl) in
    omega (arith, count_cons (of_party w.party) w ws)

-- two look-ups of one party are one
pub same-party : {v w : LookUp} {ws : List LookUp} → Each ws → Memᴰ v ws → Memᴰ w ws → v.party ≡ w.party
    → v ≡ w
same-party h (Memᴰ.head e) (Memᴰ.head d) q = e ∙ sym d
same-party {v} {w} h (Memᴰ.head {x} {xs} e) (Memᴰ.tail j) q =
    absurd (other_party x w xs h j (sym q ∙ ap (λ (u : LookUp). u.party) e))
same-party {v} {w} h (Memᴰ.tail {x} {xs} i) (Memᴰ.head d) q =
    absurd (other_party x v xs h i (q ∙ ap (λ (u : LookUp). u.party) d))
same-party h (Memᴰ.tail {x} {xs} i) (Memᴰ.tail j) q = same-party (each_tail x xs h) i j q
