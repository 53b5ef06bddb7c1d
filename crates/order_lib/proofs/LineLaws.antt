-- The line of positions, byte by byte.
use Prim.Native.Nat.{ℕ, zero, suc, ◌+◌, ◌*◌, ◌≤◌, ◌<◌}
use mathlib.Core.Bool.{true}
use mathlib.Core.Path.{◌≡◌, refl, sym, ap, ◌∙◌, subst, subst⁻¹}
use mathlib.Core.List.{List, [], ◌∷◌}
use native.Mathlib.Omega.{arith}
use lib.ListN.{length, get_or, set}
use Rattle.codec.specs.Area.{InFront}
use Rattle.order_lib.specs.Shows.{line_of}
use Rattle.order_lib.proofs.CopyLaws.{Copying, copy_more}

-- how long it is
line_empty : (ps : List ℕ) → length ps ≡ 0 → line_of ps ≡ 10 ∷ []
unfolding line_of
line_empty [] n = refl
line_empty (p ∷ ps) n = absurd (omega arith)

pub line_length : (ps : List ℕ) → 0 < length ps → length (line_of ps) ≡ 2 * length ps
unfolding line_of
line_length [] h = absurd (omega arith)
line_length (p ∷ []) h = refl
line_length (p ∷ q ∷ ps) h = let rest = line_length (q ∷ ps) (omega arith) in omega arith

-- two bytes for each position: its digit, and what stands behind it
two_on : (i : ℕ) → (2 * suc i ≡ suc (suc (2 * i))) × (2 * suc i + 1 ≡ suc (suc (2 * i + 1)))
two_on i = omega arith

pub line_digit : (ps : List ℕ) (i : ℕ) → i < length ps → get_or (line_of ps) (2 * i) 0 ≡ 48 + get_or ps i 0
unfolding line_of
line_digit [] i h = absurd (omega arith)
line_digit (p ∷ []) zero h = refl
line_digit (p ∷ []) (suc i) h = absurd (omega arith)
line_digit (p ∷ q ∷ ps) zero h = refl
line_digit (p ∷ q ∷ ps) (suc i) h =
    ap (λ k. get_or (line_of (p ∷ q ∷ ps)) k 0) (two_on i).0 ∙ line_digit (q ∷ ps) i (omega arith)

pub line_blank : (ps : List ℕ) (i : ℕ) → i + 1 < length ps → get_or (line_of ps) (2 * i + 1) 0 ≡ 32
unfolding line_of
line_blank [] i h = absurd (omega arith)
line_blank (p ∷ []) i h = absurd (omega arith)
line_blank (p ∷ q ∷ ps) zero h = refl
line_blank (p ∷ q ∷ ps) (suc i) h =
    ap (λ k. get_or (line_of (p ∷ q ∷ ps)) k 0) (two_on i).1 ∙ line_blank (q ∷ ps) i (omega arith)

pub line_end : (ps : List ℕ) (i : ℕ) → i + 1 ≡ length ps → get_or (line_of ps) (2 * i + 1) 0 ≡ 10
unfolding line_of
line_end [] i h = absurd (omega arith)
line_end (p ∷ []) zero h = refl
line_end (p ∷ []) (suc i) h = absurd (omega arith)
line_end (p ∷ q ∷ ps) zero h = absurd (omega arith)
line_end (p ∷ q ∷ ps) (suc i) h =
    ap (λ k. get_or (line_of (p ∷ q ∷ ps)) k 0) (two_on i).1 ∙ line_end (q ∷ ps) i (omega arith)

-- the line of none
pub put_empty : (ps : List ℕ) {old new : List ℕ} {n : ℕ} → length ps ≡ 0 → InFront true (10 ∷ []) old new n
    → InFront true (line_of ps) old new n
put_empty ps {old} {new} {n} e p = subst⁻¹ (λ l. InFront true l old new n) (line_empty ps e) p

-- a position's two bytes, behind those before it
pub position_put : (ps old new : List ℕ) (i v : ℕ) → Copying (line_of ps) old new (2 * i) → i < length ps
    → 2 * length ps ≤ length old → v ≡ get_or (line_of ps) (2 * i + 1) 0
    → Copying (line_of ps) old (set (set new (2 * i) (48 + get_or ps i 0)) (2 * i + 1) v) (2 * (i + 1))
position_put ps old new i v c h fits e =
    let long = line_length ps (omega arith) in
    let digit = copy_more (line_of ps) old new (2 * i) _ 0 c (sym (line_digit ps i h)) (omega arith) (omega arith) in
    subst (Copying (line_of ps) old (set (set new (2 * i) (48 + get_or ps i 0)) (2 * i + 1) v)) (omega arith)
    (copy_more (line_of ps) old _ (2 * i + 1) v 0 digit e (omega arith) (omega arith))
