-- What a template asks for is equal where no blank is asked for and every field that is asked for is equal.
use Prim.Native.Nat.{ℕ}
use mathlib.Core.Bool.{Bool, true, false, not, cond, ◌&&◌, ◌||◌, and_assoc, or_assoc}
use mathlib.Core.Path.{◌≡◌, refl, sym, ap, ap₂, ◌∙◌}
use lib.Dec.{eqb}
use Rattle.rules.specs.declared.Fields.{Fields}
use Rattle.rules.specs.declared.Mark.{Mark}
use Rattle.rules.specs.Template.{bit, agrees, asked_equal}
use Rattle.available.specs.Find.{blank_asked}

-- one field, and the rest: r says that those agree, s that a blank is asked for among them
one : (asked blank equal r s : Bool)
    → ((not asked || not blank && equal) && cond s false r)
    ≡ cond (asked && blank || s) false ((not asked || equal) && r)
one false blank equal r s = refl
one true true equal r s = refl
one true false true r s = refl
one true false false r true = refl
one true false false r false = refl

last : (asked blank equal : Bool) → (not asked || not blank && equal) ≡ cond (asked && blank) false (not asked || equal)
last false blank equal = refl
last true true equal = refl
last true false equal = refl

-- four of them, one behind the other
module _ (x0 x1 x2 x3 : Bool) where
  or-last : (x0 || x1 || x2 || x3) ≡ (x0 || (x1 || (x2 || x3)))
  or-last = or_assoc (x0 || x1) x2 x3 ∙ or_assoc x0 x1 (x2 || x3)

  and_last : (x0 && x1 && x2 && x3) ≡ (x0 && (x1 && (x2 && x3)))
  and_last = and_assoc (x0 && x1) x2 x3 ∙ and_assoc x0 x1 (x2 && x3)

four : (a0 b0 e0 a1 b1 e1 a2 b2 e2 a3 b3 e3 : Bool)
    → ((not a0 || not b0 && e0) && (not a1 || not b1 && e1) && (not a2 || not b2 && e2) && (not a3 || not b3 && e3))
    ≡ cond (a0 && b0 || a1 && b1 || a2 && b2 || a3 && b3) false
    ((not a0 || e0) && (not a1 || e1) && (not a2 || e2) && (not a3 || e3))
four a0 b0 e0 a1 b1 e1 a2 b2 e2 a3 b3 e3 =
    and_last (not a0 || not b0 && e0) (not a1 || not b1 && e1) (not a2 || not b2 && e2) (not a3 || not b3 && e3)
    ∙ ap (λ r. (not a0 || not b0 && e0) && ((not a1 || not b1 && e1) && ((not a2 || not b2 && e2) && r)))
    (last a3 b3 e3)
    ∙ ap (λ r. (not a0 || not b0 && e0) && ((not a1 || not b1 && e1) && r)) (one a2 b2 e2 (not a3 || e3) (a3 && b3))
    ∙ ap (λ r. (not a0 || not b0 && e0) && r) (one a1 b1 e1 ((not a2 || e2) && (not a3 || e3)) (a2 && b2 || a3 && b3))
    ∙ one a0 b0 e0 ((not a1 || e1) && ((not a2 || e2) && (not a3 || e3))) (a1 && b1 || (a2 && b2 || a3 && b3))
    ∙ sym (ap₂ (λ x r. cond x false r) (or-last (a0 && b0) (a1 && b1) (a2 && b2) (a3 && b3))
    (and_last (not a0 || e0) (not a1 || e1) (not a2 || e2) (not a3 || e3)))

pub match_is : (mask : ℕ) (want : Fields) (have : Mark)
    → asked_equal mask want have
    ≡ cond (blank_asked mask have.blanks) false
    (agrees (bit 0 mask) false want.kind have.kind && agrees (bit 1 mask) false want.side have.side
    && agrees (bit 2 mask) false want.image have.image
    && agrees (bit 3 mask) false want.place have.place)
unfolding asked_equal
match_is mask want have =
    let blanks = have.blanks in
    four (bit 0 mask) (bit 0 blanks) (eqb want.kind have.kind) (bit 1 mask) (bit 1 blanks)
    (eqb want.side have.side) (bit 2 mask) (bit 2 blanks) (eqb want.image have.image) (bit 3 mask)
    (bit 3 blanks) (eqb want.place have.place)
