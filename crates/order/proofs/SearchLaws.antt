-- Laws of the search.
use Prim.Native.Nat.{ℕ, zero, suc, ◌+◌, ◌≤◌, ◌<◌}
use mathlib.Core.Bool.{Bool, true, false, not, ◌&&◌, true≢false, and-false}
use mathlib.Core.Logic.{⊎_elim}
use mathlib.Core.Path.{◌≡◌, refl, sym, ap, ap₂, ◌∙◌, subst, subst⁻¹}
use mathlib.Core.List.Memᴰ
use mathlib.Core.List.{List, [], ◌∷◌, Memᴰ}
use native.Mathlib.Decide.{ℕ_discrete}
use native.Mathlib.Numerals.{add-one}
use native.Mathlib.Omega.{arith}
use borrow.Author.Tests.{ltb-true, eqb-true, eqb-false, ne_eqb, not-true}
use denote.Enum.Bare.{sameb}
use lib.Dec.{eqb, ltb}
use lib.ListN.{length, get_or, take, drop, set, length-take, length-set, drop_of_length-le}
use lib.Seq.{drop-cons, get_or-take, get_or-drop, take-set-lt, drop-set-lt, get_or-set_same, get_or-set_other}
use Rattle.std.specs.Prelude.{Some, None}
use Rattle.rules.specs.Lists.{anyb, distinct}
use Rattle.rules.proofs.BoolLaws.{and_left, and_right, or_cases}
use Rattle.rules.proofs.ListLaws.{all_false, none_mem}
use Rattle.order.specs.Orders.{comes_before}
use Rattle.order.specs.contracts.action.Kind.{the_type}
use Rattle.order.specs.declared.action.Kind.{Kind}
use Rattle.order.specs.declared.action.Kind.TheVariants.{Write, Read, Take}
use Rattle.order.specs.declared.plan.Step.{Step}
use Rattle.order.specs.Reading.{slots}
use Rattle.order.specs.Plan.{AllPlaced}
use Rattle.order.specs.Search.{is_write, is_take}
use Rattle.order.specs.Search.{misses, after_step, after_steps, after_txn, goes, OrderOf, FirstGoes, NoneGoes}

-- the code's tests of a step
not_write : (k : Kind) → not (sameb the_type k Write) ≡ not (is_write k)
not_write Write = refl
not_write Read = refl
not_write Take = refl

not_take : (k : Kind) → not (sameb the_type k Take) ≡ not (is_take k)
not_take Write = refl
not_take Read = refl
not_take Take = refl

module _ (s : Step) (present : List Bool) where
  pub misses_there : {x : Bool} → x ≡ not (sameb the_type s.kind Write) → x ≡ true → get_or present s.slot false ≡ false
      → misses s present ≡ true
  unfolding misses
  misses_there e t f = rw (sym (e ∙ not_write s.kind) ∙ t, f)

  pub misses_write : {x : Bool} → x ≡ not (sameb the_type s.kind Write) → x ≡ false → misses s present ≡ false
  unfolding misses
  misses_write e f = rw (sym (e ∙ not_write s.kind) ∙ f)

  pub misses_none : get_or present s.slot false ≡ true → misses s present ≡ false
  unfolding misses
  misses_none t = rw (t, and-false)

  after_is : {x : Bool} → x ≡ not (sameb the_type s.kind Take) → after_step s present ≡ set present s.slot x
  unfolding after_step
  after_is e = ap (set present s.slot) (sym (e ∙ not_take s.kind))

-- the steps from i on: the first one's entry is missing, or it is carried out, or there is none
module _ (items : List Step) (i : ℕ) (d : Step) (present : List Bool) where
  first_step : i < length items
      → after_steps (drop i items) present ≡ after_steps (get_or items i d ∷ drop (i + 1) items) present
  first_step h =
      ap (λ l. after_steps l present) (drop-cons items i d h
      ∙ ap {B = List Step} (λ k. get_or items i d ∷ drop k items) (sym (add-one i)))

  pub missing : i < length items → misses (get_or items i d) present ≡ true → after_steps (drop i items) present ≡ None
  unfolding after_steps
  missing h m = first_step h ∙ rw m

  pub carried : i < length items → misses (get_or items i d) present ≡ false
      → {x : Bool} → x ≡ not (sameb the_type (get_or items i d).kind Take)
      → after_steps (drop i items) present
      ≡ after_steps (drop (i + 1) items) (set present (get_or items i d).slot x)
  unfolding after_steps
  carried h m e =
      first_step h ∙ rw m refl ∙ ap (after_steps (drop (i + 1) items)) (after_is (get_or items i d) present e)

pub ended : (items : List Step) (i : ℕ) (present : List Bool) → length items ≤ i
    → after_steps (drop i items) present ≡ Some present
unfolding after_steps
ended items i present h = ap (λ l. after_steps l present) (drop_of_length-le items {i = i} h)

-- a step of a part of the steps has a slot
pub placed_at : (steps : List Step) (d : Step) → AllPlaced steps → d.slot < slots → (a k i : ℕ)
    → i < length (take k (drop a steps)) → (get_or (take k (drop a steps)) i d).slot < slots
placed_at steps d all h a k i l =
    subst⁻¹ (λ (s : Step). s.slot < slots)
    (get_or-take k (drop a steps) i d (omega (arith, length-take k (drop a steps))) ∙ get_or-drop a steps i d)
    (at steps (a + i) all)
  where
    at : (xs : List Step) (j : ℕ) → AllPlaced xs → (get_or xs j d).slot < slots
    at [] j all = h
    at (x ∷ xs) zero all = all x (Memᴰ.head refl)
    at (x ∷ xs) (suc j) all = at xs j (λ s m. all s (Memᴰ.tail m))

-- a position that is placed is left no longer, and every other one as before
placed : (left : List Bool) (p : ℕ) → get_or (set left p false) p false ≡ false
placed [] p = refl
placed (b ∷ left) zero = refl
placed (b ∷ left) (suc p) = placed left p

-- an order of what is left is a position that is left, and an order of the rest
order_tail : {n d : ℕ} {left : List Bool} {p : ℕ} {ps : List ℕ} → OrderOf n d left (p ∷ ps)
    → OrderOf n (d + 1) (set left p false) ps
unfolding distinct
order_tail {n} {d} {left} {p} {ps} o =
    record {
      as_many = omega (arith, o.as_many);
      positions = λ q i. let at = o.positions q (Memᴰ.tail i) in (
        at.0,
        get_or-set_other left p q false false
            (λ e. eqb-false p q (none_mem (eqb p)
            (not-true _ (and_left (not (anyb (eqb p) ps)) (distinct ps) o.once)) i)
            (sym e)) ∙ at.1,
      );
      once = and_right (not (anyb (eqb p) ps)) (distinct ps) o.once;
    }

order_cons : {n d : ℕ} {left : List Bool} {p : ℕ} {ps : List ℕ} → p < n → get_or left p false ≡ true
    → OrderOf n (d + 1) (set left p false) ps → OrderOf n d left (p ∷ ps)
unfolding distinct
order_cons {n} {d} {left} {p} {ps} h l o =
    record {
      as_many = omega (arith, o.as_many);
      positions = λ q i. ⊎_elim (λ e. subst⁻¹ (λ m. (m < n) × (get_or left m false ≡ true)) e (h, l))
          (λ j. ((o.positions q j).0, sym (get_or-set_other left p q false false (other q j)) ∙ (o.positions q j).1))
          (Memᴰ.cases_cons i);
      once = rw (all_false (eqb p) ps (λ q i. ne_eqb p q (λ e. other q i (sym e)))) o.once;
    }
  where
    other : (q : ℕ) → Memᴰ q ps → q ≡ p → ⊥
    other q i e = true≢false (sym (subst (λ m. get_or (set left p false) m false ≡ true) e (o.positions q i).1) ∙
        placed left p)

module _ (steps : List Step) (starts : List ℕ) (n d : ℕ) (left present : List Bool) where
  -- every order that begins below p fails
  pub record Tried (p : ℕ) : Type 0 where
    pub fails : (q : ℕ) (qs : List ℕ) → q < p → OrderOf n d left (q ∷ qs) → goes steps starts (q ∷ qs) present ≡ false

  pub none_tried : Tried 0
  none_tried = record { fails = λ q qs h o. absurd (omega arith) }

  try_more : (p : ℕ) → Tried p → ((qs : List ℕ) → OrderOf n d left (p ∷ qs) → goes steps starts (p ∷ qs) present ≡
      false)
      → Tried (p + 1)
  try_more p t f = record { fails = λ q qs h o. go q qs h o (ℕ_discrete q p) }
    where
      go : (q : ℕ) (qs : List ℕ) → q < p + 1 → OrderOf n d left (q ∷ qs) → Dec (q ≡ p)
          → goes steps starts (q ∷ qs) present ≡ false
      go q qs h o (yes e) =
          subst⁻¹ (λ m. goes steps starts (m ∷ qs) present ≡ false) e
          (f qs (subst (λ m. OrderOf n d left (m ∷ qs)) e o))
      go q qs h o (no e) = t.fails q qs (omega arith) o

  -- p is placed already; its transaction fails; none of the orders of the rest goes through
  pub not_left : (p : ℕ) → Tried p → get_or left p false ≡ false → Tried (p + 1)
  not_left p t e =
      try_more p t (λ qs o. absurd (true≢false (sym (o.positions p (Memᴰ.head refl)).1 ∙ e)))

  pub not_run : (p : ℕ) → Tried p → None ≡ after_txn steps starts p present → Tried (p + 1)
  unfolding goes
  not_run p t e = try_more p t (λ qs o. rw (sym e))

  module _ (p : ℕ) (t : Tried p) (after : List Bool) (e : Some after ≡ after_txn steps starts p present) where
    goes_on : (qs : List ℕ) → goes steps starts (p ∷ qs) present ≡ goes steps starts qs after
    unfolding goes
    goes_on qs = rw (sym e)

    pub not_found : NoneGoes steps starts n (d + 1) (set left p false) after → Tried (p + 1)
    not_found none = try_more p t (λ qs o. goes_on qs ∙ none qs (order_tail o))

    -- an order before p and the first of the rest
    before : (ps : List ℕ)
        → ((qs : List ℕ) → OrderOf n (d + 1) (set left p false) qs → comes_before qs ps ≡ true
        → goes steps starts qs after ≡ false)
        → (qs : List ℕ) → OrderOf n d left qs → comes_before qs (p ∷ ps) ≡ true → goes steps starts qs present ≡ false
    unfolding comes_before
    before ps first [] o b = absurd (true≢false (sym b))
    before ps first (q ∷ qs) o b =
        ⊎_elim (λ l. t.fails q qs (ltb-true q p l) o)
        (λ r. let same = eqb-true q p (and_left (eqb q p) (comes_before qs ps) r) in
        subst⁻¹ (λ m. goes steps starts (m ∷ qs) present ≡ false) same
        (goes_on qs
        ∙ first qs (order_tail (subst (λ m. OrderOf n d left (m ∷ qs)) same o))
        (and_right (eqb q p) (comes_before qs ps) r)))
        (or_cases (ltb q p) (eqb q p && comes_before qs ps) b)

    pub is_found : {order : List ℕ} → FirstGoes steps starts n (d + 1) (set left p false) after order
        → p < n → get_or left p false ≡ true → d < n → FirstGoes steps starts n d left present (set order d p)
    is_found {order} f h l below =
        record {
          ps = p ∷ f.ps;
          stands = stands;
          room = omega (arith, length-set order d p);
          is_order = order_cons h l f.is_order;
          good = goes_on f.ps ∙ f.good;
          first = before f.ps f.first;
        }
      where
        stands : drop d (take n (set order d p)) ≡ p ∷ f.ps
        stands =
            let long = length-take n order in
            let fits = f.room in
            ap (drop d) (take-set-lt n order d p below)
            ∙ drop-cons (set (take n order) d p) d 0 (omega (arith, length-set (take n order) d p))
            ∙ ap₂ {C = List ℕ} (λ x y. x ∷ y) (get_or-set_same (take n order) d p 0 (omega arith))
            (drop-set-lt (suc d) (take n order) d p (omega arith) ∙ ap (λ k. drop k (take n order)) (sym (add-one d)) ∙
            f.stands)

  -- all are placed
  pub all_placed : (order : List ℕ) → d ≡ n → n ≤ length order → FirstGoes steps starts n d left present order
  unfolding goes comes_before distinct
  all_placed order e fits =
      let short = length-take n order in
      record {
        ps = [];
        room = fits;
        stands = drop_of_length-le (take n order) {i = d} (omega arith);
        is_order = record { as_many = omega arith; positions = λ p i. absurd (Memᴰ.not-nil i); once = refl };
        good = refl;
        first = none_before;
      }
    where
      none_before : (qs : List ℕ) → OrderOf n d left qs → comes_before qs [] ≡ true → goes steps starts qs present ≡
          false
      none_before [] o b = absurd (true≢false (sym b))
      none_before (q ∷ qs) o b = absurd (true≢false (sym b))

  -- all are tried
  pub all_tried : (p : ℕ) → Tried p → n ≤ p → d < n → NoneGoes steps starts n d left present
  all_tried p t all below [] o = absurd (omega (arith, o.as_many))
  all_tried p t all below (q ∷ qs) o = t.fails q qs (omega (arith, (o.positions q (Memᴰ.head refl)).0)) o
