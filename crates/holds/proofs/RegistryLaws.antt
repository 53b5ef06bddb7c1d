-- What registrations hear of, row by row.
use Prim.Native.Nat.{ℕ, zero, suc, ◌+◌, ◌≤◌, ◌<◌}
use mathlib.Core.Bool.{Bool, cond, ◌&&◌}
use mathlib.Core.Path.{◌≡◌, refl, sym, ap, ap₂, ◌∙◌}
use mathlib.Core.List.{List, [], ◌∷◌, ◌++◌, map, map-append, append-nil, append_assoc}
use native.Mathlib.Numerals.{add-one}
use native.Mathlib.Omega.{arith}
use lib.ListN.{length, length-append, get_or, set, take}
use lib.Seq.{take-suc-set}
use Rattle.rules.specs.declared.Entry.{Entry}
use Rattle.rules.specs.declared.Registration.{Registration}
use Rattle.rules.specs.Template.{matches}
use Rattle.rules.specs.Notify.{matching}
use Rattle.rules.specs.State.{Model, with_registrations}
use Rattle.rules.specs.Words.{view, registration_count, registration_of, until_of}
use Rattle.std.specs.List.{filter}
use Rattle.rules.specs.Lists.{filterb}
use Rattle.rules.specs.Numbers.{max_entries, max_registrations}
use Rattle.rules.proofs.ListLaws.{count, filter-filter, length-filter}
use Rattle.rules.proofs.ViewLaws.{view-bounded}
use Rattle.tables.specs.Rows.{registration_row, FitsWord}
use Rattle.tables.proofs.Tables.{registration_in, length-entries, length-registrations, until_back}
use Rattle.holds.specs.Registry.{is_own, own_matching, heard_once, heard_by}

abbrev pub own_match : ℕ → Registration → Entry → Bool
own_match t g e = is_own t e && matches g.mask g.fields e.fields

pub own-matching : (t : ℕ) (es : List Entry) (g : Registration) → count (own_match t g) es ≡ own_matching t es g
unfolding own_matching matching
own-matching t es g = ap length (sym (filter-filter (λ e. matches g.mask g.fields e.fields) (is_own t) es))

-- so many are counted
pub own_counted : (t : ℕ) (ws : List ℕ) (g : Registration) (r : ℕ)
    → r ≡ length (filter (own_match t g) (view ws).entries)
    → (r ≡ own_matching t (view ws).entries g) × (r ≤ max_entries)
own_counted t ws g r e =
    let p = own_match t g in
    let es = (view ws).entries in
    let c : r ≡ count p es = e ∙ ap length (same p es) in
    (c ∙ own-matching t es g, omega (arith, c, length-filter p es, length-entries ws))
  where
    same : (p : Entry → Bool) (xs : List Entry) → filter p xs ≡ filterb p xs
    same p [] = refl
    same p (x ∷ xs) = ap (λ ys. cond (p x) (x ∷ ys) ys) (same p xs)

-- ---- a list that is filled row by row
pub one_left : {A : Type 0} (passed rest : List A) {all more : List A} {x : A} {k : ℕ} → length passed ≡ k
    → passed ++ rest ≡ all → rest ≡ x ∷ more → k < length all
one_left passed rest l e s = omega (arith, l, ap length e, length-append passed rest, ap length s)

-- so a registration more has a place
pub has_place : (passed rest : List Registration) (ws : List ℕ) {more : List Registration} {x : Registration} {k : ℕ}
    → length passed ≡ k → passed ++ rest ≡ (view ws).registrations → rest ≡ x ∷ more → k < max_registrations
has_place passed rest ws l e s = omega (arith, one_left passed rest l e s, (view-bounded ws).registrations_fit)

-- one more is passed
pub one_passed : {A : Type 0} (passed rest : List A) {all more : List A} {x : A} → passed ++ rest ≡ all
    → rest ≡ x ∷ more → (passed ++ (x ∷ [])) ++ more ≡ all
one_passed passed rest {more = more} {x = x} e s =
    append_assoc passed (x ∷ []) more ∙ ap (λ xs. passed ++ xs) (sym s) ∙ e

module _ {A : Type 0} (v : A → ℕ) (cs : List ℕ) (passed : List A) (k : ℕ) (s : take k cs ≡ map v passed) where
  pub filled_more : {n i j : ℕ} {x : A} → i ≡ k → j ≡ k + 1 → i < length cs → n ≡ v x
      → take j (set cs i n) ≡ map v (passed ++ (x ∷ []))
  filled_more {n} {i} {j} {x} at more l q =
      ap (λ h. take h (set cs i n)) (more ∙ ap (λ h. h + 1) (sym at) ∙ add-one i)
      ∙ take-suc-set cs i n l
      ∙ ap₂ (λ xs h. xs ++ (h ∷ [])) (ap (λ h. take h cs) at ∙ s) q
      ∙ sym (map-append v passed (x ∷ []))

  pub filled_all : {rest all : List A} → length passed ≡ k → passed ++ rest ≡ all → rest ≡ []
      → take (length all) cs ≡ map v all
  filled_all l e z =
      let same = sym (append-nil passed) ∙ ap (λ xs. passed ++ xs) (sym z) ∙ e in
      ap (λ h. take h cs) (sym (ap length same) ∙ l) ∙ s ∙ ap (map v) same

-- ---- each hears of as many more as its count says
module _ (limit : ℕ) where
  pub heard_more : (cs : List ℕ) (gs : List Registration) (i : ℕ) (g : Registration) → i < length gs → i < length cs
      → g ≡ get_or (heard_by limit (take i cs) gs) i g
      → set (heard_by limit (take i cs) gs) i (heard_once limit (get_or cs i 0) g) ≡ heard_by limit (take (suc i) cs) gs
  unfolding heard_by
  heard_more [] gs i g l k e = absurd (omega arith)
  heard_more (c ∷ cs) [] i g l k e = absurd (omega arith)
  heard_more (c ∷ cs) (x ∷ gs) zero g l k e = ap (λ y. heard_once limit c y ∷ gs) e
  heard_more (c ∷ cs) (x ∷ gs) (suc i) g l k e =
      ap (λ ys. heard_once limit c x ∷ ys) (heard_more cs gs i g (omega arith) (omega arith) e)

  pub heard_all : (cs : List ℕ) (gs : List Registration) → heard_by limit (take (length gs) cs) gs
      ≡ heard_by limit cs gs
  unfolding heard_by
  heard_all [] [] = refl
  heard_all [] (g ∷ gs) = refl
  heard_all (c ∷ cs) [] = refl
  heard_all (c ∷ cs) (g ∷ gs) = ap (λ ys. heard_once limit c g ∷ ys) (heard_all cs gs)

  pub heard-length : (cs : List ℕ) (gs : List Registration) → length (heard_by limit cs gs) ≡ length gs
  unfolding heard_by
  heard-length [] gs = refl
  heard-length (c ∷ cs) [] = refl
  heard-length (c ∷ cs) (g ∷ gs) = ap suc (heard-length cs gs)

  -- where the counts are told by the registrations
  pub heard_by_lem : (v : Registration → ℕ) (cs : List ℕ) (gs : List Registration) → take (length gs) cs ≡ map v gs
      → heard_by limit cs gs ≡ map (λ g. heard_once limit (v g) g) gs
  unfolding heard_by
  heard_by_lem v [] [] e = refl
  heard_by_lem v [] (g ∷ gs) e = absurd (omega (arith, ap length e))
  heard_by_lem v (c ∷ cs) [] e = refl
  heard_by_lem v (c ∷ cs) (g ∷ gs) e =
      ap₂ (λ k ys. heard_once limit k g ∷ ys) (ap (λ ks. get_or ks 0 0) e) (heard_by_lem v cs gs (tail_same e))
    where
      tail_same : {x y : ℕ} {xs ys : List ℕ} → x ∷ xs ≡ y ∷ ys → xs ≡ ys
      tail_same q = cc

-- ---- so row by row
module _ (ws ws₀ cs : List ℕ) (i : ℕ)
    (e : view ws ≡ with_registrations (heard_by (view ws₀).next_entry (take i cs) (view ws₀).registrations) (view ws₀))
  where
    pub heard-count : registration_count ws ≡ registration_count ws₀
    heard-count =
        sym (length-registrations ws)
        ∙ ap (λ (m : Model). length m.registrations) e
        ∙ heard-length (view ws₀).next_entry (take i cs) (view ws₀).registrations
        ∙ length-registrations ws₀

    pub heard-row : (ws' : List ℕ) {g x : Registration} {limit : ℕ} → limit ≡ (view ws₀).next_entry
        → i < registration_count ws₀ → i < length cs → g ≡ registration_row ws i → x
        ≡ heard_once limit (get_or cs i 0) g
        → view ws' ≡ with_registrations (set (view ws).registrations i x) (view ws)
        → view ws'
        ≡ with_registrations (heard_by (view ws₀).next_entry (take (i + 1) cs) (view ws₀).registrations) (view ws₀)
    heard-row ws' {g} {x} {limit} at l k read made turned =
        let gs = (view ws₀).registrations in
        let n = (view ws₀).next_entry in
        let in_row : g ≡ get_or (heard_by n (take i cs) gs) i g =
        read
        ∙ sym (registration_in ws i g (omega (arith, heard-count)))
        ∙ ap (λ (m : Model). get_or m.registrations i g) e in
        rw (add-one i)
        (turned
        ∙ ap (λ (m : Model). with_registrations (set m.registrations i x) m) e
        ∙ ap (λ ys. with_registrations ys (view ws₀))
        (ap (set (heard_by n (take i cs) gs) i) (made ∙ ap (λ k. heard_once k (get_or cs i 0) g) at)
        ∙ heard_more n cs gs i g (omega (arith, length-registrations ws₀)) k in_row))

-- a registration that was read from words has an end that fits one
pub end-registered : (ws : List ℕ) (i : ℕ) → FitsWord (registration_row ws i).end
unfolding registration_of
end-registered ws i = ap until_of (until_back _)
