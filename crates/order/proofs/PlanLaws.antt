-- Laws of slots and steps.
use Prim.Native.Nat.{ℕ, zero, suc, ◌+◌, ◌≤◌, ◌<◌}
use mathlib.Core.Bool.{Bool, true, false, not, cond, ◌&&◌, ◌||◌, true≢false, or-false, or_comm, and-false}
use mathlib.Core.Logic.{◌⊎◌, ⊎_elim}
use mathlib.Core.Path.{◌≡◌, refl, sym, ap, ap₂, ◌∙◌, subst⁻¹}
use mathlib.Core.List.Memᴰ
use mathlib.Core.List.{List, [], ◌∷◌, ◌++◌, map, append-nil, map-append, Memᴰ}
use native.Mathlib.Decide.{ℕ_discrete}
use native.Mathlib.Numerals.{add-one}
use native.Mathlib.Omega.{arith}
use borrow.Author.Tests.{eq-eqb, ne_eqb, eqb-true, eqb-false}
use denote.Enum.Bare.{sameb}
use lib.Dec.{eqb, ltb}
use lib.ListN.{length, get_or, take, drop, set, replicate, length-set, length-map}
use lib.Seq.{take_all, take-suc, split_at, get_or-set_same, get_or-set_other, length-take-le}
use Rattle.std.proofs.lemmas.Bool.{ltb-false}
use Rattle.std.specs.Prelude.{Option, Some, None}
use Rattle.std.specs.Option.{unwrap_or}
use Rattle.std.specs.List.{prefix_len, position_or_len, position}
use Rattle.rules.specs.Lists.{anyb, distinct, joined}
use Rattle.rules.proofs.BoolLaws.{and_left, and_right, or_left, or_right, or_cases}
use Rattle.rules.proofs.ListLaws.{any_append, mem_any}
use Rattle.order.specs.contracts.action.Kind.{the_type}
use Rattle.order.specs.declared.action.Kind.{Kind}
use Rattle.order.specs.declared.action.Kind.TheVariants.{Write, Read, Take}
use Rattle.order.specs.declared.action.Action.{Action}
use Rattle.order.specs.declared.plan.Step.{Step}
use Rattle.order.specs.Export.{written_as, written_by}
use Rattle.order.specs.Reading.{slots}
use Rattle.order.specs.Plan.{slot_in, numbers_of, slot_at, step_in, written_in, AllPlaced, Resolved, WrittenTwice}
use Rattle.order.specs.Search.{is_write}
use Rattle.order.proofs.ArrayLaws.{joined-append, joined_map_more, filled_more, get_d_map, all_same}

-- the first place of a number is its slot
first_place : (acts : List Action) (n j : ℕ) → j < length acts → get_or (numbers_of acts) j 0 ≡ n
    → position_or_len (λ (a : Action). eqb a.number n) (take j acts) ≡ slot_in (numbers_of acts) n
unfolding slot_in
first_place [] n j h e = absurd (omega arith)
first_place (a ∷ acts) n zero h e = rw (eq-eqb a.number n e)
first_place (a ∷ acts) n (suc j) h e = go (eqb a.number n) (first_place acts n j (omega arith) e)
  where
    go : (b : Bool) → position_or_len (λ (c : Action). eqb c.number n) (take j acts) ≡ slot_in (numbers_of acts) n
        → cond (not b) (1 + position_or_len (λ (c : Action). eqb c.number n) (take j acts)) 0
        ≡ cond b 0 (suc (slot_in (numbers_of acts) n))
    go true p = refl
    go false p = omega arith

prefix_short : {A : Type 0} (p : A → Bool) (xs : List A) → prefix_len p xs ≤ length xs
prefix_short p [] = omega arith
prefix_short p (x ∷ xs) = go (p x) (prefix_short p xs)
  where
    go : (b : Bool) → prefix_len p xs ≤ length xs → cond b (1 + prefix_len p xs) 0 ≤ suc (length xs)
    go true h = omega arith
    go false h = omega arith

pub slot_is : (acts : List Action) (j : ℕ) (d : Action) {r : Option ℕ} {slot : ℕ} → j < length acts
    → r ≡ position (λ (a : Action). eqb a.number (get_or acts j d).number) (take j acts) → slot ≡ unwrap_or r j
    → (slot ≡ slot_at acts j) × (slot ≤ j)
slot_is acts j d {r} h e s =
    let first = s ∙ ap (λ o. unwrap_or o j) e ∙ is in
    (first ∙ place, omega (arith, first, short))
  where
    p : Action → Bool
    p = λ a. eqb a.number (get_or acts j d).number

    number_is : get_or (numbers_of acts) j 0 ≡ (get_or acts j d).number
    number_is = get_d_map (λ (b : Action). b.number) acts j d 0 h

    place : position_or_len p (take j acts) ≡ slot_at acts j
    place = first_place acts (get_or acts j d).number j h number_is ∙ ap (slot_in (numbers_of acts)) (sym number_is)

    long : length (take j acts) ≡ j
    long = length-take-le j acts (omega arith)

    short : position_or_len p (take j acts) ≤ j
    short = omega (arith, prefix_short (λ (a : Action). not (p a)) (take j acts), long)

    is : unwrap_or (position p (take j acts)) j ≡ position_or_len p (take j acts)
    is = go (ltb (position_or_len p (take j acts)) (length (take j acts))) refl
      where
        go : (b : Bool) → ltb (position_or_len p (take j acts)) (length (take j acts)) ≡ b
            → unwrap_or (cond b (Some (position_or_len p (take j acts))) None) j ≡ position_or_len p (take j acts)
        go true t = refl
        go false f = omega (arith, ltb-false _ _ f, short, long)

-- a slot tells its number
pub slot_tells : (ms : List ℕ) (n : ℕ) → slot_in ms n < length ms → get_or ms (slot_in ms n) 0 ≡ n
unfolding slot_in
slot_tells [] n h = absurd (omega arith)
slot_tells (m ∷ ms) n h = go (eqb m n) refl (slot_tells ms n) h
  where
    go : (b : Bool) → eqb m n ≡ b → (slot_in ms n < length ms → get_or ms (slot_in ms n) 0 ≡ n)
        → cond b 0 (suc (slot_in ms n)) < suc (length ms) → get_or (m ∷ ms) (cond b 0 (suc (slot_in ms n))) 0 ≡ n
    go true e below l = eqb-true m n e
    go false e below l = below (omega arith)

-- and a number that is there has a slot
pub slot_known : (n : ℕ) {ms : List ℕ} → Memᴰ n ms → slot_in ms n < length ms
unfolding slot_in
slot_known n (Memᴰ.head {x = m} {xs = ms} e) = rw (eq-eqb m n (sym e)) (omega arith)
slot_known n (Memᴰ.tail {x = m} {xs = ms} i) = go (eqb m n) (slot_known n i)
  where
    go : (b : Bool) → slot_in ms n < length ms → cond b 0 (suc (slot_in ms n)) < suc (length ms)
    go true l = omega arith
    go false l = omega arith

-- flags by slot: those of the numbers for which the test passes are up
pub record Agrees (ms : List ℕ) (flags : List Bool) (test : ℕ → Bool) : Type 0 where
  pub as_many : length ms ≤ length flags
  pub flag_is : (n : ℕ) → slot_in ms n < length ms → get_or flags (slot_in ms n) false ≡ test n

pub no_flags : (ms : List ℕ) → length ms ≤ slots → Agrees ms (replicate slots false) (λ n. false)
no_flags ms l = record { as_many = l; flag_is = λ n k. all_same slots false (slot_in ms n) }

-- one number's flag is put
pub agrees_put : {ms : List ℕ} {flags : List Bool} {test : ℕ → Bool} → Agrees ms flags test
    → (test' : ℕ → Bool) (m : ℕ) → slot_in ms m < length ms → (up : Bool) → up ≡ test' m
    → ((n : ℕ) → (n ≡ m → ⊥) → test n ≡ test' n)
    → Agrees ms (set flags (slot_in ms m) up) test'
agrees_put {ms} {flags} {test} a test' m k up here other =
    record {
      as_many = omega (arith, length-set flags (slot_in ms m) up, a.as_many);
      flag_is = λ n l. go n l (ℕ_discrete n m);
    }
  where
    go : (n : ℕ) → slot_in ms n < length ms → Dec (n ≡ m)
        → get_or (set flags (slot_in ms m) up) (slot_in ms n) false ≡ test' n
    go n l (yes q) =
        ap (λ i. get_or (set flags (slot_in ms m) up) (slot_in ms i) false) q
        ∙ get_or-set_same flags (slot_in ms m) up false (omega (arith, a.as_many)) ∙ here ∙ ap test' (sym q)
    go n l (no q) =
        get_or-set_other flags (slot_in ms m) (slot_in ms n) up false
        (λ s. q (sym (slot_tells ms n l) ∙ ap (λ i. get_or ms i 0) s ∙ slot_tells ms m k))
        ∙ a.flag_is n l ∙ other n q

-- a number more, that is new or stands there already
pub distinct_more : (ns : List ℕ) (m : ℕ) → distinct ns ≡ true → anyb (eqb m) ns ≡ false
    → distinct (ns ++ (m ∷ [])) ≡ true
unfolding distinct
distinct_more [] m d new = refl
distinct_more (n ∷ ns) m d new =
    let other = ne_eqb n m (λ q. eqb-false m n (or_left (eqb m n) (anyb (eqb m) ns) new) (sym q)) in
    let fresh = any_append (eqb n) ns (m ∷ []) ∙ ap (λ b. anyb (eqb n) ns || (b || false)) other
    ∙ or-false (anyb (eqb n) ns) in
    rw (
      fresh,
      distinct_more ns m (and_right (not (anyb (eqb n) ns)) (distinct ns) d)
          (or_right (eqb m n) (anyb (eqb m) ns) new),
    )
    (ap (λ b. b && true) (and_left (not (anyb (eqb n) ns)) (distinct ns) d))

pub distinct_twice : (ns : List ℕ) (m : ℕ) (rest : List ℕ) → anyb (eqb m) ns ≡ true
    → distinct (ns ++ (m ∷ rest)) ≡ false
unfolding distinct
distinct_twice [] m rest t = absurd (true≢false (sym t))
distinct_twice (n ∷ ns) m rest t =
    ⊎_elim
    (λ e. ap (λ b. not b && distinct (ns ++ (m ∷ rest)))
    (mem_any (eqb n) (Memᴰ.append_right ns (Memᴰ.head refl)) (eq-eqb n m (sym (eqb-true m n e)))))
    (λ r. ap (λ b. not (anyb (eqb n) (ns ++ (m ∷ rest))) && b) (distinct_twice ns m rest r)
    ∙ and-false (not (anyb (eqb n) (ns ++ (m ∷ rest)))))
    (or_cases (eqb m n) (anyb (eqb m) ns) t)

-- the code's test of a kind
pub is_write_test : (k : Kind) → sameb the_type k Write ≡ is_write k
is_write_test Write = refl
is_write_test Read = refl
is_write_test Take = refl

pub not_both : {x y : Bool} → ((x ≡ true) × (y ≡ false)) ⊎ (x ≡ false) → (x && y) ≡ false
not_both {x} {y} h = ⊎_elim (λ p. ap (λ b. x && b) p.1 ∙ and-false x) (λ f. ap (λ b. b && y) f) h

-- whether an action writes a number
writes_own : (k : Kind) (n : ℕ) → is_write k ≡ anyb (eqb n) (written_as k n)
writes_own Write n = sym (or-false (eqb n n) ∙ eq-eqb n n refl)
writes_own Read n = refl
writes_own Take n = refl

writes_no_other : (k : Kind) (m n : ℕ) → (n ≡ m → ⊥) → anyb (eqb n) (written_as k m) ≡ false
writes_no_other Write m n h = or-false (eqb n m) ∙ ne_eqb n m h
writes_no_other Read m n h = refl
writes_no_other Take m n h = refl

-- the first j actions are resolved
pub record Resolving (acts : List Action) (j : ℕ) (steps : List Step) (written : List Bool) : Type 0 where
  pub are : take j steps ≡ map (step_in (numbers_of acts)) (take j acts)
  pub once : distinct (written_in (take j acts)) ≡ true
  pub agrees : Agrees (numbers_of acts) written (λ n. anyb (eqb n) (written_in (take j acts)))
  pub placed : AllPlaced steps
  pub long : length steps ≡ slots

pub none_resolved : (acts : List Action) (s : Step) → s.slot < slots → length acts ≤ slots
    → Resolving acts 0 (replicate slots s) (replicate slots false)
unfolding distinct
none_resolved acts s h l =
    record {
      are = refl;
      once = refl;
      agrees = no_flags (numbers_of acts) (omega (arith, length-map acts (λ (a : Action). a.number)));
      placed = each slots;
      long = refl;
    }
  where
    each : (n : ℕ) → AllPlaced (replicate n s)
    each zero x i = absurd (Memᴰ.not-nil i)
    each (suc n) x i = ⊎_elim (λ e. subst⁻¹ (λ (t : Step). t.slot < slots) e h) (λ k. each n x k) (Memᴰ.cases_cons i)

mem_set : {A : Type 0} (P : A → Type 0) (xs : List A) (i : ℕ) (v : A) → ((x : A) → Memᴰ x xs → P x) → P v
    → (x : A) → Memᴰ x (set xs i v) → P x
mem_set P [] i v h p x m = absurd (Memᴰ.not-nil m)
mem_set P (y ∷ ys) zero v h p x m =
    ⊎_elim (λ e. subst⁻¹ P e p) (λ k. h x (Memᴰ.tail k)) (Memᴰ.cases_cons m)
mem_set P (y ∷ ys) (suc i) v h p x m =
    ⊎_elim (λ e. h x (Memᴰ.head e)) (λ k. mem_set P ys i v (λ z l. h z (Memᴰ.tail l)) p x k) (Memᴰ.cases_cons m)

-- the next one
module _ (acts : List Action) (j slot : ℕ) (d : Action) (steps : List Step) (written : List Bool)
    (r : Resolving acts j steps written) (h : j < length acts) (fits : length acts ≤ slots)
    (is : slot ≡ slot_at acts j) (low : slot ≤ j) where
  abbrev pub a : Action
  a = get_or acts j d

  number_is : get_or (numbers_of acts) j 0 ≡ a.number
  number_is = get_d_map (λ (b : Action). b.number) acts j d 0 h

  slot_is_its : slot ≡ slot_in (numbers_of acts) a.number
  slot_is_its = is ∙ ap (slot_in (numbers_of acts)) number_is

  known : slot_in (numbers_of acts) a.number < length (numbers_of acts)
  known = omega (arith, slot_is_its, length-map acts (λ (b : Action). b.number))

  before : List ℕ
  before = written_in (take j acts)

  flag_is : get_or written slot false ≡ anyb (eqb a.number) before
  unfolding before
  flag_is = ap (λ s. get_or written s false) slot_is_its ∙ r.agrees.flag_is a.number known

  -- its number is written twice
  pub written_twice : {w : Bool} → w ≡ is_write a.kind → w ≡ true → get_or written slot false ≡ true
      → WrittenTwice acts
  unfolding before
  written_twice e w t =
      ap (λ l. distinct (written_in l)) (split_at acts j d h)
      ∙ ap distinct (ap joined (map-append written_by (take j acts) (a ∷ drop (suc j) acts))
      ∙ joined-append (map written_by (take j acts)) (map written_by (a ∷ drop (suc j) acts)))
      ∙ go a.kind (sym e ∙ w) (sym flag_is ∙ t)
    where
      go : (k : Kind) → is_write k ≡ true → anyb (eqb a.number) before ≡ true
          → distinct (before ++ (written_as k a.number ++ written_in (drop (suc j) acts))) ≡ false
      go Write w t = distinct_twice before a.number (written_in (drop (suc j) acts)) t
      go Read w t = absurd (true≢false (sym w))
      go Take w t = absurd (true≢false (sym w))

  pub resolved_more : {w : Bool} → w ≡ is_write a.kind → (w && get_or written slot false) ≡ false
      → Resolving acts (j + 1) (set steps j (record { kind = a.kind; slot = slot }))
      (set written slot (w || get_or written slot false))
  unfolding before
  resolved_more {w} e t =
      record {
        are = ap (λ s. take (j + 1) (set steps j (record { kind = a.kind; slot = s }))) slot_is_its
            ∙ filled_more [] steps j (map (step_in (numbers_of acts)) (take j acts)) (step_in (numbers_of acts) a) r.are
            (omega (arith, r.long))
            ∙ sym (ap (map (step_in (numbers_of acts))) one_more
            ∙ map-append (step_in (numbers_of acts)) (take j acts) (a ∷ []));
        once = ap distinct written_lem ∙ go a.kind (sym (ap₂ (λ x f. x && f) e flag_is) ∙ t);
        agrees = subst⁻¹ (λ l. Agrees (numbers_of acts) (set written slot up) (λ n. anyb (eqb n) l)) written_lem
            (subst⁻¹ (λ s. Agrees (numbers_of acts) (set written s up) (λ n. anyb (eqb n) (before ++ written_by a)))
            slot_is_its put);
        placed = mem_set (λ (s : Step). s.slot < slots) steps j (record { kind = a.kind; slot = slot }) r.placed
            (omega arith);
        long = length-set steps j (record { kind = a.kind; slot = slot }) ∙ r.long;
      }
    where
      one_more : take (j + 1) acts ≡ take j acts ++ (a ∷ [])
      one_more = ap (λ k. take k acts) (add-one j) ∙ take-suc acts j d h

      written_lem : written_in (take (j + 1) acts) ≡ before ++ written_by a
      written_lem = ap written_in one_more ∙ joined_map_more written_by (take j acts) a

      up : Bool
      up = w || get_or written slot false

      go : (k : Kind) → (is_write k && anyb (eqb a.number) before) ≡ false
          → distinct (before ++ written_as k a.number) ≡ true
      go Write e = distinct_more before a.number r.once e
      go Read e = ap distinct (append-nil before) ∙ r.once
      go Take e = ap distinct (append-nil before) ∙ r.once

      put : Agrees (numbers_of acts) (set written (slot_in (numbers_of acts) a.number) up)
          (λ n. anyb (eqb n) (before ++ written_by a))
      put =
          agrees_put r.agrees (λ n. anyb (eqb n) (before ++ written_by a)) a.number known up
          (ap₂ (λ x y. x || y) (e ∙ writes_own a.kind a.number) flag_is
          ∙ or_comm (anyb (eqb a.number) (written_by a)) (anyb (eqb a.number) before)
          ∙ sym (any_append (eqb a.number) before (written_by a)))
          (λ n q. sym (any_append (eqb n) before (written_by a)
          ∙ ap (λ x. anyb (eqb n) before || x) (writes_no_other a.kind a.number n q)
          ∙ or-false (anyb (eqb n) before)))

-- all of them
pub all_resolved : (acts : List Action) (j : ℕ) (steps : List Step) (written : List Bool)
    → Resolving acts j steps written → j ≡ length acts → Resolved acts steps
all_resolved acts j steps written r all =
    let whole = take_all j acts (omega arith) in
    record {
      once = sym (ap (λ l. distinct (written_in l)) whole) ∙ r.once;
      are = ap (λ m. take m steps) (sym all) ∙ r.are ∙ ap (map (step_in (numbers_of acts))) whole;
      placed = r.placed;
    }
