-- The run of a plan is the serial run.
use Prim.Native.Nat.{ℕ, suc, ◌+◌, ◌-◌, ◌<◌}
use mathlib.Core.Bool.{Bool, true, false, not, cond, ◌&&◌, ◌||◌, true≢false, and-true, or-false, or-true}
use mathlib.Core.Path.{◌≡◌, refl, sym, ap, ap₂, ◌∙◌, subst⁻¹}
use mathlib.Core.List.Memᴰ
use mathlib.Core.List.{List, [], ◌∷◌, ◌++◌, map, append_assoc, map-append, Memᴰ}
use native.Mathlib.Omega.{arith}
use borrow.Author.Tests.{eq-eqb, ne_eqb, eqb-true, not-true, not-false}
use lib.Dec.{eqb}
use lib.ListN.{length, get_or, take, drop, set, length-append, length-map, take-append-drop}
use lib.Seq.{take_at, drop_at, split_at}
use Rattle.std.specs.Prelude.{Option, Some, None, slice_range}
use Rattle.rules.specs.Lists.{All, filterb, anyb, joined}
use Rattle.rules.specs.Records.{no_mark}
use Rattle.rules.specs.SerialRun.{Kept, Operation, adds, finds, Run, same_fields, is_kept, failed, taking, carry_out}
use Rattle.rules.specs.SerialRun.{carry_out_all}
use Rattle.rules.proofs.BoolLaws.{and_left, cond_cases}
use Rattle.rules.proofs.ListLaws.{any_append, all_false, mem_filter}
use Rattle.order.specs.declared.action.Kind.{Kind}
use Rattle.order.specs.declared.action.Kind.TheVariants.{Write, Read, Take}
use Rattle.order.specs.declared.action.Action.{Action}
use Rattle.order.specs.declared.plan.Step.{Step}
use Rattle.order.specs.Export.{writes}
use Rattle.order.specs.Orders.{operation_of, operations_at}
use Rattle.order.specs.Plan.{slot_in, numbers_of, step_in, Plan}
use Rattle.order.specs.Search.{misses, after_step, after_steps, after_txn, then_goes, goes}
use Rattle.order.proofs.ArrayLaws.{joined-append, joined_next}
use Rattle.order.proofs.PlanLaws.{Agrees, agrees_put, slot_known}

-- whether the plain set has a number
abbrev pub in_set : Run → ℕ → Bool
in_set r n = anyb (is_kept n no_mark) r.kept

-- what is left once the elements that pass a test are gone
any_out : {A : Type 0} (p q : A → Bool) → ((x : A) → p x ≡ true → q x ≡ false) → (xs : List A)
    → anyb p (filterb (λ x. not (q x)) xs) ≡ anyb p xs
any_out p q h [] = refl
any_out p q h (x ∷ xs) = go (p x) (q x) refl refl (any_out p q h xs)
  where
    go : (a b : Bool) → p x ≡ a → q x ≡ b → anyb p (filterb (λ y. not (q y)) xs) ≡ anyb p xs
        → anyb p (cond (not b) (x ∷ filterb (λ y. not (q y)) xs) (filterb (λ y. not (q y)) xs)) ≡ (p x || anyb p xs)
    go a false s t e = ap (λ c. p x || c) e
    go true true s t e = absurd (true≢false (sym t ∙ h x s))
    go false true s t e = e ∙ sym (ap (λ c. c || anyb p xs) s)

-- a number is found, or missing
found_is : (take : Bool) (n : ℕ) (r : Run) → in_set r n ≡ true
    → carry_out (finds take n no_mark) r ≡ cond take (taking n no_mark r) r
unfolding carry_out
found_is take n r t = ap {B = Run} (λ b. cond b (cond take (taking n no_mark r) r) (failed r)) t

missing_is : (take : Bool) (n : ℕ) (r : Run) → in_set r n ≡ false
    → carry_out (finds take n no_mark) r ≡ failed r
unfolding carry_out
missing_is take n r t = ap {B = Run} (λ b. cond b (cond take (taking n no_mark r) r) (failed r)) t

kept_other : (n m : ℕ) → (m ≡ n → ⊥) → (k : Kept) → is_kept m no_mark k ≡ true → is_kept n no_mark k ≡ false
unfolding is_kept
kept_other n m h k t =
    ap (λ b. b && same_fields no_mark k.fields)
    (ne_eqb k.number n (λ e. h (sym (eqb-true k.number m (and_left _ (same_fields no_mark k.fields) t)) ∙ e)))

-- the set after a write, and after a take
written_set : (n m : ℕ) (r : Run) → in_set (carry_out (operation_of (writes n)) r) m ≡ (in_set r m || eqb n m)
unfolding carry_out is_kept same_fields
written_set n m r =
    any_append (is_kept m no_mark) r.kept _ ∙ ap (λ b. in_set r m || b)
    (or-false (eqb n m && true) ∙ and-true (eqb n m))

taken_own : (n : ℕ) (r : Run) → in_set (taking n no_mark r) n ≡ false
unfolding taking
taken_own n r =
    all_false (is_kept n no_mark) _ (λ k i. not-true _ (mem_filter (λ j. not (is_kept n no_mark j)) r.kept i).1)

taken_other : (n m : ℕ) (r : Run) → (m ≡ n → ⊥) → in_set (taking n no_mark r) m ≡ in_set r m
unfolding taking
taken_other n m r h = any_out (is_kept m no_mark) (is_kept n no_mark) (kept_other n m h) r.kept

module _ (ms : List ℕ) where
  abbrev pub Known : Action → Type 0
  Known a = slot_in ms a.number < length ms

  -- what becomes of the flags and of the run
  module _ (flags : List Bool) (r : Run) (agrees : Agrees ms flags (in_set r)) (n : ℕ)
      (known : slot_in ms n < length ms) where
    missing_there : not (get_or flags (slot_in ms n) false) ≡ true → in_set r n ≡ false
    missing_there e = sym (agrees.flag_is n known) ∙ not-true _ e

    there : not (get_or flags (slot_in ms n) false) ≡ false → in_set r n ≡ true
    there e = sym (agrees.flag_is n known) ∙ not-false _ e

    abbrev its_step : Kind → Step
    its_step k = step_in ms (record { kind = k; number = n })

    abbrev carried : Kind → Run
    carried k = carry_out (operation_of (record { kind = k; number = n })) r

    pub step_none : (k : Kind) → misses (its_step k) flags ≡ true → (carried k).succeeds ≡ false
    unfolding failed misses
    step_none Write m = absurd (true≢false (sym m))
    step_none Read m = ap (λ (q : Run). q.succeeds) (missing_is false n r (missing_there m))
    step_none Take m = ap (λ (q : Run). q.succeeds) (missing_is true n r (missing_there m))

    pub step_some : (k : Kind) → misses (its_step k) flags ≡ false
        → ((carried k).succeeds ≡ r.succeeds) × Agrees ms (after_step (its_step k) flags) (in_set (carried k))
    unfolding carry_out taking misses after_step
    step_some Write m = (
      refl,
      agrees_put agrees (in_set (carried Write)) n known true
          (sym (written_set n n r ∙ ap (λ b. in_set r n || b) (eq-eqb n n refl) ∙ or-true (in_set r n)))
          (λ m q. sym (written_set n m r ∙ ap (λ b. in_set r m || b) (ne_eqb n m (λ p. q (sym p))) ∙ or-false
          (in_set r m))),
    )
    step_some Read m =
        let t = there m in
        subst⁻¹ (λ (q : Run). (q.succeeds ≡ r.succeeds) × Agrees ms (set flags (slot_in ms n) true) (in_set q))
        (found_is false n r t) (refl, agrees_put agrees (in_set r) n known true (sym t) (λ m q. refl))
    step_some Take m =
        let t = there m in
        subst⁻¹ (λ (q : Run). (q.succeeds ≡ r.succeeds) × Agrees ms (set flags (slot_in ms n) false) (in_set q))
        (found_is true n r t) (
          refl,
          agrees_put agrees (in_set (taking n no_mark r)) n known false (sym (taken_own n r))
              (λ m q. sym (taken_other n m r q)),
        )

-- a run that has failed stays so
failed_one : (o : Operation) (r : Run) → r.succeeds ≡ false → (carry_out o r).succeeds ≡ false
unfolding carry_out taking failed
failed_one (adds k) r f = f
failed_one (finds take n x) r f =
    let Fails : Run → Type 0 = λ q. q.succeeds ≡ false in
    cond_cases Fails (anyb (is_kept n x) r.kept) (λ _. cond_cases Fails take (λ _. f) (λ _. f)) (λ _. refl)

stays_failed : (os : List Operation) (r : Run) → r.succeeds ≡ false → (carry_out_all os r).succeeds ≡ false
unfolding carry_out_all
stays_failed [] r f = f
stays_failed (o ∷ os) r f = stays_failed os (carry_out o r) (failed_one o r f)

carry_append : (os ps : List Operation) (r : Run) → carry_out_all (os ++ ps) r ≡ carry_out_all ps (carry_out_all os r)
unfolding carry_out_all
carry_append [] ps r = refl
carry_append (o ∷ os) ps r = carry_append os ps (carry_out o r)

-- steps that go through agree with a run that succeeds, and steps that do not with one that fails
abbrev Agree : List ℕ → Option (List Bool) → Run → Type 0
Agree ms None q = q.succeeds ≡ false
Agree ms (Some flags) q = (q.succeeds ≡ true) × Agrees ms flags (in_set q)

steps_agree : (ms : List ℕ) (acts : List Action) → All (Known ms) acts → (flags : List Bool) (r : Run)
    → Agrees ms flags (in_set r) → r.succeeds ≡ true
    → Agree ms (after_steps (map (step_in ms) acts) flags) (carry_out_all (map operation_of acts) r)
unfolding after_steps carry_out_all
steps_agree ms [] k flags r g s = (s, g)
steps_agree ms (a ∷ acts) k flags r g s =
    go (misses (step_in ms a) flags) refl (steps_agree ms acts (λ x i. k x (Memᴰ.tail i)))
  where
    known : Known ms a
    known = k a (Memᴰ.head refl)

    rest : List Bool → Option (List Bool)
    rest = after_steps (map (step_in ms) acts)

    go : (b : Bool) → misses (step_in ms a) flags ≡ b
        → ((fs : List Bool) (q : Run) → Agrees ms fs (in_set q) → q.succeeds ≡ true
        → Agree ms (rest fs) (carry_out_all (map operation_of acts) q))
        → Agree ms (cond b None (rest (after_step (step_in ms a) flags)))
        (carry_out_all (map operation_of acts) (carry_out (operation_of a) r))
    go true m below =
        stays_failed (map operation_of acts) (carry_out (operation_of a) r)
        (step_none ms flags r g a.number known a.kind m)
    go false m below =
        let one = step_some ms flags r g a.number known a.kind m in
        below (after_step (step_in ms a) flags) (carry_out (operation_of a) r) one.1 (one.0 ∙ s)

-- the steps of the transaction at a position
module _ (ts : List (List Action)) (steps : List Step) (starts : List ℕ) (plan : Plan ts steps starts) where
  abbrev pub ms : List ℕ
  ms = numbers_of (joined ts)

  parts : (p : ℕ) → p < length ts
      → joined ts ≡ joined (take p ts) ++ (get_or ts p [] ++ joined (drop (suc p) ts))
  parts p h =
      ap joined (split_at ts p [] h) ∙ joined-append (take p ts) (get_or ts p [] ∷ drop (suc p) ts)

  txn_steps : (p : ℕ) → p < length ts
      → slice_range steps (get_or starts p 0) (get_or starts (p + 1) 0) ≡ map (step_in ms) (get_or ts p [])
  txn_steps p h =
      ap₂ take count (ap₂ drop (plan.begins p (omega arith)) whole)
      ∙ ap (take (length txn)) (drop_at (map s front) (map s txn ++ rest) (length front) (length-map front s))
      ∙ take_at (map s txn) rest (length txn) (length-map txn s)
    where
      s : Action → Step
      s = step_in (numbers_of (joined ts))

      front : List Action
      front = joined (take p ts)

      txn : List Action
      txn = get_or ts p []

      behind : List Action
      behind = joined (drop (suc p) ts)

      rest : List Step
      rest = map s behind ++ drop (length (joined ts)) steps

      count : get_or starts (p + 1) 0 - get_or starts p 0 ≡ length txn
      count =
          omega (
            arith,
            plan.begins p (omega arith),
            plan.begins (p + 1) (omega arith),
            ap length (joined_next ts p h),
            length-append front txn,
          )

      whole : steps ≡ map s front ++ (map s txn ++ rest)
      whole =
          sym (take-append-drop (length (joined ts)) steps)
          ∙ ap (λ l. l ++ drop (length (joined ts)) steps)
          (plan.are ∙ ap (map s) (parts p h) ∙ map-append s front (txn ++ behind)
          ∙ ap (λ l. map s front ++ l) (map-append s txn behind))
          ∙ append_assoc (map s front) (map s txn ++ map s behind) (drop (length (joined ts)) steps)
          ∙ ap (λ l. map s front ++ l) (append_assoc (map s txn) (map s behind) (drop (length (joined ts)) steps))

  txn_known : (p : ℕ) → p < length ts → All (Known ms) (get_or ts p [])
  txn_known p h a i =
      slot_known a.number
      (Memᴰ.map (λ (b : Action). b.number)
      (subst⁻¹ (Memᴰ a) (parts p h)
      (Memᴰ.append_right (joined (take p ts)) (Memᴰ.append_left (joined (drop (suc p) ts)) i))))

  -- the positions go through exactly where the serial run succeeds
  pub goes_is : (ps : List ℕ) → All (λ p. p < length ts) ps → (flags : List Bool) (r : Run)
      → Agrees ms flags (in_set r)
      → r.succeeds ≡ true
      → goes steps starts ps flags ≡ (carry_out_all (operations_at ts ps) r).succeeds
  unfolding goes operations_at carry_out_all after_txn
  goes_is [] h flags r g s = sym s
  goes_is (p ∷ ps) h flags r g s =
      let here = h p (Memᴰ.head refl) in
      ap (λ l. then_goes (goes steps starts ps) (after_steps l flags)) (txn_steps p here)
      ∙ go (after_steps (map (step_in ms) (get_or ts p [])) flags)
      (steps_agree ms (get_or ts p []) (txn_known p here) flags r g s)
      (goes_is ps (λ q i. h q (Memᴰ.tail i)))
      ∙ sym (ap (λ (q : Run). q.succeeds) (carry_append (map operation_of (get_or ts p [])) (operations_at ts ps) r))
    where
      after : Run
      after = carry_out_all (map operation_of (get_or ts p [])) r

      go : (o : Option (List Bool)) → Agree ms o after
          → ((fs : List Bool) (q : Run) → Agrees ms fs (in_set q) → q.succeeds ≡ true
          → goes steps starts ps fs ≡ (carry_out_all (operations_at ts ps) q).succeeds)
          → then_goes (goes steps starts ps) o ≡ (carry_out_all (operations_at ts ps) after).succeeds
      go None f below = sym (stays_failed (operations_at ts ps) after f)
      go (Some fs) y below = below fs after y.1 y.0
