-- Every frame is answered: each model that a step gives is that of some words.
use Prim.Native.Nat.{ℕ, zero, suc, ◌/◌, ◌^◌, ◌≤◌, ◌<◌}
use mathlib.Core.Bool.{Bool, true, false, not, ◌&&◌, ◌||◌}
use mathlib.Core.Logic.{◌⊎◌, inl, inr}
use mathlib.Core.Path.{◌≡◌, refl, sym, ◌∙◌, subst, subst⁻¹}
use mathlib.Core.Option.{Option, none, some}
use mathlib.Core.List.{List, [], ◌∷◌, ◌++◌}
use native.Mathlib.Omega.{arith}
use native.Mathlib.Nat.{pow-succ'}
use borrow.Author.Tests.{eqb-true, eqb-false, ltb-false, not-false}
use lib.Dec.{eqb, ltb}
use lib.ListN.{length}
use Rattle.rules.specs.declared.Entry.{Entry}
use Rattle.rules.specs.declared.Txn.{Txn}
use Rattle.rules.specs.declared.LookUp.{LookUp}
use Rattle.rules.specs.declared.Registration.{Registration}
use Rattle.rules.specs.Numbers.{max_party}
use Rattle.rules.specs.Lists.{findb, anyb, All}
use Rattle.rules.specs.State.{Model, empty}
use Rattle.rules.specs.Template.{bit}
use Rattle.rules.specs.Frame.{Frame, decode, is_tick, has_template, has_blanks, names_no_txn}
use Rattle.rules.specs.LookUp.{look_up_of}
use Rattle.rules.specs.Transactions.{or_zero, free_slot}
use Rattle.rules.specs.Refusals.{highest, bad_template, bad_blanks, malformed, wrong_party, refusal}
use Rattle.rules.specs.Step.{Outcome, step}
use Rattle.rules.specs.Words.{view}
use Rattle.rules.specs.Allowed.{Answered, Allowed}
use Rattle.rules.specs.Notify.{new_registration, hearing}
use Rattle.rules.specs.Sound.{Consistent, Sound}
use Rattle.rules.specs.Write.{new_entry}
use Rattle.rules.proofs.ListLaws.{find_some, none_mem}
use Rattle.rules.proofs.BoolLaws.{cond_cases, bool_cases, or_left, or_right}
use Rattle.rules.proofs.RefusalLaws.{clear}
use Rattle.rules.proofs.ReaderLaws.{bit_suc, no_bits}
use Rattle.demands.specs.Machine.{Handed, Input, input_of, the_space, answered_by, the_rules}
use Rattle.demands.specs.History.{inputs_of, EveryState}
use Rattle.sound.proofs.HoldLaws.{not_so}
use Rattle.demands.proofs.Runs.{runs, made, made_keep}
use Rattle.demands.proofs.ByRule.{space-follows, run_of}
use Rattle.demands.proofs.JudgedProof.{number_is, refused-model}
use Rattle.sound.proofs.Events.{Heard, Events, over, then}
use Rattle.sound.proofs.EventsProof.{step_events}
use Rattle.sound.proofs.AllLaws.{all_none}
use Rattle.sound.proofs.Becomes.{waits-all, txns-all, written_all, registrations-all}
use Rattle.sound.proofs.ConsistentProof.{consistent_event}
use Rattle.sound.proofs.SoundProof.{sound_empty, sound-step}
use Rattle.demands.proofs.ByEvents.{consistent}
use Rattle.demands.proofs.Capacities.{bounded}
use Rattle.demands.proofs.BoundsProof.{timely}
use Rattle.demands.proofs.WordsOf.{Fits, words_of_lem}

-- ---- models that frames make fit words

-- a number whose bits are all below k
bits_below : (k n : ℕ) → ((p : ℕ) → bit p n ≡ true → p < k) → n < 2 ^ k
bits_below zero n h = let z = no_bits n (λ p. not_so (bit p n) (λ t. let l = h p t in omega arith)) in omega arith
bits_below (suc k) n h =
    let below = bits_below k (n / 2) (λ p t. let l = h (suc p) (bit_suc p n ∙ t) in omega arith) in
    rw pow-succ' (omega arith)

party-fits : (f : Frame) → wrong_party f ≡ false → f.party < 256
unfolding wrong_party
party-fits f =
    cond_cases (λ (b : Bool). b ≡ false → f.party < 256) (is_tick f.op)
    (λ _ e. let z = eqb-true f.party 0 (not-false _ e) in omega arith)
    (λ _ e. let l = ltb-false max_party f.party (or_right (eqb f.party 0) _ e) in omega arith)

mask_fits : (f : Frame) → malformed f ≡ false → f.mask < 256
unfolding malformed
mask_fits f e =
    let first =
    or_left _ (has_blanks f.op && bad_blanks f.mask f.fields)
    (or_left _ (names_no_txn f.op && not (eqb f.txn 0)) e) in
    let second =
    or_left _ (not (has_template f.op || has_blanks f.op) && not (eqb f.mask 0))
    (or_left _ (has_template f.op && bad_template f.mask f.fields) first) in
    let l = ltb-false (highest f.op) f.mask (or_right (not (eqb f.byte3 0)) _ second) in
    let most : highest f.op ≤ 23 =
    cond_cases (λ n. n ≤ 23) (has_template f.op) (λ _. omega arith) (λ _. omega arith) in
    omega arith

slot-fits : (ts : List Txn) → free_slot ts < 8
unfolding free_slot
slot-fits ts = go (findb free slots) refl
  where
    slots : List ℕ
    slots = 0 ∷ 1 ∷ 2 ∷ 3 ∷ 4 ∷ 5 ∷ 6 ∷ 7 ∷ []

    free : ℕ → Bool
    free p = not (anyb (λ (t : Txn). eqb t.slot p) ts)

    go : (o : Option ℕ) → findb free slots ≡ o → or_zero o < 8
    go none q = omega arith
    go (some p) q = let l = ltb-false 7 p (none_mem (ltb 7) refl (find_some free slots q).0) in omega arith

abbrev NarrowTxn : Txn → Type 0
NarrowTxn t = (t.party < 256) × (t.slot < 8)

abbrev NarrowWait : LookUp → Type 0
NarrowWait w = (w.party < 256) × (w.mask < 256)

abbrev NarrowEntry : Entry → Type 0
NarrowEntry e = (e.fields.blanks < 256) × (e.writer < 256)

abbrev NarrowRegistration : Registration → Type 0
NarrowRegistration g = (g.party < 256) × (g.mask < 256)

record Narrow (m : Model) : Type 0 where
  txns : All NarrowTxn m.txns
  waits : All NarrowWait m.waits
  entries : All NarrowEntry m.entries
  registrations : All NarrowRegistration m.registrations

narrow_events : {f : Frame} {m n : Model} {hs : List Heard} → f.party < 256 → f.mask < 256 → Events f m hs n
    → Consistent m → Narrow m → Narrow n
unfolding look_up_of new_entry new_registration hearing
narrow_events p k over s h = h
narrow_events p k (then {m} e rest) s h =
    narrow_events p k rest (consistent_event e s) (record {
      txns = txns-all NarrowTxn e (λ _ _. (p, slot-fits m.txns)) h.txns;
      waits = waits-all NarrowWait e (λ _ _. (p, k)) h.waits;
      entries = written_all (λ n x w. (x.blanks < 256) × (w < 256)) e s.ordered (λ _ _. (k, p)) h.entries;
      registrations = registrations-all NarrowRegistration e (λ _ _. (p, k)) (λ es g i. i) h.registrations;
    })

narrow_step : (i : Input) (m : Model) → Sound m × Narrow m → Narrow (step m i.frame i.area).model
narrow_step i m (s, h) = go (bool_cases (eqb (refusal m i.frame i.area) 0))
  where
    go : (eqb (refusal m i.frame i.area) 0 ≡ true) ⊎ (eqb (refusal m i.frame i.area) 0 ≡ false)
        → Narrow (step m i.frame i.area).model
    go (inl z) =
        let c = clear m i.frame i.area (eqb-true _ 0 z) in
        let f = decode i.frame in
        let e = step_events m i.frame i.area s in
        narrow_events (party-fits f c.party) (mask_fits f c.form) e s.consistent h
    go (inr z) = subst⁻¹ Narrow (refused-model m i.frame i.area (eqb-false _ 0 z)) h

narrow : (is : List Input) → Narrow (made is)
narrow is =
    (made_keep (λ m. Sound m × Narrow m) (λ i m h. (sound-step m i.frame i.area h.0, narrow_step i m h)) (
      sound_empty,
      record { txns = all_none _; waits = all_none _; entries = all_none _; registrations = all_none _ },
    ) is).1

fits : (is : List Input) → Fits (made is)
fits is =
    let n = narrow is in
    let s = consistent is in
    let e = timely is in
    record {
      bounded = bounded is;
      entries = λ x i. (
        bits_below 8 x.readers (λ p t. let y = (s.held x i).readers p t in let l = (n.txns y.0 y.1).1 in
            let q = y.2 in omega arith),
        n.entries x i,
        e.entries x i,
      );
      txns = λ t i. ((n.txns t i).0, (n.txns t i).1, e.txns t i);
      waits = λ w i. ((n.waits w i).0, (n.waits w i).1, e.waits w i);
      registrations = λ g i. ((n.registrations g i).0, (n.registrations g i).1, e.registrations g i);
    }

-- ---- every frame is answered

pub space-begins : (ws : List ℕ) × the_space.Empty ws
unfolding runs
space-begins = words_of_lem empty (fits [])

runs_snoc : (m : Model) (is : List Input) (i : Input)
    → (runs m (is ++ (i ∷ []))).model ≡ (step (runs m is).model i.frame i.area).model
unfolding runs
runs_snoc m [] i = refl
runs_snoc m (j ∷ is) i = runs_snoc (step m j.frame j.area).model is i

-- with words of the new model; a refused frame gives the same words back
pub space-answers : EveryState the_space
    (λ log t. (h : Handed) → (u : List ℕ) × (a : Answered) × the_space.Steps t h u a)
unfolding answered_by
space-answers log t r h = go (bool_cases (eqb o.number 0))
  where
    o : Outcome
    o = step (view t) h.frame (length h.area)

    new_fits : Fits o.model
    new_fits =
        let q = run_of the_space space-follows r in
        let is = inputs_of r in
        let i = input_of h in
        subst⁻¹ (λ (m : Model). Fits (step m h.frame (length h.area)).model) q.model
        (subst Fits (runs_snoc empty is i) (fits (is ++ (i ∷ []))))

    allowed : (u : List ℕ) → view u ≡ o.model → ((o.number ≡ 0 → ⊥) → u ≡ t)
        → Allowed t h.frame h.area u (answered_by o h.area)
    allowed u s k =
        record { space = λ _. s; records = λ _. refl; count = refl; number = refl; bytes = refl; unchanged = k }

    go : (eqb o.number 0 ≡ true) ⊎ (eqb o.number 0 ≡ false)
        → (u : List ℕ) × (a : Answered) × the_space.Steps t h u a
    go (inl z) =
        let u = words_of_lem o.model new_fits in (u.0, _, allowed u.0 u.1 (λ n. absurd (n (eqb-true _ 0 z))))
    go (inr z) =
        let n = number_is (view t) h.frame (length h.area) in
        let same =
        refused-model (view t) h.frame (length h.area) (λ e. eqb-false o.number 0 z (n ∙ e)) in
        (t, _, allowed t (sym same) (λ _. refl))

pub rules_begin : (m : Model) × the_rules.Empty m
rules_begin = (empty, refl)

pub rules_answer : EveryState the_rules (λ log m. (h : Handed) → (n : Model) × (a : Answered) × the_rules.Steps m h n a)
rules_answer log m r h = (_, _, record { space = refl; answered = refl })
