-- A space whose every step the rules give meets the demands, and has what follows from them.
use Prim.Native.Nat.{ℕ, ◌*◌, ◌≤◌}
use mathlib.Core.Bool.{true, false}
use mathlib.Core.Logic.{◌⊎◌, inl, inr, ⊎_elim}
use mathlib.Core.Path.{◌≡◌, refl, sym, ap, ap₂, ◌∙◌, subst, subst⁻¹}
use mathlib.Core.List.Memᴰ
use mathlib.Core.List.{List, [], ◌∷◌, ◌++◌, map, Memᴰ}
use native.Mathlib.Omega.{arith}
use borrow.Author.Tests.{ltb-true, ltb-false}
use lib.Dec.{ltb}
use lib.ListN.{length, take, drop}
use Rattle.rules.specs.declared.Record.{Record}
use Rattle.rules.specs.State.{Model, empty, Bounded}
use Rattle.rules.specs.Numbers.{forever}
use Rattle.rules.specs.Lists.{filterb, anyb}
use Rattle.rules.specs.Frame.{is_look_up}
use Rattle.rules.specs.Records.{refused, is_ticked}
use Rattle.rules.specs.LookUp.{look_up_of, asked}
use Rattle.rules.specs.Refusals.{refusal}
use Rattle.rules.specs.Step.{Outcome, step}
use Rattle.rules.specs.Sound.{Sound, ByNumber}
use Rattle.rules.specs.Allowed.{Answered}
use Rattle.rules.specs.SerialRun.{Logged, serial_run, Serial}
use Rattle.rules.specs.Log.{records_of}
use Rattle.rules.proofs.BoolLaws.{bool_cases}
use Rattle.rules.proofs.Capacity.{step_fits}
use Rattle.rules.proofs.AreaLaws.{area-length, area-front, area_rest}
use Rattle.demands.specs.Machine.{Handed, frame_in, Input, input_of, Machine}
use Rattle.demands.specs.History.{History, handed_of, Made, inputs_of, EveryState, EveryStep}
use Rattle.demands.specs.Judged.{CarriedOut, Judged}
use Rattle.demands.specs.Answers.{AnsweredNow, NothingLeft, closes}
use Rattle.demands.specs.Said.{Said}
use Rattle.demands.specs.Book.{book_of, Booked}
use Rattle.demands.specs.Told.{Explained}
use Rattle.demands.specs.Registry.{registry_of, RegisteredIn}
use Rattle.demands.specs.Demands.{Demand1, Demand2, Demand3}
use Rattle.demands.specs.Consequences.{Consequences}
use Rattle.demands.specs.Bounds.{Timely, ReadByLive, OwnTakeHold, AreBytes, AllInRange, Bounds}
use Rattle.sound.proofs.SoundProof.{sound-step}
use Rattle.demands.proofs.Runs.{runs, made, answers_to}
use Rattle.demands.proofs.ByRule.{ByRule, Follows, run_to, run_of, made-sound}
use Rattle.demands.proofs.Capacities.{bounded}
use Rattle.demands.proofs.JudgedProof.{number_is, one_is, refused_record, no_record}
use Rattle.demands.proofs.OldestLaws.{answered_now}
use Rattle.demands.proofs.BoundsProof.{numbers_ascend, timely, readers_are_live, own_take_hold}
use Rattle.sound.proofs.OrderLaws.{InOrder}
use Rattle.demands.proofs.ByEvents.{orderly, sound}
use Rattle.demands.proofs.SaidProof.{step-said}
use Rattle.demands.proofs.AnswersProof.{nothing_left, in_time, answers_to_cons}
use Rattle.demands.proofs.BoundsRange.{range_demand}
use Rattle.demands.proofs.BookProof.{book_demand}
use Rattle.demands.proofs.ToldProof.{told_demand}
use Rattle.demands.proofs.RegistryProof.{registry_demand}
use Rattle.demands.proofs.SerialRunProof.{serializes}

-- the records of a step fit its area
records-room : (m : Model) (bs : List ℕ) (area : ℕ) → Sound m → Bounded m
    → 28 * length (step m bs area).records ≤ area
records-room m bs area s b = go (bool_cases (ltb area 700))
  where
    go : (ltb area 700 ≡ true) ⊎ (ltb area 700 ≡ false) → 28 * length (step m bs area).records ≤ area
    go (inl t) =
        let none = no_record m bs area ((one_is m bs area).1 (ltb-true area 700 t)) in
        omega (arith, ap (λ (rs : List Record). length rs) none)
    go (inr t) =
        let l = ltb-false area 700 t in
        omega (arith, (step_fits m bs area s b).1)

-- what holds of the frames of a log holds of the frames handed in
frames_in : (m : Model) (is : List Input) (P : List ℕ → Type 0)
    → ((l : Logged) → Memᴰ l (runs m is).log → P l.frame)
    → (i : Input) → Memᴰ i is → P i.frame
unfolding runs
frames_in m [] P h i j = absurd (Memᴰ.not-nil j)
frames_in m (k ∷ is) P h i j =
    ⊎_elim (λ e. subst⁻¹ (λ (x : Input). P x.frame) e (h _ (Memᴰ.head refl)))
    (λ l. frames_in (step m k.frame k.area).model is P (λ x y. h x (Memᴰ.tail y)) i l)
    (Memᴰ.cases_cons j)

-- Of any space whose steps the rules give.
module _ (S : Machine) (f : Follows S) where
  -- what holds of every run's model holds of every state that frames made
  of_made : (P : Model → Type 0) → ((is : List Input) → P (made is)) → {log : List Logged} {t : S.State} → Made S log t
      → P (S.view t)
  of_made P h r = let q = run_of S f r in subst⁻¹ P q.model (h (inputs_of r))

  -- and so with its log
  pub of_log : (P : List Logged → Model → Type 0) → ((is : List Input) → P (runs empty is).log (made is))
      → EveryState S (λ log t. P log (S.view t))
  of_log P h log t r =
      let q = run_of S f r in
      let is = inputs_of r in
      subst⁻¹ (λ l. P l (S.view t)) q.log_is (subst⁻¹ (P (runs empty is).log) q.model (h is))

  -- a step from a state that frames made is one that the rules give
  by_rule : {log : List Logged} {t u : S.State} {h : Handed} {a : Answered} → Made S log t → S.Steps t h u a
      → ByRule S t h u a
  by_rule r p = f.steps _ _ _ _ (made-sound S f r) p

  -- what the rules give; what holds of its records and its model holds of what is answered
  abbrev given : {t u : S.State} {h : Handed} {a : Answered} → ByRule S t h u a → Outcome
  given {t} {u} {h} q = step (S.view t) h.frame (length h.area)

  of_step : (P : S.State → Handed → List Record → Model → Type 0)
      → ((log : List Logged) (t u : S.State) (h : Handed) (a : Answered) → Made S log t → (q : ByRule S t h u a)
      → P t h (given q).records (given q).model)
      → EveryStep S (λ t h u a. P t h a.records (S.view u))
  of_step P x log t u h a r p =
      let q = by_rule r p in
      subst⁻¹ (λ rs. P t h rs (S.view u)) q.records
      (subst⁻¹ (P t h (given q).records) q.space (x log t u h a r q))

  judged : EveryStep S (Judged S)
  judged log t u h a r p =
      let q = by_rule r p in
      let m = S.view t in
      let n = length h.area in
      let number : a.number ≡ refusal m h.frame n = q.number ∙ number_is m h.frame n in
      let fits = records-room m h.frame n (made-sound S f r) (of_made Bounded bounded r) in
      let room : 28 * length a.records ≤ n = subst⁻¹ (λ (rs : List Record). 28 * length rs ≤ n) q.records fits in
      record {
        first_row = number;
        unchanged = q.unchanged;
        one_record = λ x y.
            q.records
            ∙ refused_record m h.frame n (λ e. x (number ∙ e)) (λ e. y (number ∙ e))
            ∙ ap (λ k. refused h.frame k ∷ []) (sym number);
        no_record = λ e. q.records ∙ no_record m h.frame n (sym number ∙ e);
        too_short = ((λ e. (one_is m h.frame n).0 (sym number ∙ e)), (λ l. number ∙ (one_is m h.frame n).1 l));
        same_length = ap length q.bytes ∙ area-length a.records h.area room;
        written = ap (take (28 * length a.records)) q.bytes ∙ area-front a.records h.area;
        kept = ap (drop (28 * length a.records)) q.bytes ∙ area_rest a.records h.area;
      }

  -- a space that begins, and answers every frame
  pub follows_1 : (s : S.State) × S.Empty s
      → EveryState S (λ log t. (h : Handed) → (u : S.State) × (a : Answered) × S.Steps t h u a)
      → Demand1 S
  follows_1 begins answers = record { begins = begins; answers = answers; judged = judged }

  pub follows_2 : Demand2 S
  follows_2 =
      record {
        said = of_step (λ t h rs m. CarriedOut S t h → Said (frame_in h) (S.view t) rs)
            (λ log t u h a r q. step-said (S.view t) h.frame (length h.area) (of_made InOrder orderly r));
        counted = λ log t u h a r p. (by_rule r p).count;
        booked = of_log (λ l m. Booked (book_of l) m) book_demand;
        told = of_log (λ l m. Explained (serial_run l) m) told_demand;
        registered = of_log (λ l m. RegisteredIn (registry_of l) m) registry_demand;
      }

  pub follows_3 : Demand3 S
  unfolding Demand3
  follows_3 = of_log (λ l m. Serial (serial_run l) m) serializes

  -- a look-up, its step, and the history after it are one run
  closed_in_time : (log : List Logged) (t u : S.State) (h : Handed) (a : Answered) → Made S log t → S.Steps t h u a
      → (later : List Logged) (v : S.State) → History S u later v
      → CarriedOut S t h
      → is_look_up (frame_in h).op ≡ true
      → ((frame_in h).lease_or_timeout ≡ forever → ⊥)
      → (frame_in h).lease_or_timeout ≤ length (filterb is_ticked (a.records ++ records_of later))
      → anyb (closes (frame_in h).party (frame_in h).txn) (a.records ++ records_of later) ≡ true
  unfolding answers_to
  closed_in_time log t u h a r p later v rest n l d =
      let q = by_rule r p in
      let is = run_of S f r in
      let m = made (inputs_of r) in
      let i = input_of h in
      let rest_in = map input_of (handed_of rest) in
      let o : Model → Outcome = λ k. step k h.frame (length h.area) in
      let next = q.space ∙ ap (λ k. (o k).model) is.model in
      let sound = subst Sound is.model (made-sound S f r) in
      let js = run_to S f (o m).model next (sound-step m h.frame (length h.area) sound) rest in
      let same : answers_to m (i ∷ rest_in) ≡ a.records ++ records_of later =
      answers_to_cons m i rest_in
      ∙ ap₂ (λ (x y : List Record). x ++ y) (sym (q.records ∙ ap (λ k. (o k).records) is.model))
      (ap records_of (sym js.log_is)) in
      subst
      (λ (rs : List Record). (frame_in h).lease_or_timeout ≤ length (filterb is_ticked rs)
      → anyb (closes (frame_in h).party (frame_in h).txn) rs ≡ true)
      same
      (in_time (inputs_of r) i rest_in (subst (λ k. refusal k h.frame (length h.area) ≡ 0) is.model n) l d)

  pub follow_on : Consequences S
  follow_on =
      record {
        found_exactly = of_step
            (λ t h rs m. CarriedOut S t h → is_look_up (frame_in h).op ≡ true
            → AnsweredNow (S.view t) (look_up_of (S.view t) (frame_in h)) (frame_in h).lease_or_timeout rs m)
            (λ log t u h a r q. answered_now (S.view t) h.frame (length h.area) (of_made InOrder orderly r));
        nothing_only = of_step (λ t h rs m. CarriedOut S t h → NothingLeft (asked (S.view t) (frame_in h)) rs m)
            (λ log t u h a r q. nothing_left (S.view t) (of_made Sound sound r) h.frame
            (length h.area));
        in_time = closed_in_time;
        settled = λ log t r.
            let s = of_made Sound sound r in
            record { none_available = s.none_for; not_reached = s.ahead; not_in_vain = s.hopeful };
        one_each = λ log t r. (of_made Sound sound r).consistent.each;
        few = of_step (λ t h rs m. length rs ≤ 25)
            (λ log t u h a r q. (step_fits (S.view t) h.frame (length h.area) (made-sound S f r)
            (of_made Bounded bounded r)).1);
      }

  pub follows-bounds : Bounds S
  unfolding answers_to
  follows-bounds =
      record {
        capacities = λ log t r. of_made Bounded bounded r;
        by_number = λ log t r. of_made ByNumber numbers_ascend r;
        timely = λ log t r. of_made Timely timely r;
        read_by_live = λ log t r. of_made ReadByLive readers_are_live r;
        own_take_hold = λ log t r. of_made OwnTakeHold own_take_hold r;
        in_range = λ log t r h.
            let q = run_of S f r in
            let bytes = subst (λ (l : List Logged). (x : Logged) → Memᴰ x l → AreBytes x.frame) q.log_is h in
            subst⁻¹ (λ l. AllInRange (records_of l)) q.log_is
            (range_demand (inputs_of r) (frames_in empty (inputs_of r) AreBytes bytes));
      }
