-- A party waits once: while it waits in the space it begins no other wait, and it waits until a record closes its wait.
use Rattle.std.proofs.Common.{◌≡◌, ℕ, ◌+◌, ◌≤◌, Bool, true, false, cond, not, ◌&&◌, ◌||◌, eqb, ◌⊎◌, List, [], ◌∷◌, map}
use Rattle.std.proofs.Common.{sym, refl, ap, ◌∙◌, inl, inr, ⊎_elim, true≢false, arith, eqb-true, Option, Some, None}
use mathlib.Core.List.{Memᴰ}
use Rattle.rules.specs.declared.LookUp.{LookUp}
use Rattle.rules.specs.declared.Record.{Record}
use Rattle.rules.specs.Lists.{anyb}
use Rattle.rules.specs.Numbers.{step_area, kind_waiting, area_refused}
use Rattle.rules.specs.State.{Model}
use Rattle.rules.specs.Frame.{Frame, decode, is_look_up}
use Rattle.rules.specs.Holds.{some_available}
use Rattle.rules.specs.Records.{found, nothing, refused}
use Rattle.rules.specs.LookUp.{look_up_of, gives_nothing}
use Rattle.rules.specs.Refusals.{refusal}
use Rattle.rules.specs.Step.{Outcome, step, refused_with}
use Rattle.rules.specs.SerialRun.{Logged, was_refused}
use Rattle.rules.specs.Sound.{Consistent, Sound}
use Rattle.rules.proofs.BoolLaws.{bool_cases, cond_cases, and_left, and_right, or_left, or_right}
use Rattle.rules.proofs.LayoutLaws.{look_up-not-abort}
use Rattle.rules.proofs.ListLaws.{any_append}
use Rattle.rules.proofs.RefusalLaws.{clear}
use Rattle.rules.proofs.StepCases.{step_cases}
use Rattle.sound.proofs.Events.{Heard, asking, saying, says, Events, over, then}
use Rattle.sound.proofs.EventsProof.{admitted, step_events}
use Rattle.sound.proofs.ConsistentProof.{consistent_event}
use Rattle.demands.specs.Answers.{AnsweredNow, closes}
use Rattle.demands.proofs.AnswersProof.{shuts, waits-or}
use Rattle.demands.proofs.OldestLaws.{answered_now}
use Rattle.sittings.specs.declared.waits.Wait.{Wait}
use Rattle.sittings.specs.Waits.{ticks, is_of, waits}
use Rattle.sittings.specs.Watch.{begun, wait_after, next_wait, logged}

-- ---- who waits stays, unless a record closes his look-up
stays_events : {f : Frame} {m n : Model} {hs : List Heard} (v : LookUp) → Events f m hs n → Consistent m
    → Memᴰ v m.waits → anyb (shuts v) hs ≡ false → Memᴰ v n.waits
stays_events v over s i e = i
stays_events v (then {hs = hs} {ks} x t) s i e =
    let none = sym (any_append (shuts v) hs ks) ∙ e in
    ⊎_elim (λ j. stays_events v t (consistent_event x s) j (or_right (anyb (shuts v) hs) (anyb (shuts v) ks) none))
    (λ c. absurd (true≢false (sym c ∙ or_left (anyb (shuts v) hs) (anyb (shuts v) ks) none))) (waits-or v x s i)

said-any : (q : Record → Bool) (rs : List Record) → anyb (says q) (map saying rs) ≡ anyb q rs
said-any q [] = refl
said-any q (a ∷ rs) = ap (λ b. q a || b) (said-any q rs)

heard-any : (q : Record → Bool) (b : Bool) (rs : List Record)
    → anyb (says q) (cond b (asking ∷ map saying rs) (map saying rs)) ≡ anyb q rs
heard-any q true rs = said-any q rs
heard-any q false rs = said-any q rs

module _ (m : Model) (bs : List ℕ) (area : ℕ) (s : Sound m) where
  abbrev records : List Record
  records = (step m bs area).records

  abbrev says_waiting : Bool
  says_waiting = anyb (λ (a : Record). eqb a.kind kind_waiting) records

  stays : (v : LookUp) → Memᴰ v m.waits → anyb (closes v.party v.txn.0) records ≡ false
      → Memᴰ v (step m bs area).model.waits
  stays v i e =
      stays_events v (step_events m bs area s) s.consistent i
      (heard-any (closes v.party v.txn.0) (is_look_up (decode bs).op && not (was_refused records)) records ∙ e)

  -- ---- a look-up that is answered waiting is not refused, and waits then
  not-refused : says_waiting ≡ true → refusal m bs area ≡ 0
  unfolding refused_with refused
  not-refused =
      step_cases (λ (o : Outcome). anyb (λ (a : Record). eqb a.kind kind_waiting) o.records ≡ true
      → refusal m bs area ≡ 0) m bs area
      (λ n. cond_cases (λ (rs : List Record). anyb (λ (a : Record). eqb a.kind kind_waiting) rs ≡ true
      → refusal m bs area ≡ 0) (eqb n area_refused) (λ _ e. absurd (true≢false (sym e)))
      (λ _ e. absurd (true≢false (sym e)))) (λ z _. z)

  none-waits : (ws : List LookUp) → anyb (λ (a : Record). eqb a.kind kind_waiting) (map nothing ws) ≡ false
  unfolding nothing
  none-waits [] = refl
  none-waits (w ∷ ws) = none-waits ws

  begins : is_look_up (decode bs).op ≡ true → says_waiting ≡ true
      → Memᴰ (look_up_of m (decode bs)) (step m bs area).model.waits
  unfolding found nothing
  begins t e =
      go (bool_cases (some_available m.txns w m.entries))
      (bool_cases (gives_nothing m w (decode bs).lease_or_timeout))
    where
      w : LookUp
      w = look_up_of m (decode bs)

      a : AnsweredNow m w (decode bs).lease_or_timeout records (step m bs area).model
      a =
          answered_now m bs area (s.consistent.ordered.entries, s.consistent.below) (not-refused e) t

      other : {r : Record} (ws : List LookUp) → records ≡ r ∷ map nothing ws → eqb r.kind kind_waiting ≡ false → ⊥
      other {r} ws q k =
          true≢false (sym e ∙ ap (anyb (λ (x : Record). eqb x.kind kind_waiting)) q
          ∙ ap (λ b. b || anyb (λ (x : Record). eqb x.kind kind_waiting) (map nothing ws)) k ∙ none-waits ws)

      go : (some_available m.txns w m.entries ≡ true) ⊎ (some_available m.txns w m.entries ≡ false)
          → (gives_nothing m w (decode bs).lease_or_timeout ≡ true)
          ⊎ (gives_nothing m w (decode bs).lease_or_timeout ≡ false)
          → Memᴰ w (step m bs area).model.waits
      go (inl x) g = let r = a.found_case x in absurd (other r.2.0 r.2.1 refl)
      go (inr x) (inl g) = let r = a.nothing_case x g in absurd (other r.0 r.1 refl)
      go (inr x) (inr g) = (a.waiting_case x g).1

  -- who waits asks for nothing else
  waits-once : is_look_up (decode bs).op ≡ true → says_waiting ≡ true → (v : LookUp) → Memᴰ v m.waits
      → v.party ≡ (decode bs).party → ⊥
  waits-once t e v i q =
      (admitted m bs area (clear m bs area (not-refused e)) s.lasting).free (look_up-not-abort (decode bs).op t) v i q

-- ---- a party's wait, as it stands in the space
pub record Party (p : ℕ) (m : Model) (clock : ℕ) (w : Option Wait) : Type 0 where
  pub among : (u : Wait) → w ≡ Some u → (v : LookUp) × Memᴰ v m.waits × (v.party ≡ p) × (v.txn.0 ≡ u.txn.0)
  pub sooner : (u : Wait) → w ≡ Some u → u.since ≤ clock

pub party-none : (p : ℕ) (m : Model) (clock : ℕ) → Party p m clock None
party-none p m clock = record { among = λ u e. cc; sooner = λ u e. cc }

since_in : Option Wait → ℕ
since_in None = 0
since_in (Some w) = w.since

txn_in : Option Wait → ℕ
txn_in None = 0
txn_in (Some w) = w.txn.0

module _ {p clock : ℕ} {w : Option Wait} (m : Model) (bs : List ℕ) (s : Sound m) (h : Party p m clock w) where
  abbrev l : Logged
  l = logged bs (step m bs step_area).records

  abbrev after : ℕ
  after = clock + ticks l

  pub party-once : (u : Wait) → w ≡ Some u → (is_of p l && waits l) ≡ false
  unfolding waits
  party-once u e =
      ⊎_elim (λ t. absurd (one t)) (λ t. t) (bool_cases (is_of p l && waits l))
    where
      one : (is_of p l && waits l) ≡ true → ⊥
      one t =
          let look = and_right (is_of p l) (waits l) t in
          let v = h.among u e in
          waits-once m bs step_area s (and_left (is_look_up (decode bs).op) _ look)
          (and_right (is_look_up (decode bs).op) _ look) v.0 v.1
          (v.2 ∙ sym (eqb-true (decode bs).party p (and_left (is_of p l) (waits l) t)))

  pub party-next : Party p (step m bs step_area).model after (next_wait p after w l)
  unfolding waits look_up_of since_in txn_in
  party-next =
      cond_cases (Party p (step m bs step_area).model after) (is_of p l && waits l) opened (λ _. lasts w h)
    where
      opened : (is_of p l && waits l) ≡ true → Party p (step m bs step_area).model after (begun after l)
      opened t =
          let look = and_right (is_of p l) (waits l) t in
          record {
            among = λ u e. (
              look_up_of m (decode bs),
              begins m bs step_area s (and_left (is_look_up (decode bs).op) _ look)
                  (and_right (is_look_up (decode bs).op) _ look),
              eqb-true (decode bs).party p (and_left (is_of p l) (waits l) t),
              ap txn_in e,
            );
            sooner = λ u e. omega (arith, ap since_in e);
          }

      lasts : (w : Option Wait) → Party p m clock w
          → Party p (step m bs step_area).model after (wait_after p w l.records)
      lasts None h = party-none p (step m bs step_area).model after
      lasts (Some u) h =
          cond_cases (Party p (step m bs step_area).model after) (anyb (closes p u.txn.0) l.records)
          (λ _. party-none p (step m bs step_area).model after)
          (λ t. record {
            among = λ k e. let v = h.among u refl in (
              v.0,
              stays m bs step_area s v.0 v.1 (ap (λ i. anyb (closes i v.0.txn.0) l.records) v.2
                  ∙ ap (λ i. anyb (closes p i) l.records) v.3
                  ∙ t),
              v.2,
              v.3 ∙ ap txn_in e,
            );
            sooner = λ k e. let j = h.sooner u refl in omega (arith, ap since_in e);
          })
