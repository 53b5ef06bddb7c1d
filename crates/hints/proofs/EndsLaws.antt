-- What ends after a step ended before, or is new; and who waits waited before, or stands last.
use Prim.Native.Nat.{ℕ}
use mathlib.Core.Bool.{Bool, true, false, cond, ◌||◌, or-true, true≢false}
use mathlib.Core.Logic.{◌⊎◌, inl, inr, ⊎_elim}
use mathlib.Core.Option.{Option, none, some}
use mathlib.Core.Path.{◌≡◌, refl, sym, ap, ◌∙◌, subst⁻¹}
use mathlib.Core.List.Memᴰ
use mathlib.Core.List.{List, [], ◌∷◌, ◌++◌}
use borrow.Author.Tests.{ne_eqb}
use Rattle.rules.specs.declared.Entry.{Entry}
use Rattle.rules.specs.declared.LookUp.{LookUp}
use Rattle.rules.specs.declared.until.Until.{Until}
use Rattle.rules.specs.Lists.{All, filterb}
use Rattle.rules.specs.Time.{until}
use Rattle.rules.specs.State.{Model}
use Rattle.rules.specs.Holds.{oldest}
use Rattle.rules.specs.Frame.{Frame, decode, is_write, is_look_up, is_create, is_renew, is_notify, is_tick}
use Rattle.rules.specs.Done.{Carried, Done}
use Rattle.rules.specs.Notify.{new_registration, hearing}
use Rattle.rules.specs.Write.{new_entry}
use Rattle.rules.specs.LookUp.{look_up_of, gives_nothing, answer, answer_found, answer_nothing, answer_waiting, look_up}
use Rattle.rules.specs.Closing.{close_waits}
use Rattle.rules.specs.Step.{Outcome, step, carried_out, accepted, refused_with}
use Rattle.rules.specs.Refusals.{refusal}
use Rattle.rules.specs.Sound.{Consistent, Sound}
use Rattle.rules.proofs.BoolLaws.{bool_cases, cond_cases}
use Rattle.rules.proofs.LayoutLaws.{write-not-tick, create-not-tick, renew-not-tick, notify-not-tick}
use Rattle.rules.proofs.ListLaws.{mem_filter, filter-append}
use Rattle.sound.proofs.HoldLaws.{equal_or}
use Rattle.sound.proofs.OwnPartLaws.{carried-look_up, step-accepted}
use Rattle.sound.proofs.Events.{Heard, Event, Events, over, then, heard}
use Rattle.sound.proofs.Becomes.{ends_entry, kept-all, waits-all, txns-all, registrations-all, clock_moves}
use Rattle.sound.proofs.ConsistentProof.{consistent_event}
use Rattle.sound.proofs.EventsProof.{step_events}

-- in the midst of a step the clock is c, unless the frame is a tick
module _ (f : Frame) (c : ℕ) where
  abbrev Stands : Model → Type 0
  Stands m = (is_tick f.op ≡ true) ⊎ (m.clock ≡ c)

  stands : {m n : Model} {hs : List Heard} → Event f m hs n → Stands m → Stands n
  stands e h = ⊎_elim inl (λ q. ⊎_elim (λ s. inr (s.0 ∙ q)) (λ t. inl t.2) (clock_moves e)) h

  -- what is new ends by that clock
  at : (m : Model) → is_tick f.op ≡ false → Stands m → m.clock ≡ c
  at m k h = ⊎_elim (λ t. absurd (true≢false (sym t ∙ k))) (λ q. q) h

  module _ (P : Until → Type 0) where
    entries_events : {m n : Model} {hs : List Heard} → Events f m hs n → Consistent m → Stands m
        → (ends_entry f.op ≡ true → (f.lease_or_timeout ≡ 0 → ⊥) → P (until c f.lease_or_timeout))
        → All (λ e. P e.end) m.entries → All (λ e. P e.end) n.entries
    unfolding new_entry
    entries_events over s k new h = h
    entries_events {m} (then e t) s k new h =
        entries_events t (consistent_event e s) (stands e k) new
        (kept-all (λ x. P x.end) e s.ordered
        (λ w a d. subst⁻¹ (λ b. P (until b f.lease_or_timeout)) (at m (write-not-tick f.op w) k)
        (new (ap (λ b. b || is_renew f.op) w) d))
        (λ w a d _ _. subst⁻¹ (λ b. P (until b f.lease_or_timeout)) (at m (renew-not-tick f.op w) k)
        (new (ap (λ b. is_write f.op || b) w ∙ or-true (is_write f.op)) d)) h)

    txns_events : {m n : Model} {hs : List Heard} → Events f m hs n → Stands m
        → (is_create f.op ≡ true → P (until c f.lease_or_timeout))
        → All (λ x. P x.end) m.txns → All (λ x. P x.end) n.txns
    txns_events over k new h = h
    txns_events {m} (then e t) k new h =
        txns_events t (stands e k) new
        (txns-all (λ x. P x.end) e
        (λ w a. subst⁻¹ (λ b. P (until b f.lease_or_timeout)) (at m (create-not-tick f.op w) k) (new w)) h)

    registrations_events : {m n : Model} {hs : List Heard} → Events f m hs n → Stands m
        → (is_notify f.op ≡ true → P (until c f.lease_or_timeout))
        → All (λ g. P g.end) m.registrations → All (λ g. P g.end) n.registrations
    unfolding new_registration hearing
    registrations_events over k new h = h
    registrations_events {m} (then e t) k new h =
        registrations_events t (stands e k) new
        (registrations-all (λ g. P g.end) e
        (λ w a. subst⁻¹ (λ b. P (until b f.lease_or_timeout)) (at m (notify-not-tick f.op w) k) (new w))
        (λ es g p. p) h)

-- who waits after a frame that is no look-up waited before
waits_events : {f : Frame} {m n : Model} {hs : List Heard} → is_look_up f.op ≡ false → Events f m hs n
    → (W : LookUp → Type 0) → All W m.waits → All W n.waits
waits_events z over W h = h
waits_events z (then e t) W h = waits_events z t W (waits-all W e (λ l a. absurd (true≢false (sym l ∙ z))) h)

module _ (W : LookUp → Type 0) where
  -- one that arrived is left, and stands last, or is gone
  of_left : (p : LookUp → Bool) (xs : List LookUp) (l : LookUp) → All W xs
      → ((vs : List LookUp) (w : LookUp) → filterb p (xs ++ (l ∷ [])) ≡ vs ++ (w ∷ []) → W w)
      → All W (filterb p (xs ++ (l ∷ [])))
  of_left p xs l h last w i =
      let r = mem_filter p (xs ++ (l ∷ [])) i in
      ⊎_elim (h w) (λ j. let q = Memᴰ.eq_of_singleton j in
      last (filterb p xs) w (filter-append p xs (l ∷ []) ∙ ap (λ ys. filterb p xs ++ ys)
      (ap (λ b. cond b (l ∷ []) []) (sym (ap p q) ∙ r.1) ∙ ap (λ y. y ∷ []) (sym q))))
      (Memᴰ.append_cases xs r.0)

  after-look_up : (m : Model) (f : Frame) (o : Option Entry) → All W m.waits
      → let c = (answer m (look_up_of m f) f.lease_or_timeout o).model in
      ((vs : List LookUp) (w : LookUp) → (close_waits c).model.waits ≡ vs ++ (w ∷ []) → W w)
      → All W (close_waits c).model.waits
  unfolding answer answer_found answer_nothing answer_waiting close_waits
  after-look_up m f (some x) h = λ last w i. h w (mem_filter _ m.waits i).0
  after-look_up m f none h =
      cond_cases (λ (c : Carried).
      ((vs : List LookUp) (w : LookUp) → (close_waits c.model).model.waits ≡ vs ++ (w ∷ []) → W w)
      → All W (close_waits c.model).model.waits) (gives_nothing m (look_up_of m f) f.lease_or_timeout)
      (λ _ last w i. h w (mem_filter _ m.waits i).0)
      (λ _ last. of_left _ m.waits (look_up_of m f) h last)

-- ---- and so of whole steps
module _ (m : Model) (bs : List ℕ) (area : ℕ) (s : Sound m) where
  abbrev f : Frame
  f = decode bs

  abbrev n : Model
  n = (step m bs area).model

  events : Events f m (heard f (step m bs area).records) n
  events = step_events m bs area s

  module _ (P : Until → Type 0) where
    pub entries-end : (ends_entry f.op ≡ true → (f.lease_or_timeout ≡ 0 → ⊥)
        → P (until m.clock f.lease_or_timeout))
        → All (λ e. P e.end) m.entries → All (λ e. P e.end) n.entries
    entries-end new h = entries_events f m.clock P events s.consistent (inr refl) new h

    pub txns-end : (is_create f.op ≡ true → P (until m.clock f.lease_or_timeout))
        → All (λ t. P t.end) m.txns → All (λ t. P t.end) n.txns
    txns-end new h = txns_events f m.clock P events (inr refl) new h

    pub registrations-end : (is_notify f.op ≡ true → P (until m.clock f.lease_or_timeout))
        → All (λ g. P g.end) m.registrations → All (λ g. P g.end) n.registrations
    registrations-end new h = registrations_events f m.clock P events (inr refl) new h

  module _ (W : LookUp → Type 0) (h : All W m.waits) where
    abbrev Last : Model → Type 0
    Last o = (vs : List LookUp) (w : LookUp) → o.waits ≡ vs ++ (w ∷ []) → W w

    looked : is_look_up f.op ≡ true → refusal m bs area ≡ 0 → Last n → All W n.waits
    unfolding look_up accepted
    looked l e =
        subst⁻¹ (λ (o : Model). Last o → All W o.waits)
        (ap (λ (x : Outcome). x.model) (step-accepted m bs area e)
        ∙ ap (λ (d : Done). d.model) (carried-look_up m f l))
        (after-look_up W m f (oldest m.txns (look_up_of m f) m.entries) h)

    unasked : (refusal m bs area ≡ 0 → ⊥) → n ≡ m
    unfolding step refused_with
    unasked z =
        ap (λ b. (cond b (accepted (carried_out m f)) (refused_with m bs (refusal m bs area))).model)
        (ne_eqb (refusal m bs area) 0 z)

    pub waits-last : (is_look_up f.op ≡ true → Last n) → All W n.waits
    waits-last last =
        ⊎_elim (λ l. ⊎_elim (λ e. looked l e (last l)) (λ z. subst⁻¹ (λ (o : Model). All W o.waits) (unasked z) h)
        (equal_or (refusal m bs area) 0)) (λ z. waits_events z events W h) (bool_cases (is_look_up f.op))
