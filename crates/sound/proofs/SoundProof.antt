-- Between frames no entry is past its lease, every deadline lies ahead, no waiting look-up has an available entry, and
-- each of an IfExists kind has a conflicting one.
use Prim.Native.Nat.{ℕ}
use mathlib.Core.Bool.{true, false, cond, not, ◌&&◌, true≢false}
use mathlib.Core.Logic.{◌⊎◌, inl, inr, ⊎_elim}
use mathlib.Core.Path.{◌≡◌, refl, sym, ap, ◌∙◌, subst⁻¹}
use mathlib.Core.Option.{some}
use mathlib.Core.List.{List, [], ◌∷◌, ◌++◌, Memᴰ}
use native.Mathlib.Omega.{arith}
use borrow.Author.Tests.{eqb-false, ne_eqb, not-true}
use lib.Dec.{eqb}
use Rattle.rules.specs.declared.Entry.{Entry}
use Rattle.rules.specs.declared.Record.{Record}
use Rattle.rules.specs.declared.Txn.{Txn}
use Rattle.rules.specs.declared.LookUp.{LookUp}
use Rattle.rules.specs.Time.{reached}
use Rattle.rules.specs.State.{Model, empty}
use Rattle.rules.specs.Template.{matches}
use Rattle.rules.specs.Holds.{live_txn, drop_reader_of, read_by_other, visible, available, some_available}
use Rattle.rules.specs.Holds.{some_conflicts}
use Rattle.rules.specs.Frame.{Frame, decode, is_look_up, is_tick, serves}
use Rattle.rules.specs.Write.{new_entry, stored}
use Rattle.rules.specs.LookUp.{look_up_of}
use Rattle.rules.specs.Renew.{renew_entries, renew}
use Rattle.rules.specs.Notify.{notify, heard_of}
use Rattle.rules.specs.Transactions.{create}
use Rattle.rules.specs.Closing.{is_over, close_waits}
use Rattle.rules.specs.Step.{step}
use Rattle.rules.specs.Lists.{All}
use Rattle.rules.specs.Sound.{NoneFor, Ahead, Hopeful, Lasting, Sound, Consistent}
use Rattle.rules.proofs.BoolLaws.{bool_cases}
use Rattle.rules.proofs.ListLaws.{none_mem, all_false}
use Rattle.rules.proofs.LayoutLaws.{write-names, write-not-abort, write-serves, commit-serves, abort-serves}
use Rattle.rules.proofs.LayoutLaws.{tick-serves}
use Rattle.rules.proofs.TimeLaws.{until_later}
use Rattle.sound.proofs.AllLaws.{all_none, all_snoc, all_filter, out_all}
use Rattle.sound.proofs.HoldLaws.{eqb_cases, not_so, available_free}
use Rattle.sound.proofs.Unavailable.{hand_out_unavailable}
use Rattle.sound.proofs.Events.{Heard, Event, refuses, asks, writes, is_found, is_nothing, is_waiting, creates}
use Rattle.sound.proofs.Events.{commits, aborts, renews, notifies, ticks, excepts, expires, rings, Events, over}
use Rattle.sound.proofs.Events.{then}
use Rattle.sound.proofs.Becomes.{new_txn, renewed-all, kept-all, clock_moves}
use Rattle.sound.proofs.EventsProof.{not-over, in_hope, Carries, StepIs, is_carried, is_refused, step_is}
use Rattle.sound.proofs.Consistent.{ok-below, not_inside}
use Rattle.sound.proofs.ConsistentProof.{consistent_event, consistent_events, consistent-empty}

-- in the midst of a frame's step: so but for its own look-up, and for what a tick or service mends
abbrev Own : Frame → LookUp → Type 0
Own f w = (is_look_up f.op ≡ true) × (w.party ≡ f.party)

abbrev NoneElse : Frame → Model → Type 0
NoneElse f m = All (λ w. Own f w ⊎ (some_available m.txns w m.entries ≡ false)) m.waits

record Steady (f : Frame) (m : Model) : Type 0 where
  lasting : (is_tick f.op ≡ true) ⊎ Lasting m
  none_for : (serves f ≡ true) ⊎ NoneElse f m

-- a transaction made later changes nothing for a look-up
pub find_snoc : (t : ℕ) (ts : List Txn) (x : Txn) → (x.id.0 ≡ t → ⊥) → live_txn t (ts ++ (x ∷ [])) ≡ live_txn t ts
unfolding live_txn
find_snoc t [] x d = rw (ne_eqb x.id.0 t d)
find_snoc t (y ∷ ts) x d = ap (λ r. cond (eqb y.id.0 t) (some y) r) (find_snoc t ts x d)

pub available-same : (ts us : List Txn) (w : LookUp) → live_txn w.txn.0 ts ≡ live_txn w.txn.0 us → (e : Entry)
    → available ts w e ≡ available us w e
unfolding available read_by_other
available-same ts us w p e =
    ap (λ o. matches w.mask w.fields e.fields && visible w.txn.0 e && not
    (w.takes && not (eqb (drop_reader_of o e.readers) 0))) p

-- so does another end of an entry
renewed-none : (f : Frame) (m : Model) (w : LookUp) → some_available m.txns w m.entries ≡ false
    → some_available m.txns w (renew_entries m f) ≡ false
unfolding available read_by_other visible
renewed-none f m w n =
    let none : All (λ e. available m.txns w e ≡ false) m.entries = λ e i. none_mem (available m.txns w) n i in
    all_false (available m.txns w) (renew_entries m f)
    (renewed-all (λ e. available m.txns w e ≡ false) f m (λ e i _. none e i) (λ _ e i _. none e i))

-- where service does not follow
none_event : {f : Frame} {m n : Model} {hs : List Heard} → serves f ≡ false → Event f m hs n → Consistent m
    → NoneElse f m
    → NoneElse f n
unfolding stored heard_of new_entry look_up_of create renew notify
none_event z (refuses m bs area q) s h = h
none_event z (asks m t a) s h = all_snoc m.waits h (inl (t, refl))
none_event {f} z (writes m t a) s h =
    λ w i. ⊎_elim inl
    (λ n. inr (eqb_cases (λ (l : List Entry). some_available m.txns w l ≡ false) f.lease_or_timeout 0 (λ _. n)
    (λ _. all_false (available m.txns w) (m.entries ++ (new_entry m f ∷ []))
    (all_snoc m.entries (λ e j. none_mem (available m.txns w) n j) (not_so _ (λ u. hidden w i u)))))) (h w i)
  where
    inside : f.txn ≡ 0 → ⊥
    inside = eqb-false f.txn 0 (sym (write-serves f t) ∙ z)

    hidden : (w : LookUp) → Memᴰ w m.waits → available m.txns w (new_entry m f) ≡ true → ⊥
    hidden w i u =
        ⊎_elim inside (λ q. ⊎_elim inside (λ y. not_inside s a (write-not-abort f.op t) y w i (sym q))
        (a.inside (write-names f.op t)))
        (available_free m.txns w (new_entry m f) u).owner
none_event z (is_found m w e ws o i av) s h =
    out_all o (λ v j. ⊎_elim inl (λ n. inr (hand_out_unavailable m.txns v w e av m.entries n)) (h v j))
none_event z (is_nothing m w ws o c) s h = out_all o h
none_event z (is_waiting m w i q n d c) s h = h
none_event {f} z (creates m t a) s h =
    λ w i. ⊎_elim inl (λ n. inr (all_false (available (m.txns ++ (new_txn m f ∷ [])) w) m.entries
    (λ e j. available-same (m.txns ++ (new_txn m f ∷ [])) m.txns w
    (find_snoc w.txn.0 m.txns (new_txn m f)
    (λ (q : m.next_txn ≡ w.txn.0). let b = ok-below s (⊎_elim inl (λ x. inr (x.0, x.1, x.2)) (s.owned w i)) in
    omega arith)) e ∙ none_mem (available m.txns w) n j))) (h w i)
none_event {f} z (commits m t a) s h = absurd (true≢false (sym (commit-serves f t) ∙ z))
none_event {f} z (aborts m t a) s h = absurd (true≢false (sym (abort-serves f t) ∙ z))
none_event {f} z (renews m t a) s h = λ w i. ⊎_elim inl (λ n. inr (renewed-none f m w n)) (h w i)
none_event z (notifies m t a) s h = h
none_event {f} z (ticks m t a) s h = absurd (true≢false (sym (tick-serves f t) ∙ z))
none_event {f} z (excepts m t k i r) s h = absurd (true≢false (sym (tick-serves f k) ∙ z))
none_event {f} z (expires m k) s h = absurd (true≢false (sym (tick-serves f k) ∙ z))
none_event z (rings m c g i l) s h = h

steady_event : {f : Frame} {m n : Model} {hs : List Heard} → Event f m hs n → Consistent m → Steady f m → Steady f n
unfolding new_entry look_up_of
steady_event {f} {m} {n} e s h =
    record {
      lasting = ⊎_elim inl (λ k. ⊎_elim (λ q. inr (lasts q.0 k)) (λ t. inl t.2) (clock_moves e)) h.lasting;
      none_for = ⊎_elim inl (λ k. ⊎_elim inl (λ z. inr (none_event z e s k)) (bool_cases (serves f))) h.none_for;
    }
  where
    lasts : n.clock ≡ m.clock → Lasting m → Lasting n
    lasts q k =
        subst⁻¹ (λ c. All (λ x. reached c x.end ≡ false) n.entries) q
        (kept-all (λ x. reached m.clock x.end ≡ false) e s.ordered
        (λ t a d. until_later m.clock f.lease_or_timeout d)
        (λ t a d _ _. until_later m.clock f.lease_or_timeout d) k)

steady_events : {f : Frame} {m n : Model} {hs : List Heard} → Events f m hs n → Consistent m → Steady f m → Steady f n
steady_events over s h = h
steady_events (then e t) s h = steady_events t (consistent_event e s) (steady_event e s h)

-- and when it is over: who waits on after the closings is not over
module _ {f : Frame} {m n : Model} {rs : List Record} (k : Sound m) (c : Carries f m rs n) where
  abbrev mid : Model
  mid = c.rested.mid

  begins : Steady f m
  begins = record { lasting = inr k.lasting; none_for = inr (λ w i. inr (k.none_for w i)) }

  pub none_mid : NoneFor mid
  none_mid =
      let r = c.rested in
      ⊎_elim r.settled (λ x w i. ⊎_elim (λ o. r.waits_well o.0 w i o.1) (λ y. y) (x w i))
      (steady_events r.until_mid k.consistent begins).none_for

  waits_on : (P : LookUp → Type 0) → ((w : LookUp) → Memᴰ w mid.waits → is_over mid w ≡ false → P w)
      → All P (close_waits mid).model.waits
  unfolding close_waits
  waits_on P h = all_filter (λ w. not (is_over mid w)) mid.waits (λ w i r. h w i (not-true _ r))

  carried-sound : Sound n
  unfolding close_waits
  carried-sound =
      let r = c.rested in
      let q = r.left in
      record {
        consistent = consistent_events c.events k.consistent;
        lasting =
            ⊎_elim r.lasting (λ x. x) (steady_events c.events k.consistent begins).lasting;
        ahead = subst⁻¹ Ahead q (waits_on (λ w. reached mid.clock w.deadline ≡ false)
            (λ w i e. not-over mid w e));
        none_for = subst⁻¹ NoneFor q
            (waits_on (λ w. some_available mid.txns w mid.entries ≡ false) (λ w i e. none_mid w i));
        hopeful = subst⁻¹ Hopeful q
            (waits_on (λ w. w.if_exists ≡ true → some_conflicts mid.txns w mid.entries ≡ true)
            (λ w i e. in_hope mid w e));
      }

pub sound-step : (m : Model) (bs : List ℕ) (area : ℕ) → Sound m → Sound (step m bs area).model
sound-step m bs area k = go (step_is m bs area k)
  where
    go : {rs : List Record} {n : Model} → StepIs (decode bs) m rs n → Sound n
    go (is_refused e q) = subst⁻¹ Sound q k
    go (is_carried a c) = carried-sound k c

pub sound_empty : Sound empty
sound_empty =
    record {
      consistent = consistent-empty;
      ahead = all_none _;
      lasting = all_none _;
      none_for = all_none _;
      hopeful = all_none _;
    }
