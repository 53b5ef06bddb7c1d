-- Every step of the rules is a sequence of events; and what holds when it is over.
use Prim.Native.Nat.{ℕ, ◌+◌, ◌<◌}
use mathlib.Core.Bool.{Bool, true, false, cond, not, ◌&&◌, ◌||◌, or-true, and-false, true≢false}
use mathlib.Core.Logic.{◌⊎◌, inl, inr, ⊎_elim}
use mathlib.Core.Path.{◌≡◌, refl, sym, ap, ◌∙◌, subst, subst⁻¹}
use mathlib.Core.Option.{Option, none, some}
use mathlib.Core.List.Memᴰ
use mathlib.Core.List.{List, [], ◌∷◌, ◌++◌, map, map-append, append-nil, Memᴰ}
use native.Mathlib.Omega.{arith}
use borrow.Author.Tests.{eqb-true, eqb-false, ne_eqb, leb-false, ltb-false, not-true, not-false}
use lib.Dec.{eqb, leb, ltb}
use lib.ListN.{length}
use Rattle.rules.specs.declared.Entry.{Entry}
use Rattle.rules.specs.declared.Record.{Record}
use Rattle.rules.specs.declared.Txn.{Txn}
use Rattle.rules.specs.declared.LookUp.{LookUp}
use Rattle.rules.specs.declared.Registration.{Registration}
use Rattle.rules.specs.Numbers.{forever, last_clock, max_txns, max_registrations, area_refused, kind_refused}
use Rattle.rules.specs.Numbers.{kind_found}
use Rattle.rules.specs.Numbers.{kind_nothing}
use Rattle.rules.specs.Lists.{filterb, All}
use Rattle.rules.specs.Time.{until, reached, EndFits}
use Rattle.rules.specs.State.{Model, with_entries, with_waits}
use Rattle.rules.specs.Holds.{live_txn, available, oldest, some_available, some_conflicts}
use Rattle.rules.specs.Frame.{Frame, decode, is_write, is_look_up, is_create, is_commit, is_tick, has_lease_or_timeout}
use Rattle.rules.specs.Frame.{is_operation, is_renew, is_notify, names_entry, entry_named, serves}
use Rattle.rules.specs.Records.{written, found, nothing, waiting, created, committed, aborted, exception, ticked}
use Rattle.rules.specs.Records.{renewed, notified, rung, refused}
use Rattle.rules.specs.Done.{Carried, Done, quiet}
use Rattle.rules.specs.Write.{stored, write}
use Rattle.rules.specs.LookUp.{removes, is_entry, marked, look_up_of, hand_out, gives_nothing, answer, answer_found}
use Rattle.rules.specs.LookUp.{answer_nothing, answer_waiting, look_up, asked}
use Rattle.rules.specs.Transactions.{create, without_txn, commit, abort}
use Rattle.rules.specs.Service.{serve, service}
use Rattle.rules.specs.Tick.{tick, unregistered, ended_txns, abort_all, drop_ended, lapsed}
use Rattle.rules.specs.Closing.{is_over, close_waits}
use Rattle.rules.specs.Renew.{has_number, stored_entry, renew}
use Rattle.rules.specs.Refusals.{is_by, not_writer, is_free, not_free, is_of, in_txn, not_own, too_late, txns_full}
use Rattle.rules.specs.Refusals.{registrations_full, no_number, refusal}
use Rattle.rules.specs.Notify.{notify, made_public, matching, hearing, heard_of, ringing}
use Rattle.rules.specs.Step.{Outcome, write_frame, commit_frame, abort_frame, finish, carried_out, step, accepted}
use Rattle.rules.specs.Step.{refused_with}
use Rattle.rules.specs.SerialRun.{was_refused}
use Rattle.rules.specs.Sound.{Ascending, Lasting, NoneFor, LiveOf, Ordered, Sound}
use Rattle.rules.proofs.BoolLaws.{cond_cases, bool_cases, and_left, and_right, or_left, or_right, or_cases}
use Rattle.rules.proofs.BoolLaws.{and_false_right}
use Rattle.rules.proofs.ListLaws.{filter_mem, none_any, find_some}
use Rattle.rules.proofs.LayoutLaws.{write-not-tick, look_up-not-tick, create-not-tick, commit-not-tick, abort-not-tick}
use Rattle.rules.proofs.LayoutLaws.{renew-not-tick, notify-not-tick, renew-names, look_up-not-abort, tick-serves}
use Rattle.rules.proofs.LayoutLaws.{look_up-serves, finish-quiet}
use Rattle.rules.proofs.NotifyLaws.{none-rung, look_up_silent, finish-registrations}
use Rattle.rules.proofs.StepCases.{own_cases, serve_ind}
use Rattle.rules.proofs.SoundLaws.{is_party}
use Rattle.rules.proofs.RefusalLaws.{Clear, clear, is_one, none-waits}
use Rattle.rules.proofs.TimeLaws.{until_later, until_now}
use Rattle.sound.proofs.AllLaws.{all_none, all_cons, all_append, all_snoc, all_filter, all_map, Out, here, there}
use Rattle.sound.proofs.AllLaws.{out_last}
use Rattle.sound.proofs.HoldLaws.{mark_cases}
use Rattle.sound.proofs.Events.{Renewable, Admitted, Heard, saying, heard, Closes, Event, refuses, asks, writes}
use Rattle.sound.proofs.Events.{is_found, is_nothing, is_waiting, creates, commits, aborts, renews, notifies}
use Rattle.sound.proofs.Events.{ticks, excepts, expires, rings, Events, over, then, join}
use Rattle.sound.proofs.Becomes.{waits-all}
use Rattle.sound.proofs.Unavailable.{serve-settled}
use Rattle.sound.proofs.AscendingLaws.{ascend_filter}

-- what it lets pass, row by row
module _ (f : Frame) (m : Model) where
  own_named : not_own m f ≡ false → in_txn f ≡ true → LiveOf f.txn f.party m.txns
  unfolding not_own live_txn
  own_named e t = go (live_txn f.txn m.txns) refl (not-false _ (and_false_right (in_txn f) _ t e))
    where
      go : (o : Option Txn) → live_txn f.txn m.txns ≡ o → is_of f.party o ≡ true
          → LiveOf f.txn f.party m.txns
      go none q r = absurd (true≢false (sym r))
      go (some x) q r =
          let s = find_some (λ (y : Txn). eqb y.id.0 f.txn) m.txns q in
          (x, s.0, eqb-true x.id.0 f.txn s.1, eqb-true x.party f.party r)

  renew_named : not_writer m f ≡ false → not_free m f ≡ false → is_renew f.op ≡ true → Renewable f m
  unfolding not_writer not_free stored_entry
  renew_named e h t =
      go (stored_entry (entry_named f) m.entries) refl
      (not-false _ (and_false_right (names_entry f.op) _ (renew-names f.op t) e))
      (not-false _ (and_false_right (names_entry f.op) _ (renew-names f.op t) h))
    where
      go : (o : Option Entry) → stored_entry (entry_named f) m.entries ≡ o → is_by f.party o ≡ true → is_free o ≡ true
          → Renewable f m
      go none q r s = absurd (true≢false (sym r))
      go (some x) q r s =
          let found = find_some (has_number (entry_named f)) m.entries q in
          let public = eqb x.private_to.0 0 in
          let untaken = eqb x.taken_by.0 0 in
          let outer = and_left (public && untaken) (eqb x.readers 0) s in
          record {
            entry = x;
            stored = found.0;
            number = eqb-true x.id.0 (entry_named f) found.1;
            writer = eqb-true x.writer f.party r;
            committed = eqb-true x.private_to.0 0 (and_left public untaken outer);
            untaken = eqb-true x.taken_by.0 0 (and_right public untaken outer);
            unread = eqb-true x.readers 0 (and_right (public && untaken) (eqb x.readers 0) s);
          }

  until-fits : too_late m f ≡ false → has_lease_or_timeout f.op ≡ true → EndFits (until m.clock f.lease_or_timeout)
  unfolding too_late until
  until-fits h t =
      cond_cases EndFits (eqb f.lease_or_timeout forever) (λ _. tt)
      (λ q. ltb-false last_clock (m.clock + f.lease_or_timeout)
      (and_false_right (has_lease_or_timeout f.op && not (eqb f.lease_or_timeout forever)) _ (rw (t, q))
      (or_left _ (is_tick f.op && leb last_clock m.clock) h)))

  clock-fits : too_late m f ≡ false → is_tick f.op ≡ true → m.clock < last_clock
  unfolding too_late
  clock-fits h t =
      leb-false last_clock m.clock (and_false_right (is_tick f.op) _ t
      (or_right (has_lease_or_timeout f.op && not (eqb f.lease_or_timeout forever) && ltb last_clock
      (m.clock + f.lease_or_timeout)) _ h))

pub admitted : (m : Model) (bs : List ℕ) (area : ℕ) → Clear m bs area → Lasting m → Admitted (decode bs) m
unfolding txns_full registrations_full no_number
admitted m bs area c lasts =
    let f = decode bs in
    let notified = is_notify f.op && leb forever m.next_registration in
    let numbered = is_write f.op && leb forever m.next_entry || is_create f.op && leb forever m.next_txn in
    record {
      formed = c.form;
      lasting = lasts;
      renewable = renew_named f m c.writer c.unheld;
      inside = λ z.
          ⊎_elim (λ t. inl (eqb-true f.txn 0 t)) (λ (t : eqb f.txn 0 ≡ false). inr
          (own_named f m c.own (rw (z, t))))
          (bool_cases (eqb f.txn 0));
      ends = λ t. own_named f m c.own (rw (t, or-true));
      free = λ t w i. none-waits m f t c.free i;
      party = λ t. is_party f t c.party;
      in_time = until-fits f m c.time;
      ticks_on = clock-fits f m c.time;
      slot-left = λ t. leb-false max_txns (length m.txns) (and_false_right (is_create f.op) _ t c.txn-room);
      entry-number = λ t.
          leb-false forever m.next_entry (and_false_right (is_write f.op) _ t
          (or_left _ (is_create f.op && leb forever m.next_txn) (or_left _ notified c.numbers)));
      txn-number = λ t.
          leb-false forever m.next_txn (and_false_right (is_create f.op) _ t
          (or_right (is_write f.op && leb forever m.next_entry) _ (or_left _ notified c.numbers)));
      registration_left = λ t.
          leb-false max_registrations (length m.registrations)
          (and_false_right (is_notify f.op) _ t c.registration_room);
      registration_number = λ t.
          leb-false forever m.next_registration (and_false_right (is_notify f.op) _ t
          (or_right numbered notified c.numbers));
    }

-- a look_up_lem that is over is given nothing with reason; one that is not has its deadline ahead, and an IfExists kind
-- a
-- conflicting entry
pub over_is : (m : Model) (w : LookUp) → is_over m w ≡ true → Closes m w
unfolding is_over
over_is m w e =
    ⊎_elim inl (λ z. inr (
      and_left _ (not (some_conflicts m.txns w m.entries)) z,
      not-true _
          (and_right w.if_exists _ z),
    ))
    (or_cases (reached m.clock w.deadline) _ e)

module _ (m : Model) (w : LookUp) (e : is_over m w ≡ false) where
  pub not-over : reached m.clock w.deadline ≡ false
  unfolding is_over
  not-over = or_left (reached m.clock w.deadline) _ e

  pub in_hope : w.if_exists ≡ true → some_conflicts m.txns w m.entries ≡ true
  unfolding is_over
  in_hope t = not-false _ (and_false_right w.if_exists _ t (or_right (reached m.clock w.deadline) _ e))

-- parts of a step that ask for nothing
abbrev Part : Frame → Model → Done → Type 0
Part f m d = Events f m (map saying d.records) d.model

-- what is out of a list is out of a list that it lies in
abbrev Lifts : (List LookUp → List LookUp) → Type 0
Lifts pre = (x : LookUp) (ys zs : List LookUp) → Out x ys zs → Out x (pre ys) (pre zs)

module _ (f : Frame) where
  pub service_events : (m : Model) → Part f m (service m)
  unfolding service
  service_events m =
      serve_ind m.txns
      (λ es ws r. (pre : List LookUp → List LookUp) → Lifts pre → Events f (with_entries es (with_waits (pre ws) m))
      (map saying r.records) (with_entries r.entries (with_waits (pre r.waits) m))) (λ es pre l. over)
      (λ es w ws q below pre l. below (λ vs. pre (w ∷ vs)) (λ x ys zs o. l x (w ∷ ys) (w ∷ zs) (there o)))
      (λ es w ws x q below pre l.
      let s = find_some (available m.txns w) es q in
      let o = l w (w ∷ ws) ws (here ws) in
      then (is_found (with_entries es (with_waits (pre (w ∷ ws)) m)) w x (pre ws) o s.0 s.1) (below pre l))
      m.entries m.waits (λ ws. ws) (λ x ys zs o. o)

  -- look-ups that are over
  pub close_events : (m : Model) → Part f m (close_waits m)
  unfolding close_waits
  close_events m = go m.waits (λ ws. ws) (λ x ys zs o. o)
    where
      go : (ws : List LookUp) (pre : List LookUp → List LookUp) → Lifts pre
          → Events f (with_waits (pre ws) m) (map saying (map nothing (filterb (is_over m) ws)))
          (with_waits (pre (filterb (λ w. not (is_over m w)) ws)) m)
      go [] pre l = over
      go (w ∷ ws) pre l = each (is_over m w) refl (go ws)
        where
          each : (b : Bool) → is_over m w ≡ b → ((pre : List LookUp → List LookUp) → Lifts pre
              → Events f (with_waits (pre ws) m) (map saying (map nothing (filterb (is_over m) ws)))
              (with_waits (pre (filterb (λ w. not (is_over m w)) ws)) m)) → Events f (with_waits (pre (w ∷ ws)) m)
              (map saying (map nothing (cond b (w ∷ filterb (is_over m) ws) (filterb (is_over m) ws))))
              (with_waits (pre (cond (not b) (w ∷ filterb (λ w. not (is_over m w)) ws)
              (filterb (λ w. not (is_over m w)) ws))) m)
          each true e below =
              let o = l w (w ∷ ws) ws (here ws) in
              then (is_nothing (with_waits (pre (w ∷ ws)) m) w (pre ws) o (over_is m w e)) (below pre l)
          each false e below = below (λ vs. pre (w ∷ vs)) (λ x ys zs o. l x (w ∷ ys) (w ∷ zs) (there o))

  -- the transactions that end now, by number
  abort_events : is_tick f.op ≡ true → (ts : List Txn) (m : Model) → Ordered ts
      → All (λ t. Memᴰ t m.txns × (reached m.clock t.end ≡ true)) ts
      → Events f m (map saying (map exception ts)) (abort_all ts m)
  unfolding abort_all abort without_txn Ascending
  abort_events tk [] m a h = over
  abort_events tk (t ∷ ts) m a h =
      let first = h t (Memᴰ.head refl) in
      then (excepts m t tk first.0 first.1) (abort_events tk ts (abort t.id.0 m) a.1
      (λ u i. let l = a.0 u.id.0 (Memᴰ.map (λ (t : Txn). t.id.0) i) in
      let r = h u (Memᴰ.tail i) in (
        filter_mem (λ (x : Txn). not (eqb x.id.0 t.id.0)) r.0
            (ap not (ne_eqb u.id.0 t.id.0 (λ q. omega arith))),
        r.1,
      )))

  lapsed_events : is_tick f.op ≡ true → (m : Model) → Ordered m.txns → Part f m (lapsed m)
  unfolding lapsed ended_txns
  lapsed_events tk m a =
      let ended : Txn → Bool = λ t. reached m.clock t.end in
      let gone =
      abort_events tk (filterb ended m.txns) m (ascend_filter (λ (t : Txn). t.id.0) ended m.txns a)
      (all_filter ended m.txns (λ t i e. (i, e))) in
      subst (λ hs. Events f m hs (lapsed m).model) (append-nil (map saying (lapsed m).records))
      (join gone (then (expires _ tk) over))

  -- who has heard of entries, once they are counted
  rung_events : (es : List Entry) (gs : List Registration) (n : Model)
      → All (λ g. Memᴰ (hearing es g) n.registrations) gs → Events f n (map saying (ringing es gs)) n
  unfolding ringing hearing
  rung_events es gs n h = go (filterb hears gs) (all_filter hears gs (λ g i _. h g i))
    where
      hears : Registration → Bool
      hears g = not (eqb (matching es g) 0)

      go : (gs : List Registration) → All (λ g. Memᴰ (hearing es g) n.registrations) gs
          → Events f n (map saying (map (λ g. rung (matching es g) (hearing es g)) gs)) n
      go [] a = over
      go (g ∷ gs) a =
          then (rings n (matching es g) (hearing es g) (a g (Memᴰ.head refl)) (omega arith))
          (go gs (λ x i. a x (Memᴰ.tail i)))

-- service hands out what lasts, and says nothing but found
serve-lasting : (clock : ℕ) (ts : List Txn) (es : List Entry) (ws : List LookUp)
    → All (λ e. reached clock e.end ≡ false) es
    → All (λ e. reached clock e.end ≡ false) (serve ts es ws).entries
unfolding hand_out
serve-lasting clock ts =
    serve_ind ts (λ es ws r. All lasts es → All lasts r.entries) (λ es h. h) (λ es w ws q below. below)
    (λ es w ws e q below h. below
    (cond_cases (All lasts) (removes w e) (λ _. all_filter (λ x. not (is_entry e x)) es (λ x i _. h x i))
    (λ _. all_map lasts (λ x. cond (is_entry e x) (marked ts w x) x) es
    (λ x i. cond_cases lasts (is_entry e x) (λ _. mark_cases ts w x lasts (λ _. h x i) (λ b _ _. h x i))
    (λ _. h x i)))))
  where
    lasts : Entry → Type 0
    lasts e = reached clock e.end ≡ false

serve-founds : (ts : List Txn) (es : List Entry) (ws : List LookUp)
    → All (λ a. a.kind ≡ kind_found) (serve ts es ws).records
unfolding found
serve-founds ts =
    serve_ind ts (λ es ws r. All (λ a. a.kind ≡ kind_found) r.records)
    (λ es. all_none (λ a. a.kind ≡ kind_found)) (λ es w ws q below. below) (λ es w ws x q below. all_cons refl below)

-- a record is the nothing of a look_up_lem that waited on and is over; or that of the frame's own look_up_lem, answered
-- at once
abbrev pub Shut : Model → Record → Type 0
Shut n a = (w : LookUp) × Memᴰ w n.waits × (nothing w ≡ a) × (is_over n w ≡ true)

abbrev pub AtOnce : Frame → Model → Model → Record → Type 0
AtOnce f m n a = (w : LookUp) × Memᴰ w (asked m f).waits × (nothing w ≡ a)
    × (some_available n.txns w n.entries ≡ false) × Closes n w

-- no look_up_lem waits that did not wait before
events_waits : {f : Frame} {m n : Model} {hs : List Heard} → is_look_up f.op ≡ false → Events f m hs n
    → All (λ w. Memᴰ w m.waits) n.waits
events_waits z over w i = i
events_waits {f} {m} z (then e t) w i =
    waits-all (λ v. Memᴰ v m.waits) e (λ u _. absurd (true≢false (sym u ∙ z))) (λ v j. j) w
    (events_waits z t w i)

-- what a frame finishes with
module _ (f : Frame) (m : Model) where
  abbrev ended : Done
  ended = cond (is_tick f.op) (lapsed m) (quiet m)

  abbrev served : Done
  served = cond (serves f) (service ended.model) (quiet ended.model)

  service_settles : serves f ≡ true → NoneFor served.model
  unfolding service
  service_settles t = rw t (serve-settled ended.model.txns ended.model.entries ended.model.waits)

  until-served : (is_tick f.op ≡ true → Ordered m.txns)
      → Events f m (map saying ended.records ++ map saying served.records) served.model
  until-served ordered =
      join (cond_cases (Part f m) (is_tick f.op) (λ t. lapsed_events f t m (ordered t)) (λ _. over))
      (cond_cases (Part f ended.model) (serves f) (λ _. service_events f ended.model) (λ _. over))

  finish_events : (is_tick f.op ≡ true → Ordered m.txns) → Part f m (finish f m)
  unfolding finish
  finish_events ordered =
      rw (map-append, map-append) (join (until-served ordered) (close_events f served.model))

  -- what is given nothing waited on after service, and is over
  finish-closes : All (λ a. a.kind ≡ kind_nothing → Shut served.model a) (finish f m).records
  unfolding finish close_waits lapsed exception service
  finish-closes =
      all_append (ended.records ++ served.records) (all_append ended.records
      (cond_cases (λ (d : Done). All Q d.records) (is_tick f.op)
      (λ _. all_map Q exception (ended_txns m) (λ t i (k : 8 ≡ 3). absurd (omega arith))) (λ _. all_none Q))
      (cond_cases (λ (d : Done). All Q d.records) (serves f)
      (λ _ a i k. absurd (let l = serve-founds ended.model.txns ended.model.entries
      ended.model.waits a i in omega arith)) (λ _. all_none Q)))
      (all_map Q nothing _ (all_filter (is_over served.model) served.model.waits (λ w i r _. (w, i, refl, r))))
    where
      Q : Record → Type 0
      Q a = a.kind ≡ kind_nothing → Shut served.model a

  finish_lasts : is_tick f.op ≡ true → Lasting (finish f m).model
  unfolding finish close_waits service lapsed drop_ended
  finish_lasts t =
      let left = abort_all (ended_txns m) m in
      rw (t, tick-serves f t) (serve-lasting left.clock left.txns _ left.waits
      (all_filter (λ e. not (reached left.clock e.end)) left.entries (λ e i r. not-true _ r)))

-- what holds when a frame is carried out: service is over with the tables `mid`, and then look-ups are closed
pub record Rested (f : Frame) (m : Model) (rs : List Record) (n : Model) : Type 0 where
  pub mid : Model
  pub so_far : List Heard
  pub until_mid : Events f m so_far mid
  pub left : n ≡ (close_waits mid).model
  -- nobody waits then who did not wait before, or whose look_up_lem it is
  pub among : All (λ w. Memᴰ w (asked m f).waits) mid.waits
  -- after service nobody who waits has an available entry, after a tick nothing is past its end
  pub settled : serves f ≡ true → NoneFor mid
  pub lasting : is_tick f.op ≡ true → Lasting n
  -- the frame's look_up_lem, if it waits on, has no available entry
  pub waits_well : is_look_up f.op ≡ true
      → All (λ w. w.party ≡ f.party → some_available mid.txns w mid.entries ≡ false) mid.waits
  -- what is given nothing waited on and is over, or is the frame's own look_up_lem
  pub closed : All (λ a. a.kind ≡ kind_nothing → Shut mid a ⊎ AtOnce f m mid a) rs

pub record Carries (f : Frame) (m : Model) (rs : List Record) (n : Model) : Type 0 where
  pub events : Events f m (heard f rs) n
  pub rested : Rested f m rs n

-- a frame's own part, and what it finishes with
module _ (f : Frame) (m : Model) (a : Admitted f m)
    (ordered : Ordered m.txns) where
  -- those of kind 11, said last
  abbrev last : List Record
  last = ringing (made_public m f) m.registrations

  abbrev Whole : Carried → Type 0
  Whole c = Carries f m (c.own ∷ (finish f c.model).records ++ last) (finish f c.model).model

  -- what is heard of is counted by then
  abbrev Counted : Carried → Type 0
  Counted c = (last ≡ []) ⊎ (c.model.registrations ≡ map (hearing (made_public m f)) m.registrations)

  last_events : (c : Carried) → Counted c → Part f (finish f c.model).model
      (record { model = (finish f c.model).model; records = last })
  last_events c (inl q) = rw q over
  last_events c (inr q) =
      rung_events f (made_public m f) m.registrations (finish f c.model).model
      (λ g i. subst⁻¹ (λ gs. Memᴰ (hearing (made_public m f) g) gs) (finish-registrations f c.model ∙ q)
      (Memᴰ.map (hearing (made_public m f)) i))

  -- none of them is a nothing
  last_other : (P : Record → Type 0) → All (λ a. a.kind ≡ kind_nothing → P a) last
  unfolding ringing rung
  last_other P =
      let es = made_public m f in
      all_map (λ a. a.kind ≡ kind_nothing → P a) (λ g. rung (matching es g) (hearing es g))
      (filterb (λ g. not (eqb (matching es g) 0)) m.registrations) (λ g i (k : 11 ≡ 3). absurd (omega arith))

  plain : (c : Carried) → is_look_up f.op ≡ false → (c.own.kind ≡ kind_nothing → ⊥)
      → (is_tick f.op ≡ true → Ordered c.model.txns) → Counted c → Event f m (saying c.own ∷ []) c.model
      → Whole c
  unfolding asked finish
  plain c z k o counted e =
      let until = then e (until-served f c.model o) in
      let mid' = (served f c.model).model in
      record {
        events = rw (z, map-append) (then e (join (finish_events f c.model o) (last_events c counted)));
        rested = record {
          mid = mid';
          so_far = _;
          until_mid = until;
          left = refl;
          among = rw z (events_waits z until);
          settled = service_settles f c.model;
          lasting = finish_lasts f c.model;
          waits_well = λ t. absurd (true≢false (sym t ∙ z));
          closed = all_cons (λ q. absurd (k q)) (all_append (finish f c.model).records
              (λ b i q. inl (finish-closes f c.model b i q)) (last_other (λ b. Shut mid' b ⊎ AtOnce f m mid' b)));
        };
      }

  -- a look_up_lem arrives, and is answered
  abbrev grown : Model
  grown = with_waits (m.waits ++ (look_up_of m f ∷ [])) m

  answered : (c : Carried) → is_look_up f.op ≡ true → eqb c.own.kind kind_refused ≡ false
      → Event f grown (saying c.own ∷ []) c.model
      → All (λ w. Memᴰ w grown.waits) c.model.waits
      → All (λ w. w.party ≡ f.party → some_available c.model.txns w c.model.entries ≡ false) c.model.waits
      → (c.own.kind ≡ kind_nothing → AtOnce f m c.model c.own) → Whole c
  unfolding was_refused asked close_waits
  answered c t z e inside well shut =
      let k = look_up-not-tick f.op t in
      let n = c.model in
      subst⁻¹ (λ (d : Done). Carries f m (c.own ∷ d.records ++ last) d.model)
      (finish-quiet f n k (look_up-serves f t))
      (rw (look_up_silent m f t, append-nil (map nothing (filterb (is_over n) n.waits))) (record {
        events = rw (t, z) (then (asks m t a) (then e (close_events f n)));
        rested = record {
          mid = n;
          so_far = _;
          until_mid = then (asks m t a) (then e over);
          left = refl;
          among = rw t inside;
          settled = λ q. absurd (true≢false (sym q ∙ look_up-serves f t));
          lasting = λ q. absurd (true≢false (sym q ∙ k));
          waits_well = λ _. well;
          closed = all_cons (λ q. inr (shut q))
              (all_map (λ b. b.kind ≡ kind_nothing → Shut n b ⊎ AtOnce f m n b) nothing _
              (all_filter (is_over n) n.waits (λ w i r _. inl (w, i, refl, r))));
        };
      }))

  look_up_lem : is_look_up f.op ≡ true → (o : Option Entry)
      → oldest m.txns (look_up_of m f) m.entries ≡ o
      → Whole (answer m (look_up_of m f) f.lease_or_timeout o)
  unfolding answer answer_found answer_nothing answer_waiting gives_nothing look_up_of found nothing waiting asked
  look_up_lem t (some x) q =
      let s = find_some (available m.txns (look_up_of m f)) m.entries q in
      answered (answer_found m (look_up_of m f) x) t refl
      (is_found grown (look_up_of m f) x m.waits (out_last m.waits (look_up_of m f)) s.0 s.1)
      (λ v i. Memᴰ.append_left _ i) (λ v i p. absurd (a.free (look_up-not-abort f.op t) v i p))
      (λ (p : 2 ≡ 3). absurd (omega arith))
  look_up_lem t none q =
      cond_cases Whole (gives_nothing m w timeout) (λ g. answered (answer_nothing m w) t refl
      (is_nothing grown w m.waits (out_last m.waits w) (reason g)) (λ v i. Memᴰ.append_left _ i)
      (λ v i p. absurd (a.free (look_up-not-abort f.op t) v i p))
      (λ _. (w, rw t there_last, refl, nobody, reason g)))
      (λ g. let later = until_later m.clock timeout (eqb-false timeout 0 (or_left _ _ g)) in
      answered (answer_waiting m w) t refl (is_waiting grown w there_last refl nobody later
      (λ z. not-false _ (and_false_right w.if_exists _ z (or_right (eqb timeout 0) _ g)))) (λ v i. i)
      (all_snoc m.waits (λ v i p. absurd (a.free (look_up-not-abort f.op t) v i p)) (λ _. nobody))
      (λ (p : 4 ≡ 3). absurd (omega arith)))
    where
      w : LookUp
      w = look_up_of m f

      timeout : ℕ
      timeout = f.lease_or_timeout

      there_last : Memᴰ w (m.waits ++ (w ∷ []))
      there_last = Memᴰ.append_right m.waits (Memᴰ.head refl)

      nobody : some_available m.txns w m.entries ≡ false
      nobody = none_any (available m.txns w) m.entries q

      reason : gives_nothing m w timeout ≡ true → Closes grown w
      reason g =
          ⊎_elim (λ z. inl (rw (eqb-true timeout 0 z) (until_now m.clock)))
          (λ z. inr (
            and_left _ (not (some_conflicts m.txns w m.entries)) z,
            not-true _ (and_right w.if_exists _ z),
          )) (or_cases (eqb timeout 0) _ g)

  -- but for a write or commit nothing is heard of
  silent : (c : Carried) → is_write f.op ≡ false → is_commit f.op ≡ false → Counted c
  silent c w k = inl (none-rung m f w k)

  pub carries : is_operation f.op ≡ true → Carries f m (carried_out m f).records (carried_out m f).model
  unfolding carried_out write_frame write stored heard_of look_up create commit_frame commit abort_frame renew notify
      tick
      unregistered written created committed aborted renewed notified ticked
  carries is =
      let w = look_up_of m f in
      own_cases Whole m f is
      (λ t. plain (write_frame m f) (rw (eqb-true f.op 1 t)) (λ (k : 1 ≡ 3). omega arith)
      (not_now (write-not-tick f.op t)) (inr refl) (writes m t a))
      (λ t. look_up_lem t (oldest m.txns w m.entries) refl)
      (λ t. plain (create m f) (rw (eqb-true f.op 6 t)) (λ (k : 5 ≡ 3). omega arith)
      (not_now (create-not-tick f.op t)) (silent (create m f) (rw (eqb-true f.op 6 t))
      (rw (eqb-true f.op 6 t)))
      (creates m t a))
      (λ t. plain (commit_frame m f) (rw (eqb-true f.op 7 t)) (λ (k : 6 ≡ 3). omega arith)
      (not_now (commit-not-tick f.op t)) (inr refl) (commits m t a))
      (λ t. plain (abort_frame m f) (rw (eqb-true f.op 8 t)) (λ (k : 7 ≡ 3). omega arith)
      (not_now (abort-not-tick f.op t))
      (silent (abort_frame m f) (rw (eqb-true f.op 8 t)) (rw (eqb-true f.op 8 t))) (aborts m t a))
      (λ t. plain (renew m f) (rw (eqb-true f.op 11 t)) (λ (k : 12 ≡ 3). omega arith)
      (not_now (renew-not-tick f.op t))
      (silent (renew m f) (rw (eqb-true f.op 11 t)) (rw (eqb-true f.op 11 t))) (renews m t a))
      (λ t. plain (notify m f) (rw (eqb-true f.op 10 t)) (λ (k : 10 ≡ 3). omega arith)
      (not_now (notify-not-tick f.op t))
      (silent (notify m f) (rw (eqb-true f.op 10 t)) (rw (eqb-true f.op 10 t))) (notifies m t a))
      (λ t. plain (tick m) (rw (eqb-true f.op 9 t)) (λ (k : 9 ≡ 3). omega arith) (λ _. ordered)
      (silent (tick m) (rw (eqb-true f.op 9 t)) (rw (eqb-true f.op 9 t))) (ticks m t a))
    where
      not_now : {P : Type 0} → is_tick f.op ≡ false → is_tick f.op ≡ true → P
      not_now z t = absurd (true≢false (sym t ∙ z))

-- a frame that is not refused
pub step-carries : (m : Model) (bs : List ℕ) (area : ℕ) → Sound m → refusal m bs area ≡ 0
    → Admitted (decode bs) m × Carries (decode bs) m (step m bs area).records (step m bs area).model
unfolding step accepted
step-carries m bs area s e =
    let c = clear m bs area e in
    let a = admitted m bs area c s.lasting in
    rw e (a, carries (decode bs) m a s.consistent.ordered.txns (is_one bs c.operation))

-- every step: one that is carried out, or refused
pub data StepIs (f : Frame) (m : Model) (rs : List Record) (n : Model) : Type 0 where
  is_carried : Admitted f m → Carries f m rs n → StepIs f m rs n
  is_refused : Events f m (heard f rs) n → n ≡ m → StepIs f m rs n

pub step_is : (m : Model) (bs : List ℕ) (area : ℕ) → Sound m
    → StepIs (decode bs) m (step m bs area).records (step m bs area).model
unfolding step accepted refused_with was_refused refused
step_is m bs area s =
    cond_cases (λ (o : Outcome). StepIs f m o.records o.model) (eqb n 0)
    (λ e. let c = clear m bs area (eqb-true n 0 e) in
    let a = admitted m bs area c s.lasting in
    is_carried a (carries f m a s.consistent.ordered.txns (is_one bs c.operation))) (λ _. is_refused
    (cond_cases (λ (rs : List Record). Events f m (heard f rs) m) (eqb n area_refused) (λ _. rw and-false over)
    (λ _. rw and-false (then (refuses m bs area refl) over))) refl)
  where
    f : Frame
    f = decode bs

    n : ℕ
    n = refusal m bs area

pub step_events : (m : Model) (bs : List ℕ) (area : ℕ) → Sound m
    → Events (decode bs) m (heard (decode bs) (step m bs area).records) (step m bs area).model
step_events m bs area s = go (step_is m bs area s)
  where
    go : {n : Model} {rs : List Record} → StepIs (decode bs) m rs n → Events (decode bs) m (heard (decode bs) rs) n
    go (is_carried a c) = c.events
    go (is_refused e q) = e
