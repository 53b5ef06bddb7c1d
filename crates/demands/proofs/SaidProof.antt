-- The rules say what `Said` says, where the entries stand by number; and whatever says so is what the rules give.
use Prim.Native.Nat.{ℕ}
use mathlib.Core.Bool.{Bool, true, false, cond, not, ◌||◌}
use mathlib.Core.Path.{◌≡◌, refl, sym, ap, ap₂, ◌∙◌, subst⁻¹}
use mathlib.Core.Option.{Option, none, some}
use mathlib.Core.List.{List, [], ◌∷◌, ◌++◌, map}
use borrow.Author.Tests.{eqb-true}
use lib.Dec.{eqb}
use Rattle.rules.specs.declared.Entry.{Entry}
use Rattle.rules.specs.declared.Record.{Record}
use Rattle.rules.specs.declared.Txn.{Txn}
use Rattle.rules.specs.declared.LookUp.{LookUp}
use Rattle.rules.specs.declared.Registration.{Registration}
use Rattle.rules.specs.Lists.{filterb, joined}
use Rattle.rules.specs.State.{Model, with_entries}
use Rattle.rules.specs.Holds.{available, oldest, some_available}
use Rattle.rules.specs.Frame.{Frame, decode, is_operation, is_write, is_look_up, is_commit, is_abort, is_tick, serves}
use Rattle.rules.specs.Records.{found, exception, rung}
use Rattle.rules.specs.Done.{Carried, Done, quiet}
use Rattle.rules.specs.Write.{stored, write}
use Rattle.rules.specs.LookUp.{look_up_of, gives_nothing, answer, answer_found, answer_nothing, answer_waiting, look_up}
use Rattle.rules.specs.Transactions.{create, commit, abort}
use Rattle.rules.specs.Service.{Served, serve, service}
use Rattle.rules.specs.Renew.{renew}
use Rattle.rules.specs.Notify.{notify, made_public, matching, hearing, heard_of, ringing}
use Rattle.rules.specs.Tick.{tick, unregistered, ended_txns, abort_all, drop_ended, lapsed as lapsed_part}
use Rattle.rules.specs.Closing.{is_over, close_waits}
use Rattle.rules.specs.Refusals.{refusal}
use Rattle.rules.specs.Step.{step, Outcome, own_part, finish, carried_out, accepted, write_frame, commit_frame}
use Rattle.rules.specs.Step.{abort_frame}
use Rattle.rules.proofs.ListLaws.{none_any, any_none}
use Rattle.rules.proofs.BoolLaws.{cond_cases}
use Rattle.rules.proofs.LayoutLaws.{look_up_cases, write-serves, look_up-serves, create-serves, commit-serves}
use Rattle.rules.proofs.LayoutLaws.{abort-serves, renew-serves, notify-serves, tick-serves}
use Rattle.rules.proofs.StepCases.{own_cases, serve_ind, serve-none, serve_some}
use Rattle.rules.proofs.RefusalLaws.{clear, is_one}
use Rattle.demands.specs.Said.{end_now, entries_left, in_vain, Own, writes, finds, finds_none, waits, creates}
use Rattle.demands.specs.Said.{commits, aborts, renews, notifies, ticks, Serves, gone_through, is_found, waits_on}
use Rattle.demands.specs.Said.{is_served, bell, Service, follows, follows_not, exceptions, lapsed, nothings, Ends}
use Rattle.demands.specs.Said.{in_order, Said, own_first}
use Rattle.sound.proofs.OrderLaws.{Numbered, InOrder, numbered-filter, handed-numbered, freed_numbered, stored-order}
use Rattle.sound.proofs.OrderLaws.{renewed-numbered}
use Rattle.demands.proofs.OldestLaws.{oldest-said, oldest_given}
use Rattle.sound.proofs.OwnPartLaws.{step-accepted, part_at, part_look_up}

-- ---- which frames service follows: the table of operations says what document 01 says

module _ (f : Frame) where
  pub served-at : {n : ℕ} → f.op ≡ n
      → is_served f ≡ cond (is_write n) (eqb f.txn 0) (is_commit n || is_abort n || is_tick n)
  served-at q = ap (λ n. cond (is_write n) (eqb f.txn 0) (is_commit n || is_abort n || is_tick n)) q

  pub look_up-not-served : is_look_up f.op ≡ true → is_served f ≡ false
  look_up-not-served t =
      look_up_cases (λ n. cond (is_write n) (eqb f.txn 0) (is_commit n || is_abort n || is_tick n) ≡ false) f.op t
      refl refl refl refl

own-serves : {f : Frame} {m n : Model} {a : Record} → Own f m a n → serves f ≡ is_served f
own-serves {f} (writes t) = write-serves f t ∙ sym (served-at f (eqb-true f.op 1 t))
own-serves {f} (finds e t o) = look_up-serves f t ∙ sym (look_up-not-served f t)
own-serves {f} (finds_none t u g) = look_up-serves f t ∙ sym (look_up-not-served f t)
own-serves {f} (waits t u g) = look_up-serves f t ∙ sym (look_up-not-served f t)
own-serves {f} (creates t) = create-serves f t ∙ sym (served-at f (eqb-true f.op 6 t))
own-serves {f} (commits t) = commit-serves f t ∙ sym (served-at f (eqb-true f.op 7 t))
own-serves {f} (aborts t) = abort-serves f t ∙ sym (served-at f (eqb-true f.op 8 t))
own-serves {f} (renews t) = renew-serves f t ∙ sym (served-at f (eqb-true f.op 11 t))
own-serves {f} (notifies t) = notify-serves f t ∙ sym (served-at f (eqb-true f.op 10 t))
own-serves {f} (ticks t) = tick-serves f t ∙ sym (served-at f (eqb-true f.op 9 t))

-- ---- the end of a step, in its parts

-- service, where it follows
abbrev served_by : Frame → Model → Done
served_by f m = cond (is_served f) (service m) (quiet m)

-- what is said from there on, in a space that service has changed so
abbrev said_then : Frame → Model → Done → List Record
said_then f m d = exceptions f m ++ d.records ++ nothings (lapsed f m) d.model.entries d.model.waits

module _ (f : Frame) (m : Model) where
  -- in a tick or not, with service or not
  abbrev then : Bool → Bool → List Record
  then b c =
      let n = abort_all (end_now m) m in
      let k = cond b (with_entries (entries_left n) n) m in
      let d = cond c (service k) (quiet k) in
      cond b (map exception (end_now m)) [] ++ d.records ++ nothings k d.model.entries d.model.waits

  finish_is : serves f ≡ is_served f → (finish f m).records ≡ said_then f m (served_by f (lapsed f m))
  unfolding finish lapsed_part close_waits is_over ended_txns drop_ended service
  finish_is q = ap (ended (is_tick f.op)) q ∙ go (is_tick f.op) (is_served f)
    where
      ended : Bool → Bool → List Record
      ended b c =
          let e = cond b (lapsed_part m) (quiet m) in
          let s = cond c (service e.model) (quiet e.model) in
          e.records ++ s.records ++ (close_waits s.model).records

      go : (b c : Bool) → ended b c ≡ then b c
      go true true = refl
      go true false = refl
      go false true = refl
      go false false = refl

-- ---- the entries stand by number still, when service begins

own-order : {f : Frame} {m n : Model} {a : Record} → Own f m a n → InOrder m → InOrder n
unfolding stored heard_of create commit abort renew notify tick unregistered
own-order {f} {m} (writes t) h = stored-order m f h
own-order {f} {m} (finds e t o) h = handed-numbered m.txns (look_up_of m f) e m.entries h
own-order (finds_none t u g) h = h
own-order (waits t u g) h = h
own-order (creates t) h = h
own-order {f} {m} (commits t) h = freed_numbered m.txns f.txn _ m.entries h
own-order {f} {m} (aborts t) h = freed_numbered m.txns f.txn _ m.entries h
own-order {f} {m} (renews t) h = renewed-numbered m f h
own-order (notifies t) h = h
own-order (ticks t) h = h

abort_all-order : (ts : List Txn) (m : Model) → InOrder m → InOrder (abort_all ts m)
unfolding abort_all abort
abort_all-order [] m h = h
abort_all-order (t ∷ ts) m h =
    abort_all-order ts (abort t.id.0 m) (freed_numbered m.txns t.id.0 _ m.entries h)

lapsed-order : (f : Frame) (m : Model) → InOrder m → InOrder (lapsed f m)
lapsed-order f m h =
    let n = abort_all (end_now m) m in
    cond_cases InOrder (is_tick f.op) (λ _. numbered-filter _ n.entries (abort_all-order (end_now m) m h)) (λ _. h)

-- ---- what the rules give is said

answer-own : (f : Frame) (m : Model) → InOrder m → is_look_up f.op ≡ true → (o : Option Entry)
    → oldest m.txns (look_up_of m f) m.entries ≡ o
    → let c = answer m (look_up_of m f) f.lease_or_timeout o in Own f m c.own c.model
unfolding answer answer_found answer_nothing answer_waiting gives_nothing look_up_of
answer-own f m h t (some e) q = finds e t (oldest-said h q)
answer-own f m h t none q =
    let u = none_any (available m.txns (look_up_of m f)) m.entries q in
    cond_cases (λ (c : Carried). Own f m c.own c.model) (gives_nothing m (look_up_of m f) f.lease_or_timeout)
    (finds_none t u) (waits t u)

own-said : (m : Model) (f : Frame) → InOrder m → is_operation f.op ≡ true
    → Own f m (own_part m f).own (own_part m f).model
unfolding write_frame write look_up create commit_frame abort_frame renew notify tick
own-said m f h is =
    own_cases (λ (c : Carried). Own f m c.own c.model) m f is writes (λ t. answer-own f m h t _ refl) creates
    commits aborts renews notifies ticks

service-said : (f : Frame) (m : Model) → InOrder m
    → let d = served_by f m in Service f m d.records d.model.waits d.model.entries
unfolding service
service-said f m h =
    cond_cases (λ (d : Done). Service f m d.records d.model.waits d.model.entries) (is_served f)
    (λ t. follows t (serves-all m.entries m.waits h)) follows_not
  where
    ts : List Txn
    ts = m.txns

    serves-all : (es : List Entry) (ws : List LookUp) → Numbered m.next_entry es
        → let r = serve ts es ws in Serves ts es ws r.records r.waits r.entries
    serves-all =
        serve_ind ts (λ es ws r. Numbered m.next_entry es → Serves ts es ws r.records r.waits r.entries)
        (λ es h. gone_through es) (λ es w ws q below h. waits_on w (none_any (available ts w) es q) (below h))
        (λ es w ws x q below h. is_found w x (oldest-said h q) (below (handed-numbered ts w x es h)))

-- those of kind 11: one for each registration that matches some
bells_are : (es : List Entry) (gs : List Registration) → ringing es gs ≡ joined (map (bell es) gs)
unfolding ringing matching hearing bell
bells_are es [] = refl
bells_are es (g ∷ gs) = go (eqb (matching es g) 0) (bells_are es gs)
  where
    rest : List Record
    rest = joined (map (bell es) gs)

    its : Record
    its = rung (matching es g) (hearing es g)

    go : (b : Bool) → ringing es gs ≡ rest
        → map (λ g. rung (matching es g) (hearing es g))
        (cond (not b) (g ∷ filterb (λ g. not (eqb (matching es g) 0)) gs)
        (filterb (λ g. not (eqb (matching es g) 0)) gs))
        ≡ cond b [] (its ∷ []) ++ rest
    go true e = e
    go false e = ap {B = List Record} (λ l. its ∷ l) e

pub step-said : (m : Model) (bs : List ℕ) (area : ℕ) → InOrder m → refusal m bs area ≡ 0
    → Said (decode bs) m (step m bs area).records
unfolding accepted carried_out
step-said m bs area h z =
    let f = decode bs in
    let n = (own_part m f).model in
    let o = own-said m f h (is_one bs (clear m bs area z).operation) in
    let s = service-said f (lapsed f n) (lapsed-order f n (own-order o h)) in
    let e = subst⁻¹ (Ends f n) (finish_is f n (own-serves o)) (in_order s) in
    subst⁻¹ (λ (d : Outcome). Said f m d.records) (step-accepted m bs area z)
    (subst⁻¹ (λ l. Said f m ((own_part m f).own ∷ (finish f n).records ++ l))
    (bells_are (made_public m f) m.registrations) (own_first o e))

-- ---- what is said is what the rules give

-- service, and the end of a step
serves_given : {n : ℕ} {ts : List Txn} {es xs : List Entry} {ws left : List LookUp} {founds : List Record}
    → Serves ts es ws founds left xs → Numbered n es
    → serve ts es ws ≡ record { entries = xs; waits = left; records = founds }
unfolding serve
serves_given (gone_through es) h = refl
serves_given {ts = ts} (waits_on w {es} {xs} {ws} u s) h =
    serve-none ts es w ws (any_none (available ts w) es u)
    ∙ ap (λ (r : Served). record { entries = r.entries; waits = w ∷ r.waits; records = r.records })
    (serves_given s h)
serves_given {ts = ts} (is_found w e {es} {xs} {ws} o s) h =
    serve_some ts es w ws e (oldest_given h o)
    ∙ ap (λ (r : Served). record { entries = r.entries; waits = r.waits; records = found w e ∷ r.records })
    (serves_given s (handed-numbered ts w e es h))

ends_given : {f : Frame} {m : Model} {rs : List Record} → Ends f m rs → serves f ≡ is_served f → InOrder m
    → (finish f m).records ≡ rs
unfolding service
ends_given {f} {m} (in_order (follows t s)) q h =
    let n = lapsed f m in
    let is : served_by f n ≡ service n = rw t in
    finish_is f m q
    ∙ ap (said_then f m) is
    ∙ ap (λ (r : Served). exceptions f m ++ r.records ++ nothings n r.entries r.waits)
    (serves_given s (lapsed-order f m h))
ends_given {f} {m} (in_order (follows_not t)) q h =
    let n = lapsed f m in
    let is : served_by f n ≡ quiet n = rw t in
    finish_is f m q ∙ ap (said_then f m) is

-- the own part
none_given : (f : Frame) (m : Model) (b : Bool) → is_look_up f.op ≡ true
    → some_available m.txns (look_up_of m f) m.entries ≡ false
    → in_vain f m ≡ b
    → own_part m f ≡ cond b (answer_nothing m (look_up_of m f)) (answer_waiting m (look_up_of m f))
unfolding look_up answer gives_nothing look_up_of
none_given f m b t u g =
    let w = look_up_of m f in
    part_look_up m f t
    ∙ ap (answer m w f.lease_or_timeout) (any_none (available m.txns w) m.entries u)
    ∙ ap (λ c. cond c (answer_nothing m w) (answer_waiting m w)) g

own_given : {f : Frame} {m n : Model} {a : Record} → Own f m a n → InOrder m
    → own_part m f ≡ record { model = n; own = a }
unfolding write_frame write create commit_frame abort_frame renew notify tick look_up answer answer_found answer_nothing
    answer_waiting
own_given {f} {m} (writes t) h = part_at m f (eqb-true f.op 1 t)
own_given {f} {m} (finds e t o) h =
    part_look_up m f t ∙ ap (answer m (look_up_of m f) f.lease_or_timeout) (oldest_given h o)
own_given {f} {m} (finds_none t u g) h = none_given f m true t u g
own_given {f} {m} (waits t u g) h = none_given f m false t u g
own_given {f} {m} (creates t) h = part_at m f (eqb-true f.op 6 t)
own_given {f} {m} (commits t) h = part_at m f (eqb-true f.op 7 t)
own_given {f} {m} (aborts t) h = part_at m f (eqb-true f.op 8 t)
own_given {f} {m} (renews t) h = part_at m f (eqb-true f.op 11 t)
own_given {f} {m} (notifies t) h = part_at m f (eqb-true f.op 10 t)
own_given {f} {m} (ticks t) h = part_at m f (eqb-true f.op 9 t)

pub said_given : {f : Frame} {m : Model} {rs : List Record} → Said f m rs → InOrder m → (carried_out m f).records ≡ rs
unfolding carried_out
said_given {f} {m} (own_first {own} {n} {rest} o e) h =
    ap (λ (c : Carried). c.own ∷ (finish f c.model).records ++ ringing (made_public m f) m.registrations)
    (own_given o h)
    ∙ ap₂ {C = List Record} (λ l k. own ∷ l ++ k) (ends_given e (own-serves o) (own-order o h))
    (bells_are (made_public m f) m.registrations)
