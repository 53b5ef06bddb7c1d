-- Demand 2, what a look-up is answered: a party waits once; what is given nothing has no available entry; and a closing
-- answer comes in time.
use Prim.Native.Nat.{ℕ, ◌+◌, ◌≤◌}
use mathlib.Core.Bool.{Bool, true, false, cond, not, ◌&&◌, ◌||◌, or-true, or-false, or_assoc, true≢false}
use mathlib.Core.Logic.{◌⊎◌, inl, inr, ⊎_elim}
use mathlib.Core.Path.{◌≡◌, refl, sym, ap, ◌∙◌, subst, subst⁻¹}
use mathlib.Core.List.Memᴰ
use mathlib.Core.List.{List, [], ◌∷◌, ◌++◌, append_assoc, append-nil, Memᴰ, map}
use native.Mathlib.Omega.{arith}
use borrow.Author.Tests.{eq-eqb, ne_eqb, le-leb}
use lib.Dec.{eqb}
use lib.ListN.{length}
use Rattle.rules.specs.declared.Entry.{Entry}
use Rattle.rules.specs.declared.Record.{Record}
use Rattle.rules.specs.declared.LookUp.{LookUp}
use Rattle.rules.specs.declared.until.Until.{Until}
use Rattle.rules.specs.declared.until.Until.TheVariants.{Tick}
use Rattle.rules.specs.Numbers.{forever}
use Rattle.rules.specs.Lists.{filterb, anyb}
use Rattle.rules.specs.Time.{until, reached}
use Rattle.rules.specs.State.{Model}
use Rattle.rules.specs.Holds.{some_available}
use Rattle.rules.specs.Frame.{Frame, decode, is_look_up}
use Rattle.rules.specs.Records.{found, nothing, aborted, exception, is_ticked}
use Rattle.rules.specs.Write.{stored}
use Rattle.rules.specs.LookUp.{look_up_of, gives_nothing, asked}
use Rattle.rules.specs.Transactions.{create, commit, abort}
use Rattle.rules.specs.Renew.{renew}
use Rattle.rules.specs.Notify.{notify, heard_of}
use Rattle.rules.specs.Tick.{tick, unregistered, drop_ended}
use Rattle.rules.specs.Closing.{close_waits}
use Rattle.rules.specs.Refusals.{refusal}
use Rattle.rules.specs.Step.{Outcome, step}
use Rattle.rules.specs.SerialRun.{Logged, was_refused}
use Rattle.rules.specs.Log.{records_of}
use Rattle.rules.specs.Sound.{Consistent, Sound}
use Rattle.rules.proofs.BoolLaws.{cond_cases, bool_cases}
use Rattle.rules.proofs.ListLaws.{filter_mem, any_append, count, count-append, count_cons}
use Rattle.rules.proofs.LayoutLaws.{abort-ends}
use Rattle.demands.specs.Machine.{Input}
use Rattle.demands.specs.Answers.{AnsweredNow, Permitted, NothingLeft, closes}
use Rattle.demands.proofs.Runs.{runs, made, answers_to, runs_keep as keep-runs}
use Rattle.sound.proofs.AllLaws.{out_or}
use Rattle.sound.proofs.HoldLaws.{equal_or, eqb_cases}
use Rattle.sound.proofs.EachLaws.{Each, same-party}
use Rattle.sound.proofs.Events.{Admitted, Closes, Heard, asking, saying, says, Event, refuses, asks, writes, is_found}
use Rattle.sound.proofs.Events.{is_nothing, is_waiting, creates, commits, aborts, renews, notifies, ticks, excepts}
use Rattle.sound.proofs.Events.{expires, rings}
use Rattle.sound.proofs.Becomes.{clock_moves}
use Rattle.sound.proofs.EventsProof.{over_is, Shut, AtOnce, Rested, Carries, step-carries}
use Rattle.sound.proofs.Consistent.{owner_inside}
use Rattle.sound.proofs.ConsistentProof.{consistent_event}
use Rattle.demands.proofs.ByEvents.{Reader, Keeps, hears_all, reads_log, reads-log, runs_keep, orderly, sound}
use Rattle.demands.proofs.ByEvents.{sound-kept}
use Rattle.sound.proofs.SoundProof.{none_mid}
use Rattle.demands.proofs.OldestLaws.{answered_now}

each-asked : (m : Model) (f : Frame) → Consistent m → Admitted f m → Each (asked m f).waits
unfolding asked
each-asked m f s a =
    cond_cases (λ (n : Model). Each n.waits) (is_look_up f.op) (λ t. (consistent_event (asks m t a) s).each)
    (λ _. s.each)

-- a look-up that a step gives nothing is permitted it when the step is over
permitted : (m n : Model) (w : LookUp) → m ≡ (close_waits n).model → some_available n.txns w n.entries ≡ false
    → Closes n w → Permitted m w
unfolding close_waits
permitted m n w q u c = subst⁻¹ (λ k. Permitted k w) q (record { none_available = u; in_vain = c })

pub nothing_left : (m : Model) → Sound m → (bs : List ℕ) (area : ℕ) → refusal m bs area ≡ 0
    → NothingLeft (asked m (decode bs)) (step m bs area).records (step m bs area).model
unfolding nothing
nothing_left m k bs area n w i j = ⊎_elim over_now at_once (r.closed (nothing w) j refl)
  where
    f : Frame
    f = decode bs

    c : Admitted f m × Carries f m (step m bs area).records (step m bs area).model
    c = step-carries m bs area k n

    r : Rested f m (step m bs area).records (step m bs area).model
    r = c.1.rested

    o : Model
    o = (step m bs area).model

    -- the look-up that is told of is this one
    same : (v : LookUp) → Memᴰ v (asked m f).waits → nothing v ≡ nothing w → v ≡ w
    same v l q =
        same-party (each-asked m f k.consistent c.0) l i (ap (λ (a : Record). a.party) q)

    over_now : Shut r.mid (nothing w) → Permitted o w
    over_now (v, l, q, e) =
        subst (Permitted o) (same v (r.among v l) q)
        (permitted o r.mid v r.left (none_mid k c.1 v l) (over_is r.mid v e))

    at_once : AtOnce f m r.mid (nothing w) → Permitted o w
    at_once (v, l, q, u, e) = subst (Permitted o) (same v l q) (permitted o r.mid v r.left u e)

-- whether what is heard closes a look-up
abbrev pub shuts : LookUp → Heard → Bool
shuts w = says (closes w.party w.txn.0)

itself : (w : LookUp) (a : Record) → a.party ≡ w.party → a.txn.0 ≡ w.txn.0
    → closes w.party w.txn.0 a
    ≡ (eqb a.kind 2 || eqb a.kind 3 || eqb a.kind 8 || eqb a.kind 7)
itself w a p t = rw (eq-eqb a.party w.party p, eq-eqb a.txn.0 w.txn.0 t)

found_shuts : (w : LookUp) (e : Entry) → anyb (shuts w) (saying (found w e) ∷ []) ≡ true
unfolding found
found_shuts w e = rw (itself w (found w e) refl refl)

nothing_shuts : (w : LookUp) → anyb (shuts w) (saying (nothing w) ∷ []) ≡ true
unfolding nothing
nothing_shuts w = rw (itself w (nothing w) refl refl)

-- where a transaction ends, it waits on, outside, or inside is closed by the record of the end
shut_or : (w : LookUp) (a : Record) (t : ℕ) {ws : List LookUp} → Memᴰ w ws
    → (w.txn.0 ≡ t → Memᴰ w (filterb (λ v. not (eqb v.txn.0 t)) ws) ⊎
    (anyb (shuts w) (saying a ∷ []) ≡ true))
    → Memᴰ w (filterb (λ v. not (eqb v.txn.0 t)) ws) ⊎ (anyb (shuts w) (saying a ∷ []) ≡ true)
shut_or w a t i inside =
    ⊎_elim inside (λ d. inl (filter_mem (λ v. not (eqb v.txn.0 t)) i (ap not (ne_eqb w.txn.0 t d))))
    (equal_or w.txn.0 t)

-- it waits on, or is closed
pub waits-or : {f : Frame} {m n : Model} {hs : List Heard} (w : LookUp) → Event f m hs n → Consistent m
    → Memᴰ w m.waits
    → Memᴰ w n.waits ⊎ (anyb (shuts w) hs ≡ true)
unfolding stored heard_of create commit abort renew notify tick unregistered drop_ended aborted exception
waits-or w (refuses m bs area q) s i = inl i
waits-or w (asks m t a) s i = inl (Memᴰ.append_left _ i)
waits-or w (writes m t a) s i = inl i
waits-or w (is_found m v e ws o j av) s i =
    ⊎_elim (λ q. inr (subst⁻¹ (λ u. anyb (shuts u) (saying (found v e) ∷ []) ≡ true) q (found_shuts v e))) inl
    (out_or o w i)
waits-or w (is_nothing m v ws o c) s i =
    ⊎_elim (λ q. inr (subst⁻¹ (λ u. anyb (shuts u) (saying (nothing v) ∷ []) ≡ true) q (nothing_shuts v))) inl
    (out_or o w i)
waits-or w (is_waiting m v j q n d c) s i = inl i
waits-or w (creates m t a) s i = inl i
waits-or w (commits m t a) s i = inl i
waits-or w (renews m t a) s i = inl i
waits-or {f} w (aborts m t a) s i =
    let y = a.ends (abort-ends f.op t) in
    shut_or w (aborted f) f.txn i
    (λ q. inr (rw (itself w (aborted f) (sym (owner_inside s y w i q)) (sym q))))
waits-or w (notifies m t a) s i = inl i
waits-or w (ticks m t a) s i = inl i
waits-or w (excepts m t k j r) s i =
    shut_or w (exception t) t.id.0 i
    (λ q. inr (rw (itself w (exception t) (sym (owner_inside s (t, j, refl, refl) w i q)) (sym q))))
waits-or w (expires m k) s i = inl i
waits-or w (rings m c g j l) s i = inl i

-- the records in order
collects : Reader (List Record)
collects = record { asked = λ f rs. rs; reads = λ f a rs. rs ++ (a ∷ []) }

any-heard : (p : Record → Bool) (f : Frame) (hs : List Heard) (rs : List Record)
    → anyb p (hears_all collects f hs rs) ≡ (anyb p rs || anyb (says p) hs)
unfolding collects
any-heard p f [] rs = sym (or-false (anyb p rs))
any-heard p f (asking ∷ hs) rs = any-heard p f hs rs
any-heard p f (saying a ∷ hs) rs =
    any-heard p f hs (rs ++ (a ∷ [])) ∙ rw (any_append p rs (a ∷ []), or-false)
    (or_assoc (anyb p rs) (p a) (anyb (says p) hs))

count-heard : (p : Record → Bool) (f : Frame) (hs : List Heard) (rs : List Record)
    → count p (hears_all collects f hs rs) ≡ count p rs + count (says p) hs
unfolding collects
count-heard p f [] rs = omega arith
count-heard p f (asking ∷ hs) rs = count-heard p f hs rs
count-heard p f (saying a ∷ hs) rs =
    let more = count-heard p f hs (rs ++ (a ∷ [])) in
    omega (arith, count-append p rs (a ∷ []), count_cons p a [], count_cons (says p) (saying a) hs)

collected : (ls : List Logged) (rs : List Record) → reads_log collects ls rs ≡ rs ++ records_of ls
unfolding collects records_of
collected =
    reads-log collects (λ f qs rs. rs ++ qs) (λ ls rs. rs ++ records_of ls) (λ f rs. append-nil rs)
    (λ f a qs rs. sym (append_assoc rs (a ∷ []) qs)) (λ rs. append-nil rs)
    (λ l ls rs. sym (append_assoc rs l.records (records_of ls))
    ∙ ap (λ (x : List Record). (x ++ l.records) ++ records_of ls)
    (same (is_look_up (decode l.frame).op && not (was_refused l.records)) rs))
  where
    same : (b : Bool) (rs : List Record) → rs ≡ cond b rs rs
    same true rs = refl
    same false rs = refl

-- the ticked records count the clock on
pub clock-counts : (m : Model) (js : List Input) → Sound m
    → (runs m js).model.clock ≡ m.clock + count is_ticked (answers_to m js)
unfolding answers_to
clock-counts m js s =
    subst (Q (runs m js).model) (collected (runs m js).log []) (runs_keep collects Q keeps m [] js s (omega arith)).1
  where
    Q : Model → List Record → Type 0
    Q n rs = n.clock ≡ m.clock + count is_ticked rs

    keeps : Keeps collects Q
    keeps f a b hs rs e _ g =
        let n = count-heard is_ticked f hs rs in ⊎_elim (λ c. omega (arith, c.0, c.1)) (λ c. omega (arith, c.0, c.1))
        (clock_moves e)

-- a look-up that waits is closed by the records of frames that carry the clock to its deadline
closed : (m : Model) (js : List Input) (w : LookUp) (d : ℕ) → Sound m → Memᴰ w m.waits → w.deadline ≡ Tick d
    → d ≤ m.clock + count is_ticked (answers_to m js) → anyb (closes w.party w.txn.0) (answers_to m js) ≡ true
unfolding answers_to reached
closed m js w d k i q l =
    ⊎_elim (λ j. absurd (true≢false
    (sym over ∙ ap (reached n.clock) (sym q) ∙ (keep-runs Sound sound-kept m js k).ahead w j))) (λ c. c)
    (subst (Q n) (collected (runs m js).log []) (runs_keep collects Q keeps m [] js k (inl i)).1)
  where
    n : Model
    n = (runs m js).model

    p : Record → Bool
    p = closes w.party w.txn.0

    Q : Model → List Record → Type 0
    Q n rs = Memᴰ w n.waits ⊎ (anyb p rs ≡ true)

    keeps : Keeps collects Q
    keeps f a b hs rs e s =
        ⊎_elim (λ j. ⊎_elim inl (λ c. inr (any-heard p f hs rs ∙ ap (λ x. anyb p rs || x) c ∙ or-true (anyb p rs)))
        (waits-or w e s j)) (λ c. inr (any-heard p f hs rs ∙ ap (λ x. x || anyb (says p) hs) c))

    over : reached n.clock (Tick d) ≡ true
    over = le-leb d n.clock (omega (arith, l, clock-counts m js k))

pub answers_to_cons : (m : Model) (i : Input) (is : List Input) → answers_to m (i ∷ is)
    ≡ (step m i.frame i.area).records ++ answers_to (step m i.frame i.area).model is
unfolding answers_to records_of runs
answers_to_cons m i is = refl

-- after as many ticks carried out as its timeout a look-up has had its closing answer
pub in_time : (is : List Input) (i : Input) (js : List Input) → refusal (made is) i.frame i.area ≡ 0
    → is_look_up (decode i.frame).op ≡ true → ((decode i.frame).lease_or_timeout ≡ forever → ⊥)
    → (decode i.frame).lease_or_timeout ≤ length (filterb is_ticked (answers_to (made is) (i ∷ js)))
    → anyb (closes (decode i.frame).party (decode i.frame).txn) (answers_to (made is) (i ∷ js)) ≡ true
unfolding look_up_of until answers_to records_of runs
in_time is i js n l f h =
    rw (answers_to_cons m i js, any_append (closes w.party w.txn.0) o.records (answers_to o.model js))
    (go (bool_cases (some_available m.txns w m.entries)) (bool_cases (gives_nothing m w timeout)))
  where
    m : Model
    m = made is

    w : LookUp
    w = look_up_of m (decode i.frame)

    timeout : ℕ
    timeout = (decode i.frame).lease_or_timeout

    o : Outcome
    o = step m i.frame i.area

    a : AnsweredNow m w timeout o.records o.model
    a = answered_now m i.frame i.area (orderly is) n l

    p : Record → Bool
    p = closes w.party w.txn.0

    now : anyb p o.records ≡ true → (anyb p o.records || anyb p (answers_to o.model js)) ≡ true
    now c = ap (λ x. x || anyb p (answers_to o.model js)) c

    due : w.deadline ≡ Tick (m.clock + timeout)
    due = eqb_cases (λ (u : Until). u ≡ Tick (m.clock + timeout)) timeout forever (λ q. absurd (f q)) (λ _. refl)

    enough : m.clock + timeout ≤ o.model.clock + count is_ticked (answers_to o.model js)
    enough =
        omega (
          arith,
          h,
          clock-counts m (i ∷ []) (sound is),
          ap (count is_ticked) (answers_to_cons m i js) ∙ count-append is_ticked o.records (answers_to o.model js),
          ap (count is_ticked) (answers_to_cons m i []) ∙ count-append is_ticked o.records [],
        )

    later : Memᴰ w o.model.waits → anyb p (answers_to o.model js) ≡ true
    later r = closed o.model js w (m.clock + timeout) (sound-kept i m (sound is)) r due enough

    -- by the step's first record
    first : {r : Record} (ws : List LookUp) → o.records ≡ r ∷ map nothing ws → anyb (shuts w) (saying r ∷ []) ≡ true
        → anyb p o.records ≡ true
    first {r} ws q c =
        ap (anyb p) q ∙ ap (λ x. x || anyb p (map nothing ws)) (sym (or-false (p r)) ∙ c)

    go : (some_available m.txns w m.entries ≡ true) ⊎ (some_available m.txns w m.entries ≡ false)
        → (gives_nothing m w timeout ≡ true) ⊎ (gives_nothing m w timeout ≡ false)
        → (anyb p o.records || anyb p (answers_to o.model js)) ≡ true
    go (inl t) g = let r = a.found_case t in now (first r.2.0 r.2.1 (found_shuts w r.0))
    go (inr t) (inl g) = let r = a.nothing_case t g in now (first r.0 r.1 (nothing_shuts w))
    go (inr t) (inr g) =
        ap (λ x. anyb p o.records || x) (later (a.waiting_case t g).1) ∙ or-true (anyb p o.records)
