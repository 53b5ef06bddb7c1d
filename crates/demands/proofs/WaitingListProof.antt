-- The waiting list is explained by its history: of the rules by events, of any space that meets the demands because its
-- log and its waiting list are those of the rules.
use Prim.Native.Nat.{ℕ, ◌+◌}
use mathlib.Core.Bool.{Bool, true, false, not, cond, ◌&&◌}
use mathlib.Core.Logic.{⊎_elim}
use mathlib.Core.Path.{◌≡◌, refl, sym, ap, ◌∙◌}
use mathlib.Core.List.{List, [], ◌∷◌, ◌++◌, map, map-append}
use native.Mathlib.Omega.{arith}
use borrow.Author.Tests.{eq-eqb, ne_eqb, eqb-true, eqb-false}
use lib.Dec.{eqb}
use lib.ListN.{length, length-append}
use Rattle.rules.specs.declared.Record.{Record}
use Rattle.rules.specs.declared.LookUp.{LookUp}
use Rattle.rules.specs.Lists.{filterb, All}
use Rattle.rules.specs.Numbers.{kind_exception}
use Rattle.rules.specs.State.{Model, empty}
use Rattle.rules.specs.Frame.{Frame, decode}
use Rattle.rules.specs.Records.{written, found, nothing, waiting, created, committed, aborted, exception, ticked}
use Rattle.rules.specs.Records.{renewed, notified, rung, refused}
use Rattle.rules.specs.Write.{stored}
use Rattle.rules.specs.LookUp.{look_up_of}
use Rattle.rules.specs.Transactions.{create, commit, abort}
use Rattle.rules.specs.Renew.{renew}
use Rattle.rules.specs.Notify.{notify, heard_of}
use Rattle.rules.specs.Tick.{tick, unregistered, drop_ended}
use Rattle.rules.specs.Refusals.{refusal}
use Rattle.rules.specs.SerialRun.{Logged}
use Rattle.rules.specs.Log.{records_of}
use Rattle.rules.specs.Sound.{Consistent}
use Rattle.rules.proofs.ListLaws.{count, count_cons, count-append, count_map, length_split, filter_agree, filter_pass}
use Rattle.rules.proofs.BoolLaws.{or_left, or_right, bool_cases}
use Rattle.rules.proofs.LayoutLaws.{abort-ends}
use Rattle.demands.specs.Machine.{Input, the_rules}
use Rattle.demands.specs.History.{EveryState}
use Rattle.demands.specs.Book.{names}
use Rattle.demands.specs.Answers.{closes}
use Rattle.demands.specs.Consequences.{ConsequencesFollow}
use Rattle.demands.specs.WaitingList.{is_asked, closed_as, fates, is_found_kind, is_nothing_kind, by_txn, said}
use Rattle.demands.specs.WaitingList.{tally_of}
use Rattle.demands.specs.WaitingList.{Balances, WaitingListFollows}
use Rattle.demands.proofs.Runs.{runs, made}
use Rattle.sound.proofs.AllLaws.{filter_map}
use Rattle.demands.proofs.BookProof.{named, itself}
use Rattle.sound.proofs.Events.{Heard, asking, saying, Event, refuses, asks, writes, is_found, is_nothing, is_waiting}
use Rattle.sound.proofs.Events.{creates, commits, aborts, renews, notifies, ticks, excepts, expires, rings}
use Rattle.sound.proofs.Consistent.{owner_inside}
use Rattle.demands.proofs.ByEvents.{Reader, hears_all, reads_log, made_keep}
use Rattle.demands.proofs.ByRule.{rules_follow}
use Rattle.demands.proofs.Follows.{of_log}
use Rattle.demands.proofs.DeterminedProof.{determined-run, twins}
use Rattle.demands.proofs.ConsequencesProof.{every_consequence}

-- ---- a reader who keeps the sums as he goes along

-- a look-up that waits, by its party and transaction
abbrev Named : Type 0
Named = ℕ × ℕ

record Sums : Type 0 where
  pub asked : ℕ
  -- records of the kinds that pass a test, and look-ups closed by such
  pub told : (ℕ → Bool) → ℕ
  pub closed : (ℕ → Bool) → ℕ
  pub waiting : List Named

abbrev shuts : Record → Named → Bool
shuts a o = closes o.0 o.1 a

abbrev asks_one : Frame → Sums → Sums
asks_one f s =
    record {
      asked = s.asked + 1;
      told = s.told;
      closed = s.closed;
      waiting = s.waiting ++ ((f.party, f.txn) ∷ []);
    }

abbrev hears_one : Record → Sums → Sums
hears_one a s =
    record {
      asked = s.asked;
      told = λ q. s.told q + cond (q a.kind) 1 0;
      closed = λ q. s.closed q + cond (q a.kind) (count (shuts a) s.waiting) 0;
      waiting = filterb (λ o. not (shuts a o)) s.waiting;
    }

sums : Reader Sums
sums = record { asked = asks_one; reads = λ f a s. hears_one a s }

none : Sums
none = record { asked = 0; told = λ q. 0; closed = λ q. 0; waiting = [] }

-- ---- he has the sums of the spec

abbrev one : Bool → ℕ
one b = cond b 1 0

-- some are closed by a record of kind k, and the others later, as g tells
split : {A : Type 0} (q : ℕ → Bool) (k : ℕ) (c : A → Bool) (g : A → ℕ) (xs : List A)
    → cond (q k) (count c xs) 0 + count (λ x. q (g x)) (filterb (λ x. not (c x)) xs)
    ≡ count (λ x. q (cond (c x) k (g x))) xs
split q k c g [] = go (q k)
  where
    go : (b : Bool) → cond b 0 0 + 0 ≡ 0
    go true = refl
    go false = refl
split {A} q k c g (x ∷ xs) =
    go (q k) (c x) refl refl (split q k c g xs) ∙ sym (count_cons (λ y. q (cond (c y) k (g y))) x xs)
  where
    rest : List A
    rest = filterb (λ y. not (c y)) xs

    later : A → Bool
    later y = q (g y)

    all : ℕ
    all = count (λ y. q (cond (c y) k (g y))) xs

    go : (b d : Bool) → q k ≡ b → c x ≡ d → cond b (count c xs) 0 + count later rest ≡ all
        → cond b (count c (x ∷ xs)) 0 + count later (cond (not d) (x ∷ rest) rest) ≡ cond (q (cond d k (g x))) 1 0 + all
    go true true e d h = omega (arith, h, count_cons c x xs, ap one e, ap one d)
    go true false e d h = omega (arith, h, count_cons c x xs, count_cons later x rest, ap one d)
    go false true e d h = omega (arith, h, ap one e)
    go false false e d h = omega (arith, h, count_cons later x rest)

fate : List Record → Named → ℕ
fate rs o = closed_as o.0 o.1 rs

hears-all : (q : ℕ → Bool) (f : Frame) (rs later : List Record) (s : Sums)
    → (hears_all sums f (map saying rs) s).closed q
    + count (λ o. q (fate later o)) (hears_all sums f (map saying rs) s).waiting
    ≡ s.closed q + count (λ o. q (fate (rs ++ later) o)) s.waiting
unfolding fate closed_as sums
hears-all q f [] later s = refl
hears-all q f (a ∷ rs) later s =
    hears-all q f rs later (hears_one a s)
    ∙ omega (arith, split q a.kind (shuts a) (fate (rs ++ later)) s.waiting)

-- the look-up arrives, if it is not refused; then the records are read
abbrev arrives : Bool → Frame → Sums → Sums
arrives b f s = cond b (asks_one f s) s

heard_so : (b : Bool) (f : Frame) (rs : List Record) (s : Sums)
    → hears_all sums f (cond b (asking ∷ map saying rs) (map saying rs)) s
    ≡ hears_all sums f (map saying rs) (arrives b f s)
unfolding sums
heard_so true f rs s = refl
heard_so false f rs s = refl

nobody : {A : Type 0} (p : A → Bool) → ((x : A) → p x ≡ false) → (xs : List A) → count p xs ≡ 0
nobody p h [] = refl
nobody p h (x ∷ xs) = rw (h x) (nobody p h xs)

-- what was heard before, those who wait from before, and the look-ups of the log
reads-closed : (q : ℕ → Bool) → q 0 ≡ false → (log : List Logged) (s : Sums)
    → (reads_log sums log s).closed q
    ≡ s.closed q + count (λ o. q (fate (records_of log) o)) s.waiting + count q (fates log)
unfolding fate closed_as fates records_of reads_log
reads-closed q z [] s = omega (arith, nobody (λ o. q (fate (records_of []) o)) (λ o. z) s.waiting)
reads-closed q z (l ∷ ls) s =
    ap (λ v. (reads_log sums ls v).closed q) (heard_so (is_asked l) f l.records s)
    ∙ omega (
      arith,
      reads-closed q z ls (hears_all sums f (map saying l.records) (arrives (is_asked l) f s)),
      hears-all q f l.records (records_of ls) (arrives (is_asked l) f s),
      arrived (is_asked l),
    )
  where
    f : Frame
    f = decode l.frame

    closed_later : Named → Bool
    closed_later o = q (fate (l.records ++ records_of ls) o)

    arrived : (b : Bool)
        → (arrives b f s).closed q + count closed_later (arrives b f s).waiting + count q (fates ls)
        ≡ s.closed q + count closed_later s.waiting
        + count q (cond b (fate (l.records ++ records_of ls) (f.party, f.txn) ∷ fates ls) (fates ls))
    arrived true =
        let me : Named = (f.party, f.txn) in
        omega (
          arith,
          count-append closed_later s.waiting (me ∷ []),
          count_cons closed_later me [],
          count_cons q (fate (l.records ++ records_of ls) me) (fates ls),
        )
    arrived false = refl

asked-same : (f : Frame) (rs : List Record) (s : Sums) → (hears_all sums f (map saying rs) s).asked ≡ s.asked
unfolding sums
asked-same f [] s = refl
asked-same f (a ∷ rs) s = asked-same f rs (hears_one a s)

reads-asked : (log : List Logged) (s : Sums) → (reads_log sums log s).asked ≡ s.asked + count is_asked log
unfolding reads_log
reads-asked [] s = omega arith
reads-asked (l ∷ ls) s =
    let f = decode l.frame in
    let t = hears_all sums f (map saying l.records) (arrives (is_asked l) f s) in
    ap (λ v. (reads_log sums ls v).asked) (heard_so (is_asked l) f l.records s)
    ∙ omega (
      arith,
      reads-asked ls t,
      asked-same f l.records (arrives (is_asked l) f s),
      arrived (is_asked l),
      count_cons is_asked l ls,
    )
  where
    arrived : (b : Bool) → (arrives b (decode l.frame) s).asked ≡ s.asked + one b
    arrived true = refl
    arrived false = omega arith

told_more : (q : ℕ → Bool) (f : Frame) (rs : List Record) (s : Sums)
    → (hears_all sums f (map saying rs) s).told q ≡ s.told q + count (λ (a : Record). q a.kind) rs
unfolding sums
told_more q f [] s = omega arith
told_more q f (a ∷ rs) s =
    omega (arith, told_more q f rs (hears_one a s), count_cons (λ (b : Record). q b.kind) a rs)

reads-told : (q : ℕ → Bool) (log : List Logged) (s : Sums) → (reads_log sums log s).told q ≡ s.told q + said q log
unfolding reads_log records_of
reads-told q [] s = omega arith
reads-told q (l ∷ ls) s =
    let f = decode l.frame in
    let t = hears_all sums f (map saying l.records) (arrives (is_asked l) f s) in
    ap (λ v. (reads_log sums ls v).told q) (heard_so (is_asked l) f l.records s)
    ∙ omega (
      arith,
      reads-told q ls t,
      told_more q f l.records (arrives (is_asked l) f s),
      arrived (is_asked l),
      count-append (λ (a : Record). q a.kind) l.records (records_of ls),
    )
  where
    arrived : (b : Bool) → (arrives b (decode l.frame) s).told q ≡ s.told q
    arrived true = refl
    arrived false = refl

-- ---- what he reads of the rules' steps

abbrev name_of : LookUp → Named
name_of w = (w.party, w.txn.0)

record Stands (m : Model) (s : Sums) : Type 0 where
  pub waiting : s.waiting ≡ map name_of m.waits
  pub sum : s.asked ≡ s.closed is_found_kind + s.closed is_nothing_kind + s.closed by_txn + length m.waits
  pub founds : s.told is_found_kind ≡ s.closed is_found_kind
  pub nothings : s.told is_nothing_kind ≡ s.closed is_nothing_kind

-- a record that closes no look-up
unmoved : (a : Record) {m n : Model} {s : Sums} → is_found_kind a.kind ≡ false → is_nothing_kind a.kind ≡ false
    → by_txn a.kind ≡ false → n.waits ≡ m.waits → Stands m s → Stands n (hears_one a s)
unmoved a {m} {n} {s} f g e q h =
    record {
      waiting =
          filter_pass (λ o. not (shuts a o)) s.waiting (λ o i. ap not (passed o)) ∙ h.waiting
          ∙ ap (map name_of) (sym q);
      sum = rw (f, g, e, q) (let k = h.sum in omega arith);
      founds = rw f (let k = h.founds in omega arith);
      nothings = rw g (let k = h.nothings in omega arith);
    }
  where
    no : (x y : Bool) → (x && y && false) ≡ false
    no true true = refl
    no true false = refl
    no false y = refl

    passed : (o : Named) → shuts a o ≡ false
    passed o =
        rw (f, g, or_left (eqb a.kind kind_exception) _ e, or_right (eqb a.kind kind_exception) _ e)
        (no (eqb a.party o.0) (eqb a.txn.0 o.1))

-- the look-ups that a record closes wait no longer
closing : (a : Record) (p : LookUp → Bool) {m : Model} {s : Sums} {ws : List LookUp}
    → All (λ v. shuts a (name_of v) ≡ p v) m.waits → filterb (λ v. not (p v)) m.waits ≡ ws → Stands m s
    → ((hears_one a s).waiting ≡ map name_of ws) × (count (shuts a) s.waiting ≡ count p m.waits)
    × (count p m.waits + length ws ≡ length m.waits)
closing a p {m} {s} {ws} same left h = (
  ap (filterb (λ o. not (shuts a o))) h.waiting ∙ filter_map (λ o. not (shuts a o)) name_of m.waits
      ∙ ap (map name_of) (filter_agree _ (λ v. not (p v)) m.waits (λ v i. ap not (same v i)) ∙ left),
  ap (count (shuts a)) h.waiting ∙ count_map (shuts a) name_of m.waits
      ∙ ap length (filter_agree _ p m.waits same),
  ap (λ (l : List LookUp). count p m.waits + length l) (sym left) ∙ length_split p m.waits,
)

eqb_flip : (i j : ℕ) → eqb i j ≡ eqb j i
eqb_flip i j =
    ⊎_elim (λ e. e ∙ sym (eq-eqb j i (sym (eqb-true i j e))))
    (λ e. e ∙ sym (ne_eqb j i (λ q. eqb-false i j e (sym q)))) (bool_cases (eqb i j))

-- found and nothing close the look-up that they name
shuts_named : (p t : ℕ) (v : LookUp)
    → (eqb p v.party && eqb t v.txn.0 && true) ≡ (eqb v.party p && eqb v.txn.0 t)
shuts_named p t v = rw (eqb_flip p v.party, eqb_flip t v.txn.0) (go (eqb v.party p) (eqb v.txn.0 t))
  where
    go : (x y : Bool) → (x && y && true) ≡ (x && y)
    go true true = refl
    go true false = refl
    go false y = refl

-- an exception or abort closes who waits inside
shuts_inside : (p t : ℕ) (v : LookUp) → (v.txn.0 ≡ t → v.party ≡ p)
    → (eqb p v.party && eqb t v.txn.0 && true) ≡ eqb v.txn.0 t
shuts_inside p t v h =
    shuts_named p t v
    ∙ ⊎_elim (λ e. rw (e, eq-eqb v.party p (h (eqb-true _ t e))) refl) (λ e. rw e (go (eqb v.party p)))
    (bool_cases (eqb v.txn.0 t))
  where
    go : (x : Bool) → (x && false) ≡ false
    go true = refl
    go false = refl

module _ {m : Model} {s : Sums} (h : Stands m s) where
  ended : (a : Record) → All (λ v. shuts a (name_of v) ≡ eqb v.txn.0 a.txn.0) m.waits
      → is_found_kind a.kind ≡ false → is_nothing_kind a.kind ≡ false → by_txn a.kind ≡ true
      → {n : Model} → filterb (λ (v : LookUp). not (eqb v.txn.0 a.txn.0)) m.waits ≡ n.waits
      → Stands n (hears_one a s)
  ended a same f g e q =
      let c = closing a (λ (v : LookUp). eqb v.txn.0 a.txn.0) same q h in
      record {
        waiting = c.0;
        sum = rw (f, g, e) (let i = h.sum in let d = c.1 in let l = c.2 in omega arith);
        founds = rw f (let i = h.founds in omega arith);
        nothings = rw g (let i = h.nothings in omega arith);
      }

sum_event : {f : Frame} {m n : Model} {hs : List Heard} (s : Sums) → Event f m hs n → Consistent m → Stands m s
    → Stands n (hears_all sums f hs s)
unfolding sums written stored found nothing waiting created create committed commit aborted abort exception ticked
    refused renewed renew notified notify rung heard_of tick unregistered drop_ended look_up_of
sum_event s (refuses m bs area q) k h = unmoved (refused bs (refusal m bs area)) refl refl refl refl h
sum_event {f} s (asks m t a) k h =
    record {
      waiting =
          ap (λ l. l ++ ((f.party, f.txn) ∷ [])) h.waiting
          ∙ sym (map-append name_of m.waits (look_up_of m f ∷ []));
      sum = let e = h.sum in omega (arith, length-append m.waits (look_up_of m f ∷ []));
      founds = h.founds;
      nothings = h.nothings;
    }
sum_event {f} s (writes m t a) k h = unmoved (written f m.next_entry) refl refl refl refl h
sum_event {f} s (is_found m w x ws o i av) k h =
    let r = named (found w x) w (itself w) k.each o in
    let c = closing (found w x) (names (found w x)) (λ v j. shuts_named w.party w.txn.0 v) r.0 h in
    record {
      waiting = c.0;
      sum = let e = h.sum in let d = c.1 in let l = c.2 in omega arith;
      founds = let e = h.founds in let d = c.1 in let one = r.1 in omega arith;
      nothings = let e = h.nothings in omega arith;
    }
sum_event {f} s (is_nothing m w ws o z) k h =
    let r = named (nothing w) w (itself w) k.each o in
    let c = closing (nothing w) (names (nothing w)) (λ v j. shuts_named w.party w.txn.0 v) r.0 h in
    record {
      waiting = c.0;
      sum = let e = h.sum in let d = c.1 in let l = c.2 in omega arith;
      founds = let e = h.founds in omega arith;
      nothings = let e = h.nothings in let d = c.1 in let one = r.1 in omega arith;
    }
sum_event {f} s (is_waiting m w i q n d c) k h = unmoved (waiting w) refl refl refl refl h
sum_event {f} s (creates m t a) k h = unmoved (created f m.next_txn) refl refl refl refl h
sum_event {f} s (commits m t a) k h = unmoved (committed f) refl refl refl refl h
sum_event {f} s (aborts m t a) k h =
    ended h (aborted f)
    (λ v i. shuts_inside f.party f.txn v (owner_inside k (a.ends (abort-ends f.op t)) v i))
    refl refl refl refl
sum_event {f} s (renews m t a) k h = unmoved (renewed f) refl refl refl refl h
sum_event {f} s (notifies m t a) k h = unmoved (notified f m.next_registration) refl refl refl refl h
sum_event {f} s (ticks m t a) k h = unmoved ticked refl refl refl refl h
sum_event {f} s (excepts m t j i r) k h =
    ended h (exception t)
    (λ v l. shuts_inside t.party t.id.0 v (owner_inside k (t, i, refl, refl) v l)) refl refl refl refl
sum_event s (expires m k) j h =
    record { waiting = h.waiting; sum = h.sum; founds = h.founds; nothings = h.nothings }
sum_event s (rings m c g i l) k h = unmoved (rung c g) refl refl refl refl h

-- ---- of every list of frames

-- what the statement says besides the waiting list's own entries
record Counted (log : List Logged) (m : Model) : Type 0 where
  pub balances : Balances (tally_of log) m
  pub founds : said is_found_kind log ≡ count is_found_kind (fates log)
  pub nothings : said is_nothing_kind log ≡ count is_nothing_kind (fates log)

counted : (is : List Input) → Counted (runs empty is).log (made is)
unfolding none
counted is =
    let log = (runs empty is).log in
    let start : Stands empty none = record { waiting = refl; sum = refl; founds = refl; nothings = refl } in
    let s = made_keep sums Stands (λ f m n hs r e k h. sum_event r e k h) none start is in
    let a = reads-asked log none in
    let f = reads-closed is_found_kind refl log none in
    let g = reads-closed is_nothing_kind refl log none in
    let c = reads-closed by_txn refl log none in
    let i = reads-told is_found_kind log none in
    let j = reads-told is_nothing_kind log none in
    let x = s.founds in
    let y = s.nothings in
    record {
      balances = let e = s.sum in omega arith;
      founds = omega arith;
      nothings = omega arith;
    }

pub every_list : WaitingListFollows
unfolding WaitingListFollows ConsequencesFollow
every_list S d1 d2 =
    record {
      none_available = λ log t made. ((every_consequence S d1 d2).settled log t made).none_available;
      balances = λ log t made. (has log t made).balances;
      founds = λ log t made. (has log t made).founds;
      nothings = λ log t made. (has log t made).nothings;
    }
  where
    has : EveryState S (λ log t. Counted log (S.view t))
    has log t made =
        let d = determined-run S d1 d2 made in
        let k = of_log the_rules rules_follow Counted counted log d.0 d.1 in
        let s = tally_of log in
        let same = ap (λ (m : Model). length m.waits) (sym (twins S d1 d2 made d.1).same) in
        record {
          balances = k.balances ∙ ap (λ n. s.found + s.nothing + s.closed + n) same;
          founds = k.founds;
          nothings = k.nothings;
        }
