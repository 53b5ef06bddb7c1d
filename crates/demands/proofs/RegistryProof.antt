-- The registrations are what frames and records tell, with their totals.
use Prim.Native.Nat.{ℕ, ◌+◌, ◌≤◌, ◌<◌}
use mathlib.Core.Bool.{Bool, true, false, cond, not, ◌&&◌, true≢false}
use mathlib.Core.Logic.{◌⊎◌, inl, inr, ⊎_elim}
use mathlib.Core.Path.{◌≡◌, refl, sym, ap, ap₂, ◌∙◌, subst, subst⁻¹}
use mathlib.Core.List.Memᴰ
use mathlib.Core.List.{List, [], ◌∷◌, ◌++◌, map, map-append, Memᴰ}
use mathlib.Core.List.{append-nil}
use native.Mathlib.Omega.{arith}
use borrow.Author.Tests.{eqb-true, eq-eqb, ne_eqb, not-true}
use lib.Dec.{eqb}
use lib.ListN.{length-map}
use Rattle.rules.specs.declared.Entry.{Entry}
use Rattle.rules.specs.declared.Record.{Record}
use Rattle.rules.specs.declared.Registration.{Registration}
use Rattle.rules.specs.Lists.{filterb, anyb, distinct, All}
use Rattle.rules.specs.Time.{reached}
use Rattle.rules.specs.Template.{matches}
use Rattle.rules.specs.State.{Model, empty}
use Rattle.rules.specs.Frame.{Frame, decode, is_write, is_look_up, is_commit}
use Rattle.rules.specs.Records.{written, found, nothing, waiting, created, committed, aborted, exception, ticked}
use Rattle.rules.specs.Records.{renewed, notified, rung, refused}
use Rattle.rules.specs.Write.{new_entry, stored}
use Rattle.rules.specs.Transactions.{create, no_txn, is_private_to, is_taken_by, released, commit, abort}
use Rattle.rules.specs.Renew.{renew}
use Rattle.rules.specs.Tick.{tick, unregistered, drop_ended}
use Rattle.rules.specs.Notify.{new_registration, notify, made_public, matching, with_total, hearing, heard_of}
use Rattle.rules.specs.SerialRun.{was_refused, serial_run, follow_log, Kept, Run, start, follow, note_look_up, left}
use Rattle.rules.specs.SerialRun.{kept_of}
use Rattle.rules.specs.SerialRun.{committed_in, numbers_of, Serial}
use Rattle.rules.specs.Sound.{Consistent, Lasting}
use Rattle.rules.proofs.ListLaws.{count, count-append, count_map, filter-append, filter_mem, mem_filter, mem_any}
use Rattle.rules.proofs.ListLaws.{all_false}
use Rattle.rules.proofs.DistinctLaws.{distinct_filter}
use Rattle.rules.proofs.NotifyLaws.{commit_public}
use Rattle.rules.proofs.BoolLaws.{cond_cases, and_left, and_right}
use Rattle.rules.proofs.LayoutLaws.{commit-ends}
use Rattle.rules.proofs.TimeLaws.{until_later}
use Rattle.sound.proofs.AllLaws.{all_none, all_cons, all_filter, all_map, filter_map}
use Rattle.sound.proofs.Consistent.{cover, unique-entry, live-above}
use Rattle.sound.proofs.Becomes.{kept-all}
use Rattle.sound.proofs.ConsistentProof.{consistent_event}
use Rattle.sound.proofs.Events.{Heard, asking, saying, Event, refuses, asks, writes, is_found, is_nothing, is_waiting}
use Rattle.sound.proofs.Events.{creates, commits, aborts, renews, notifies, ticks, excepts, expires, rings}
use Rattle.demands.proofs.ByEvents.{Reader, hears_all, reads-log, made_keep}
use Rattle.demands.proofs.SerialRunProof.{kept-distinct, serials, Linked, linked_event, linked, serial_of}
use Rattle.demands.specs.Registry.{published, Registered, Registry, hears_of, registers, as_registered, total_of}
use Rattle.demands.specs.Registry.{registered_by, registers_all, notes, keep_registry, registry_of, no_registry}
use Rattle.demands.specs.Registry.{RegisteredIn}
use Rattle.demands.specs.Machine.{Input}
use Rattle.demands.proofs.Runs.{runs, made}

-- ---- lists with the same members, each number once in either, count the same

abbrev number : Kept → ℕ
number k = k.number

count-within : (p : Kept → Bool) (xs ys : List Kept) → distinct (numbers_of xs) ≡ true
    → All (λ k. Memᴰ k ys) xs → count p xs ≤ count p ys
count-within p xs ys d h =
    omega (
      arith,
      length-map (filterb p xs) number,
      cover number (numbers_of (filterb p xs)) (filterb p ys) (distinct_filter number p xs d)
          (λ n i. let k = Memᴰ.of_map number (filterb p xs) i in
          let j = mem_filter p xs k.1 in
          mem_any (λ (x : Kept). eqb x.number n) (filter_mem p (h k.0 j.0) j.1) (eq-eqb _ n k.2)),
    )

-- ---- what a step makes public is what is new in the serial run's set

-- committed entries, as they are kept, whose numbers were not committed before
pub record Public (m n : Model) (es : List Entry) : Type 0 where
  pub once : distinct (numbers_of (map kept_of es)) ≡ true
  -- an entry that is committed now is made public, or was committed before
  pub new : (k : Kept) → Memᴰ k (committed_in n)
      → ((j : Kept) → Memᴰ j (committed_in m) → j.number ≡ k.number → ⊥) → Memᴰ k (map kept_of es)
  -- one that is made public is committed now, and was not before
  pub now : All (λ k. Memᴰ k (committed_in n)) (map kept_of es)
  pub not_before : (k j : Kept) → Memᴰ k (map kept_of es) → Memᴰ j (committed_in m) → j.number ≡ k.number → ⊥

module _ (f : Frame) (a : Record) (m n : Model) (r : Run) (es : List Entry) (s : Serial r m)
    (t : Serial (follow f a r) n)
    (h : Public m n es) where
  abbrev fresh : Kept → Bool
  fresh k = not (anyb (λ (j : Kept). eqb j.number k.number) (left r))

  published_in : All (λ k. Memᴰ k (map kept_of es)) (filterb fresh (left (follow f a r)))
  published_in k i =
      let q = mem_filter fresh (left (follow f a r)) i in
      h.new k ((t.same k).0 q.0)
      (λ j at e. true≢false (sym (mem_any (λ (x : Kept). eqb x.number k.number) ((s.same j).1 at) (eq-eqb _ _ e))
      ∙ not-true _ q.1))

  in_published : All (λ k. Memᴰ k (filterb fresh (left (follow f a r)))) (map kept_of es)
  in_published k i =
      filter_mem fresh ((t.same k).1 (h.now k i))
      (ap not (all_false (λ (x : Kept). eqb x.number k.number) (left r)
      (λ j at. ne_eqb j.number k.number (h.not_before k j i ((s.same j).0 at)))))

  published-count : (p : Kept → Bool) → count p (published f a r) ≡ count p (map kept_of es)
  unfolding published
  published-count p =
      let ks = filterb fresh (left (follow f a r)) in
      let less = count-within p ks (map kept_of es) (distinct_filter number fresh (left (follow f a r)) t.left_once)
      published_in in
      let more = count-within p (map kept_of es) ks h.once in_published in
      omega arith

  -- so the registrations hear of it
  heard-told : (g : Registered) → hearing es (as_registered g) ≡ as_registered (hears_of (published f a r) g)
  unfolding hearing matching total_of
  heard-told g =
      let p : Kept → Bool = λ k. matches g.mask g.fields k.fields in
      ap (λ n. with_total n (as_registered g))
      (omega (
        arith,
        count_map p kept_of es,
        published-count p,
        count-append p g.since (published f a r),
      ))

  all_told : (gs : List Registered)
      → map (hearing es) (map as_registered gs) ≡ map as_registered (map (hears_of (published f a r)) gs)
  all_told [] = refl
  all_told (g ∷ gs) = ap₂ {C = List Registration} (λ x xs. x ∷ xs) (heard-told g) (all_told gs)

-- ---- a write's, and a commit's

committed-stored : (f : Frame) (m : Model) → is_write f.op ≡ true
    → committed_in (stored m f) ≡ committed_in m ++ map kept_of (made_public m f)
unfolding committed_in stored made_public new_entry
committed-stored f m t = rw t (go (eqb f.lease_or_timeout 0) (eqb f.txn 0) refl)
  where
    new : Entry
    new = new_entry m f

    added : map kept_of (filterb (is_private_to 0) (m.entries ++ (new ∷ [])))
        ≡ map kept_of (filterb (is_private_to 0) m.entries) ++ map kept_of (filterb (is_private_to 0) (new ∷ []))
    added =
        ap (map kept_of) (filter-append (is_private_to 0) m.entries (new ∷ []))
        ∙ map-append kept_of (filterb (is_private_to 0) m.entries) (filterb (is_private_to 0) (new ∷ []))

    go : (b c : Bool) → is_private_to 0 new ≡ c
        → map kept_of (filterb (is_private_to 0) (cond b m.entries (m.entries ++ (new ∷ []))))
        ≡ map kept_of (filterb (is_private_to 0) m.entries) ++ map kept_of (cond (c && not b) (new ∷ []) [])
    go true true q = sym (append-nil _)
    go true false q = sym (append-nil _)
    go false true q = added ∙ rw q
    go false false q = added ∙ rw q

-- what is committed has a number below the next
committed-below : (m : Model) → Consistent m → All (λ k. k.number < m.next_entry) (committed_in m)
unfolding committed_in
committed-below m s =
    all_map (λ k. k.number < m.next_entry) kept_of (filterb (is_private_to 0) m.entries)
    (all_filter (is_private_to 0) m.entries (λ e i _. s.below e i))

written_next : (f : Frame) (m : Model) → is_write f.op ≡ true
    → All (λ k. k.number ≡ m.next_entry) (map kept_of (made_public m f))
unfolding made_public new_entry
written_next f m t =
    rw t (cond_cases (λ (es : List Entry). All (λ k. k.number ≡ m.next_entry) (map kept_of es))
    (eqb f.txn 0 && not (eqb f.lease_or_timeout 0)) (λ _. all_cons refl (all_none _)) (λ _. all_none _))

written_once : (f : Frame) (m : Model) → is_write f.op ≡ true
    → distinct (numbers_of (map kept_of (made_public m f))) ≡ true
unfolding made_public distinct
written_once f m t =
    rw t (cond_cases (λ (es : List Entry). distinct (numbers_of (map kept_of es)) ≡ true)
    (eqb f.txn 0 && not (eqb f.lease_or_timeout 0)) (λ _. refl) (λ _. refl))

write_public : (f : Frame) (m : Model) → is_write f.op ≡ true → Consistent m → Public m (stored m f) (made_public m f)
write_public f m t s =
    let all = committed-stored f m t in
    record {
      once = written_once f m t;
      new = λ k i none.
          ⊎_elim (λ j. absurd (none k j refl)) (λ j. j)
          (Memᴰ.append_cases (committed_in m) (subst (Memᴰ k) all i));
      now = λ k i. subst⁻¹ (Memᴰ k) all (Memᴰ.append_right (committed_in m) i);
      not_before = λ k j i at q.
          let next = written_next f m t k i in let old = committed-below m s j at in omega arith;
    }

module _ (f : Frame) (m : Model) (t : is_commit f.op ≡ true) (s : Consistent m) (live : 0 < f.txn) where
  abbrev own : Entry → Bool
  own e = is_private_to f.txn e && not (is_taken_by f.txn e)

  abbrev left_over : List Entry
  left_over = filterb (λ e. not (is_taken_by f.txn e)) m.entries

  -- an entry that a commit leaves is as it was, and committed, or the transaction's own
  was : (e : Entry) → is_private_to 0 (released m.txns f.txn e) ≡ true
      → (is_private_to f.txn e ≡ true) ⊎ (is_private_to 0 e ≡ true)
  unfolding released
  was e = go (is_private_to f.txn e) refl
    where
      go : (b : Bool) → is_private_to f.txn e ≡ b → eqb (cond b no_txn e.private_to).0 0 ≡ true
          → (b ≡ true) ⊎ (is_private_to 0 e ≡ true)
      go true q p = inl refl
      go false q p = inr p

  commit_new : (k : Kept) → Memᴰ k (committed_in (commit f.txn m))
      → ((j : Kept) → Memᴰ j (committed_in m) → j.number ≡ k.number → ⊥)
      → Memᴰ k (map kept_of (filterb own m.entries))
  unfolding committed_in commit released
  commit_new k i none =
      let x = Memᴰ.of_map kept_of (filterb (is_private_to 0) (map (released m.txns f.txn) left_over)) i in
      let y = mem_filter (is_private_to 0) (map (released m.txns f.txn) left_over) x.1 in
      let z = Memᴰ.of_map (released m.txns f.txn) left_over y.0 in
      let e = z.0 in
      let w = mem_filter (λ e. not (is_taken_by f.txn e)) m.entries z.1 in
      let same : kept_of e ≡ k = ap kept_of z.2 ∙ x.2 in
      ⊎_elim (λ o. Memᴰ.cast (sym same) (Memᴰ.map kept_of (filter_mem own w.0 (ap₂ (λ x y. x && y) o w.1))))
      (λ o. absurd (none (kept_of e) (Memᴰ.map kept_of (filter_mem (is_private_to 0) w.0 o))
      (ap (λ (j : Kept). j.number) same)))
      (was e (ap (is_private_to 0) z.2 ∙ y.1))

  commit_now : All (λ k. Memᴰ k (committed_in (commit f.txn m))) (map kept_of (filterb own m.entries))
  unfolding committed_in commit released
  commit_now =
      all_map (λ k. Memᴰ k (committed_in (commit f.txn m))) kept_of (filterb own m.entries)
      (all_filter own m.entries (λ e i o.
      let mine = and_left (is_private_to f.txn e) _ o in
      let rest = and_right (is_private_to f.txn e) _ o in
      Memᴰ.map kept_of (filter_mem (is_private_to 0)
      (Memᴰ.map (released m.txns f.txn) (filter_mem (λ e. not (is_taken_by f.txn e)) i rest)) (rw mine))))

  commit-not_before : (k j : Kept) → Memᴰ k (map kept_of (filterb own m.entries)) → Memᴰ j (committed_in m)
      → j.number ≡ k.number → ⊥
  unfolding committed_in
  commit-not_before k j i at q =
      let x = Memᴰ.of_map kept_of (filterb own m.entries) i in
      let xs = mem_filter own m.entries x.1 in
      let y = Memᴰ.of_map kept_of (filterb (is_private_to 0) m.entries) at in
      let ys = mem_filter (is_private_to 0) m.entries y.1 in
      let number : y.0.id.0 ≡ x.0.id.0 =
      ap (λ (n : Kept). n.number) y.2 ∙ q ∙ sym (ap (λ (n : Kept). n.number) x.2) in
      let one = unique-entry s ys.0 xs.0 number in
      let none = eqb-true y.0.private_to.0 0 ys.1 in
      let its = eqb-true x.0.private_to.0 f.txn (and_left (is_private_to f.txn x.0) _ xs.1) in
      let same = ap (λ (e : Entry). e.private_to.0) one in
      omega arith

  commit_public_in : Public m (commit f.txn m) (made_public m f)
  commit_public_in =
      subst⁻¹ (Public m (commit f.txn m)) (commit_public m f t) (record {
        once = kept-distinct own m s.ordered;
        new = commit_new;
        now = commit_now;
        not_before = commit-not_before;
      })

-- that registrations hear of it changes nothing of it
public_heard : {m n : Model} {es : List Entry} → Public m n es → Public m (heard_of es n) es
unfolding committed_in heard_of
public_heard h = record { once = h.once; new = h.new; now = h.now; not_before = h.not_before }

-- what a write or a commit leaves is not past its lease
lasts_on : {f : Frame} {m n : Model} {hs : List Heard} → Event f m hs n → Consistent m → Lasting m
    → All (λ e. reached m.clock e.end ≡ false) n.entries
unfolding new_entry
lasts_on {f} {m} e s h =
    kept-all (λ k. reached m.clock k.end ≡ false) e s.ordered
    (λ t a d. until_later m.clock f.lease_or_timeout d) (λ t a d _ _. until_later m.clock f.lease_or_timeout
    d) h

-- ---- each event is registered as it happens

registries : Reader Registry
registries =
    record {
      asked = λ f b. record { run = serials.asked f b.run; next = b.next; live = b.live; right = b.right };
      reads = registers;
    }

abbrev Tells : Model → Registry → Type 0
Tells m b = Linked m b.run × RegisteredIn b m

-- a record that registers nobody
still : {b : Registry} {m : Model} → RegisteredIn b m → (b.right && true) ≡ true
still h = rw h.right

-- what the own record of a write or a commit makes public
heard-live : (f : Frame) (a : Record) (m n : Model) (b : Registry) (es : List Entry) → Event f m (saying a ∷ []) n
    → n.clock ≡ m.clock → Consistent m → Lasting m → Tells m b → Linked n (follow f a b.run) → Public m n es
    → map (hearing es) m.registrations ≡ map as_registered (map (hears_of (published f a b.run)) b.live)
heard-live f a m n b es e same s lasts (l, h) k p =
    ap (map (hearing es)) h.live
    ∙ all_told f a m n b.run es (serial_of m b.run s.ordered lasts l.tracks)
    (serial_of n (follow f a b.run) (consistent_event e s).ordered
    (subst⁻¹ (λ c. All (λ x. reached c x.end ≡ false) n.entries) same (lasts_on e s lasts)) k.tracks) p
    b.live

registered_event : {f : Frame} {m n : Model} {hs : List Heard} (b : Registry) → Event f m hs n → Consistent m
    → Tells m b
    → RegisteredIn (hears_all registries f hs b) n
unfolding registries serials registers written stored heard_of found nothing waiting created create committed commit
    aborted abort exception renewed renew notified notify new_registration rung ticked tick unregistered refused
    drop_ended total_of
registered_event {f} b (refuses m bs area q) s (l, h) = record { right = still h; next = h.next; live = h.live }
registered_event {f} b (asks m t a) s (l, h) = record { right = h.right; next = h.next; live = h.live }
registered_event {f} b (writes m t a) s (l, h) =
    record {
      right = still h;
      next = h.next;
      live =
          heard-live f (written f m.next_entry) m (heard_of (made_public m f) (stored m f)) b (made_public m f)
          (writes m t a) refl s a.lasting (l, h) (linked_event b.run (writes m t a) s l)
          (public_heard (write_public f m t s));
    }
registered_event {f} b (is_found m w x ws o i av) s (l, h) = record { right = still h; next = h.next; live = h.live }
registered_event {f} b (is_nothing m w ws o c) s (l, h) = record { right = still h; next = h.next; live = h.live }
registered_event {f} b (is_waiting m w i q n d c) s (l, h) = record { right = still h; next = h.next; live = h.live }
registered_event {f} b (creates m t a) s (l, h) = record { right = still h; next = h.next; live = h.live }
registered_event {f} b (commits m t a) s (l, h) =
    let own = a.ends (commit-ends f.op t) in
    record {
      right = still h;
      next = h.next;
      live =
          heard-live f (committed f) m (heard_of (made_public m f) (commit f.txn m)) b (made_public m f)
          (commits m t a) refl s a.lasting (l, h) (linked_event b.run (commits m t a) s l)
          (public_heard (commit_public_in f m t s (live-above s (own.0, own.1, own.2))));
    }
registered_event {f} b (aborts m t a) s (l, h) = record { right = still h; next = h.next; live = h.live }
registered_event {f} b (renews m t a) s (l, h) = record { right = still h; next = h.next; live = h.live }
registered_event {f} b (notifies m t a) s (l, h) =
    record {
      right = ap₂ (λ x y. x && y) h.right (eq-eqb m.next_registration b.next (sym h.next));
      next = ap (λ n. n + 1) h.next;
      live =
          ap₂ (λ (gs : List Registration) (c : ℕ). gs ++ (as_registered
          (registered_by f (notified f m.next_registration) c) ∷ []))
          h.live (sym l.tracks.same-clock)
          ∙ sym (map-append as_registered b.live _);
    }
registered_event {f} b (ticks m t a) s (l, h) =
    record {
      right = still h;
      next = h.next;
      live =
          ap₂ (λ (gs : List Registration) (c : ℕ). filterb (λ g. not (reached (c + 1) g.end)) gs) h.live
          (sym l.tracks.same-clock)
          ∙ filter_map (λ (g : Registration). not (reached (b.run.clock + 1) g.end)) as_registered b.live;
    }
registered_event {f} b (excepts m t k i r) s (l, h) = record { right = still h; next = h.next; live = h.live }
registered_event {f} b (expires m k) s (l, h) = record { right = h.right; next = h.next; live = h.live }
registered_event {f} b (rings m c g i q) s (l, h) = record { right = still h; next = h.next; live = h.live }

-- the serial run goes on beside it
run-heard : (f : Frame) (hs : List Heard) (b : Registry)
    → (hears_all registries f hs b).run ≡ hears_all serials f hs b.run
unfolding registries serials registers
run-heard f [] b = refl
run-heard f (asking ∷ hs) b = run-heard f hs _
run-heard f (saying a ∷ hs) b = run-heard f hs (registers f a b)

tells_event : {f : Frame} {m n : Model} {hs : List Heard} (b : Registry) → Event f m hs n → Consistent m → Tells m b
    → Tells n (hears_all registries f hs b)
tells_event {f} {m} {n} {hs} b e s h =
    (subst⁻¹ (Linked n) (run-heard f hs b) (linked_event b.run e s h.0), registered_event b e s h)

noted : (f : Frame) (rs : List Record) (b : Registry)
    → notes f rs b ≡ cond (is_look_up f.op && not (was_refused rs)) (registries.asked f b) b
unfolding notes note_look_up registries serials
noted f rs b = go (is_look_up f.op && not (was_refused rs))
  where
    go : (c : Bool)
        → record { run = cond c (serials.asked f b.run) b.run; next = b.next; live = b.live; right = b.right }
        ≡ cond c (registries.asked f b) b
    go true = refl
    go false = refl

begun : Linked empty start
unfolding runs serial_run follow_log
begun = linked []

pub registry_demand : (is : List Input) → RegisteredIn (registry_of (runs empty is).log) (made is)
unfolding registries registry_of keep_registry registers_all
registry_demand is =
    subst (λ c. RegisteredIn c (made is))
    (reads-log registries registers_all keep_registry (λ f b. refl) (λ f a rs b. refl) (λ b. refl)
    (λ l ls b. ap (λ c. keep_registry ls (registers_all (decode l.frame) l.records c))
    (noted (decode l.frame) l.records b)) (runs empty is).log no_registry)
    (made_keep registries Tells (λ f m n hs b. tells_event b) no_registry
    (begun, record { right = refl; next = refl; live = refl }) is).1
