-- Demand 3: the serial run follows the space, event by event.
use Prim.Native.Nat.{ℕ, ◌+◌, ◌≤◌, ◌<◌}
use mathlib.Core.Bool.{Bool, true, false, cond, not, ◌&&◌, ◌||◌, and-false, true≢false}
use mathlib.Core.Logic.{inl, inr, ⊎_elim}
use mathlib.Core.Path.{◌≡◌, refl, sym, ap, ◌∙◌, subst, subst⁻¹, fun_ext}
use mathlib.Core.List.Memᴰ
use mathlib.Core.List.{List, [], ◌∷◌, ◌++◌, map, map-append, append-nil, Memᴰ}
use native.Mathlib.Omega.{arith}
use borrow.Author.Tests.{eqb-true, eq-eqb, ne_eqb, not-true}
use lib.Dec.{eqb}
use lib.ListN.{length}
use Rattle.rules.specs.declared.Entry.{Entry}
use Rattle.rules.specs.declared.Record.{Record}
use Rattle.rules.specs.declared.Txn.{Txn}
use Rattle.rules.specs.declared.LookUp.{LookUp}
use Rattle.rules.specs.Lists.{filterb, anyb, distinct, All}
use Rattle.rules.specs.Time.{until, reached}
use Rattle.rules.specs.State.{Model, empty, with_clock}
use Rattle.rules.specs.Frame.{Frame, entry_named, is_take}
use Rattle.rules.specs.Records.{written, found, nothing, waiting, created, committed, aborted, exception, ticked}
use Rattle.rules.specs.Records.{renewed, notified, rung, refused}
use Rattle.rules.specs.Write.{new_entry, stored}
use Rattle.rules.specs.Holds.{available}
use Rattle.rules.specs.LookUp.{look_up_of, hand_out}
use Rattle.rules.specs.Transactions.{create, commit, abort, is_private_to}
use Rattle.rules.specs.Renew.{renew_entries, renew}
use Rattle.rules.specs.Notify.{notify, heard_of}
use Rattle.rules.specs.Tick.{tick, unregistered, drop_ended}
use Rattle.rules.specs.SerialRun.{Kept, Operation, adds, finds, Pending, Run, start, is_kept, with_pending, failed}
use Rattle.rules.specs.SerialRun.{taking, carry_out, carry_out_all, perform, list_of, thrown_away, last_takes, advanced}
use Rattle.rules.specs.SerialRun.{follow, follow_all, note_look_up, follow_log, serial_run, left, kept_of, committed_in}
use Rattle.rules.specs.SerialRun.{numbers_of, Serial, written_by, renewing}
use Rattle.rules.specs.Sound.{Ascending, ByNumber, Ok, Consistent, Lasting}
use Rattle.rules.proofs.BoolLaws.{cond_cases}
use Rattle.rules.proofs.LayoutLaws.{look_up-not-abort, commit-ends, abort-ends, write-names}
use Rattle.rules.proofs.ListLaws.{filter-append, filter-filter, filter_same, mem_filter, filter_mem, any_mem}
use Rattle.rules.proofs.ListLaws.{any-filter, all_false, count, count-append, count_cons, count-filter, count_map}
use Rattle.rules.proofs.ListLaws.{count_mem, mem_any}
use Rattle.demands.specs.Machine.{Input}
use Rattle.demands.proofs.Runs.{runs, made}
use Rattle.sound.proofs.AllLaws.{all_none, all_snoc, all_filter, all_map, out_mem, out_all}
use Rattle.sound.proofs.AscendingLaws.{ascend_filter, ascending-distinct}
use Rattle.sound.proofs.HoldLaws.{equal_or, eqb_cases, not_so}
use Rattle.sound.proofs.Events.{Heard, Event, refuses, asks, writes, is_found, is_nothing, is_waiting, creates, commits}
use Rattle.sound.proofs.Events.{aborts, renews, notifies, ticks, excepts, expires, rings, Renewable}
use Rattle.sound.proofs.Consistent.{live-above}
use Rattle.demands.proofs.ByEvents.{Reader, hears_all, reads-log, made_keep, consistent, lasting}
use Rattle.demands.proofs.SerialRunOps.{after, after_all, CanOne, Can, carry_out_can, carry_out_all_can, is_number}
use Rattle.demands.proofs.SerialRunOps.{total, adds_it, total-carry_out, total-carry_out_all}
use Rattle.demands.proofs.SerialRunAgree.{Agree, AgreeIn, put, Performs, agree_now, agree_put}
use Rattle.demands.proofs.SerialRunWrite.{performs_write, agree_create}
use Rattle.demands.proofs.SerialRunFound.{performs_found, can_now}
use Rattle.demands.proofs.SerialRunRenew.{only_one, turned, agree_renew}
use Rattle.demands.proofs.SerialRunEnd.{agree_tick, agree_expire, without, agree_abort, agree_commit}

-- what carrying out leaves alone
record Alone (r q : Run) : Type 0 where
  clock : q.clock ≡ r.clock
  pending : q.pending ≡ r.pending
  asked : q.asked ≡ r.asked

carry_out-alone : (o : Operation) (r : Run) → Alone r (carry_out o r)
unfolding carry_out taking failed
carry_out-alone (adds k) r = record { clock = refl; pending = refl; asked = refl }
carry_out-alone (finds b n x) r =
    cond_cases (Alone r) (anyb (is_kept n x) r.kept)
    (λ _. cond_cases (Alone r) b (λ _. record { clock = refl; pending = refl; asked = refl })
    (λ _. record { clock = refl; pending = refl; asked = refl }))
    (λ _. record { clock = refl; pending = refl; asked = refl })

carry_out_all-alone : (os : List Operation) (r : Run) → Alone r (carry_out_all os r)
unfolding carry_out_all
carry_out_all-alone [] r = record { clock = refl; pending = refl; asked = refl }
carry_out_all-alone (o ∷ os) r =
    let one = carry_out-alone o r in
    let rest = carry_out_all-alone os (carry_out o r) in
    let same = rest.pending ∙ one.pending in
    record { clock = rest.clock ∙ one.clock; pending = same; asked = rest.asked ∙ one.asked }

-- the transactions' lists
abbrev pub listed : List Pending → ℕ → List Operation
listed ps t = map (λ p. p.operation) (filterb (λ p. eqb p.txn t) ps)

listed_put : (ps : List Pending) (t : ℕ) (o : Operation) (u : ℕ)
    → listed (ps ++ (record { txn = t; operation = o } ∷ [])) u ≡ put t o (listed ps) u
listed_put ps t o u =
    let its : Pending → Bool = λ p. eqb p.txn u in
    ap (map (λ (p : Pending). p.operation)) (filter-append its ps (record { txn = t; operation = o } ∷ []))
    ∙ map-append (λ (p : Pending). p.operation) (filterb its ps) _
    ∙ ⊎_elim (λ q. rw (eq-eqb u t q, eq-eqb t u (sym q)))
    (λ d. rw (ne_eqb u t d, ne_eqb t u (λ q. d (sym q)), append-nil)) (equal_or u t)

listed_without : (ps : List Pending) (t u : ℕ)
    → listed (filterb (λ p. not (eqb p.txn t)) ps) u ≡ without t (listed ps) u
listed_without ps t u =
    ap (map (λ (p : Pending). p.operation))
    (filter-filter (λ (p : Pending). eqb p.txn u) (λ (p : Pending). not (eqb p.txn t)) ps)
    ∙ eqb_cases (λ (os : List Operation). map (λ (p : Pending). p.operation) (filterb both ps) ≡ os) u t
    (λ q. ap (map (λ (p : Pending). p.operation)) (any-filter both ps (all_false both ps (λ p _. clash p.txn q))))
    (λ d. ap (map (λ (p : Pending). p.operation)) (filter_same both (λ p. eqb p.txn u) (λ p. other p.txn d) ps))
  where
    both : Pending → Bool
    both p = not (eqb p.txn t) && eqb p.txn u

    clash : (c : ℕ) → u ≡ t → (not (eqb c t) && eqb c u) ≡ false
    clash c q = ⊎_elim (λ e. rw (eq-eqb c t e)) (λ e. rw (ne_eqb c u (λ r. e (r ∙ q)), and-false)) (equal_or c t)

    other : (c : ℕ) → (u ≡ t → ⊥) → (not (eqb c t) && eqb c u) ≡ eqb c u
    other c d =
        ⊎_elim (λ e. rw (eq-eqb c t e) (sym (ne_eqb c u (λ r. d (sym r ∙ e))))) (λ e. rw (ne_eqb c t e)) (equal_or c t)

-- how often a number is in the set, taken, or to be added
abbrev pub pending_adds : ℕ → Pending → Bool
pending_adds n p = adds_it n p.operation

abbrev pub uses : ℕ → Run → ℕ
uses n r = total n r + count (pending_adds n) r.pending

-- the run follows a space with this clock, entries, transactions and next number
pub record Tracks (clock : ℕ) (es : List Entry) (ts : List Txn) (next : ℕ) (r : Run) : Type 0 where
  pub same-clock : r.clock ≡ clock
  pub ok : r.succeeds ≡ true
  pub once : (n : ℕ) → uses n r ≤ 1
  pub fresh : (n : ℕ) → next ≤ n → uses n r ≤ 0
  pub agree : Agree clock es ts next r.kept (listed r.pending)

abbrev pub TracksIn : Model → Run → Type 0
TracksIn m r = Tracks m.clock m.entries m.txns m.next_entry r

-- the space changes, and the run does not
with_agree : {clock : ℕ} {es es' : List Entry} {ts ts' : List Txn} {next : ℕ} {r : Run} → Tracks clock es ts next r
    → Agree clock es' ts' next r.kept (listed r.pending) → Tracks clock es' ts' next r
with_agree h a = record { same-clock = h.same-clock; ok = h.ok; once = h.once; fresh = h.fresh; agree = a }

-- an operation is performed
module _ {clock : ℕ} {es es' : List Entry} {ts : List Txn} {next next' : ℕ} (r : Run) (t : ℕ) (o : Operation)
    (h : Tracks clock es ts next r)
    (p : Performs clock es es' ts next next' r.kept (listed r.pending) t o) (above : All (λ x. 0 < x.id.0) ts)
    (can : t ≡ 0 → CanOne o r.kept) (once : (c : ℕ) → uses c r + count (adds_it c) (o ∷ []) ≤ 1)
    (fresh : (c : ℕ) → next' ≤ c → uses c r + count (adds_it c) (o ∷ []) ≤ 0) where
  now : t ≡ 0 → Tracks clock es' ts next' (carry_out o r)
  now z =
      let alone = carry_out-alone o r in
      let did = carry_out_can o r (can z) in
      let same : (i : ℕ) → count (pending_adds i) (carry_out o r).pending ≡ count (pending_adds i) r.pending =
      λ i. ap (count (pending_adds i)) alone.pending in
      record {
        same-clock = alone.clock ∙ h.same-clock;
        ok = did.1 ∙ h.ok;
        once = λ i. omega (arith, total-carry_out i o r (can z), once i, same i);
        fresh = λ i l. omega (arith, total-carry_out i o r (can z), fresh i l, same i);
        agree =
            subst⁻¹ (λ ls. Agree clock es' ts next' ls (listed (carry_out o r).pending)) did.0
            (subst⁻¹ (λ ps. Agree clock es' ts next' (after o r.kept) (listed ps)) alone.pending
            (agree_now h.agree p above z));
      }

  in_list : (t ≡ 0 → ⊥)
      → Tracks clock es' ts next' (with_pending (r.pending ++ (record { txn = t; operation = o } ∷ [])) r)
  in_list d =
      let q : Pending = record { txn = t; operation = o } in
      let more : (i : ℕ) → uses i (with_pending (r.pending ++ (q ∷ [])) r) ≡ uses i r + count (adds_it i) (o ∷ []) =
      λ i. let one = count_cons (pending_adds i) q [] in
      omega (arith, count-append (pending_adds i) r.pending (q ∷ []), count_cons (adds_it i) o []) in
      record {
        same-clock = h.same-clock;
        ok = h.ok;
        once = λ i. omega (arith, once i, more i);
        fresh = λ i l. omega (arith, fresh i l, more i);
        agree =
            subst⁻¹ (Agree clock es' ts next' r.kept) (fun_ext (listed_put r.pending t o))
            (agree_put h.agree p above d);
      }

  performed : Tracks clock es' ts next' (perform t o r)
  unfolding perform
  performed = eqb_cases (Tracks clock es' ts next') t 0 now in_list

-- a transaction's list goes, thrown away or carried out
module _ {clock : ℕ} {es : List Entry} {ts : List Txn} {next : ℕ} (r : Run) (t : ℕ)
    (h : Tracks clock es ts next r) where
  abbrev its : Pending → Bool
  its p = eqb p.txn t

  abbrev others : List Pending
  others = filterb (λ (p : Pending). not (its p)) r.pending

  thrown : {es' : List Entry} {ts' : List Txn} → Agree clock es' ts' next r.kept (without t (listed r.pending))
      → Tracks clock es' ts' next (thrown_away t r)
  unfolding thrown_away
  thrown {es'} {ts'} a =
      record {
        same-clock = h.same-clock;
        ok = h.ok;
        once = λ i. omega (arith, h.once i, count-filter (pending_adds i) its r.pending);
        fresh = λ i l. omega (arith, h.fresh i l, count-filter (pending_adds i) its r.pending);
        agree = subst⁻¹ (Agree clock es' ts' next r.kept) (fun_ext (listed_without r.pending t)) a;
      }

  carried_out : {es' : List Entry} {ts' : List Txn} → Can (listed r.pending t) r.kept
      → Agree clock es' ts' next (after_all (listed r.pending t) r.kept) (without t (listed r.pending))
      → Tracks clock es' ts' next (carry_out_all (list_of t r) (thrown_away t r))
  unfolding list_of thrown_away
  carried_out {es'} {ts'} c a =
      let os = listed r.pending t in
      let q = with_pending others r in
      let did = carry_out_all_can os q c in
      let alone = carry_out_all-alone os q in
      let less : (i : ℕ) → uses i (carry_out_all os q) ≤ uses i r =
      λ i. let same = ap (count (pending_adds i)) alone.pending in
      let moved = count_map (adds_it i) (λ (p : Pending). p.operation) (filterb its r.pending) in
      omega (arith, total-carry_out_all i os q c, count-filter (pending_adds i) its r.pending) in
      record {
        same-clock = alone.clock ∙ h.same-clock;
        ok = did.1 ∙ h.ok;
        once = λ i. omega (arith, less i, h.once i);
        fresh = λ i l. omega (arith, less i, h.fresh i l);
        agree =
            subst⁻¹ (λ ls. Agree clock es' ts' next ls (listed (carry_out_all os q).pending)) did.0
            (subst⁻¹ (λ ps. Agree clock es' ts' next (after_all os r.kept) (listed ps)) alone.pending
            (subst⁻¹ (Agree clock es' ts' next (after_all os r.kept)) (fun_ext (listed_without r.pending t)) a));
      }

-- a written record
wrote : (f : Frame) {m : Model} {r : Run} → Consistent m → Ok f.txn m.txns → TracksIn m r
    → TracksIn (stored m f) (follow f (written f m.next_entry) r)
unfolding follow written stored new_entry
wrote f {m} {r} s l h =
    let it : ℕ → Operation = λ c. adds (written_by f (written f m.next_entry) c) in
    subst⁻¹ (λ c. TracksIn (stored m f) (perform f.txn (it c) r)) h.same-clock
    (performed r f.txn (it m.clock) h (performs_write f s h.agree l) s.txns_ok.above (λ _. tt)
    (λ c. eqb_cases (λ (ks : List Operation). uses c r + length ks ≤ 1) m.next_entry c
    (λ q. let n = h.fresh c (omega arith) in omega arith) (λ _. let n = h.once c in omega arith))
    (λ c k. let n = h.fresh c (omega arith) in
    eqb_cases (λ (ks : List Operation). uses c r + length ks ≤ 0) m.next_entry c (λ q. absurd (omega arith))
    (λ _. omega arith)))

-- a found record
took : (f : Frame) {m : Model} {r : Run} (w : LookUp) (e : Entry) → Consistent m → Memᴰ w m.waits
    → Memᴰ e m.entries
    → available m.txns w e ≡ true → last_takes w.party r.asked ≡ w.takes → TracksIn m r
    → Tracks m.clock (hand_out m.txns w e m.entries) m.txns m.next_entry (follow f (found w e) r)
unfolding follow found
took f {m} {r} w e s j i av k h =
    let Q : Run → Type 0 = Tracks m.clock (hand_out m.txns w e m.entries) m.txns m.next_entry in
    subst⁻¹ (λ b. Q (perform w.txn.0 (finds b e.id.0 e.fields) r)) k
    (performed r w.txn.0 (finds w.takes e.id.0 e.fields) h
    (performs_found s h.agree w e i av (⊎_elim inl (λ x. inr (x.0, x.1, x.2)) (s.owned w j))) s.txns_ok.above
    (can_now s h.agree w e i av) (λ c. omega (arith, h.once c)) (λ c l. omega (arith, h.fresh c l)))

-- a renewed record
renewed_too : (f : Frame) {m : Model} {r : Run} → Consistent m → Renewable f m → TracksIn m r
    → Tracks m.clock (renew_entries m f) m.txns m.next_entry (follow f (renewed f) r)
unfolding follow renewed renewing
renewed_too f {m} {r} s x h =
    subst⁻¹ (λ c. Tracks m.clock (renew_entries m f) m.txns m.next_entry
    (renewing n (until c f.lease_or_timeout) r)) h.same-clock (rw there (record {
      same-clock = h.same-clock;
      ok = h.ok;
      once = λ i. omega (arith, h.once i, as_often i);
      fresh = λ i l. omega (arith, h.fresh i l, as_often i);
      agree = agree_renew f m s x h.agree alone;
    }))
  where
    n : ℕ
    n = entry_named f

    its : Memᴰ (kept_of x.entry) r.kept
    its = h.agree.set.stored-kept x.entry x.stored x.committed

    there : anyb (λ (k : Kept). eqb k.number (entry_named f)) r.kept ≡ true
    there = mem_any (λ (k : Kept). eqb k.number (entry_named f)) its (eq-eqb _ _ x.number)

    alone : (k : Kept) → Memᴰ k r.kept → k.number ≡ entry_named f → k ≡ kept_of x.entry
    alone k i q =
        only_one (is_number (entry_named f)) (let l = h.once (entry_named f) in omega arith) i (eq-eqb _ _ q) its
        (eq-eqb _ _ x.number)

    as_often : (i : ℕ) → count (is_number i) (map (turned f m s x) r.kept) ≡ count (is_number i) r.kept
    as_often i =
        count_map (is_number i) (turned f m s x) r.kept
        ∙ ap length (filter_same (λ k. is_number i (turned f m s x k)) (is_number i)
        (λ k. cond_cases (λ (j : Kept). is_number i j ≡ is_number i k) (eqb k.number (entry_named f)) (λ _. refl)
        (λ _. refl)) r.kept)

-- what the run knows of the look-ups: following a record changes nothing of it
follow-asked : (f : Frame) (a : Record) (r : Run) → (follow f a r).asked ≡ r.asked
unfolding follow perform thrown_away advanced renewing failed
follow-asked f a r =
    cond_cases Q (eqb a.kind 1) (λ _. performs _)
    (λ _. cond_cases Q (eqb a.kind 2) (λ _. performs _)
    (λ _. cond_cases Q (eqb a.kind 6)
    (λ _. (carry_out_all-alone (list_of a.txn.0 r) (thrown_away a.txn.0 r)).asked)
    (λ _. cond_cases Q (eqb a.kind 7 || eqb a.kind 8) (λ _. refl)
    (λ _. cond_cases Q (eqb a.kind 9) (λ _. refl)
    (λ _. cond_cases Q (eqb a.kind 12) (λ _. renews) (λ _. refl))))))
  where
    Q : Run → Type 0
    Q q = q.asked ≡ r.asked

    performs : (o : Operation) → (perform a.txn.0 o r).asked ≡ r.asked
    performs o = cond_cases Q (eqb a.txn.0 0) (λ _. (carry_out-alone o r).asked) (λ _. refl)

    renews : (renewing a.entry.0 (until r.clock f.lease_or_timeout) r).asked ≡ r.asked
    renews = cond_cases Q (anyb (λ (k : Kept). eqb k.number a.entry.0) r.kept) (λ _. refl) (λ _. refl)

abbrev Knows : List LookUp → Run → Type 0
Knows ws r = All (λ w. last_takes w.party r.asked ≡ w.takes) ws

still-knows : (f : Frame) (a : Record) (ws : List LookUp) (r : Run) → Knows ws r → Knows ws (follow f a r)
still-knows f a ws r k w i = ap (last_takes w.party) (follow-asked f a r) ∙ k w i

pub record Linked (m : Model) (r : Run) : Type 0 where
  pub tracks : TracksIn m r
  pub knows : Knows m.waits r

unfoldable pub serials : Reader Run
serials =
    record {
      asked = λ f r.
          record {
            clock = r.clock;
            kept = r.kept;
            pending = r.pending;
            asked = record { party = f.party; takes = is_take f.op } ∷ r.asked;
            taken = r.taken;
            succeeds = r.succeeds;
          };
      reads = follow;
    }

-- each event is followed
pub linked_event : {f : Frame} {m n : Model} {hs : List Heard} (r : Run) → Event f m hs n → Consistent m → Linked m r
    → Linked n (hears_all serials f hs r)
unfolding serials stored heard_of create commit abort renew notify tick unregistered drop_ended look_up_of follow
    nothing
    waiting created committed aborted exception notified rung ticked refused advanced last_takes thrown_away
linked_event {f} r (refuses m bs area q) s h = h
linked_event {f} r (asks m t a) s h =
    record {
      tracks = let k = h.tracks in
          record { same-clock = k.same-clock; ok = k.ok; once = k.once; fresh = k.fresh; agree = k.agree };
      knows = all_snoc m.waits
          (λ w i. ap (λ b. cond b (is_take f.op) (last_takes w.party r.asked))
          (ne_eqb f.party w.party (λ q. a.free (look_up-not-abort f.op t) w i (sym q))) ∙ h.knows w i)
          (ap (λ b. cond b (is_take f.op) (last_takes f.party r.asked)) (eq-eqb f.party f.party refl));
    }
linked_event {f} r (writes m t a) s h =
    record {
      tracks = wrote f s (⊎_elim inl (λ x. inr (x.0, x.1, x.2)) (a.inside (write-names f.op t))) h.tracks;
      knows = still-knows f (written f m.next_entry) m.waits r h.knows;
    }
linked_event {f} r (is_found m w e ws o i av) s h =
    record {
      tracks = took f w e s (out_mem o) i av (h.knows w (out_mem o)) h.tracks;
      knows = still-knows f (found w e) ws r (out_all o h.knows);
    }
linked_event {f} r (is_nothing m w ws o c) s h = record { tracks = h.tracks; knows = out_all o h.knows }
linked_event {f} r (is_waiting m w i q n d c) s h = h
linked_event {f} r (creates m t a) s h =
    record { tracks = with_agree h.tracks (agree_create f s h.tracks.agree t a); knows = h.knows }
linked_event {f} r (commits m t a) s h =
    let y = a.ends (commit-ends f.op t) in
    record {
      tracks = subst (λ u. TracksIn (commit u m) (carry_out_all (list_of u r) (thrown_away u r))) y.2
          (carried_out r y.0.id.0 h.tracks (h.tracks.agree.can y.0 y.1)
          (agree_commit s h.tracks.agree y.0 y.1));
      knows = still-knows f (committed f) m.waits r h.knows;
    }
linked_event {f} r (aborts m t a) s h =
    let y = a.ends (abort-ends f.op t) in
    record {
      tracks =
          thrown r f.txn h.tracks (agree_abort s h.tracks.agree f.txn (live-above s (y.0, y.1, y.2)));
      knows = all_filter (λ w. not (eqb w.txn.0 f.txn)) m.waits (λ w i _. h.knows w i);
    }
linked_event {f} r (renews m t a) s h =
    record {
      tracks = renewed_too f s (a.renewable t) h.tracks;
      knows = still-knows f (renewed f) m.waits r h.knows;
    }
linked_event {f} r (notifies m t a) s h = record { tracks = h.tracks; knows = h.knows }
linked_event {f} r (ticks m t a) s h =
    let k = h.tracks in
    let later = ap (λ c. c + 1) k.same-clock in
    let on : TracksIn (with_clock (m.clock + 1) m) (advanced r) =
    record { same-clock = later; ok = k.ok; once = k.once; fresh = k.fresh; agree = agree_tick m k.agree } in
    record { tracks = on; knows = h.knows }
linked_event {f} r (excepts m t k i q) s h =
    record {
      tracks = thrown r t.id.0 h.tracks (agree_abort s h.tracks.agree t.id.0 (s.txns_ok.above t i));
      knows = all_filter (λ w. not (eqb w.txn.0 t.id.0)) m.waits (λ w j _. h.knows w j);
    }
linked_event {f} r (expires m k) s h =
    record { tracks = with_agree h.tracks (agree_expire m h.tracks.agree); knows = h.knows }
linked_event {f} r (rings m c g i l) s h = h

pub linked : (is : List Input) → Linked (made is) (serial_run (runs empty is).log)
unfolding serials serial_run follow_log follow_all note_look_up
linked is =
    subst (Linked (made is))
    (reads-log serials follow_all follow_log (λ f r. refl) (λ f a rs r. refl) (λ r. refl) (λ l ls r. refl)
    (runs empty is).log start) (made_keep serials Linked (λ f m n hs r. linked_event r) start
    (record { tracks = none_tracks; knows = all_none _ }) is)
  where
    none_agree : AgreeIn empty [] (λ t. [])
    none_agree =
        record {
          set = record { kept-stored = all_none _; stored-kept = all_none _ };
          own = all_none _;
          ties = all_none _;
          can = all_none _;
          apart = λ x y i. absurd (Memᴰ.not-nil i);
          known = λ t. all_none _;
          live = λ t. all_none _;
        }

    none_tracks : TracksIn empty start
    none_tracks =
        record { same-clock = refl; ok = refl; once = λ n. omega arith; fresh = λ n l. omega arith; agree = none_agree }

-- a list in which each number stands at most once
distinct_of : (ns : List ℕ) → ((n : ℕ) → count (eqb n) ns ≤ 1) → distinct ns ≡ true
unfolding distinct
distinct_of [] h = refl
distinct_of (n ∷ ns) h = rw (not_so _ alone) (distinct_of ns (λ i. omega (arith, h i, count_cons (eqb i) n ns)))
  where
    alone : anyb (eqb n) ns ≡ true → ⊥
    alone e =
        let r = any_mem (eqb n) ns e in
        let one = count_mem (eqb n) r.1 r.2 in
        let both : count (eqb n) (n ∷ ns) ≡ 1 + count (eqb n) ns =
        count_cons (eqb n) n ns ∙ ap (λ b. cond b 1 0 + count (eqb n) ns) (eq-eqb n n refl) in
        omega (arith, h n)

-- the numbers of entries as they are kept
pub kept-numbers : (es : List Entry) → numbers_of (map kept_of es) ≡ map (λ (e : Entry). e.id.0) es
kept-numbers [] = refl
kept-numbers (e ∷ es) = rw (kept-numbers es)

pub kept-distinct : (p : Entry → Bool) (m : Model) → ByNumber m
    → distinct (numbers_of (map kept_of (filterb p m.entries))) ≡ true
kept-distinct p m b =
    ascending-distinct _ (subst⁻¹ Ascending (kept-numbers (filterb p m.entries))
    (ascend_filter (λ (e : Entry). e.id.0) p m.entries b.entries))

committed-distinct : (m : Model) → ByNumber m → distinct (numbers_of (committed_in m)) ≡ true
unfolding committed_in
committed-distinct m b = kept-distinct (is_private_to 0) m b

-- where the run follows a space in which nothing is past its lease
pub serial_of : (m : Model) (r : Run) → ByNumber m → Lasting m → TracksIn m r → Serial r m
unfolding left committed_in
serial_of m r ordered lasting h =
    record {
      succeeds = h.ok;
      taken_once = distinct_of r.taken (λ n. omega (arith, h.once n));
      left_once = distinct_of (numbers_of (filterb lasts r.kept)) (λ n. omega (arith, h.once n, kept-once n));
      committed_once = committed-distinct m ordered;
      same = λ k. (forth k, back k);
    }
  where
    lasts : Kept → Bool
    lasts k = not (reached r.clock k.end)

    kept-once : (n : ℕ) → count (eqb n) (numbers_of (filterb lasts r.kept)) ≤ count (is_number n) r.kept
    kept-once n =
        let ks = filterb lasts r.kept in
        let turned = filter_same (λ (k : Kept). eqb n k.number) (is_number n) (λ k. flipped n k.number) ks in
        let same = ap length turned in
        omega (arith, count_map (eqb n) (λ (k : Kept). k.number) ks, count-filter (is_number n) lasts r.kept)
      where
        flipped : (a b : ℕ) → eqb a b ≡ eqb b a
        flipped a b =
            ⊎_elim (λ q. eq-eqb a b q ∙ sym (eq-eqb b a (sym q)))
            (λ d. ne_eqb a b d ∙ sym (ne_eqb b a (λ q. d (sym q)))) (equal_or a b)

    forth : (k : Kept) → Memᴰ k (filterb lasts r.kept)
        → Memᴰ k (map kept_of (filterb (is_private_to 0) m.entries))
    forth k i =
        let q = mem_filter lasts r.kept i in
        ⊎_elim (λ e. absurd (true≢false
        (sym e ∙ ap (λ c. reached c k.end) (sym h.same-clock) ∙ not-true _ q.1))) (λ s. Memᴰ.cast (sym s.3)
        (Memᴰ.map kept_of (filter_mem (is_private_to 0) s.1 (eq-eqb s.0.private_to.0 0 s.2))))
        (h.agree.set.kept-stored k q.0)

    back : All (λ k. Memᴰ k (filterb lasts r.kept)) (map kept_of (filterb (is_private_to 0) m.entries))
    back =
        all_map (λ k. Memᴰ k (filterb lasts r.kept)) kept_of (filterb (is_private_to 0) m.entries)
        (all_filter (is_private_to 0) m.entries
        (λ e i q. filter_mem lasts (h.agree.set.stored-kept e i (eqb-true e.private_to.0 0 q))
        (ap not (ap (λ c. reached c e.end) h.same-clock ∙ lasting e i))))

pub serializes : (is : List Input) → Serial (serial_run (runs empty is).log) (made is)
serializes is =
    serial_of (made is) (serial_run (runs empty is).log) (consistent is).ordered (lasting is) (linked is).tracks
