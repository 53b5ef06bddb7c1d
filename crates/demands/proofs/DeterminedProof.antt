-- A space that meets demands 1 and 2 answers as the rules do; so demand 3 follows.
use Prim.Native.Nat.{ℕ, suc, ◌*◌, ◌<◌}
use mathlib.Core.Bool.{Bool, true, false, ◌&&◌, ◌||◌}
use mathlib.Core.Logic.{◌⊎◌, inl, inr, ⊎_elim}
use mathlib.Core.Path.{◌≡◌, refl, sym, ap, ap₂, ◌∙◌, subst, subst⁻¹}
use mathlib.Core.Option.{Option, none, some}
use mathlib.Core.List.Memᴰ
use mathlib.Core.List.{List, [], ◌∷◌, ◌++◌, map, Memᴰ}
use native.Mathlib.Omega.{arith}
use borrow.Author.Tests.{eqb-true, eqb-false, leb-false}
use lib.Dec.{eqb}
use lib.ListN.{length, take, drop, take-append-drop}
use Rattle.rules.specs.declared.Entry.{Entry}
use Rattle.rules.specs.declared.Record.{Record}
use Rattle.rules.specs.declared.Txn.{Txn}
use Rattle.rules.specs.declared.TxnId.{TxnId}
use Rattle.rules.specs.Lists.{filterb, findb, anyb, distinct}
use Rattle.rules.specs.State.{Model, empty}
use Rattle.rules.specs.Holds.{live_txn}
use Rattle.rules.specs.Numbers.{max_txns}
use Rattle.rules.specs.Frame.{entry_named, decode, is_create}
use Rattle.rules.specs.Records.{refused, answer_bytes, area_after}
use Rattle.rules.specs.Transactions.{is_private_to}
use Rattle.rules.specs.Renew.{has_number, stored_entry}
use Rattle.rules.specs.Refusals.{is_missing, no_entry, is_by, not_writer, is_free, not_free, party_waits, not_live}
use Rattle.rules.specs.Refusals.{is_of}
use Rattle.rules.specs.Refusals.{not_own, too_late, entries_full, txns_full, registrations_full, no_number, refusal}
use Rattle.rules.specs.Step.{Outcome, step, accepted}
use Rattle.rules.specs.Allowed.{Answered}
use Rattle.rules.specs.SerialRun.{Logged, Kept, kept_of, Run, committed_in, numbers_of}
use Rattle.rules.specs.Sound.{Ascending, TxnsOk, Consistent}
use Rattle.rules.proofs.ListLaws.{any_find, find_some, any_none, none_any, some_any}
use Rattle.rules.proofs.BoolLaws.{option_cases, bool_cases, and_false_right}
use Rattle.rules.proofs.RefusalLaws.{clear}
use Rattle.rules.proofs.DistinctLaws.{distinct_filter}
use Rattle.demands.specs.Machine.{Handed, Machine, answered_by, the_rules}
use Rattle.demands.specs.History.{logged, History, begun, handed, handed_of, answers_of, Made, inputs_of}
use Rattle.demands.specs.Judged.{Judged}
use Rattle.demands.specs.Book.{LiveTold, writer_of, Book, Booked}
use Rattle.demands.specs.Registry.{Registry, RegisteredIn}
use Rattle.demands.specs.Told.{Told, AsTold, Explained}
use Rattle.demands.specs.Demands.{Demand1, Demand2, Demand3}
use Rattle.demands.specs.Consequences.{Consequences}
use Rattle.demands.specs.Determined.{ruled, Determined, ThirdFollows}
use Rattle.sound.proofs.AscendingLaws.{ascend_unique}
use Rattle.sound.proofs.OrderLaws.{InOrder}
use Rattle.demands.proofs.ByEvents.{consistent, orderly}
use Rattle.demands.proofs.ByRule.{rules_follow, run_of}
use Rattle.demands.proofs.Follows.{follows_2, follows_3, follow_on}
use Rattle.demands.proofs.JudgedProof.{number_is, refused_record, no_record}
use Rattle.sound.proofs.OwnPartLaws.{step-accepted}
use Rattle.demands.proofs.SaidProof.{said_given}
use Rattle.demands.proofs.Twins.{no_more, same_test, cond_both, Matched, matched_filter, matched_map, SameLive}
use Rattle.demands.proofs.Twins.{live_ind, matched_any, other_live, zero_same, Like, Twins, Roomy, said_twins}

-- ---- two spaces with the same log are twins

-- transactions told alike, each with a slot of its own
ok-told : (k : ℕ) (ts us : List Txn) → SameLive ts us → TxnsOk k us → Ascending (map (λ (t : Txn). t.id.0) us)
    → ((t u : Txn) → Memᴰ t ts → Memᴰ u ts → t.slot ≡ u.slot → t ≡ u) → TxnsOk k ts
ok-told k ts us s ok ascend slots =
    let numbers : map (λ (t : Txn). t.id.0) ts ≡ map (λ (t : Txn). t.id.0) us =
    live_ind (λ ts us. map (λ (t : Txn). t.id.0) ts ≡ map (λ (t : Txn). t.id.0) us) refl
    (λ x y ts us q below. ap₂ {C = List ℕ} (λ (l : LiveTold) ns. l.number ∷ ns) q below) ts us s in
    record {
      unique = λ a b i j. ascend_unique (λ (t : Txn). t.id.0) (subst⁻¹ Ascending numbers ascend) i j;
      slot = slots;
      above = λ t i.
          let u = other_live ts us s t i in subst (λ (l : LiveTold). 0 < l.number) u.2 (ok.above u.0 u.1);
      below = λ t i.
          let u = other_live ts us s t i in subst (λ (l : LiveTold). l.number < k) u.2 (ok.below u.0 u.1);
    }

-- an entry told
same-taker : (a b : ℕ) → ((t : ℕ) → 0 < t → a ≡ t → b ≡ t) → ((t : ℕ) → 0 < t → b ≡ t → a ≡ t) → a ≡ b
same-taker a b f g =
    ⊎_elim (λ p. ⊎_elim (λ q. eqb-true a 0 p ∙ sym (eqb-true b 0 q))
    (λ q. let z = eqb-false b 0 q in g b (omega arith) refl) (bool_cases (eqb b 0)))
    (λ p. let z = eqb-false a 0 p in sym (f a (omega arith) refl)) (bool_cases (eqb a 0))

module _ {b : Book} {r : Run} {m n : Model} (p : Booked b m) (q : Booked b n) (x : Explained r m)
    (y : Explained r n) where
  like_told : (e u : Entry) → Memᴰ e m.entries → Memᴰ u n.entries → (z : Told) → AsTold m.txns e z
      → AsTold n.txns u z → Like m.txns n.txns e u
  like_told e u i j z v w =
      let same = v.kept ∙ sym w.kept in
      record {
        kept = same;
        owner = ap (λ (k : ℕ). record { 0 = k }) (v.private_to ∙ sym w.private_to);
        taker =
            ap (λ (k : ℕ). record { 0 = k })
            (same-taker e.taken_by.0 u.taken_by.0 (λ t k h. (w.taken_by t k).1 ((v.taken_by t k).0 h))
            (λ t k h. (v.taken_by t k).1 ((w.taken_by t k).0 h)));
        writer =
            p.writers e i ∙ ap (λ (k : Kept). writer_of k.number b.writers) same ∙ sym (q.writers u j);
        held = record {
          bits = λ a c k l h.
              same_test _ _ (λ t. (w.readers c l).1
              (subst (λ (d : ℕ). Memᴰ d z.readers) h ((v.readers a k).0 t)))
              (λ t. (v.readers a k).1 (subst⁻¹ (λ (d : ℕ). Memᴰ d z.readers) h ((w.readers c l).0 t)));
          live = λ k. x.holders_live e k i;
          live' = λ k. y.holders_live u k j;
        };
      }

  entries-told : Matched (Like m.txns n.txns) m.entries n.entries
  entries-told =
      record {
        forth = λ e i.
            let z = x.stored_told e i in let u = y.told_stored z.0 z.1 in
            (u.0, u.1, like_told e u.0 i u.1 z.0 z.2 u.2);
        back = λ u j.
            let z = y.stored_told u j in let e = x.told_stored z.0 z.1 in
            (e.0, e.1, like_told e.0 u e.1 j z.0 e.2 z.2);
      }

twins_told : {b : Book} {r : Run} {g : Registry} (m n : Model) → Booked b m → Booked b n → Explained r m → Explained r n
    → RegisteredIn g m → RegisteredIn g n → Consistent n → Twins m n
twins_told m n p q x y k l s =
    let live = sym p.live ∙ q.live in
    let clock = sym p.clock ∙ q.clock in
    let entry = sym p.next_entry_lem ∙ q.next_entry_lem in
    let txn = sym p.next_txn_lem ∙ q.next_txn_lem in
    let waits = sym p.waiting ∙ q.waiting in
    let registration = sym k.next ∙ l.next in
    let registrations = k.live ∙ sym l.live in
    record {
      same = cc;
      peers = record {
        counted = subst⁻¹ (λ k. 0 < k) txn s.positive;
        ok =
            subst⁻¹ (λ k. TxnsOk k m.txns) txn
            (ok-told n.next_txn m.txns n.txns live s.txns_ok s.ordered.txns x.own_slot);
        ok' = subst⁻¹ (λ k. TxnsOk k n.txns) txn s.txns_ok;
        live = live;
      };
      entries = entries-told p q x y;
    }

-- ---- twins refuse alike

-- the entry that a frame names, if it is stored, is the same but for its readers' bits
named_same : (m n : Model) (k : ℕ) → Twins m n
    → ((x y : Entry) → Memᴰ x n.entries → Memᴰ y n.entries → x.id.0 ≡ y.id.0 → x ≡ y)
    → (T : Option Entry → Bool)
    → ((e x : Entry) → Like m.txns n.txns e x → T (some e) ≡ T (some x))
    → T (stored_entry k m.entries) ≡ T (stored_entry k n.entries)
unfolding stored_entry
named_same m n k t unique T same = go (option_cases (findb (has_number k) m.entries))
  where
    any : anyb (has_number k) m.entries ≡ anyb (has_number k) n.entries
    any =
        matched_any t.entries (has_number k) (has_number k)
        (λ e x l. ap (λ (j : Kept). eqb j.number k) l.kept)

    go : (findb (has_number k) m.entries ≡ none) ⊎ ((e : Entry) × (findb (has_number k) m.entries ≡ some e))
        → T (findb (has_number k) m.entries) ≡ T (findb (has_number k) n.entries)
    go (inl q) =
        ap T (q ∙ sym (any_none (has_number k) n.entries (sym any ∙ none_any (has_number k) m.entries q)))
    go (inr (e, q)) =
        let found = find_some (has_number k) m.entries q in
        let x = t.entries.forth e found.0 in
        let y = any_find (has_number k) n.entries (sym any ∙ some_any (has_number k) m.entries q) in
        let other = find_some (has_number k) n.entries y.1 in
        let number = sym (ap (λ (j : Kept). j.number) x.2.kept) ∙ eqb-true _ k found.1 in
        let one = unique x.0 y.0 x.1 other.0 (number ∙ sym (eqb-true _ k other.1)) in
        ap T q ∙ same e x.0 x.2 ∙ ap (λ z. T (some z)) one ∙ ap T (sym y.1)

refusal-same : (m n : Model) (bs : List ℕ) (area : ℕ) → Twins m n → length m.entries ≡ length n.entries
    → ((x y : Entry) → Memᴰ x n.entries → Memᴰ y n.entries → x.id.0 ≡ y.id.0 → x ≡ y)
    → refusal m bs area ≡ refusal n bs area
unfolding refusal no_entry not_writer not_free party_waits not_live not_own live_txn too_late entries_full txns_full
    registrations_full no_number
refusal-same m n bs area t entries unique =
    let f = decode bs in
    let waits : m.waits ≡ n.waits = ap (λ k. k.waits) t.same in
    let clock : m.clock ≡ n.clock = ap (λ k. k.clock) t.same in
    let next_entry_lem : m.next_entry ≡ n.next_entry = ap (λ k. k.next_entry) t.same in
    let next_txn_lem : m.next_txn ≡ n.next_txn = ap (λ k. k.next_txn) t.same in
    let next-registration : m.next_registration ≡ n.next_registration = ap (λ k. k.next_registration) t.same in
    let registrations : m.registrations ≡ n.registrations = ap (λ k. k.registrations) t.same in
    let live = t.peers.live in
    let any =
    live_ind (λ ts us. anyb (λ (x : Txn). eqb x.id.0 f.txn) ts ≡ anyb (λ (x : Txn). eqb x.id.0 f.txn) us)
    refl
    (λ x y ts us q below. ap₂ (λ (l : LiveTold) b. eqb l.number f.txn || b) q below) m.txns n.txns live in
    let own =
    live_ind (λ ts us. is_of f.party (live_txn f.txn ts) ≡ is_of f.party (live_txn f.txn us)) refl
    (λ x y ts us q below. cond_both (λ (a b : Option Txn). is_of f.party a ≡ is_of f.party b)
    (eqb x.id.0 f.txn) (eqb y.id.0 f.txn)
    (ap (λ (l : LiveTold). eqb l.number f.txn) q) (ap (λ (l : LiveTold). eqb l.party f.party) q) below)
    m.txns n.txns live in
    let txns =
    live_ind (λ ts us. length ts ≡ length us) refl (λ x y ts us q below. ap suc below) m.txns n.txns live in
    let named = named_same m n (entry_named f) t unique in
    let missing = named is_missing (λ e x l. refl) in
    let by = named (is_by f.party) (λ e x l. ap (λ w. eqb w f.party) l.writer) in
    let free = named is_free (λ e x l. free_same l) in
    rw (
      waits,
      missing,
      by,
      free,
      any,
      own,
      clock,
      entries,
      txns,
      registrations,
      next_entry_lem,
      next_txn_lem,
      next-registration,
    )
  where
    free_same : {e x : Entry} → Like m.txns n.txns e x → is_free (some e) ≡ is_free (some x)
    free_same l =
        ap₂ (λ a b. a && b) (ap₂ (λ (a b : TxnId). eqb a.0 0 && eqb b.0 0) l.owner l.taker)
        (zero_same t.peers.live l.held)

-- ---- twins answer alike

rules_2 : Demand2 the_rules
rules_2 = follows_2 the_rules rules_follow

pub rules_follow_on : Consequences the_rules
rules_follow_on = follow_on the_rules rules_follow

-- what is answered, by its parts
answer_is : (a : Answered) (o : Outcome) (area : List ℕ) → a.records ≡ o.records → a.count ≡ length a.records
    → a.number ≡ o.number → a.area ≡ area_after a.records area → a ≡ answered_by o area
unfolding answered_by
answer_is a o area r c n b =
    ap₂ (λ (k : ℕ) (bytes : List ℕ). record { records = a.records; count = k; number = a.number; area = bytes }) c b
    ∙ ap₂ (λ (rs : List Record) (k : ℕ).
    record { records = rs; count = length rs; number = k; area = area_after rs area }) r n

area_is : (rs : List Record) (area bytes : List ℕ) → take (28 * length rs) bytes ≡ answer_bytes rs
    → drop (28 * length rs) bytes ≡ drop (28 * length rs) area → bytes ≡ area_after rs area
unfolding area_after
area_is rs area bytes p q = sym (take-append-drop (28 * length rs) bytes) ∙ ap₂ (λ (x y : List ℕ). x ++ y) p q

-- one step more
history_snoc : (S : Machine) {s t u : S.State} {log : List Logged} {h : Handed} {a : Answered} → History S s log t
    → S.Steps t h u a → History S s (log ++ (logged h a ∷ [])) u
history_snoc S {h = h} {a = a} (begun s) p = handed h a p (begun _)
history_snoc S (handed h a q rest) p = handed h a q (history_snoc S rest p)

pub made_snoc : (S : Machine) {log : List Logged} {t u : S.State} {h : Handed} {a : Answered} → Made S log t
    → S.Steps t h u a → Made S (log ++ (logged h a ∷ [])) u
made_snoc S (s, e, r) p = (s, e, history_snoc S r p)

-- a create that is not refused finds room
roomy : (m : Model) (bs : List ℕ) (area : ℕ) → refusal m bs area ≡ 0 → Roomy (decode bs) m
unfolding txns_full
roomy m bs area z t =
    leb-false max_txns (length m.txns)
    (and_false_right (is_create (decode bs).op) _ t (clear m bs area z).txn-room)

module _ (S : Machine) (d1 : Demand1 S) (d2 : Demand2 S) where
  module _ {log : List Logged} {t : S.State} {n : Model} (made : Made S log t) (run : Made the_rules log n) where
    pub twins : Twins (S.view t) n
    twins =
        let r = run_of the_rules rules_follow run in
        twins_told (S.view t) n (d2.booked log t made) (rules_2.booked log n run) (d2.told log t made)
        (rules_2.told log n run) (d2.registered log t made) (rules_2.registered log n run)
        (subst⁻¹ Consistent r.model (consistent (inputs_of run)))

    same_length : length (S.view t).entries ≡ length n.entries
    same_length =
        let h = twins.entries in
        let a =
        no_more (S.view t).entries n.entries (λ e x l. ap (λ (k : Kept). k.number) l.kept)
        (d2.told log t made).once h.forth in
        let b =
        no_more n.entries (S.view t).entries (λ x e l. sym (ap (λ (k : Kept). k.number) l.kept))
        (rules_2.told log n run).once h.back in
        omega arith

    stands : InOrder n
    stands = subst⁻¹ InOrder (run_of the_rules rules_follow run).model (orderly (inputs_of run))

    same-refusal : (h : Handed)
        → refusal (S.view t) h.frame (length h.area) ≡ refusal n h.frame (length h.area)
    same-refusal h = refusal-same (S.view t) n h.frame (length h.area) twins same_length
        (λ x y i j. ascend_unique (λ (e : Entry). e.id.0) stands.0 i j)

    module _ {h : Handed} {u : S.State} {a : Answered} (p : S.Steps t h u a) where
      abbrev code : ℕ
      code = refusal n h.frame (length h.area)

      judged : Judged S t h u a
      judged = d1.judged log t u h a made p

      number : a.number ≡ code
      number = judged.first_row ∙ same-refusal h

      -- the rules write the same records
      same-records : a.records ≡ (step n h.frame (length h.area)).records
      unfolding accepted
      same-records = go (bool_cases (eqb code 0)) (bool_cases (eqb code 1))
        where
          go : (eqb code 0 ≡ true) ⊎ (eqb code 0 ≡ false) → (eqb code 1 ≡ true) ⊎ (eqb code 1 ≡ false)
              → a.records ≡ (step n h.frame (length h.area)).records
          go (inl z) k =
              let none = eqb-true _ 0 z in
              let here = same-refusal h ∙ none in
              let room : (k : Model) → refusal k h.frame (length h.area) ≡ 0 → Roomy (decode h.frame) k =
              λ k. roomy k h.frame (length h.area) in
              sym (said_given (said_twins twins (d2.told log t made).once (rules_2.told log n run).once
              (room _ here)
              (room n none) (d2.said log t u h a made p here)) stands)
              ∙ ap (λ (o : Outcome). o.records) (sym (step-accepted n h.frame (length h.area) none))
          go (inr z) (inl k) =
              let one = eqb-true _ 1 k in
              judged.no_record (number ∙ one) ∙ sym (no_record n h.frame (length h.area) one)
          go (inr z) (inr k) =
              let Some-number = eqb-false _ 0 z in
              let not-one = eqb-false _ 1 k in
              judged.one_record (λ e. Some-number (sym number ∙ e)) (λ e. not-one (sym number ∙ e))
              ∙ ap (λ i. refused h.frame i ∷ []) number
              ∙ sym (refused_record n h.frame (length h.area) Some-number not-one)

      next : the_rules.Steps n h (step n h.frame (length h.area)).model a
      next =
          record {
            space = refl;
            answered =
                answer_is a (step n h.frame (length h.area)) h.area same-records
                (d2.counted log t u h a made p) (number ∙ sym (number_is n h.frame (length h.area)))
                (area_is a.records h.area a.area judged.written judged.kept);
          }

  -- a history goes on in the rules as it does in the space, and every answer is theirs
  pub goes_on : {s t : S.State} {before log : List Logged} {n : Model} → Made S before s → Made the_rules before n
      → (r : History S s log t) → (m : Model) × History the_rules n log m × (answers_of r ≡ ruled n (handed_of r))
  unfolding answers_of handed_of ruled
  goes_on {n = n} made run (begun s) = (n, begun n, refl)
  goes_on made run (handed h a p rest) =
      let o = next made run p in
      let r = goes_on (made_snoc S made p) (made_snoc the_rules run o) rest in
      (r.0, handed h a o r.1, ap₂ {C = List Answered} (λ x l. x ∷ l) o.answered r.2)

  pub determined-run : {log : List Logged} {t : S.State} → Made S log t → (m : Model) × Made the_rules log m
  determined-run (s, e, r) = let q = goes_on (s, e, begun s) (empty, refl, begun empty) r in (q.0, (empty, refl, q.1))

  -- a step of the space beside one of the rules
  pub record Beside (log : List Logged) (t : S.State) (h : Handed) (u : S.State) (a : Answered) : Type 0 where
    pub before : Model
    pub after : Model
    pub run : Made the_rules log before
    pub steps : the_rules.Steps before h after a
    pub here : Twins (S.view t) before
    pub there : Twins (S.view u) after
    pub carried : refusal (S.view t) h.frame (length h.area) ≡ refusal before h.frame (length h.area)

  pub beside : {log : List Logged} {t u : S.State} {h : Handed} {a : Answered} → Made S log t → S.Steps t h u a
      → Beside log t h u a
  beside {h = h} made p =
      let r = determined-run made in
      let o = next made r.1 p in
      record {
        before = r.0;
        after = _;
        run = r.1;
        steps = o;
        here = twins made r.1;
        there = twins (made_snoc S made p) (made_snoc the_rules r.1 o);
        carried = same-refusal made r.1 h;
      }

pub every_history : Determined
unfolding Determined
every_history S d1 d2 log t (s, e, r) = (goes_on S d1 d2 (s, e, begun s) (empty, refl, begun empty) r).2

-- ---- what is committed in twins is the same

committed-numbers : (es : List Entry) → numbers_of (map kept_of es) ≡ map (λ (e : Entry). e.id.0) es
committed-numbers [] = refl
committed-numbers (e ∷ es) = ap {B = List ℕ} (λ l. e.id.0 ∷ l) (committed-numbers es)

committed-same : {m n : Model} → Twins m n → Matched ◌≡◌ (committed_in m) (committed_in n)
unfolding committed_in
committed-same t =
    matched_map (matched_filter t.entries (is_private_to 0) (is_private_to 0)
    (λ e x l. ap (λ (o : TxnId). eqb o.0 0) l.owner))
    ◌≡◌ kept_of kept_of (λ e x l. l.kept)

pub every_serial : ThirdFollows
unfolding ThirdFollows Demand3 committed_in
every_serial S d1 d2 log t made =
    let d = determined-run S d1 d2 made in
    let same = committed-same (twins S d1 d2 made d.1) in
    let s = follows_3 the_rules rules_follow log d.0 d.1 in
    record {
      succeeds = s.succeeds;
      taken_once = s.taken_once;
      left_once = s.left_once;
      committed_once =
          ap distinct (committed-numbers (filterb (is_private_to 0) (S.view t).entries))
          ∙ distinct_filter (λ (e : Entry). e.id.0) (is_private_to 0) (S.view t).entries (d2.told log t made).once;
      same = λ k. (
        (λ i. let x = same.back k ((s.same k).0 i) in Memᴰ.cast (sym x.2) x.1),
        λ i. let x = same.forth k i in (s.same k).1 (Memᴰ.cast x.2 x.1),
      );
    }
