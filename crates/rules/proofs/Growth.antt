-- How far a step can make each table grow, and how many records it writes.
use Prim.Native.Nat.{ℕ, ◌+◌, ◌≤◌}
use mathlib.Core.Bool.{Bool, true, false, cond, not, ◌&&◌, ◌||◌, true≢false}
use mathlib.Core.Path.{◌≡◌, refl, sym, ◌∙◌}
use mathlib.Core.Option.{Option, none, some}
use mathlib.Core.List.{List, [], ◌∷◌, ◌++◌, map, Memᴰ}
use native.Mathlib.Nat.{le_trans}
use native.Mathlib.Omega.{arith}
use borrow.Author.Tests.{eq-eqb}
use lib.Dec.{eqb}
use lib.ListN.{length, length-append, length-map}
use Rattle.rules.specs.declared.Entry.{Entry}
use Rattle.rules.specs.declared.LookUp.{LookUp}
use Rattle.rules.specs.declared.Txn.{Txn}
use Rattle.rules.specs.Lists.{filterb, anyb}
use Rattle.rules.specs.Time.{reached, until}
use Rattle.rules.specs.State.{Model, with_entries, with_txns, with_waits}
use Rattle.rules.specs.Holds.{oldest}
use Rattle.rules.specs.Frame.{Frame, is_operation, is_write, is_look_up, is_create, is_notify, is_tick, serves}
use Rattle.rules.specs.Frame.{entry_named}
use Rattle.rules.specs.Records.{exception, nothing}
use Rattle.rules.specs.Done.{Carried, Done, quiet}
use Rattle.rules.specs.Write.{new_entry, stored, write}
use Rattle.rules.specs.LookUp.{look_up_of, gives_nothing, answer, answer_found, answer_nothing, answer_waiting, look_up}
use Rattle.rules.specs.Transactions.{create, is_private_to, is_taken_by, released, without_txn, commit, abort}
use Rattle.rules.specs.Renew.{has_number, renewed_to, renew_entries, renew}
use Rattle.rules.specs.Notify.{notify, made_public, hearing, heard_of}
use Rattle.rules.specs.Service.{service}
use Rattle.rules.specs.Tick.{tick, unregistered, ended_txns, abort_all, drop_ended, lapsed}
use Rattle.rules.specs.Closing.{is_over, close_waits}
use Rattle.rules.specs.Step.{write_frame, commit_frame, abort_frame, own_part, finish}
use Rattle.rules.proofs.BoolLaws.{cond_cases}
use Rattle.rules.proofs.ListLaws.{count, count_cons, length-filter, length_split, filter-all, filter-filter}
use Rattle.rules.proofs.ListLaws.{filter_same, mem_any, filter_mem}
use Rattle.rules.proofs.StepCases.{own_cases}
use Rattle.rules.proofs.ServeLength.{hand_out-length, serve-length}

abbrev pub one : Bool → ℕ
one b = cond b 1 0

-- a write that stores an entry: "Lease 0: .. the entry is never stored"
abbrev pub stores : Frame → Bool
stores f = is_write f.op && not (eqb f.lease_or_timeout 0)

-- what a frame's own part adds to each table, at most
pub record Grown (f : Frame) (m n : Model) : Type 0 where
  pub entries : length n.entries ≤ length m.entries + one (stores f)
  pub txns : length n.txns ≤ length m.txns + one (is_create f.op)
  pub waits : length n.waits ≤ length m.waits + one (is_look_up f.op)
  pub registrations : length n.registrations ≤ length m.registrations + one (is_notify f.op)

-- no table has grown
pub record Shrunk (m n : Model) : Type 0 where
  pub entries : length n.entries ≤ length m.entries
  pub txns : length n.txns ≤ length m.txns
  pub waits : length n.waits ≤ length m.waits
  pub registrations : length n.registrations ≤ length m.registrations

shrunk_grown : (f : Frame) {m n : Model} → Shrunk m n → Grown f m n
shrunk_grown f s =
    record {
      entries = omega (arith, s.entries);
      txns = omega (arith, s.txns);
      waits = omega (arith, s.waits);
      registrations = omega (arith, s.registrations);
    }

-- ---- the own part
heard_grown : (es : List Entry) {f : Frame} {m n : Model} → Grown f m n → Grown f m (heard_of es n)
unfolding heard_of
heard_grown es {f} {m} {n} g =
    record {
      entries = g.entries;
      txns = g.txns;
      waits = g.waits;
      registrations = omega (arith, length-map n.registrations (hearing es), g.registrations);
    }

written : (m : Model) (f : Frame) → is_write f.op ≡ true → Grown f m (stored m f)
unfolding stored
written m f t =
    record {
      entries =
          cond_cases (λ (es : List Entry). length es ≤ length m.entries + one (stores f))
          (eqb f.lease_or_timeout 0) (λ _. omega arith)
          (λ q. rw (t, q) (omega (arith, length-append m.entries (new_entry m f ∷ []))));
      txns = omega arith;
      waits = omega arith;
      registrations = omega arith;
    }

answered : (m : Model) (f : Frame) → is_look_up f.op ≡ true → (o : Option Entry)
    → Grown f m (answer m (look_up_of m f) f.lease_or_timeout o).model
unfolding answer answer_found answer_nothing answer_waiting
answered m f t (some e) =
    record {
      entries = omega (arith, hand_out-length m.txns (look_up_of m f) e m.entries);
      txns = omega arith;
      waits = omega arith;
      registrations = omega arith;
    }
answered m f t none =
    cond_cases (λ (c : Carried). Grown f m c.model) (gives_nothing m (look_up_of m f) f.lease_or_timeout)
    (λ _. record { entries = omega arith; txns = omega arith; waits = omega arith; registrations = omega arith })
    (λ _. record {
      entries = omega arith;
      txns = omega arith;
      waits = rw t (omega (arith, length-append m.waits (look_up_of m f ∷ [])));
      registrations = omega arith;
    })

created : (m : Model) (f : Frame) → is_create f.op ≡ true → Grown f m (create m f).model
unfolding create
created m f t =
    record {
      entries = omega arith;
      txns = rw (t, length-append) (omega arith);
      waits = omega arith;
      registrations = omega arith;
    }

-- a transaction is over: the entries that are kept are released, and no look-up is added
txn-ended : (t : ℕ) (keep : Entry → Bool) (ws : List LookUp) (m : Model) → length ws ≤ length m.waits
    → Shrunk m (with_entries (map (released m.txns t) (filterb keep m.entries))
    (with_txns (without_txn t m.txns) (with_waits ws m)))
unfolding without_txn
txn-ended t keep ws m fewer =
    let kept = filterb keep m.entries in
    record {
      entries = omega (arith, length-map kept (released m.txns t), length-filter keep m.entries);
      txns = length-filter (λ x. not (eqb x.id.0 t)) m.txns;
      waits = fewer;
      registrations = omega arith;
    }

committed : (t : ℕ) (m : Model) → Shrunk m (commit t m)
unfolding commit
committed t m = txn-ended t (λ e. not (is_taken_by t e)) m.waits m (omega arith)

aborted : (t : ℕ) (m : Model) → Shrunk m (abort t m)
unfolding abort
aborted t m =
    let stays : LookUp → Bool = λ w. not (eqb w.txn.0 t) in
    txn-ended t (λ e. not (is_private_to t e)) (filterb stays m.waits) m (length-filter stays m.waits)

renewed : (m : Model) (f : Frame) → Shrunk m (renew m f).model
unfolding renew renew_entries
renewed m f =
    let n = entry_named f in
    let as_many : length (renewed_to n (until m.clock f.lease_or_timeout) m.entries) ≡ length m.entries =
    length-map m.entries _ in
    record {
      entries =
          cond_cases (λ (es : List Entry). length es ≤ length m.entries) (eqb f.lease_or_timeout 0)
          (λ _. length-filter (λ e. not (has_number n e)) m.entries) (λ _. omega (arith, as_many));
      txns = omega arith;
      waits = omega arith;
      registrations = omega arith;
    }

notified : (m : Model) (f : Frame) → is_notify f.op ≡ true → Grown f m (notify m f).model
unfolding notify
notified m f t =
    record {
      entries = omega arith;
      txns = omega arith;
      waits = omega arith;
      registrations = rw (t, length-append) (omega arith);
    }

ticked : (m : Model) → Shrunk m (tick m).model
unfolding tick unregistered
ticked m =
    record {
      entries = omega arith;
      txns = omega arith;
      waits = omega arith;
      registrations = length-filter _ m.registrations;
    }

pub own_grown : (m : Model) (f : Frame) → is_operation f.op ≡ true → Grown f m (own_part m f).model
unfolding write look_up write_frame commit_frame abort_frame
own_grown m f is =
    own_cases (λ (c : Carried). Grown f m c.model) m f is
    (λ t. heard_grown (made_public m f) (written m f t))
    (λ t. answered m f t (oldest m.txns (look_up_of m f) m.entries))
    (created m f)
    (λ t. heard_grown (made_public m f) (shrunk_grown f (committed f.txn m)))
    (λ t. shrunk_grown f (aborted f.txn m))
    (λ t. shrunk_grown f (renewed m f))
    (notified m f)
    (λ t. shrunk_grown f (ticked m))

-- ---- the end of a step: an exception for each transaction that ends, an answer for each look-up that waits no longer
pub record Paid (m : Model) (d : Done) : Type 0 where
  pub entries : length d.model.entries ≤ length m.entries
  pub closed : length d.records + length d.model.txns + length d.model.waits
      ≤ length m.txns + length m.waits
  pub txns : length d.model.txns ≤ length m.txns
  pub waits : length d.model.waits ≤ length m.waits

paid_none : (m : Model) → Paid m (quiet m)
paid_none m = record { entries = omega arith; closed = omega arith; txns = omega arith; waits = omega arith }

-- one part after another
paid_join : {m : Model} {d e : Done} → Paid m d → Paid d.model e
    → Paid m (record { model = e.model; records = d.records ++ e.records })
paid_join {m} {d} {e} p q =
    record {
      entries = omega (arith, p.entries, q.entries);
      closed = omega (arith, p.closed, q.closed, length-append d.records e.records);
      txns = omega (arith, p.txns, q.txns);
      waits = omega (arith, p.waits, q.waits);
    }

-- what passes a test passes a weaker one
fewer : {A : Type 0} (p q : A → Bool) (xs : List A) → ((x : A) → Memᴰ x xs → p x ≡ true → q x ≡ true)
    → count p xs ≤ count q xs
fewer p q [] h = omega arith
fewer p q (x ∷ xs) h =
    let below = fewer p q xs (λ y i. h y (Memᴰ.tail i)) in
    let here = step (p x) (q x) (h x (Memᴰ.head refl)) in
    omega (arith, below, here, count_cons p x xs, count_cons q x xs)
  where
    step : (a b : Bool) → (a ≡ true → b ≡ true) → one a ≤ one b
    step true true k = omega arith
    step true false k = absurd (true≢false (sym (k refl)))
    step false b k = omega arith

-- the transactions that are left once some are aborted
abbrev is_among : List Txn → Txn → Bool
is_among ts x = anyb (λ (t : Txn). eqb x.id.0 t.id.0) ts

left_after : (ts : List Txn) (m : Model) → (abort_all ts m).txns ≡ filterb (λ x. not (is_among ts x)) m.txns
unfolding abort_all abort without_txn
left_after [] m = sym (filter-all m.txns)
left_after (t ∷ ts) m =
    left_after ts (abort t.id.0 m)
    ∙ filter-filter (λ x. not (is_among ts x)) (λ x. not (eqb x.id.0 t.id.0)) m.txns
    ∙ filter_same (λ x. not (eqb x.id.0 t.id.0) && not (is_among ts x)) (λ x. not (is_among (t ∷ ts) x))
    (λ x. neither (eqb x.id.0 t.id.0) (is_among ts x)) m.txns
  where
    neither : (a b : Bool) → (not a && not b) ≡ not (a || b)
    neither true b = refl
    neither false b = refl

aborted-all : (ts : List Txn) (m : Model) → Shrunk m (abort_all ts m)
unfolding abort_all
aborted-all [] m =
    record { entries = omega arith; txns = omega arith; waits = omega arith; registrations = omega arith }
aborted-all (t ∷ ts) m =
    let first = aborted t.id.0 m in
    let rest = aborted-all ts (abort t.id.0 m) in
    record {
      entries = omega (arith, first.entries, rest.entries);
      txns = omega (arith, first.txns, rest.txns);
      waits = omega (arith, first.waits, rest.waits);
      registrations = omega (arith, first.registrations, rest.registrations);
    }

-- an exception for each transaction that ends
pub exceptions : (m : Model) → length (lapsed m).records + length (lapsed m).model.txns ≤ length m.txns
unfolding lapsed ended_txns drop_ended
exceptions m =
    let gone : (x : Txn) → Memᴰ x m.txns → not (is_among ended x) ≡ true → not (over x) ≡ true = λ x i h.
    still (over x) (is_among ended x) (λ t. mem_any (λ (y : Txn). eqb x.id.0 y.id.0) (filter_mem over i t)
    (eq-eqb x.id.0 x.id.0 refl)) h in
    let live : length (abort_all ended m).txns ≤ count (λ x. not (over x)) m.txns =
    rw (left_after ended m) (fewer (λ x. not (is_among ended x)) (λ x. not (over x)) m.txns gone) in
    omega (arith, live, length_split over m.txns, length-map ended exception)
  where
    over : Txn → Bool
    over t = reached m.clock t.end

    ended : List Txn
    ended = filterb over m.txns

    still : (a b : Bool) → (a ≡ true → b ≡ true) → not b ≡ true → not a ≡ true
    still true b k h = absurd (true≢false (sym (rw (k refl) at h)))
    still false b k h = refl

pub lapsed_paid : (m : Model) → Paid m (lapsed m)
unfolding lapsed drop_ended
lapsed_paid m =
    let s = aborted-all (ended_txns m) m in
    record {
      entries = le_trans (length-filter _ (abort_all (ended_txns m) m).entries) s.entries;
      closed = omega (arith, exceptions m, s.waits);
      txns = s.txns;
      waits = s.waits;
    }

pub service_paid : (m : Model) → Paid m (service m)
unfolding service
service_paid m =
    let r = serve-length m.txns m.entries m.waits in
    record {
      entries = r.entries;
      closed = omega (arith, r.waits);
      txns = omega arith;
      waits = omega (arith, r.waits);
    }

close_paid : (m : Model) → Paid m (close_waits m)
unfolding close_waits
close_paid m =
    let all = length_split (is_over m) m.waits in
    record {
      entries = omega arith;
      closed = omega (arith, all, length-map (filterb (is_over m) m.waits) nothing);
      txns = omega arith;
      waits = length-filter _ m.waits;
    }

pub finish_paid : (f : Frame) (m : Model) → Paid m (finish f m)
unfolding finish
finish_paid f m = paid_join (paid_join ended served) (close_paid _)
  where
    ended : Paid m (cond (is_tick f.op) (lapsed m) (quiet m))
    ended = cond_cases (Paid m) (is_tick f.op) (λ _. lapsed_paid m) (λ _. paid_none m)

    served : {n : Model} → Paid n (cond (serves f) (service n) (quiet n))
    served {n} = cond_cases (Paid n) (serves f) (λ _. service_paid n) (λ _. paid_none n)

-- without a tick no transaction ends then
pub finish-txns : (f : Frame) (m : Model) → is_tick f.op ≡ false → (finish f m).model.txns ≡ m.txns
unfolding finish service close_waits
finish-txns f m t =
    cond_cases (λ (d : Done). d.model.txns ≡ ended.model.txns) (serves f) (λ _. refl) (λ _. refl) ∙ rw t
  where
    ended : Done
    ended = cond (is_tick f.op) (lapsed m) (quiet m)
