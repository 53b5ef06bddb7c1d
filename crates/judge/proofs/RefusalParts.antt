-- The table of refusals in the parts in which the code judges it.
use Prim.Native.Nat.{ℕ}
use mathlib.Core.Bool.{Bool, true, false, not, cond, ◌&&◌, ◌||◌, or-false, or-true, true≢false}
use mathlib.Core.Option.{none, some}
use mathlib.Core.Path.{◌≡◌, refl, sym, ap, ◌∙◌}
use mathlib.Core.List.{List, [], ◌∷◌}
use borrow.Author.Tests.{ne_eqb, eqb-true}
use lib.Dec.{eqb, leb}
use lib.ListN.{length}
use Rattle.std.specs.Prelude.{Option, Some, None, Result, Ok, Err}
use Rattle.std.specs.Result.{IsErrAnd}
use Rattle.std.proofs.lemmas.Result.{err_from_is_err_and}
use Rattle.rules.specs.Lists.{All, first_row}
use Rattle.rules.specs.declared.Txn.{Txn}
use Rattle.rules.specs.declared.TxnId.{TxnId}
use Rattle.rules.specs.declared.LookUp.{LookUp}
use Rattle.rules.specs.declared.FindRequest.{FindRequest}
use Rattle.rules.specs.declared.NotifyRequest.{NotifyRequest}
use Rattle.rules.specs.declared.WriteRequest.{WriteRequest}
use Rattle.rules.specs.declared.Request.TheVariants.{Write, Find, Create, Commit, Abort, Notify, Tick}
use Rattle.rules.specs.declared.refusal.Refusal.{Refusal}
use Rattle.rules.specs.Numbers.{last_clock, max_txns, max_registrations, waiting_refused, not_live_refused}
use Rattle.rules.specs.Numbers.{not_own_refused, clock_refused, txns_refused, registrations_refused}
use Rattle.rules.specs.State.{Model}
use Rattle.rules.specs.Frame.{Frame, layout_of, is_abort, names_entry, ends_txn}
use Rattle.rules.specs.Holds.{live_txn}
use Rattle.rules.specs.Refusals.{admission_rows, room_rows, in_txn, withdraws, party_waits, not_live, not_own, no_entry}
use Rattle.rules.specs.Refusals.{not_writer, not_free, no_lease, too_late, entries_full, txns_full, registrations_full}
use Rattle.rules.specs.Refusals.{no_number}
use Rattle.rules.specs.Requests.{frame, frame_of, number, number_of, space_refusal}
use Rattle.rules.proofs.ListLaws.{some_any, none_any, any_same, all_false}
use Rattle.rules.proofs.LookUpKinds.{kind_cases}
use Rattle.rules.proofs.RefusalLaws.{number_not_zero, first-append}
use Rattle.hints.specs.declared.known.Hints.{Hints}
use Rattle.hints.specs.Hints.{Flagged, has_flag}
use Rattle.judge.specs.Judge.{is_left, bars_unless, waiting_unless, number_left, HasNumber}
use Rattle.judge.specs.Judge.{bars, party_waiting, named, txn_refusal, party_refusal, late, admission_refusal}
use Rattle.judge.specs.Judge.{room_refusal, stored_refusal, new_refusal, Judged}

-- ---- 7 and 8: by what the search for the transaction finds
module _ (party : ℕ) (t : TxnId) (ts : List Txn) (n : eqb t.0 0 ≡ false) where
  pub live-none : live_txn t.0 ts ≡ none → not_live_refused ≡ txn_refusal (Some t) party ts
  unfolding txn_refusal live_txn
  live-none e = rw (n, none_any (λ (x : Txn). eqb x.id.0 t.0) ts e)

  pub live_some : (x : Txn) → live_txn t.0 ts ≡ some x → cond (not (eqb x.party party)) not_own_refused 0
      ≡ txn_refusal (Some t) party ts
  unfolding txn_refusal live_txn
  live_some x e = rw (n, some_any (λ (y : Txn). eqb y.id.0 t.0) ts e, e)

-- ---- 6 to 8: of a frame that is inside a transaction, or is not, and that leaves one, or does not
-- the transaction that a frame is inside, if it is inside one
abbrev pub Inside : Frame → Option TxnId → Type 0
Inside f None = in_txn f ≡ false
Inside f (Some t) = (in_txn f ≡ true) × (t.0 ≡ f.txn)

-- a frame that is no renewal, the transaction that it is inside, and the one that it leaves
pub record Enters (f : Frame) (inside : Option TxnId) (leaving : ℕ) : Type 0 where
  pub no-renewal : names_entry f.op ≡ false
  pub enters : Inside f inside
  pub leaves : leaving ≡ cond (is_abort f.op) f.txn 0

-- a frame that ends no transaction is inside the one that it names
named_inside : (f : Frame) (t : TxnId) → names_entry f.op ≡ false → ends_txn f.op ≡ false → t.0 ≡ f.txn
    → Inside f (named t)
named_inside f t names ends e = go (eqb t.0 0) refl
  where
    go : (b : Bool) → eqb t.0 0 ≡ b → Inside f (cond b None (Some t))
    go true z = rw (names, ends, ← e, z)
    go false z = (rw (names, ends, ← e, z), e)

pub write_enters : (w : WriteRequest) {inside : Option TxnId} → inside ≡ named w.txn
    → Enters (frame_of (Write w)) inside 0
unfolding layout_of
write_enters w e =
    record {
      no-renewal = refl;
      enters = rw e (named_inside (frame_of (Write w)) w.txn refl refl refl);
      leaves = refl;
    }

pub find_enters : (l : FindRequest) {inside : Option TxnId} → inside ≡ named l.txn
    → Enters (frame_of (Find l)) inside 0
unfolding layout_of
find_enters l e =
    let names = kind_cases (λ op. names_entry op ≡ false) l.takes l.if_exists refl refl refl refl in
    let ends = kind_cases (λ op. ends_txn op ≡ false) l.takes l.if_exists refl refl refl refl in
    record {
      no-renewal = names;
      enters = rw e (named_inside (frame_of (Find l)) l.txn names ends refl);
      leaves = kind_cases (λ op. 0 ≡ cond (is_abort op) l.txn.0 0) l.takes l.if_exists refl refl refl refl;
    }

pub create_enters : (party lease : ℕ) → Enters (frame_of (Create party lease)) None 0
unfolding layout_of
create_enters party lease = record { no-renewal = refl; enters = refl; leaves = refl }

pub notify_enters : (q : NotifyRequest) → Enters (frame_of (Notify q)) None 0
unfolding layout_of
notify_enters q = record { no-renewal = refl; enters = refl; leaves = refl }

pub tick_enters : Enters (frame_of Tick) None 0
unfolding layout_of
tick_enters = record { no-renewal = refl; enters = refl; leaves = refl }

pub commit_enters : (party : ℕ) (t : TxnId) → Enters (frame_of (Commit party t)) (Some t) 0
unfolding layout_of
commit_enters party t = record { no-renewal = refl; enters = (simp or-true, refl); leaves = refl }

-- an abort of 0 leaves no transaction
number-named : (t : TxnId) → number_left (named t) ≡ t.0
number-named t = go (eqb t.0 0) refl
  where
    go : (b : Bool) → eqb t.0 0 ≡ b → number_left (cond b None (Some t)) ≡ t.0
    go true z = sym (eqb-true t.0 0 z)
    go false z = refl

pub named-number : (t : TxnId) {o : Option TxnId} → o ≡ named t → HasNumber o
named-number t {o} e = rw e (go (eqb t.0 0) refl)
  where
    go : (b : Bool) → eqb t.0 0 ≡ b → HasNumber (cond b None (Some t))
    go true z = tt
    go false z = z

pub abort_enters : (party : ℕ) (t : TxnId) {o : Option TxnId} → o ≡ named t
    → Enters (frame_of (Abort party t)) (Some t) (number_left o)
unfolding layout_of
abort_enters party t e =
    record { no-renewal = refl; enters = (simp or-true, refl); leaves = rw e (number-named t) }

-- what bars a frame that leaves a transaction
left_barred : (party : ℕ) (o : Option TxnId) → HasNumber o → (w : LookUp)
    → bars_unless party o w ≡ bars party (number_left o) w
left_barred party None h w = refl
left_barred party (Some t) h w = rw h

pub left_waiting : (party : ℕ) (o : Option TxnId) (ws : List LookUp) → HasNumber o
    → waiting_unless party o ws ≡ party_waiting party (number_left o) ws
left_waiting party o ws h = any_same (bars_unless party o) (bars party (number_left o)) (left_barred party o h) ws

-- a frame withdraws what waits inside the transaction that it aborts
spares : (aborts : Bool) (t leaving : ℕ) → leaving ≡ cond aborts t 0 → (w : LookUp)
    → (eqb leaving 0 || not (eqb w.txn.0 leaving)) ≡ not (aborts && not (eqb t 0) && eqb w.txn.0 t)
spares false t leaving e w = rw e
spares true t leaving e w = rw e (go (eqb t 0))
  where
    go : (b : Bool) → (b || not (eqb w.txn.0 t)) ≡ not (not b && eqb w.txn.0 t)
    go true = refl
    go false = refl

-- a refusal's number is not that of none
module _ (m : Model) (f : Frame) where
  -- 18 to 20 are of renewals alone
  no_renewal : names_entry f.op ≡ false
      → admission_refusal m f
      ≡ cond (party_waits m f) waiting_refused
      (first_row ((not_live m f, not_live_refused) ∷ (not_own m f, not_own_refused) ∷ []))
  unfolding no_entry not_writer not_free
  no_renewal e = rw e

  txn_rows : (inside : Option TxnId) → Inside f inside
      → txn_refusal inside f.party m.txns
      ≡ first_row ((not_live m f, not_live_refused) ∷ (not_own m f, not_own_refused) ∷ [])
  unfolding txn_refusal not_live not_own
  txn_rows None i = rw i
  txn_rows (Some t) i = rw (i.0, i.1)

  module _ {inside : Option TxnId} {leaving : ℕ} (e : Enters f inside leaving) where
    admission : party_refusal inside f.party leaving m ≡ admission_refusal m f
    unfolding party_refusal party_waits
    admission =
        let rows = first_row ((not_live m f, not_live_refused) ∷ (not_own m f, not_own_refused) ∷ []) in
        ap (λ n. cond (party_waiting f.party leaving m.waits) waiting_refused n) (txn_rows inside e.enters)
        ∙ ap (λ b. cond b waiting_refused rows)
        (any_same (bars f.party leaving) (λ w. eqb w.party f.party && not (withdraws f w))
        (λ w. ap (λ b. eqb w.party f.party && b) (spares (is_abort f.op) f.txn leaving e.leaves w)) m.waits)
        ∙ sym (no_renewal e.no-renewal)

    parts : space_refusal m f
        ≡ cond (eqb (party_refusal inside f.party leaving m) 0) (room_refusal m f)
        (party_refusal inside f.party leaving m)
    unfolding space_refusal
    parts =
        first-append (admission_rows m f) (room_rows m f) refl
        ∙ ap (λ k. cond (eqb k 0) (room_refusal m f) k) (sym admission)

    -- refused with 6 to 8, which `?` hands on
    pub by_party : (e : Refusal) (r : Result (Unit {0}) Refusal) → IsErrAnd r (λ x. x ≡ e)
        → number e ≡ party_refusal inside f.party leaving m
        → number_of r ≡ space_refusal m f
    by_party e r h q =
        let p = err_from_is_err_and r h in
        rw (p.1, p.2) (sym (parts ∙ rw (← q, ne_eqb (number e) 0 (number_not_zero e))))

    -- none of these applies: what then applies of 9 to 13 and 17
    pub by_room : {n : ℕ} → 0 ≡ party_refusal inside f.party leaving m → n ≡ room_refusal m f → n ≡ space_refusal m f
    by_room q z = sym (parts ∙ rw (← q, z))

    -- nothing of time, room and numbers is asked
    pub by_party_alone : {n : ℕ} → n ≡ party_refusal inside f.party leaving m → room_refusal m f ≡ 0
        → n ≡ space_refusal m f
    by_party_alone {n} q z = go (eqb n 0) refl
      where
        go : (b : Bool) → eqb n 0 ≡ b → n ≡ space_refusal m f
        go true k = let e0 = eqb-true n 0 k in sym (parts ∙ rw (← q, e0, z))
        go false k = sym (parts ∙ rw (← q, k))

-- ---- 9 to 13 and 17
-- a row that is judged alone
pub judged_number : (b : Bool) (why : Refusal) (r : Result (Unit {0}) Refusal) → Judged b why r
    → number_of r ≡ cond b (number why) 0
judged_number b why (Ok u) j = rw j
judged_number b why (Err e) j = rw (j.0, j.1)

-- of a look-up its timeout alone is judged
pub find_room : (m : Model) (l : FindRequest) → room_refusal m (frame_of (Find l))
    ≡ cond (late m.clock l.timeout) clock_refused 0
unfolding no_lease too_late entries_full txns_full registrations_full no_number layout_of
find_room m l =
    let e = ap (λ b. cond b clock_refused 0) (or-false (late m.clock l.timeout)) in
    kind_cases
    (λ op. room_refusal m (frame op l.party l.mask l.txn.0 l.timeout l.fields)
    ≡ cond (late m.clock l.timeout) clock_refused 0)
    l.takes l.if_exists e e e e

pub write_room : (m : Model) (w : WriteRequest) → stored_refusal w.lease m ≡ room_refusal m (frame_of (Write w))
unfolding no_lease too_late entries_full txns_full registrations_full no_number layout_of
write_room m w = simp or-false

pub create_room : (m : Model) (party lease : ℕ)
    → new_refusal lease m.clock (leb max_txns (length m.txns)) txns_refused m.next_txn
    ≡ room_refusal m (frame_of (Create party lease))
unfolding no_lease too_late entries_full txns_full registrations_full no_number layout_of
create_room m party lease = simp or-false

pub notify_room : (m : Model) (q : NotifyRequest)
    → new_refusal q.lease m.clock (leb max_registrations (length m.registrations)) registrations_refused
    m.next_registration
    ≡ room_refusal m (frame_of (Notify q))
unfolding no_lease too_late entries_full txns_full registrations_full no_number layout_of
notify_room m q = simp or-false

-- of a tick the clock
pub tick_room : (m : Model) → cond (leb last_clock m.clock) clock_refused 0 ≡ room_refusal m (frame_of Tick)
unfolding no_lease too_late entries_full txns_full registrations_full no_number layout_of
tick_room m = refl

-- and nothing of a commit or an abort
pub commit_room : (m : Model) (party : ℕ) (t : TxnId) → room_refusal m (frame_of (Commit party t)) ≡ 0
unfolding no_lease too_late entries_full txns_full registrations_full no_number layout_of
commit_room m party t = refl

pub abort_room : (m : Model) (party : ℕ) (t : TxnId) → room_refusal m (frame_of (Abort party t)) ≡ 0
unfolding no_lease too_late entries_full txns_full registrations_full no_number layout_of
abort_room m party t = refl

-- ---- 6
-- a party without a flag has no look-up that bars it
pub unflagged_waits : (hs : Hints) (ws : List LookUp) (party : ℕ) (leaving : Option TxnId) → All (Flagged hs) ws
    → has_flag hs party ≡ false
    → waiting_unless party leaving ws ≡ false
unflagged_waits hs ws party leaving flagged e =
    all_false (bars_unless party leaving) ws
    (λ w i. ap (λ b. b && not (is_left leaving w))
    (ne_eqb w.party party (λ q. true≢false (sym (flagged w i) ∙ ap (has_flag hs) q ∙ e))))
