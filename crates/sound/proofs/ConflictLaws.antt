-- Conflicts last: handing an entry out ends none, unless a transaction takes its own private entry. So of all frames
-- only a take inside a transaction, a commit, an abort and a tick can end one (document 02, T-07).
use Prim.Native.Nat.{ℕ}
use mathlib.Core.Bool.{Bool, true, false, cond, not, ◌&&◌, ◌||◌, and-false, or-true, true≢false}
use mathlib.Core.Logic.{inl, inr, ⊎_elim}
use mathlib.Core.Path.{◌≡◌, refl, sym, ap, ap₂, ◌∙◌, subst}
use mathlib.Core.Option.{Option, none, some}
use mathlib.Core.List.Memᴰ
use mathlib.Core.List.{List, [], ◌∷◌, map, Memᴰ}
use native.Mathlib.Omega.{arith}
use borrow.Author.Tests.{eqb-true, eqb-false, ne_eqb, not-true, not-false}
use lib.Dec.{eqb}
use Rattle.rules.specs.declared.Entry.{Entry}
use Rattle.rules.specs.declared.Txn.{Txn}
use Rattle.rules.specs.declared.LookUp.{LookUp}
use Rattle.rules.specs.Lists.{All, anyb}
use Rattle.rules.specs.State.{Model}
use Rattle.rules.specs.Template.{matches}
use Rattle.rules.specs.Holds.{live_txn, add_reader_of, drop_reader_of, read_by_other, is_other, available, available_if}
use Rattle.rules.specs.Holds.{others_if, conflicts, some_conflicts, oldest}
use Rattle.rules.specs.LookUp.{removes, marked, hand_out, look_up_of, answer, answer_found, answer_nothing}
use Rattle.rules.specs.LookUp.{answer_waiting}
use Rattle.rules.specs.LookUp.{gives_nothing, look_up}
use Rattle.rules.specs.Sound.{TxnsOk, Ahead, Hopeful, Sound}
use Rattle.rules.specs.Time.{until}
use Rattle.rules.specs.Frame.{Frame, entry_named, is_operation, is_take, is_tick, ends_txn, serves}
use Rattle.rules.specs.Done.{Carried, quiet}
use Rattle.rules.specs.Write.{new_entry, stored, write}
use Rattle.rules.specs.Transactions.{create}
use Rattle.rules.specs.Renew.{has_number, ending_at, renewed_to, renew_entries, renew}
use Rattle.rules.specs.Notify.{notify, heard_of}
use Rattle.rules.specs.Service.{serve, service}
use Rattle.rules.specs.Closing.{close_waits, ends_conflicts}
use Rattle.rules.specs.Step.{write_frame, own_part}
use Rattle.rules.proofs.BoolLaws.{option_cases, bool_cases, cond_cases, and_left, and_right, and_false_right, or_cases}
use Rattle.rules.proofs.BoolLaws.{or_left, or_right}
use Rattle.rules.proofs.ListLaws.{any_mem, mem_any, any_append, any_same, find_some, none_mem, filter_mem}
use Rattle.rules.proofs.StepCases.{own_cases, serve_ind}
use Rattle.rules.proofs.LayoutLaws.{look_up-serves, create-serves, write-serves, renew-serves, notify-serves}
use Rattle.rules.proofs.LayoutLaws.{commit-ends, abort-ends}
use Rattle.rules.proofs.SoundLaws.{served_among, own-ahead, service-ahead, all-hopeful}
use Rattle.sound.proofs.HoldLaws.{equal_or, not_so, available_free, held_by, removes_why, mark_cases, eqb_cases}
use Rattle.sound.proofs.HoldLaws.{others_stay, mark_stays, handed-all}
use Rattle.sound.proofs.AllLaws.{all_snoc}
use Rattle.sound.proofs.AscendingLaws.{ascend_unique}
use Rattle.sound.proofs.OrderLaws.{Numbered, handed-numbered, stored-order}
use Rattle.sound.proofs.Consistent.{unique-entry, ok-below}
use Rattle.sound.proofs.Events.{Renewable, Admitted}
use Rattle.sound.proofs.SoundProof.{find_snoc}
use Rattle.sound.proofs.HolderLaws.{live_is, drop-none}
use Rattle.sound.proofs.Unavailable.{still-read_of, read_hides}

-- what a conflict says of an entry
record Conflict (ts : List Txn) (w : LookUp) (e : Entry) : Type 0 where
  matching : matches w.mask w.fields e.fields ≡ true
  unavailable : available ts w e ≡ false
  others : others_if (read_by_other ts w.txn.0 e) w e ≡ true

conflict_parts : (ts : List Txn) (w : LookUp) (e : Entry) → conflicts ts w e ≡ true → Conflict ts w e
unfolding conflicts
conflict_parts ts w e h =
    let x = matches w.mask w.fields e.fields in
    let y = available ts w e in
    let z = others_if (read_by_other ts w.txn.0 e) w e in
    let r = and_left (x && not y) z h in
    record {
      matching = and_left x (not y) r;
      unavailable = not-true y (and_right x (not y) r);
      others = and_right (x && not y) z h;
    }

is_conflict : (ts : List Txn) (w : LookUp) (e : Entry) → Conflict ts w e → conflicts ts w e ≡ true
unfolding conflicts
is_conflict ts w e c = rw (c.matching, c.unavailable) c.others

-- an entry that is committed, that nobody takes and nobody else reads conflicts with nobody
free_of : (ts : List Txn) (w : LookUp) (e : Entry) → e.private_to.0 ≡ 0 → e.taken_by.0 ≡ 0
    → drop_reader_of (live_txn w.txn.0 ts) e.readers ≡ 0 → conflicts ts w e ≡ true → ⊥
unfolding read_by_other
free_of ts w e p k r h =
    let t = w.txn.0 in
    let read = not (eqb (drop_reader_of (live_txn t ts) e.readers) 0) in
    true≢false (sym (conflict_parts ts w e h).others
    ∙ ap₂ (λ x y. is_other t x || is_other t y || w.takes && read) p k
    ∙ ap (λ n. w.takes && not (eqb n 0)) r
    ∙ and-false w.takes)

-- no transaction has the number 0
none_zero : {n : ℕ} {ts : List Txn} → TxnsOk n ts → live_txn 0 ts ≡ none
none_zero {n} {ts} ok =
    ⊎_elim (λ e. e)
    (λ x. let l = live_is 0 ts x.0 x.1 in let a = ok.above x.0 l.0 in absurd (omega (arith, l.1)))
    (option_cases (live_txn 0 ts))

-- one reader more is no reader less
more_read : (o q : Option Txn) (n : ℕ) → not (eqb (drop_reader_of o n) 0) ≡ true
    → not (eqb (drop_reader_of o (add_reader_of q n)) 0) ≡ true
more_read o q n t =
    ap not (ne_eqb (drop_reader_of o (add_reader_of q n)) 0
    (λ z. eqb-false (drop_reader_of o n) 0 (not-true _ t) (still-read_of o q n z)))

-- e is handed out to v: w's conflicts last
module _ (ts : List Txn) (v w : LookUp) (e : Entry) (av : available ts v e ≡ true) where
  mark_conflicts : conflicts ts w e ≡ true → conflicts ts w (marked ts v e) ≡ true
  unfolding read_by_other
  mark_conflicts h = mark_cases ts v e (λ y. conflicts ts w y ≡ true) (λ _. h) (λ b t d. held b t d)
    where
      c : Conflict ts w e
      c = conflict_parts ts w e h

      t : ℕ
      t = w.txn.0

      taken : v.takes ≡ true → e.private_to.0 ≡ 0 → (v.txn.0 ≡ 0 → ⊥) → (t ≡ v.txn.0 → ⊥)
          → conflicts ts w (held_by ts v e true) ≡ true
      taken k p z d =
          let x = is_other t e.private_to.0 in
          let read = w.takes && read_by_other ts t (held_by ts v e true) in
          let other : is_other t v.txn.0 ≡ true =
          ap₂ (λ a b. not a && not b) (ne_eqb v.txn.0 0 z) (ne_eqb v.txn.0 t (λ q. d (sym q))) in
          is_conflict ts w (held_by ts v e true)
          (record {
            matching = c.matching;
            unavailable = not_so _ (λ u. z (available_free ts w (held_by ts v e true) u).untaken);
            others = ap (λ b. x || b || read) other ∙ ap (λ b. b || read) (or-true x);
          })

      held : (b : Bool) → v.takes ≡ b → (e.private_to.0 ≡ v.txn.0 → ⊥) → conflicts ts w (held_by ts v e b) ≡ true
      held true k d =
          let free = available_free ts v e av in
          let p = ⊎_elim (λ q. q) (λ q. absurd (d q)) free.owner in
          ⊎_elim (λ q. absurd (free_of ts w e p free.untaken
          (ap (λ n. drop_reader_of (live_txn n ts) e.readers) q ∙ free.unread k) h))
          (λ q. taken k p (λ z. d (p ∙ sym z)) q) (equal_or t v.txn.0)
      held false k d =
          let x = is_other t e.private_to.0 || is_other t e.taken_by.0 in
          let before = not (eqb (drop_reader_of (live_txn t ts) e.readers) 0) in
          let after = not (eqb (drop_reader_of (live_txn t ts) (add_reader_of (live_txn v.txn.0 ts) e.readers)) 0) in
          is_conflict ts w (held_by ts v e false)
          (record {
            matching = c.matching;
            unavailable = read_hides ts w v e c.unavailable;
            others =
                ⊎_elim (λ s. ap (λ b. b || w.takes && after) s)
                (λ s. ap₂ (λ a b. x || a && b) (and_left w.takes before s)
                (more_read (live_txn t ts) (live_txn v.txn.0 ts) e.readers (and_right w.takes before s))
                ∙ or-true x) (or_cases x (w.takes && before) c.others);
          })

  pub hand_out-conflicts : {n : ℕ} → TxnsOk n ts → (es : List Entry) → All (λ x. x.id.0 ≡ e.id.0 → x ≡ e) es
      → Memᴰ e es → (removes v e ≡ true → v.txn.0 ≡ 0)
      → some_conflicts ts w es ≡ true → some_conflicts ts w (hand_out ts v e es) ≡ true
  hand_out-conflicts ok es unique i outside h =
      let x = any_mem (conflicts ts w) es h in
      ⊎_elim (λ q. own (sym (ap (conflicts ts w) (unique x.0 x.1 q)) ∙ x.2))
      (λ d. mem_any (conflicts ts w) (others_stay ts v e es av x.0 x.1 d) x.2)
      (equal_or x.0.id.0 e.id.0)
    where
      own : conflicts ts w e ≡ true → some_conflicts ts w (hand_out ts v e es) ≡ true
      own c =
          ⊎_elim (λ r. absurd (gone r))
          (λ r. mem_any (conflicts ts w) (mark_stays ts v e es av i r) (mark_conflicts c)) (bool_cases (removes v e))
        where
          gone : removes v e ≡ true → ⊥
          gone r =
              let free = available_free ts v e av in
              let why = removes_why ts v e r in
              let z = outside r in
              let holder = live_txn w.txn.0 ts in
              let unread : e.readers ≡ 0 =
              sym (ap (λ (o : Option Txn). drop_reader_of o e.readers) (ap (λ n. live_txn n ts) z ∙ none_zero ok))
              ∙ free.unread why.0 in
              free_of ts w e (why.1 ∙ z) free.untaken (ap (drop_reader_of holder) unread ∙ drop-none holder) c

-- ---- service ends none where only committed entries are available to those who wait
abbrev Committed : List Txn → List Entry → LookUp → Type 0
Committed ts es w = All (λ e. available ts w e ≡ true → e.private_to.0 ≡ 0) es

serve-conflicts : {n : ℕ} (k : ℕ) (ts : List Txn) → TxnsOk n ts → (v : LookUp) (es : List Entry) (ws : List LookUp)
    → Numbered k es → All (Committed ts es) ws
    → some_conflicts ts v es ≡ true → some_conflicts ts v (serve ts es ws).entries ≡ true
serve-conflicts k ts ok v =
    serve_ind ts (λ es ws r. Numbered k es → All (Committed ts es) ws
    → some_conflicts ts v es ≡ true → some_conflicts ts v r.entries ≡ true)
    (λ es o p h. h)
    (λ es w ws q below o p h. below o (λ u j. p u (Memᴰ.tail j)) h)
    (λ es w ws x q below o p h.
    let r = find_some (available ts w) es q in
    let unique : All (λ y. y.id.0 ≡ x.id.0 → y ≡ x) es =
    λ y j e. ascend_unique (λ (z : Entry). z.id.0) o.0 j r.0 e in
    let c = p w (Memᴰ.head refl) x r.0 r.1 in
    below (handed-numbered ts w x es o)
    (λ u j. handed-all ts w x es r.1 (λ y. available ts u y ≡ true → y.private_to.0 ≡ 0) unique
    (λ y i _. p u (Memᴰ.tail j) y i) (λ _ _. p u (Memᴰ.tail j) x r.0) (λ b t z d a. z))
    (hand_out-conflicts ts w v x r.1 ok es unique r.0 (λ y. sym (removes_why ts w x y).1 ∙ c) h))

-- ---- the frames that end none
-- what is left before the nothings, in a frame that is no tick
abbrev pub left_of : Frame → Model → Model
left_of f m = cond (serves f) (service m).model m

conflicts-same : (ts us : List Txn) (w : LookUp) → live_txn w.txn.0 ts ≡ live_txn w.txn.0 us → (e : Entry)
    → conflicts ts w e ≡ conflicts us w e
unfolding conflicts available read_by_other
conflicts-same ts us w p e =
    ap (λ o. let read = not (eqb (drop_reader_of o e.readers) 0) in
    matches w.mask w.fields e.fields && not (available_if read w e) && others_if read w e) p

module _ (m : Model) (f : Frame) (s : Sound m) where
  write-hopeful : Hopeful (write_frame m f).model
  unfolding write_frame write heard_of stored
  write-hopeful w i t =
      eqb_cases (λ (l : List Entry). some_conflicts m.txns w l ≡ true) f.lease_or_timeout 0 (λ _. s.hopeful w i t)
      (λ _. any_append (conflicts m.txns w) m.entries (new_entry m f ∷ [])
      ∙ ap (λ b. b || anyb (conflicts m.txns w) (new_entry m f ∷ [])) (s.hopeful w i t))

  create-hopeful : Hopeful (create m f).model
  unfolding create
  create-hopeful w i t =
      let new = ok-below s.consistent (⊎_elim inl (λ x. inr (x.0, x.1, x.2)) (s.consistent.owned w i)) in
      any_same _ (conflicts m.txns w)
      (conflicts-same _ m.txns w (find_snoc w.txn.0 m.txns _ (λ q. omega (arith, q, new)))) m.entries
      ∙ s.hopeful w i t

  look_up-hopeful : (is_take f.op ≡ true → f.txn ≡ 0) → Hopeful (look_up m f).model
  unfolding look_up answer answer_found answer_nothing answer_waiting look_up_of gives_nothing
  look_up-hopeful outside = go (oldest m.txns (look_up_of m f) m.entries) refl
    where
      go : (o : Option Entry) → oldest m.txns (look_up_of m f) m.entries ≡ o
          → Hopeful (answer m (look_up_of m f) f.lease_or_timeout o).model
      go (some x) q = λ w i t.
          let v = look_up_of m f in
          let r = find_some (available m.txns v) m.entries q in
          hand_out-conflicts m.txns v w x r.1 s.consistent.txns_ok m.entries
          (λ y j e. unique-entry s.consistent j r.0 e) r.0 (λ y. outside (removes_why m.txns v x y).0)
          (s.hopeful w i t)
      go none q =
          let v = look_up_of m f in
          cond_cases (λ (c : Carried). Hopeful c.model) (gives_nothing m v f.lease_or_timeout) (λ _. s.hopeful)
          (λ g. all_snoc m.waits s.hopeful
          (λ t. not-false _ (and_false_right v.if_exists _ t (or_right (eqb f.lease_or_timeout 0) _ g))))

  -- a write outside transactions and its service
  service-hopeful : f.txn ≡ 0 → Hopeful (service (write_frame m f).model).model
  unfolding service write_frame write heard_of stored new_entry
  service-hopeful z w i t =
      let n = stored m f in
      serve-conflicts n.next_entry m.txns s.consistent.txns_ok w n.entries m.waits
      (stored-order m f (s.consistent.ordered.entries, s.consistent.below))
      (λ v j. eqb_cases (λ (l : List Entry). Committed m.txns l v) f.lease_or_timeout 0 (λ _. none v j)
      (λ _. all_snoc m.entries (none v j) (λ _. z)))
      (write-hopeful w (served_among m.txns n.entries m.waits w i) t)
    where
      none : (v : LookUp) → Memᴰ v m.waits → Committed m.txns m.entries v
      none v j e k a = absurd (true≢false (sym a ∙ none_mem (available m.txns v) (s.none_for v j) k))

  -- what is renewed conflicts with nobody
  renew-hopeful : Renewable f m → Hopeful (renew m f).model
  unfolding renew renew_entries
  renew-hopeful r w i t =
      let c = any_mem (conflicts m.txns w) m.entries (s.hopeful w i t) in
      let e = c.0 in
      let other : has_number (entry_named f) e ≡ false =
      ne_eqb e.id.0 (entry_named f) (λ q.
      let same = unique-entry s.consistent c.1 r.stored (q ∙ sym r.number) in
      free_of m.txns w r.entry r.committed r.untaken
      (ap (drop_reader_of (live_txn w.txn.0 m.txns)) r.unread ∙ drop-none (live_txn w.txn.0 m.txns))
      (ap (conflicts m.txns w) (sym same) ∙ c.2)) in
      cond_cases (λ (es : List Entry). some_conflicts m.txns w es ≡ true) (eqb f.lease_or_timeout 0)
      (λ _. mem_any (conflicts m.txns w)
      (filter_mem (λ x. not (has_number (entry_named f) x)) c.1 (ap not other)) c.2)
      (λ _. mem_any (conflicts m.txns w) (mapped e c.1 other) c.2)
    where
      mapped : (e : Entry) → Memᴰ e m.entries → has_number (entry_named f) e ≡ false
          → Memᴰ e (renewed_to (entry_named f) (until m.clock f.lease_or_timeout) m.entries)
      mapped e i o =
          let end = until m.clock f.lease_or_timeout in
          let step : Entry → Entry = λ x. cond (has_number (entry_named f) x) (ending_at end x) x in
          subst (λ x. Memᴰ x (map step m.entries)) (rw o) (Memᴰ.map step i)

  -- what the others leave
  abbrev left : Model
  left = left_of f (own_part m f).model

  module _ (is : is_operation f.op ≡ true) (a : Admitted f m) (spares : ends_conflicts f ≡ false) where
    no_tick : is_tick f.op ≡ false
    no_tick = or_right (is_take f.op && not (eqb f.txn 0) || ends_txn f.op) _ spares

    hope_lasts : Hopeful left
    unfolding notify
    hope_lasts =
        own_cases (λ (c : Carried). Hopeful (left_of f c.model)) m f is
        (λ t. rw (write-serves f t) (eqb_cases Hopeful f.txn 0 (λ z. service-hopeful z) (λ _. write-hopeful)))
        (λ t. rw (look_up-serves f t) (look_up-hopeful outside)) (λ t. rw (create-serves f t) create-hopeful)
        (λ t. absurd (true≢false (sym (commit-ends f.op t) ∙ ends-none)))
        (λ t. absurd (true≢false (sym (abort-ends f.op t) ∙ ends-none)))
        (λ t. rw (renew-serves f t) (renew-hopeful (a.renewable t)))
        (λ t. rw (notify-serves f t) s.hopeful)
        (λ t. absurd (true≢false (sym t ∙ no_tick)))
      where
        inside : Bool
        inside = is_take f.op && not (eqb f.txn 0)

        few : (inside || ends_txn f.op) ≡ false
        few = or_left _ (is_tick f.op) spares

        ends-none : ends_txn f.op ≡ false
        ends-none = or_right inside _ few

        outside : is_take f.op ≡ true → f.txn ≡ 0
        outside t =
            eqb-true f.txn 0 (not-false _ (and_false_right (is_take f.op) _ t (or_left inside _ few)))

    pub nobody_over : close_waits left ≡ quiet left
    nobody_over =
        let d = own-ahead m f is no_tick s.ahead in
        all-hopeful left (cond_cases Ahead (serves f) (λ _. service-ahead (own_part m f).model d) (λ _. d)) hope_lasts
