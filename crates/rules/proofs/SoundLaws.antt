-- Every space that frames make of the empty one is sound: the empty one is, and each step keeps it. So at most 16
-- look-ups wait, and one that 5 and 6 let pass finds room.
use Prim.Native.Nat.{ℕ, zero, suc, ◌+◌, ◌≤◌, ◌<◌}
use mathlib.Core.Bool.{Bool, true, false, true≢false, cond, not, ◌&&◌, ◌||◌, and-false}
use mathlib.Core.Logic.{⊎_elim}
use mathlib.Core.Path.{◌≡◌, sym, ap, ap₂, ◌∙◌, subst⁻¹}
use mathlib.Core.Option.{Option, none, some}
use mathlib.Core.List.Memᴰ
use mathlib.Core.List.{List, [], ◌∷◌, ◌++◌, map, Memᴰ}
use native.Mathlib.Omega.{arith}
use borrow.Author.Tests.{eqb-true, eqb-false, ne_eqb, leb-false, le-leb, lt-leb, ltb-false}
use lib.Dec.{eqb, leb, ltb}
use lib.ListN.{length, length-append}
use Rattle.rules.specs.declared.Entry.{Entry}
use Rattle.rules.specs.declared.LookUp.{LookUp}
use Rattle.rules.specs.declared.Txn.{Txn}
use Rattle.rules.specs.Lists.{All, anyb}
use Rattle.rules.specs.Numbers.{max_party, max_waits}
use Rattle.rules.specs.Time.{reached}
use Rattle.rules.specs.State.{Model, with_waits}
use Rattle.rules.specs.Sound.{IsParty, of_party, OneEach, Ahead, Hopeful, Sound}
use Rattle.rules.specs.Frame.{Frame, is_operation, is_look_up, is_tick}
use Rattle.rules.specs.Records.{nothing}
use Rattle.rules.specs.Done.{Carried, quiet}
use Rattle.rules.specs.LookUp.{look_up_of, gives_nothing, answer, answer_found, answer_nothing, answer_waiting, look_up}
use Rattle.rules.specs.Holds.{oldest, some_conflicts}
use Rattle.rules.specs.Write.{stored, write}
use Rattle.rules.specs.Transactions.{create, commit, abort}
use Rattle.rules.specs.Renew.{renew}
use Rattle.rules.specs.Service.{serve, service}
use Rattle.rules.specs.Closing.{is_over, close_waits}
use Rattle.rules.specs.Refusals.{wrong_party, party_waits}
use Rattle.rules.specs.Notify.{notify, heard_of}
use Rattle.rules.specs.Step.{write_frame, commit_frame, abort_frame, own_part}
use Rattle.rules.proofs.ListLaws.{mem_filter, none_mem, any-filter, all_false, filter_pass, count, count-append}
use Rattle.rules.proofs.ListLaws.{count_cons}
use Rattle.rules.proofs.BoolLaws.{bool_cases, cond_cases, or_left, or_right}
use Rattle.rules.proofs.TimeLaws.{until_later}
use Rattle.rules.proofs.LayoutLaws.{look_up-not-tick, look_up-not-abort}
use Rattle.rules.proofs.StepCases.{own_cases, serve_ind}
use Rattle.rules.proofs.RefusalLaws.{none-waits}

-- what is kept in the midst of a step too: who waits
record Named (m : Model) : Type 0 where
  parties : (w : LookUp) → Memᴰ w m.waits → IsParty w.party
  one_each : OneEach m

named : {m : Model} → Sound m → Named m
named s = record { parties = s.consistent.parties; one_each = s.consistent.each }

-- ---- at most 16 wait: of the parties 1 to n, at most n
one_at_most : (b : Bool) → cond b 1 0 ≤ 1
one_at_most true = omega arith
one_at_most false = omega arith

module _ (n : ℕ) where
  one_more : (p : ℕ) → cond (leb p (suc n)) 1 0 ≤ cond (leb p n) 1 0 + cond (eqb p (suc n)) 1 0
  one_more p =
      let l = one_at_most (leb p (suc n)) in
      ⊎_elim (λ t. rw t (omega arith))
      (λ t. let above = leb-false p n t in
      ⊎_elim (λ e. rw e (omega arith))
      (λ e. let other = eqb-false p (suc n) e in rw (lt-leb p (suc n) (omega arith)) (omega arith))
      (bool_cases (eqb p (suc n))))
      (bool_cases (leb p n))

  counted : (ws : List LookUp)
      → count (λ w. leb w.party (suc n)) ws ≤ count (λ w. leb w.party n) ws + count (of_party (suc n)) ws
  counted [] = omega arith
  counted (w ∷ ws) =
      let rest = counted ws in
      omega (
        arith,
        one_more w.party,
        count_cons (λ v. leb v.party (suc n)) w ws,
        count_cons (λ v. leb v.party n) w ws,
        count_cons (of_party (suc n)) w ws,
      )

few : (n : ℕ) (m : Model) → Named m → count (λ w. leb w.party n) m.waits ≤ n
few zero m s =
    let none =
    any-filter (λ w. leb w.party 0) m.waits
    (all_false (λ w. leb w.party 0) m.waits (λ w i. lt-leb w.party 0 (s.parties w i).first)) in
    omega (arith, ap length none)
few (suc n) m s = let l = s.one_each (suc n) in omega (arith, few n m s, counted n m.waits)

waits_fit : (m : Model) → Named m → length m.waits ≤ max_waits
waits_fit m s =
    let all =
    filter_pass (λ w. leb w.party max_party) m.waits
    (λ w i. le-leb w.party max_party (s.parties w i).last) in
    omega (arith, few max_party m s, ap length all)

-- ---- who waits after service waited before
pub served_among : (ts : List Txn) (es : List Entry) (ws : List LookUp)
    → All (λ w. Memᴰ w ws) (serve ts es ws).waits
served_among ts es ws =
    serve_ind ts (λ es ws r. All (λ w. Memᴰ w ws) r.waits) (λ es w i. i)
    (λ es w ws e below v i.
    ⊎_elim (λ q. Memᴰ.head q) (λ j. Memᴰ.tail (below v j)) (Memᴰ.cases_cons i))
    (λ es w ws x e below v i. Memᴰ.tail (below v i)) es ws

-- ---- a look-up that 5 and 6 let pass arrives
pub is_party : (f : Frame) → is_tick f.op ≡ false → wrong_party f ≡ false → IsParty f.party
unfolding wrong_party
is_party f t e =
    let r : (eqb f.party 0 || ltb max_party f.party) ≡ false = rw t at e in
    let other = eqb-false f.party 0 (or_left (eqb f.party 0) _ r) in
    record { first = omega arith; last = ltb-false max_party f.party (or_right (eqb f.party 0) _ r) }

module _ (w : LookUp) (ws : List LookUp) where
  pub each_snoc : ((v : LookUp) → Memᴰ v ws → v.party ≡ w.party → ⊥)
      → ((p : ℕ) → count (of_party p) ws ≤ 1) → (p : ℕ) → count (of_party p) (ws ++ (w ∷ [])) ≤ 1
  each_snoc free each p =
      let l = each p in
      let split = count-append (of_party p) ws (w ∷ []) in
      let last = count_cons (of_party p) w [] in
      let one = one_at_most (of_party p w) in
      ⊎_elim (λ e. let none = any-filter (of_party p) ws
      (all_false (of_party p) ws (λ v i. ne_eqb v.party p (λ q. free v i (q ∙ sym (eqb-true w.party p e))))) in
      omega (arith, ap length none)) (λ e. omega (arith, ap {B = ℕ} (λ b. cond b 1 0) e)) (bool_cases (of_party p w))

arrives : (m : Model) (f : Frame) → is_look_up f.op ≡ true → wrong_party f ≡ false → party_waits m f ≡ false
    → Named m → Named (with_waits (m.waits ++ (look_up_of m f ∷ [])) m)
unfolding look_up_of
arrives m f l e free s =
    record {
      parties = λ v i.
          ⊎_elim (λ j. s.parties v j)
          (λ j. subst⁻¹ (λ (x : LookUp). IsParty x.party) (Memᴰ.eq_of_singleton j)
          (is_party f (look_up-not-tick f.op l) e)) (Memᴰ.append_cases m.waits i);
      one_each = each_snoc (look_up_of m f) m.waits
          (λ v i q. none-waits m f (look_up-not-abort f.op l) free i q) s.one_each;
    }

-- so it finds room
pub room-left : (m : Model) (f : Frame) → is_look_up f.op ≡ true → wrong_party f ≡ false → party_waits m f ≡ false
    → Sound m → length m.waits < max_waits
room-left m f l e free s =
    omega (arith, waits_fit _ (arrives m f l e free (named s)), length-append m.waits (look_up_of m f ∷ []))

-- ---- in the midst of a step that is no tick deadlines lie ahead, too
answer-ahead : (m : Model) (f : Frame) → Ahead m → (o : Option Entry)
    → Ahead (answer m (look_up_of m f) f.lease_or_timeout o).model
unfolding answer answer_found answer_nothing answer_waiting look_up_of gives_nothing
answer-ahead m f a (some x) = a
answer-ahead m f a none =
    cond_cases (λ (c : Carried). Ahead c.model) (gives_nothing m (look_up_of m f) f.lease_or_timeout) (λ _. a)
    (λ g w i. ⊎_elim (a w)
    (λ j. ap (λ (v : LookUp). reached m.clock v.deadline) (Memᴰ.eq_of_singleton j)
    ∙ until_later m.clock f.lease_or_timeout (eqb-false _ 0 (or_left _ _ g)))
    (Memᴰ.append_cases m.waits i))

pub own-ahead : (m : Model) (f : Frame) → is_operation f.op ≡ true → is_tick f.op ≡ false → Ahead m
    → Ahead (own_part m f).model
unfolding write_frame write stored heard_of look_up create commit_frame commit abort_frame abort renew notify
own-ahead m f o t a =
    own_cases (λ (d : Carried). Ahead d.model) m f o
    (λ _. a)
    (λ _. answer-ahead m f a (oldest m.txns (look_up_of m f) m.entries))
    (λ _. a)
    (λ _. a)
    (λ _ w i. a w (mem_filter (λ w. not (eqb w.txn.0 f.txn)) m.waits i).0)
    (λ _. a)
    (λ _. a)
    (λ y. absurd (true≢false (sym y ∙ t)))

pub service-ahead : (m : Model) → Ahead m → Ahead (service m).model
unfolding service
service-ahead m a w i = a w (served_among m.txns m.entries m.waits w i)

-- where nobody is over, nothing is closed
pub none_over : (m : Model) → All (λ w. is_over m w ≡ false) m.waits → close_waits m ≡ quiet m
unfolding close_waits
none_over m h =
    ap₂ (λ ws vs. record { model = with_waits ws m; records = map nothing vs })
    (filter_pass (λ w. not (is_over m w)) m.waits (λ w i. ap not (h w i)))
    (any-filter (is_over m) m.waits (all_false (is_over m) m.waits h))

-- so where deadlines lie ahead and no look-up of an IfExists kind waits, or each has a conflicting entry
module _ (m : Model) (a : Ahead m) where
  pub none_existing : anyb (λ (w : LookUp). w.if_exists) m.waits ≡ false → close_waits m ≡ quiet m
  unfolding is_over
  none_existing e = none_over m (λ w i. rw (a w i, none_mem (λ (v : LookUp). v.if_exists) e i))

  pub all-hopeful : Hopeful m → close_waits m ≡ quiet m
  unfolding is_over
  all-hopeful h =
      none_over m
      (λ w i. let hope = some_conflicts m.txns w m.entries in
      ap₂ {C = Bool} (λ x y. x || y) (a w i)
      (⊎_elim (λ t. ap (λ b. w.if_exists && not b) (h w i t) ∙ and-false w.if_exists)
      (λ t. ap (λ b. b && not hope) t) (bool_cases w.if_exists)))
