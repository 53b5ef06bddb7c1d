-- Bells: what the code counts is what the rules say.
use Prim.Native.Nat.{ℕ, ◌+◌, ◌*◌, ◌≤◌, ◌<◌}
use mathlib.Core.Bool.{Bool, true, false, not, cond, ◌&&◌, and-false}
use mathlib.Core.Logic.{⊎_elim}
use mathlib.Core.Path.{◌≡◌, refl, sym, ap, ap₂, ◌∙◌}
use mathlib.Core.List.{List, [], ◌∷◌, ◌++◌, map, append-nil, Memᴰ}
use native.Mathlib.Omega.{arith}
use borrow.Author.Tests.{eqb-true, eq-eqb, ne_eqb, not-false, le-leb}
use lib.Dec.{eqb}
use lib.ListN.{length, length-map, take, get_or}
use Rattle.rules.specs.declared.Entry.{Entry}
use Rattle.rules.specs.declared.Record.{Record}
use Rattle.rules.specs.declared.Registration.{Registration}
use Rattle.rules.specs.declared.Request.TheVariants.{Write, Commit}
use Rattle.rules.specs.declared.TxnId.{TxnId}
use Rattle.rules.specs.declared.WriteRequest.{WriteRequest}
use Rattle.rules.specs.Frame.{Frame}
use Rattle.rules.specs.Lists.{All, filterb}
use Rattle.rules.specs.Notify.{made_public, matching, with_total, hearing, heard_of, ringing}
use Rattle.rules.specs.Numbers.{record_size}
use Rattle.rules.specs.Records.{rung}
use Rattle.rules.specs.Requests.{frame_of}
use Rattle.rules.specs.Sound.{Sound, privates}
use Rattle.rules.specs.State.{Model, with_registrations, Bounded}
use Rattle.rules.specs.Step.{write_frame, commit_frame}
use Rattle.rules.specs.Template.{matches, mark_of}
use Rattle.rules.specs.Transactions.{is_private_to, commit}
use Rattle.rules.specs.Write.{new_entry, stored, write}
use Rattle.rules.proofs.BoolLaws.{and_left, and_cases}
use Rattle.rules.proofs.ListLaws.{filter_same, length-filter, map_same, mem_filter}
use Rattle.rules.proofs.NotifyLaws.{rings-none}
use Rattle.sound.proofs.TallyLaws.{is_private, count_more}
use Rattle.holds.specs.Registry.{is_own, own_matching, match_count, sum_of, heard_once}
use Rattle.finish.specs.Bells.{beside, rung_by, heard_for, rung_for}
use Rattle.finish.specs.Does.{Adds}
use Rattle.finish.proofs.AddsLaws.{adds_none}
use Rattle.finish.proofs.AnsweredLaws.{over_passed, over-more}
use Rattle.finish.proofs.FinishLaws.{none_of}

-- ---- by counts, or by what tells them
pub rung_for_lem : (v : Registration → ℕ) (h : Registration → Registration) (cs : List ℕ) (gs : List Registration)
    → take (length gs) cs ≡ map v gs
    → rung_by cs (map h gs) ≡ map (λ g. rung (v g) (h g)) (filterb (λ g. not (eqb (v g) 0)) gs)
unfolding rung_by
rung_for_lem v h [] [] e = refl
rung_for_lem v h [] (g ∷ gs) e = absurd (omega (arith, ap length e))
rung_for_lem v h (c ∷ cs) [] e = refl
rung_for_lem v h (c ∷ cs) (g ∷ gs) e = go (rung_for_lem v h cs gs (tail_same e)) (not (eqb (v g) 0))
    (ap (λ k. not (eqb k 0)) first)
  where
    first : c ≡ v g
    first = ap (λ ks. get_or ks 0 0) e

    tail_same : {x y : ℕ} {xs ys : List ℕ} → x ∷ xs ≡ y ∷ ys → xs ≡ ys
    tail_same q = cc

    rest : List (ℕ × Registration)
    rest = filterb (λ x. not (eqb x.0 0)) (beside cs (map h gs))

    go : map (λ (x : ℕ × Registration). rung x.0 x.1) rest
        ≡ map (λ k. rung (v k) (h k)) (filterb (λ k. not (eqb (v k) 0)) gs) → (b : Bool) → not (eqb c 0) ≡ b
        → map (λ (x : ℕ × Registration). rung x.0 x.1) (cond (not (eqb c 0)) ((c, h g) ∷ rest) rest)
        ≡ map (λ k. rung (v k) (h k)) (cond b (g ∷ filterb (λ k. not (eqb (v k) 0)) gs)
        (filterb (λ k. not (eqb (v k) 0)) gs))
    go below true q = rw q (ap₂ (λ k rs. rung k (h g) ∷ rs) first below)
    go below false q = rw q below

-- the rows with their counts
beside_snoc : (cs : List ℕ) (gs : List Registration) (g : Registration) → length gs < length cs
    → beside cs (gs ++ (g ∷ [])) ≡ beside cs gs ++ ((get_or cs (length gs) 0, g) ∷ [])
beside_snoc [] gs g l = absurd (omega arith)
beside_snoc (c ∷ []) [] g l = refl
beside_snoc (c ∷ d ∷ cs) [] g l = refl
beside_snoc (c ∷ cs) (x ∷ gs) g l = ap (λ xs. (c, x) ∷ xs) (beside_snoc cs gs g (omega arith))

-- a bell for each row whose count is not 0
abbrev pub rings : ℕ × Registration → Bool
rings x = not (eqb x.0 0)

abbrev pub bell : ℕ × Registration → Record
bell x = rung x.0 x.1

-- the registrations passed are the first ones: none of them, or all, or one more, which gets no bell, or one
pub no_bells : (cs a : List ℕ) (c : ℕ) → Adds (map bell (filterb rings (beside cs []))) a a c c
no_bells [] a c = adds_none a c
no_bells (x ∷ cs) a c = adds_none a c

pub all_left : {A : Type 0} (passed : List A) {rest all : List A} → passed ++ rest ≡ all → rest ≡ [] → passed ≡ all
all_left passed e z = sym (append-nil passed) ∙ ap (λ xs. passed ++ xs) (sym z) ∙ e

module _ (cs : List ℕ) (passed : List Registration) {a₀ a : List ℕ} {c d : ℕ} (i : ℕ) (g : Registration)
    (l : length passed ≡ i) (k : i < length cs)
    (h : Adds (map bell (filterb rings (beside cs passed))) a₀ a c d) where
  one-beside : beside cs (passed ++ (g ∷ [])) ≡ beside cs passed ++ ((get_or cs i 0, g) ∷ [])
  one-beside =
      beside_snoc cs passed g (omega (arith, l, k))
      ∙ ap (λ n. beside cs passed ++ ((get_or cs n 0, g) ∷ [])) l

  pub bells_passed : get_or cs i 0 ≡ 0 → Adds (map bell (filterb rings (beside cs (passed ++ (g ∷ []))))) a₀ a c d
  bells_passed z = rw one-beside (over_passed rings bell (beside cs passed) h (ap not (eq-eqb _ _ z)))

  pub bells-more : {a' : List ℕ} {d' : ℕ} {r : Record} → (get_or cs i 0 ≡ 0 → ⊥) → r ≡ rung (get_or cs i 0) g
      → record_size * c ≤ length a₀ → Adds (r ∷ []) a a' d d'
      → Adds (map bell (filterb rings (beside cs (passed ++ (g ∷ []))))) a₀ a' c d'
  bells-more z s room p = rw one-beside (over-more rings bell (beside cs passed) h (ap not (ne_eqb _ _ z)) s room p)

-- ---- where the counts are those of some entries, and no total passes the limit
map_agree : {A B : Type 0} (p q : A → B) (xs : List A) → ((x : A) → Memᴰ x xs → p x ≡ q x) → map p xs ≡ map q xs
map_agree p q [] h = refl
map_agree p q (x ∷ xs) h =
    ap₂ (λ y ys. y ∷ ys) (h x (Memᴰ.head refl)) (map_agree p q xs (λ y i. h y (Memᴰ.tail i)))

module _ (m : Model) (es : List Entry) (v : Registration → ℕ) (agree : (g : Registration) → v g ≡ matching es g)
    (fits : All (λ g. g.total + matching es g ≤ m.next_entry) m.registrations) where
  heard-same : (g : Registration) → Memᴰ g m.registrations → heard_once m.next_entry (v g) g ≡ hearing es g
  unfolding hearing
  heard-same g i =
      ap (λ n. with_total n g)
      (ap (sum_of m.next_entry g.total) (agree g)
      ∙ ap (λ b. cond b (g.total + matching es g) m.next_entry) (le-leb _ _ (fits g i)))

  pub all-heard : heard_for v m ≡ heard_of es m
  unfolding heard_of
  all-heard = ap (λ gs. with_registrations gs m) (map_agree _ (hearing es) m.registrations heard-same)

  pub all-rung : rung_for v m ≡ ringing es m.registrations
  unfolding ringing
  all-rung =
      let rings : Registration → Bool = λ g. not (eqb (matching es g) 0) in
      ap (map (λ g. rung (v g) (heard_once m.next_entry (v g) g)))
      (filter_same (λ g. not (eqb (v g) 0)) rings (λ g. ap (λ n. not (eqb n 0)) (agree g)) m.registrations)
      ∙ map_agree (λ g. rung (v g) (heard_once m.next_entry (v g) g)) (λ g. rung (matching es g) (hearing es g))
      (filterb rings m.registrations)
      (λ g i. ap₂ rung (agree g) (heard-same g (mem_filter rings m.registrations i).0))

-- ---- a commit's
module _ (m : Model) (s : Sound m) (party : ℕ) (id : TxnId) (live : 0 < id.0) where
  -- what it makes public is private before, and so counted in no total
  few : (g : Registration) → own_matching id.0 m.entries g ≤ length (privates m)
  unfolding own_matching matching
  few g =
      let own = filterb (is_own id.0) m.entries in
      omega (
        arith,
        length-filter (λ e. matches g.mask g.fields e.fields) own,
        count_more (is_own id.0) is_private mine m.entries,
      )
    where
      mine : (e : Entry) → is_own id.0 e ≡ true → is_private e ≡ true
      mine e q =
          let same = eqb-true e.private_to.0 id.0 (and_left (is_private_to id.0 e) _ q) in
          ap not (ne_eqb e.private_to.0 0 (λ n. omega arith))

  abbrev counts : Registration → ℕ
  counts = own_matching id.0 m.entries

  abbrev f : Frame
  f = frame_of (Commit party id)

  agrees-commit : (g : Registration) → counts g ≡ matching (made_public m f) g
  unfolding own_matching made_public
  agrees-commit g = refl

  fits-commit : All (λ g. g.total + matching (made_public m f) g ≤ m.next_entry) m.registrations
  fits-commit g i = omega (arith, s.consistent.tallied g i, few g, agrees-commit g)

  pub commit-heard : heard_for counts (commit id.0 m) ≡ (commit_frame m f).model
  unfolding commit commit_frame
  commit-heard = all-heard (commit id.0 m) (made_public m f) counts agrees-commit fits-commit

  pub commit-rung : rung_for counts (commit id.0 m) ≡ ringing (made_public m f) m.registrations
  unfolding commit
  commit-rung = all-rung (commit id.0 m) (made_public m f) counts agrees-commit fits-commit

-- ---- a write's, outside transactions
module _ (m : Model) (s : Sound m) (w : WriteRequest) (out : w.txn.0 ≡ 0) (lasts : w.lease ≡ 0 → ⊥) where
  abbrev g₀ : Frame
  g₀ = frame_of (Write w)

  one_public : made_public m g₀ ≡ new_entry m g₀ ∷ []
  unfolding made_public
  one_public = rw (eq-eqb w.txn.0 0 out, ne_eqb w.lease 0 lasts)

  abbrev tells : Registration → ℕ
  tells = match_count (mark_of w.blanks w.fields)

  agrees-write : (g : Registration) → tells g ≡ matching (new_entry m g₀ ∷ []) g
  unfolding matching new_entry
  agrees-write g = go (matches g.mask g.fields (mark_of w.blanks w.fields))
    where
      go : (b : Bool) → cond b 1 0 ≡ length (cond b (new_entry m g₀ ∷ []) [])
      go true = refl
      go false = refl

  fits-write : All (λ g. g.total + matching (new_entry m g₀ ∷ []) g ≤ m.next_entry + 1) m.registrations
  unfolding matching
  fits-write g i =
      omega (
        arith,
        s.consistent.tallied g i,
        length-filter (λ e. matches g.mask g.fields e.fields) (new_entry m g₀ ∷ []),
      )

  pub write-heard : heard_for tells (write m g₀).model ≡ (write_frame m g₀).model
  unfolding write stored write_frame
  write-heard =
      all-heard (write m g₀).model (new_entry m g₀ ∷ []) tells agrees-write fits-write
      ∙ ap (λ es. heard_of es (write m g₀).model) (sym one_public)

  pub write-rung : rung_for tells (write m g₀).model ≡ ringing (made_public m g₀) m.registrations
  unfolding write stored
  write-rung =
      all-rung (write m g₀).model (new_entry m g₀ ∷ []) tells agrees-write fits-write
      ∙ ap (λ es. ringing es m.registrations) (sym one_public)

-- ---- where nothing is made public, or no registration lives
pub heard-none : (m : Model) → heard_of [] m ≡ m
unfolding heard_of hearing matching
heard-none m =
    ap (λ gs. with_registrations gs m)
    (map_same (hearing []) m.registrations (λ g i. ap (λ n. with_total n g) (omega arith)))

none_hear : (es : List Entry) (m : Model) → m.registrations ≡ [] → heard_of es m ≡ m
unfolding heard_of
none_hear es m e =
    ap (λ gs. with_registrations (map (hearing es) gs) m) e ∙ ap (λ gs. with_registrations gs m) (sym e)

-- what has heard fits its table
pub heard-fits : (es : List Entry) (m : Model) → Bounded m → Bounded (heard_of es m)
unfolding heard_of
heard-fits es m b =
    record {
      entries_fit = b.entries_fit;
      txns_fit = b.txns_fit;
      waits_fit = b.waits_fit;
      registrations_fit = omega (arith, b.registrations_fit, length-map m.registrations (hearing es));
    }

none_ring : (es : List Entry) (gs : List Registration) → gs ≡ [] → ringing es gs ≡ []
unfolding ringing
none_ring es gs e = ap (ringing es) e

-- so a write inside a transaction, and one of which nobody hears
module _ (m : Model) (w : WriteRequest) where
  abbrev f₀ : Frame
  f₀ = frame_of (Write w)

  silent_as : made_public m f₀ ≡ []
      → ((write m f₀).model ≡ (write_frame m f₀).model) × (ringing (made_public m f₀) m.registrations ≡ [])
  unfolding write_frame
  silent_as e = (
    sym (ap (λ es. heard_of es (write m f₀).model) e ∙ heard-none (write m f₀).model),
    ap (λ es. ringing es m.registrations) e ∙ rings-none m.registrations,
  )

  pub silent_inside : (w.txn.0 ≡ 0 → ⊥)
      → ((write m f₀).model ≡ (write_frame m f₀).model) × (ringing (made_public m f₀) m.registrations ≡ [])
  unfolding made_public
  silent_inside z = silent_as (rw (ne_eqb w.txn.0 0 z))

  pub silent_write : (not (eqb (length (write m f₀).model.registrations) 0) && not (eqb w.lease 0)) ≡ false
      → ((write m f₀).model ≡ (write_frame m f₀).model) × (ringing (made_public m f₀) m.registrations ≡ [])
  unfolding made_public write stored write_frame
  silent_write e =
      ⊎_elim
      (λ a. let none = none_of m.registrations (eqb-true _ 0 (not-false _ a)) in
      (sym (none_hear (made_public m f₀) (write m f₀).model none), none_ring (made_public m f₀) m.registrations none))
      (λ b. silent_as (ap (λ c. cond c (new_entry m f₀ ∷ []) [])
      (ap (λ c. eqb w.txn.0 0 && c) b ∙ and-false (eqb w.txn.0 0))))
      (and_cases (not (eqb (length m.registrations) 0)) (not (eqb w.lease 0)) e)
