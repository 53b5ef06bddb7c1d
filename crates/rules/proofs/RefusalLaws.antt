-- What is known of a frame that is not refused: none of the table's rows applies. The table in parts.
use native.Mathlib.Omega.{arith}
use Prim.Native.Nat.{ℕ, zero, suc}
use mathlib.Core.Bool.{Bool, true, false, not, cond, ◌&&◌, true≢false}
use mathlib.Core.Path.{◌≡◌, refl, sym, ap, ◌∙◌}
use mathlib.Core.List.{List, [], ◌∷◌, ◌++◌, Memᴰ}
use borrow.Author.Tests.{not-true, not-false, eqb-false, eq-eqb}
use lib.Dec.{eqb, ltb}
use lib.ListN.{length}
use Rattle.rules.specs.Lists.{first_row}
use Rattle.rules.specs.Numbers.{step_area, area_refused}
use Rattle.rules.specs.State.{Model}
use Rattle.rules.specs.declared.LookUp.{LookUp}
use Rattle.rules.specs.Frame.{Frame, decode, is_operation, is_abort}
use Rattle.rules.specs.Refusals.{no_operation, wrong_length, malformed, wrong_party, wrong_arc, withdraws}
use Rattle.rules.specs.Refusals.{party_waits, not_live}
use Rattle.rules.specs.Refusals.{not_own, no_entry, not_writer, not_free, no_lease, too_late, entries_full, txns_full}
use Rattle.rules.specs.Refusals.{registrations_full, no_number, rows, refusal, form_rows, admission_rows, room_rows}
use Rattle.rules.specs.Requests.{form_refusal, space_refusal}
use Rattle.rules.proofs.ListLaws.{none_mem}
use Rattle.rules.proofs.BoolLaws.{cond_cases, and_left, and_right, or_right}
use Rattle.rules.specs.declared.refusal.Refusal.{Refusal}
use Rattle.rules.specs.Requests.{number}

-- no row has the number k
abbrev pub without : ℕ → List (Bool × ℕ) → Bool
without k [] = true
without k (r ∷ rs) = not (eqb r.1 k) && without k rs

-- the test of the row at a place
abbrev pub test_at : List (Bool × ℕ) → ℕ → Bool
test_at [] k = false
test_at (r ∷ rs) zero = r.0
test_at (r ∷ rs) (suc k) = test_at rs k

-- where no number is given none of the rows applies
pub none_applies : (rs : List (Bool × ℕ)) → without 0 rs ≡ true → first_row rs ≡ 0 → (k : ℕ) → test_at rs k ≡ false
none_applies [] w e k = refl
none_applies (r ∷ rs) w e k =
    go r.0 k (not-true (eqb r.1 0) (and_left (not (eqb r.1 0)) (without 0 rs) w)) e
    (none_applies rs (and_right (not (eqb r.1 0)) (without 0 rs) w))
  where
    go : (b : Bool) (k : ℕ) → eqb r.1 0 ≡ false → cond b r.1 (first_row rs) ≡ 0
        → (first_row rs ≡ 0 → (k : ℕ) → test_at rs k ≡ false)
        → test_at ((b, r.1) ∷ rs) k ≡ false
    go true k z e below = absurd (eqb-false r.1 0 z e)
    go false zero z e below = refl
    go false (suc k) z e below = below e k

pub record Clear (m : Model) (bs : List ℕ) (area : ℕ) : Type 0 where
  pub room : ltb area step_area ≡ false
  pub operation : no_operation bs (decode bs) ≡ false
  pub size : wrong_length bs (decode bs) ≡ false
  pub form : malformed (decode bs) ≡ false
  pub party : wrong_party (decode bs) ≡ false
  pub arc : wrong_arc (decode bs) ≡ false
  pub free : party_waits m (decode bs) ≡ false
  pub entry : no_entry m (decode bs) ≡ false
  pub writer : not_writer m (decode bs) ≡ false
  pub unheld : not_free m (decode bs) ≡ false
  pub live : not_live m (decode bs) ≡ false
  pub own : not_own m (decode bs) ≡ false
  pub lease : no_lease (decode bs) ≡ false
  pub time : too_late m (decode bs) ≡ false
  pub entry-room : entries_full m (decode bs) ≡ false
  pub txn-room : txns_full m (decode bs) ≡ false
  pub registration_room : registrations_full m (decode bs) ≡ false
  pub numbers : no_number m (decode bs) ≡ false

pub clear : (m : Model) (bs : List ℕ) (area : ℕ) → refusal m bs area ≡ 0 → Clear m bs area
unfolding refusal
clear m bs area e =
    let r = none_applies (rows m bs area) refl e in
    record {
      room = r 0;
      operation = r 1;
      size = r 2;
      form = r 3;
      party = r 4;
      arc = r 5;
      free = r 6;
      entry = r 7;
      writer = r 8;
      unheld = r 9;
      live = r 10;
      own = r 11;
      lease = r 12;
      time = r 13;
      entry-room = r 14;
      txn-room = r 15;
      registration_room = r 16;
      numbers = r 17;
    }

-- who waits not, of the party of a frame that is no abort
pub none-waits : (m : Model) (f : Frame) → is_abort f.op ≡ false → party_waits m f ≡ false
    → {w : LookUp} → Memᴰ w m.waits → w.party ≡ f.party → ⊥
unfolding party_waits
none-waits m f t e {w} i q =
    let r = none_mem (λ (v : LookUp). eqb v.party f.party && not (withdraws f v)) e i in
    true≢false (sym (rw (eq-eqb w.party f.party q, t)) ∙ r)

-- ---- the table in parts
-- and so none is given; k is not 0, which says that none applies
pub first-without : (k : ℕ) (rs : List (Bool × ℕ)) → eqb 0 k ≡ false → without k rs ≡ true → eqb (first_row rs) k
    ≡ false
first-without k [] z e = z
first-without k (r ∷ rs) z e =
    cond_cases (λ n. eqb n k ≡ false) r.0 (λ t. not-true (eqb r.1 k)
    (and_left (not (eqb r.1 k)) (without k rs) e))
    (λ t. first-without k rs z (and_right (not (eqb r.1 k)) (without k rs) e))

-- the first of some rows that applies, or else of the rows behind them
pub first-append : (xs ys : List (Bool × ℕ)) → without 0 xs ≡ true
    → first_row (xs ++ ys) ≡ cond (eqb (first_row xs) 0) (first_row ys) (first_row xs)
first-append [] ys e = refl
first-append (x ∷ xs) ys e =
    go x.0 (not-true (eqb x.1 0) (and_left (not (eqb x.1 0)) (without 0 xs) e))
    (first-append xs ys (and_right (not (eqb x.1 0)) (without 0 xs) e))
  where
    go : (b : Bool) → eqb x.1 0 ≡ false → first_row (xs ++ ys) ≡ cond (eqb (first_row xs) 0) (first_row ys)
        (first_row xs)
        → cond b x.1 (first_row (xs ++ ys)) ≡ cond (eqb (cond b x.1 (first_row xs)) 0) (first_row ys)
        (cond b x.1 (first_row xs))
    go true q below = rw q
    go false q below = below

-- the answers area is judged first, then the frame's bytes, then the frame against the space
pub refusal_parts : (m : Model) (bs : List ℕ) (area : ℕ)
    → refusal m bs area
    ≡ cond (ltb area step_area) area_refused
    (cond (eqb (form_refusal bs) 0) (space_refusal m (decode bs)) (form_refusal bs))
unfolding refusal form_refusal space_refusal
refusal_parts m bs area =
    let f = decode bs in
    ap (λ n. cond (ltb area step_area) area_refused n)
    (first-append (form_rows bs f) (admission_rows m f ++ room_rows m f)
    refl)

-- no frame's bytes, and no frame against the space, are refused with 1
pub form_not-area : (bs : List ℕ) → eqb (form_refusal bs) area_refused ≡ false
unfolding form_refusal
form_not-area bs = first-without area_refused (form_rows bs (decode bs)) refl refl

pub space-not-area : (m : Model) (f : Frame) → eqb (space_refusal m f) area_refused ≡ false
unfolding space_refusal
space-not-area m f = first-without area_refused (admission_rows m f ++ room_rows m f) refl refl

-- a frame that 2 lets pass has an operation
pub is_one : (bs : List ℕ) → no_operation bs (decode bs) ≡ false → is_operation (decode bs).op ≡ true
unfolding no_operation
is_one bs e = not-false _ (or_right (eqb (length bs) 0) _ e)

-- no refusal has the number 0
pub number_not_zero : (r : Refusal) → number r ≡ 0 → ⊥
number_not_zero r z = grind arith
