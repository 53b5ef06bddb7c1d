-- What one frame adds to the bounds, and what its step adds to the tables and records.
use Prim.Native.Nat.{ℕ, ◌+◌, ◌≤◌, min}
use mathlib.Core.Bool.{Bool, true, false, not, cond, ◌&&◌, ◌||◌}
use mathlib.Core.Logic.{⊎_elim}
use mathlib.Core.Path.{◌≡◌}
use mathlib.Core.List.{List, ◌∷◌}
use native.Mathlib.Omega.{arith}
use lib.Dec.{eqb}
use lib.ListN.{length, length-append}
use Rattle.rules.specs.declared.Record.{Record}
use Rattle.rules.specs.Numbers.{max_registrations, area_refused}
use Rattle.rules.specs.State.{Model}
use Rattle.rules.specs.Frame.{Frame, decode, is_write, is_look_up, is_create, is_commit, is_notify}
use Rattle.rules.specs.Notify.{made_public, ringing}
use Rattle.rules.specs.Refusals.{refusal}
use Rattle.rules.specs.Step.{Outcome, own_part, finish, carried_out, step, accepted, refused_with}
use Rattle.rules.proofs.BoolLaws.{cond_cases, bool_cases, or_left, or_right}
use Rattle.rules.proofs.ListLaws.{count_cons}
use Rattle.rules.proofs.StepCases.{step_cases}
use Rattle.rules.proofs.NotifyLaws.{none-rung, rings-length, finish-registrations}
use Rattle.rules.proofs.RefusalLaws.{clear, is_one}
use Rattle.rules.proofs.Growth.{one, own_grown, finish_paid}
use Rattle.bounds.specs.Counts.{rings, share}
use Rattle.bounds.specs.Bounds.{kind_of, many, bells_bound}

-- ---- the bounds
-- the records of some frames, where some notify frames are ahead of all
abbrev pub records_from : ℕ → List (List ℕ) → ℕ
records_from ahead fs = length fs + many is_look_up fs + many is_create fs + bells_bound ahead fs

pub many_cons : (p : ℕ → Bool) (f : List ℕ) (fs : List (List ℕ)) → many p (f ∷ fs) ≡ one (p (kind_of f)) + many p fs
unfolding many
many_cons p f fs = count_cons (λ g. p (kind_of g)) f fs

pub records_cons : (ahead : ℕ) (f : List ℕ) (fs : List (List ℕ))
    → records_from ahead (f ∷ fs)
    ≡ share (kind_of f) ahead + records_from (ahead + one (is_notify (kind_of f))) fs
unfolding bells_bound
records_cons ahead f fs = omega (arith, many_cons is_look_up f fs, many_cons is_create f fs)

rings_more : (op : ℕ) {k n : ℕ} → k ≤ n → rings op k ≤ rings op n
rings_more op h = go (is_write op || is_commit op) h
  where
    go : (b : Bool) {k n : ℕ} → k ≤ n → cond b k 0 ≤ cond b n 0
    go true h = h
    go false h = omega arith

-- ---- a step
-- the records still to come: an exception for each live transaction, an answer for each look-up that waits
abbrev pub owed : Model → ℕ
owed m = length m.txns + length m.waits

pub record StepGrown (m : Model) (bs : List ℕ) (o : Outcome) : Type 0 where
  pub entries : length o.model.entries ≤ length m.entries + one (is_write (kind_of bs))
  pub records : length o.records + owed o.model
      ≤ owed m + 1 + one (is_look_up (kind_of bs)) + one (is_create (kind_of bs))
      + rings (kind_of bs) (length m.registrations)
  pub registrations : length o.model.registrations
      ≤ length m.registrations + one (is_notify (kind_of bs))

-- a write that stores is a write
stores_writes : (a b : Bool) → one (a && b) ≤ one a
stores_writes true true = omega arith
stores_writes true false = omega arith
stores_writes false b = omega arith

pub own-entries : (m : Model) (bs : List ℕ) (area : ℕ) → refusal m bs area ≡ 0
    → length (own_part m (decode bs)).model.entries ≤ length m.entries + one (is_write (kind_of bs))
unfolding decode
own-entries m bs area e =
    let f = decode bs in
    omega (
      arith,
      (own_grown m f (is_one bs (clear m bs area e).operation)).entries,
      stores_writes (is_write f.op) (not (eqb f.lease_or_timeout 0)),
    )

-- only a write or a commit rings, each registration once at most
few_ring : (m : Model) (bs : List ℕ)
    → length (ringing (made_public m (decode bs)) m.registrations) ≤ rings (kind_of bs) (length m.registrations)
unfolding decode
few_ring m bs =
    ⊎_elim (λ t. rw t (rings-length (made_public m f) m.registrations))
    (λ (t : (is_write f.op || is_commit f.op) ≡ false). rw (
      none-rung m f (or_left (is_write f.op) _ t) (or_right (is_write f.op) _ t),
      t,
    ) (omega arith))
    (bool_cases (is_write f.op || is_commit f.op))
  where
    f : Frame
    f = decode bs

pub step_grown : (m : Model) (bs : List ℕ) (area : ℕ) → StepGrown m bs (step m bs area)
unfolding refused_with accepted carried_out decode
step_grown m bs area = step_cases (StepGrown m bs) m bs area refused done
  where
    refused : (n : ℕ) → StepGrown m bs (refused_with m bs n)
    refused n =
        let few : length (refused_with m bs n).records ≤ 1 =
        cond_cases (λ (l : List Record). length l ≤ 1) (eqb n area_refused) (λ _. omega arith) (λ _. omega arith) in
        record { entries = omega arith; records = omega (arith, few); registrations = omega arith }

    done : refusal m bs area ≡ 0 → StepGrown m bs (accepted (carried_out m (decode bs)))
    done e =
        let f = decode bs in
        let own = (own_part m f).model in
        let g = own_grown m f (is_one bs (clear m bs area e).operation) in
        let p = finish_paid f own in
        let bells = ringing (made_public m f) m.registrations in
        record {
          entries = omega (arith, p.entries, own-entries m bs area e);
          records = omega (
            arith,
            p.closed,
            g.txns,
            g.waits,
            few_ring m bs,
            length-append (finish f own).records bells,
          );
          registrations = rw (finish-registrations f own) g.registrations;
        }

-- the registrations that ring are at most eight, and at most the notify frames ahead
pub within-share : (op : ℕ) {n ahead : ℕ} → n ≤ max_registrations → n ≤ ahead
    → 1 + one (is_look_up op) + one (is_create op) + rings op n ≤ share op ahead
within-share op {n} {ahead} x y =
    let within : n ≤ min max_registrations ahead = omega arith in
    omega (arith, rings_more op within)
