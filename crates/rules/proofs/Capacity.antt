-- The tables' bounds, and that a step writes at most 25 records.
use Prim.Native.Nat.{ℕ, ◌+◌, ◌≤◌}
use mathlib.Core.Bool.{Bool, true, false, cond, ◌&&◌}
use mathlib.Core.Path.{◌≡◌, refl}
use mathlib.Core.List.{List}
use native.Mathlib.Omega.{arith}
use borrow.Author.Tests.{leb-false}
use lib.Dec.{eqb, leb}
use lib.ListN.{length, length-append}
use Rattle.rules.specs.declared.Record.{Record}
use Rattle.rules.specs.Numbers.{max_txns, max_waits, max_registrations, step_records, area_refused}
use Rattle.rules.specs.State.{Model, Bounded}
use Rattle.rules.specs.Frame.{Frame, decode, is_look_up, is_create, is_notify, is_tick}
use Rattle.rules.specs.Done.{Done}
use Rattle.rules.specs.Notify.{made_public, ringing}
use Rattle.rules.specs.Refusals.{entries_full, txns_full, registrations_full}
use Rattle.rules.specs.Sound.{Sound}
use Rattle.rules.specs.Step.{Outcome, own_part, finish, carried_out, step, accepted, refused_with}
use Rattle.rules.proofs.BoolLaws.{cond_cases}
use Rattle.rules.proofs.StepCases.{step_cases}
use Rattle.rules.proofs.NotifyLaws.{tick_public, rings-none, rings-length, finish-registrations}
use Rattle.rules.proofs.RefusalLaws.{Clear, clear, is_one}
use Rattle.rules.proofs.SoundLaws.{room-left}
use Rattle.rules.proofs.Growth.{one, stores, Grown, own_grown, Paid, finish_paid, finish-txns}

-- a table takes one more only where it has room
room : (more : Bool) {n k most : ℕ} → (more && leb most n) ≡ false → k ≤ n + one more → n ≤ most → k ≤ most
room true {n} {k} {most} e h fit = omega (arith, leb-false most n e)
room false e h fit = omega arith

pub own-fits : (m : Model) (bs : List ℕ) (area : ℕ) → Clear m bs area → Sound m → Bounded m
    → Bounded (own_part m (decode bs)).model
unfolding entries_full txns_full registrations_full
own-fits m bs area c s b =
    record {
      entries_fit = room (stores f) c.entry-room g.entries b.entries_fit;
      txns_fit = room (is_create f.op) c.txn-room g.txns b.txns_fit;
      waits_fit = wait (is_look_up f.op) refl g.waits;
      registrations_fit = room (is_notify f.op) c.registration_room g.registrations b.registrations_fit;
    }
  where
    f : Frame
    f = decode bs

    g : Grown f m (own_part m f).model
    g = own_grown m f (is_one bs c.operation)

    wait : (more : Bool) → is_look_up f.op ≡ more → {k : ℕ} → k ≤ length m.waits + one more → k ≤ max_waits
    wait true t h = omega (arith, room-left m f t c.party c.free s)
    wait false t h = omega (arith, b.waits_fit)

-- the end of a step leaves no table larger
paid_fits : {m : Model} {d : Done} → Paid m d → length d.model.registrations ≤ length m.registrations
    → Bounded m → Bounded d.model
paid_fits p r b =
    record {
      entries_fit = omega (arith, p.entries, b.entries_fit);
      txns_fit = omega (arith, p.txns, b.txns_fit);
      waits_fit = omega (arith, p.waits, b.waits_fit);
      registrations_fit = omega (arith, r, b.registrations_fit);
    }

-- the exceptions of a frame: none but in a tick; so there are at most 24 records behind a tick's own, else 16
abbrev endings : Frame → ℕ
endings f = cond (is_tick f.op) max_txns 0

finish-few : (f : Frame) (m : Model) → Bounded m → length (finish f m).records ≤ endings f + max_waits
finish-few f m b = go (is_tick f.op) refl
  where
    go : (t : Bool) → is_tick f.op ≡ t → length (finish f m).records ≤ cond t max_txns 0 + max_waits
    go true t = omega (arith, (finish_paid f m).closed, b.txns_fit, b.waits_fit)
    go false t = omega (arith, rw (finish-txns f m t) at (finish_paid f m).closed, b.waits_fit)

-- and at most 8 of kind 11, but none in a tick
rings-fit : (m : Model) (f : Frame) → Bounded m
    → endings f + length (ringing (made_public m f) m.registrations) ≤ max_registrations
rings-fit m f b = go (is_tick f.op) refl
  where
    n : ℕ
    n = length (ringing (made_public m f) m.registrations)

    go : (t : Bool) → is_tick f.op ≡ t → cond t max_txns 0 + n ≤ max_registrations
    go true t = rw (tick_public m f t, rings-none) (omega arith)
    go false t = omega (arith, rings-length (made_public m f) m.registrations, b.registrations_fit)

-- capacities are kept, and a step writes at most 25 records
pub step_fits : (m : Model) (bs : List ℕ) (area : ℕ) → Sound m → Bounded m
    → Bounded (step m bs area).model × (length (step m bs area).records ≤ step_records)
unfolding refused_with accepted carried_out
step_fits m bs area s b =
    step_cases (λ (o : Outcome). Bounded o.model × (length o.records ≤ step_records)) m bs area
    (λ n. (
      b,
      cond_cases (λ (l : List Record). length l ≤ step_records) (eqb n area_refused) (λ q. omega arith)
          (λ q. omega arith),
    ))
    (λ e. let f = decode bs in
    let own = (own_part m f).model in
    let fits = own-fits m bs area (clear m bs area e) s b in
    let last = ringing (made_public m f) m.registrations in (
      paid_fits (finish_paid f own) (rw (finish-registrations f own) (omega arith)) fits,
      omega (arith, finish-few f own fits, rings-fit m f b, length-append (finish f own).records last),
    ))
