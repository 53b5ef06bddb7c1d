-- Hints stay reliable through a step, if they follow what it brings.
use Prim.Native.Nat.{ℕ}
use mathlib.Core.Bool.{true}
use mathlib.Core.Logic.{inl, inr}
use mathlib.Core.Path.{◌≡◌, subst⁻¹}
use mathlib.Core.List.{List}
use native.Mathlib.Omega.{arith}
use Rattle.rules.specs.Time.{until}
use Rattle.rules.specs.State.{Model}
use Rattle.rules.specs.Frame.{Frame, decode, is_look_up, is_create, is_notify}
use Rattle.rules.specs.Step.{step}
use Rattle.rules.specs.Sound.{Sound}
use Rattle.sound.proofs.Becomes.{ends_entry}
use Rattle.hints.specs.declared.known.Hints.{Hints}
use Rattle.hints.specs.Hints.{NotBefore, Flagged, Weaker, Knows, IdleAbove, Reliable, Renewed}
use Rattle.hints.proofs.EndsLaws.{entries-end, txns-end, registrations-end, waits-last}
use Rattle.hints.proofs.IdleLaws.{ActsUpTo, idle-step}

-- hints once a frame is over, from those before: they say less, and know of what is new
pub record Follows (f : Frame) (m n : Model) (hs hs' : Hints) : Type 0 where
  pub weaker : Weaker hs hs'
  pub acts : ActsUpTo hs'.acted f
  pub entry : ends_entry f.op ≡ true → (f.lease_or_timeout ≡ 0 → ⊥)
      → NotBefore hs'.least (until m.clock f.lease_or_timeout)
  pub txn : is_create f.op ≡ true → NotBefore hs'.least (until m.clock f.lease_or_timeout)
  pub registration : is_notify f.op ≡ true → NotBefore hs'.least (until m.clock f.lease_or_timeout)
  pub wait : is_look_up f.op ≡ true → Knows hs' n.waits

pub reliable-step : {hs hs' : Hints} (m : Model) (bs : List ℕ) (area : ℕ) → Sound m → Reliable hs m
    → Follows (decode bs) m (step m bs area).model hs hs' → Reliable hs' (step m bs area).model
reliable-step {hs} {hs'} m bs area s r k =
    let sooner = k.weaker.falls in
    let waits =
    waits-last m bs area s (λ w. NotBefore hs'.least w.deadline × Flagged hs' w)
    (λ w i. (λ c l. r.ends.waits w i c (omega arith), k.weaker.stays w.party (r.flagged w i))) k.wait in
    record {
      ends = record {
        entries = entries-end m bs area s (NotBefore hs'.least) k.entry
            (λ e i c l. r.ends.entries e i c (omega arith));
        txns = txns-end m bs area s (NotBefore hs'.least) k.txn (λ t i c l. r.ends.txns t i c (omega arith));
        waits = λ w i. (waits w i).0;
        registrations = registrations-end m bs area s (NotBefore hs'.least) k.registration
            (λ g i c l. r.ends.registrations g i c (omega arith));
      };
      flagged = λ w i. (waits w i).1;
      idle = λ l. let g = k.weaker.grows in
          idle-step m bs area k.acts s (λ t i above. r.idle (omega arith) t i (omega arith));
    }

-- hints that say no more are as reliable
pub weaker-reliable : {hs hs' : Hints} {m : Model} → Weaker hs hs' → Reliable hs m → Reliable hs' m
weaker-reliable w r =
    let sooner = w.falls in
    record {
      ends = record {
        entries = λ e i c l. r.ends.entries e i c (omega arith);
        txns = λ t i c l. r.ends.txns t i c (omega arith);
        waits = λ x i c l. r.ends.waits x i c (omega arith);
        registrations = λ g i c l. r.ends.registrations g i c (omega arith);
      };
      flagged = λ x i. w.stays x.party (r.flagged x i);
      idle = λ l. let g = w.grows in λ t i above. r.idle (omega arith) t i (omega arith);
    }

pub renewed-reliable : {hs hs' : Hints} {m : Model} → Renewed hs m hs' → Reliable hs m → Reliable hs' m
renewed-reliable {m = m} (inl e) r = subst⁻¹ (λ h. Reliable h m) e r
renewed-reliable {m = m} (inr a) r =
    record {
      ends = a.ends;
      flagged = a.flagged;
      idle = λ l. subst⁻¹ (λ k. IdleAbove k m) a.same (r.idle (omega (arith, a.same)));
    }
