-- Capacities hold of every space that frames make.
use mathlib.Core.List.{List}
use native.Mathlib.Omega.{arith}
use Rattle.rules.specs.State.{Bounded}
use Rattle.rules.specs.Sound.{Sound}
use Rattle.rules.proofs.Capacity.{step_fits}
use Rattle.sound.proofs.SoundProof.{sound_empty, sound-step}
use Rattle.demands.specs.Machine.{Input}
use Rattle.demands.proofs.Runs.{made, made_keep}

pub bounded : (is : List Input) → Bounded (made is)
bounded is =
    (made_keep (λ m. Sound m × Bounded m)
    (λ i m k. (sound-step m i.frame i.area k.0, (step_fits m i.frame i.area k.0 k.1).0)) (
      sound_empty,
      record {
        entries_fit = omega arith;
        txns_fit = omega arith;
        waits_fit = omega arith;
        registrations_fit = omega arith;
      },
    ) is).1
