-- Wrong tallies do not balance: each by a short history of the rules, computed.
use Prim.Native.Nat.{ℕ}
use mathlib.Core.Path.{◌≡◌}
use mathlib.Core.List.{List, [], ◌∷◌}
use native.Mathlib.Omega.{arith}
use Rattle.rules.specs.State.{empty}
use Rattle.rules.specs.Step.{step}
use Rattle.rules.specs.SerialRun.{Logged, was_refused}
use Rattle.rules.specs.Log.{records_of}
use Rattle.demands.specs.Frames.{take_by, create_by, abort_by}
use Rattle.demands.specs.WaitingList.{closed_as, fates, Tally, Balances, Explains, WrongTallies}
use Rattle.rules.proofs.Computed.{all_rules}
use Rattle.demands.proofs.RuledOutProof.{last_of, log_of, from_empty}

-- what a tally says after a list of frames
after : (tally : List Logged → Tally) → Explains tally → (fs : List (List ℕ))
    → Balances (tally (log_of step empty fs)) (last_of step empty fs)
after tally d fs = d (log_of step empty fs) (last_of step empty fs) (from_empty step fs)

-- a look-up waits in a transaction, and is withdrawn
abbrev escape : List (List ℕ)
escape = create_by 1 9 ∷ take_by 1 1 9 7 ∷ abort_by 1 1 ∷ []

pub each_wrong : WrongTallies
unfolding all_rules was_refused last_of log_of records_of closed_as fates
each_wrong =
    record {
      withdrawn_as_nothing = λ d. let q : ◌≡◌ {A = ℕ} 1 2 = after _ d escape in omega arith;
      without_aborts = λ d. let q : ◌≡◌ {A = ℕ} 1 0 = after _ d escape in omega arith;
      -- nobody waits inside
      every_end = λ d. let q : ◌≡◌ {A = ℕ} 0 1 = after _ d (create_by 1 9 ∷ abort_by 1 1 ∷ []) in omega arith;
    }
