-- What follows for any space that meets demands 1 and 2, in the words of the mission: "found exactly when an entry is
-- available, nothing only under the stated conditions, a closing answer by the deadline".
use Rattle.std.specs.Prelude.{◌≤◌, true, ◌≡◌, List, ◌++◌, length}
use Rattle.rules.specs.Numbers.{forever, step_records}
use Rattle.rules.specs.Lists.{filterb, anyb}
use Rattle.rules.specs.Frame.{is_look_up}
use Rattle.rules.specs.LookUp.{look_up_of, asked}
use Rattle.rules.specs.Sound.{OneEach}
use Rattle.rules.specs.SerialRun.{Logged}
use Rattle.rules.specs.Log.{records_of}
use Rattle.rules.specs.Records.{is_ticked}
use Rattle.demands.specs.Machine.{frame_in, Machine}
use Rattle.demands.specs.History.{History, EveryState, EveryStep}
use Rattle.demands.specs.Judged.{CarriedOut}
use Rattle.demands.specs.Answers.{AnsweredNow, NothingLeft, Settled, closes}
use Rattle.demands.specs.Demands.{Demand1, Demand2}

pub record Consequences (S : Machine) : Type 0 where
  -- a look-up that is not refused is answered at once, one statement for the four kinds: found exactly when an entry is
  -- available, with the oldest of those; nothing exactly under the stated conditions, else waiting
  pub found_exactly : EveryStep S (λ t h u a. CarriedOut S t h → is_look_up (frame_in h).op ≡ true
      → AnsweredNow (S.view t) (look_up_of (S.view t) (frame_in h)) (frame_in h).lease_or_timeout a.records (S.view u))
  -- what is given nothing, at once or later, has no available entry when the step is over
  pub nothing_only : EveryStep S (λ t h u a. CarriedOut S t h
      → NothingLeft (asked (S.view t) (frame_in h)) a.records (S.view u))
  -- after as many carried-out ticks as its timeout a look-up has had its closing answer, FOREVER excepted
  pub in_time : EveryStep S (λ t h u a. (later : List Logged) (v : S.State) → History S u later v
      → CarriedOut S t h
      → is_look_up (frame_in h).op ≡ true
      → ((frame_in h).lease_or_timeout ≡ forever → ⊥)
      → (frame_in h).lease_or_timeout ≤ length (filterb is_ticked (a.records ++ records_of later))
      → anyb (closes (frame_in h).party (frame_in h).txn) (a.records ++ records_of later) ≡ true)
  -- after each step no waiting look-up has an available entry, and every deadline lies ahead; a party has at most one
  pub settled : EveryState S (λ log t. Settled (S.view t))
  pub one_each : EveryState S (λ log t. OneEach (S.view t))
  -- "A step writes at most 25 records"
  pub few : EveryStep S (λ t h u a. length a.records ≤ step_records)

unfoldable pub ConsequencesFollow : Type 1
ConsequencesFollow = (S : Machine) → Demand1 S → Demand2 S → Consequences S
