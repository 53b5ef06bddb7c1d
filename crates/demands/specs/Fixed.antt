-- "The answer to every frame list is then fixed completely" (document 02, T-02).
use Rattle.std.specs.Prelude.{ℕ, ◌*◌, ◌≡◌, List, map, length, take}
use Rattle.rules.specs.declared.Record.{Record}
use Rattle.rules.specs.Numbers.{record_size}
use Rattle.rules.specs.Words.{view}
use Rattle.rules.specs.Allowed.{Answered, TrayRan}
use Rattle.rules.specs.SerialRun.{Logged}
use Rattle.demands.specs.Machine.{Machine, the_space}
use Rattle.demands.specs.History.{answers_of, Made, inputs_of}
use Rattle.demands.specs.Demands.{Demand1, Demand2}

-- an answer, with the bytes of the area that its records fill (those behind them keep their contents: `Judged.kept`)
pub record Reply : Type 0 where
  pub records : List Record
  pub count : ℕ
  pub number : ℕ
  pub bytes : List ℕ

abbrev pub reply_of : Answered → Reply
reply_of a =
    record {
      records = a.records;
      count = a.count;
      number = a.number;
      bytes = take (record_size * length a.records) a.area;
    }

-- Of two histories with the same frames and area lengths:
pub record Fixed : Type 1 where
  -- whatever two spaces meet the demands, or one and the same: they reply alike; and the logs are one, so demand 2
  -- tells one book and one set of entries of both
  pub replies : (S R : Machine) → Demand1 S → Demand2 S → Demand1 R → Demand2 R
      → (log log' : List Logged) (t : S.State) (u : R.State) (one : Made S log t) (other : Made R log' u)
      → inputs_of one ≡ inputs_of other
      → (map reply_of (answers_of one.2) ≡ map reply_of (answers_of other.2)) × (log ≡ log')
  -- the space that is built has the very same tables then
  pub tables : (log log' : List Logged) (t u : List ℕ) (one : Made the_space log t) (other : Made the_space log' u)
      → inputs_of one ≡ inputs_of other
      → view t ≡ view u
  -- And the same tray and area give the same number and bytes
  pub trays : (tray area : List ℕ) (n k : ℕ) (bytes bytes' : List ℕ)
      → TrayRan tray area n bytes → TrayRan tray area k bytes'
      → (n ≡ k) × (bytes ≡ bytes')
