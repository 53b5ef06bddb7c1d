-- The three demands, over any space; `proofs/Theorems.antt` proves them of the space that is built (`the_space`), for
-- every history.
--
-- A history is a list of frames, any bytes with answers areas of any length, from the empty space. `Made S log t`:
-- frames made the state t, and the log has each frame with the records that its step wrote.
use Rattle.std.specs.Prelude.{◌≡◌, length}
use Rattle.rules.specs.Allowed.{Answered}
use Rattle.rules.specs.SerialRun.{serial_run, Serial}
use Rattle.demands.specs.Machine.{Handed, frame_in, Machine}
use Rattle.demands.specs.History.{EveryState, EveryStep}
use Rattle.demands.specs.Judged.{CarriedOut, Judged}
use Rattle.demands.specs.Said.{Said}
use Rattle.demands.specs.Book.{book_of, Booked}
use Rattle.demands.specs.Told.{Explained}
use Rattle.demands.specs.Registry.{registry_of, RegisteredIn}

-- Demand 1. "A request frame, whole, short or garbled, is carried out or refused with a number; a refused frame changes
-- nothing but the refusal record."
pub record Demand1 (S : Machine) : Type 0 where
  -- a space begins, and after every history each frame is answered
  pub begins : (s : S.State) × S.Empty s
  pub answers : EveryState S (λ log t. (h : Handed) → (u : S.State) × (a : Answered) × S.Steps t h u a)
  -- with the number of the first row of the table that applies, or with 0: then it is carried out, as demand 2 says
  pub judged : EveryStep S (Judged S)

-- Demand 2. "Every answer is one that the rules allow: found exactly when an entry is available, nothing only under the
-- stated conditions, a closing answer by the deadline." What these words say follows from the clauses below, for any
-- space: `found_exactly`, `nothing_only` and `in_time` in `Consequences`.
pub record Demand2 (S : Machine) : Type 0 where
  -- a frame that is carried out says what document 01 says, record by record: its own record first, then exceptions,
  -- founds in the order served, nothings, those of kind 11
  pub said : EveryStep S (λ t h u a. CarriedOut S t h → Said (frame_in h) (S.view t) a.records)
  -- the count that is returned is that of the records written
  pub counted : EveryStep S (λ t h u a. a.count ≡ length a.records)
  -- the space's clock, next numbers, live transactions, waiting look-ups and its entries' writers are what the frames
  -- and records alone tell;
  -- each found and nothing closes exactly one open look-up, and numbers are counted, each from 1
  pub booked : EveryState S (λ log t. Booked (book_of log) (S.view t))
  -- its stored entries, to whom they are private, by whom taken and read, are what the serial run's set and the live
  -- transactions' lists tell
  pub told : EveryState S (λ log t. Explained (serial_run log) (S.view t))
  -- its registrations, each with the total of the matching entries made public since, are what frames and records tell
  -- (document 02, T-03)
  pub registered : EveryState S (λ log t. RegisteredIn (registry_of log) (S.view t))

-- Demand 3. "For every list of frames from the empty space, the committed entries are exactly those of the serial run:
-- one theorem over whole histories."
unfoldable pub Demand3 : Machine → Type 0
Demand3 S = EveryState S (λ log t. Serial (serial_run log) (S.view t))

-- The demands leave nothing open: whatever meets the first two answers exactly as the rules do (`Determined`). So the
-- third follows from them, and the answer to every list of frames is fixed (`Fixed`).
