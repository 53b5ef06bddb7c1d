-- What is counted of a tray's frames, one after another.
use Rattle.std.specs.Prelude.{ℕ, ◌+◌, ◌*◌, ◌≤◌, min, cond, ◌||◌, List}
use Rattle.rules.specs.Numbers.{max_frames, max_registrations}
use Rattle.rules.specs.Frame.{is_write, is_look_up, is_create, is_commit, is_notify}
use Rattle.bounds.specs.declared.Counts.{Counts}
use Rattle.bounds.specs.Bounds.{many, records_bound}

-- a frame's bells, where so many may ring
abbrev pub rings : ℕ → ℕ → ℕ
rings op n = cond (is_write op || is_commit op) n 0

-- a frame's share of the records, where some notify frames are ahead of it
abbrev pub share : ℕ → ℕ → ℕ
share op ahead =
    1 + cond (is_look_up op) 1 0 + cond (is_create op) 1 0 + rings op (min max_registrations ahead)

-- some frames, counted
abbrev pub counts_of : List (List ℕ) → Counts
counts_of fs = record { writes = many is_write fs; notifies = many is_notify fs; records = records_bound fs }

-- and one more
abbrev pub counting : ℕ → Counts → Counts
counting op c =
    record {
      writes = c.writes + cond (is_write op) 1 0;
      notifies = c.notifies + cond (is_notify op) 1 0;
      records = c.records + share op c.notifies;
    }

-- no more frames than a tray may have, each with a share of 11 at most
pub record FewFrames (c : Counts) : Type 0 where
  pub writes : c.writes ≤ max_frames
  pub notifies : c.notifies ≤ max_frames
  pub records : c.records ≤ 11 * max_frames
