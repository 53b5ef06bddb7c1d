-- The words of a setup: "rounds, panes, starting entries", then six words for each pane and five for each starting
-- entry (document 02, T-13).
use Rattle.std.specs.Prelude.{ℕ, zero, suc, ◌+◌, ◌*◌, Bool, not, ◌||◌, List, [], ◌∷◌, ◌++◌, eqb, ltb, length, get_or}
use Rattle.rules.specs.Lists.{first_row}
use Rattle.rules.specs.Numbers.{panes_refused, rounds_refused}
use Rattle.rules.specs.Template.{four_fields}
use Rattle.rules.specs.Frame.{frame_bytes}
use Rattle.rules.specs.declared.Request.TheVariants.{Write}
use Rattle.rules.specs.Requests.{frame_of}
use Rattle.trial.specs.declared.Pane.{Pane}

abbrev pub rounds_in : List ℕ → ℕ
rounds_in ws = get_or ws 0 0

abbrev pub pane_count : List ℕ → ℕ
pane_count ws = get_or ws 1 0

abbrev pub starting_count : List ℕ → ℕ
starting_count ws = get_or ws 2 0

-- "23 when panes are not 1-4 or starting entries exceed 8": also where the words are not as many as that, or the counts
-- have no room for three of each pane
unfoldable pub bad_setup : List ℕ → ℕ → Bool
bad_setup ws room =
    ltb (length ws) 3
    || eqb (pane_count ws) 0
    || ltb 4 (pane_count ws)
    || ltb 8 (starting_count ws)
    || not (eqb (length ws) (3 + 6 * pane_count ws + 5 * starting_count ws))
    || ltb room (3 * pane_count ws)

-- "24 when rounds exceed 1,000, after 23"
unfoldable pub setup_refusal : List ℕ → ℕ → ℕ
setup_refusal ws room =
    first_row ((bad_setup ws room, panes_refused) ∷ (ltb 1000 (rounds_in ws), rounds_refused) ∷ [])

-- as many, by their places from 0 on
unfoldable pub places : {A : Type 0} → (ℕ → A) → ℕ → List A
places f zero = []
places f (suc n) = places f n ++ (f n ∷ [])

-- transaction lease, take's timeout, kind taken, lease of what it writes, kind written, hold
unfoldable pub pane_at : List ℕ → ℕ → Pane
pane_at ws i =
    record {
      txn_lease = get_or ws (3 + 6 * i) 0;
      timeout = get_or ws (3 + 6 * i + 1) 0;
      taken = get_or ws (3 + 6 * i + 2) 0;
      lease = get_or ws (3 + 6 * i + 3) 0;
      written = get_or ws (3 + 6 * i + 4) 0;
      hold = get_or ws (3 + 6 * i + 5) 0;
    }

abbrev pub panes_in : List ℕ → List Pane
panes_in ws = places (pane_at ws) (pane_count ws)

-- "starting entries, each with its own fields and lease, are written first by party 16"
unfoldable pub starting_frame : List ℕ → ℕ → List ℕ
starting_frame ws j =
    let o = 3 + 6 * pane_count ws + 5 * j in
    frame_bytes (frame_of (Write (record {
      txn = record { 0 = 0 };
      party = 16;
      blanks = 0;
      lease = get_or ws (o + 4) 0;
      fields = four_fields (get_or ws o 0) (get_or ws (o + 1) 0) (get_or ws (o + 2) 0) (get_or ws (o + 3) 0);
    })))

abbrev pub starting_frames : List ℕ → List (List ℕ)
starting_frames ws = places (starting_frame ws) (starting_count ws)
