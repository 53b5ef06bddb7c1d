-- The report over trays, and what handing one in does to it (document 02, T-14).
use Rattle.std.specs.Prelude.{◌≡◌, ℕ, ◌+◌, ◌*◌, ◌<◌, ◌≤◌, max, Bool, true, false, cond, List, [], ◌∷◌, ◌++◌, map}
use Rattle.std.specs.Prelude.{length, drop, ◌==◌, ◌≢◌, nat_eq, slice_index, slice_index_or}
use Rattle.rules.specs.Lists.{filterb, joined}
use Rattle.rules.specs.Numbers.{sittings_refused}
use Rattle.rules.specs.Tray.{tray_refusal}
use Rattle.rules.specs.SerialRun.{Logged}
use Rattle.demands.specs.WaitingList.{number}
use Rattle.sittings.specs.Waits.{sitting, waits_of, asked_by, founds_of}

-- "up to 64 trays"
abbrev pub max_sittings : ℕ
max_sittings = 64

unfoldable pub sum : List ℕ → ℕ
sum [] = 0
sum (n ∷ ns) = n + sum ns

-- "(0 if none)"
unfoldable pub greatest : List ℕ → ℕ
greatest [] = 0
greatest (n ∷ ns) = max n (greatest ns)

abbrev pub is_refused : List ℕ → Bool
is_refused tray = cond (tray_refusal tray == 0) false true

-- the histories of the trays that are not refused: "Refused trays add only to their own count"
unfoldable pub sittings : List (List ℕ) → List (List Logged)
sittings trays = map sitting (filterb (λ t. nat_eq (tray_refusal t) 0) trays)

-- "report per party: look-ups not refused, founds, the longest wait .., ticks waited in all and count of waits": "Each
-- figure equals its sum or maximum over the histories"
unfoldable pub figures : List (List Logged) → ℕ → List ℕ
figures logs p =
    let all = joined (map (waits_of p) logs) in
    sum (map (asked_by p) logs) ∷ sum (map (founds_of p) logs) ∷ greatest all ∷ sum all ∷ length all ∷ []

-- parties are 1 to 16
abbrev pub parties : List ℕ
parties = 1 ∷ 2 ∷ 3 ∷ 4 ∷ 5 ∷ 6 ∷ 7 ∷ 8 ∷ 9 ∷ 10 ∷ 11 ∷ 12 ∷ 13 ∷ 14 ∷ 15 ∷ 16 ∷ []

-- the 82 words of a report: trays handed in, refused ones, then five for each party
unfoldable pub report_of : List (List ℕ) → List ℕ
report_of trays =
    length trays ∷ number is_refused trays ∷ joined (map (figures (sittings trays)) parties)

-- a tray is handed in: the words `before` become `after`, and a number is returned
pub record Added (before tray : List ℕ) (returned : ℕ) (after : List ℕ) : Type 0 where
  -- "25 when more than 64 trays are handed in", whatever the words are
  pub full : max_sittings ≤ slice_index before 0 → (returned ≡ 65536 * sittings_refused) × (after ≡ before)
  -- 15, 16 or 0
  pub number : slice_index_or before 0 0 < max_sittings → returned ≡ 65536 * tray_refusal tray
  -- of a refused tray only words 0 and 1 grow, whatever the words are
  pub refused : slice_index_or before 0 0 < max_sittings → (tray_refusal tray ≢ 0) → drop 2 after ≡ drop 2 before
  -- the report of some trays becomes that of one more
  pub report : (trays : List (List ℕ)) → length trays < max_sittings → before ≡ report_of trays
      → after ≡ report_of (trays ++ (tray ∷ []))
