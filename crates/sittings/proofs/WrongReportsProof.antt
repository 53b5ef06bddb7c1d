-- The wrong reports, each by a tray that is computed: a word, or the number returned, is another.
use Rattle.std.proofs.Common.{◌≡◌, ℕ, ◌+◌, ◌*◌, List, [], ◌∷◌, ◌++◌, length, get_or, refl, ap, arith}
use Rattle.rules.specs.Lists.{joined}
use Rattle.rules.specs.Numbers.{kind_exception, kind_aborted}
use Rattle.rules.specs.Frame.{four_bytes}
use Rattle.rules.specs.SerialRun.{was_refused}
use Rattle.rules.specs.Log.{log_from, records_of}
use Rattle.rules.proofs.Computed.{all-trays}
use Rattle.demands.specs.Frames.{read_by, create_by, abort_by, a_tick}
use Rattle.sittings.specs.Waits.{sitting, waits, waited, waits_of, asked_by, founds_of}
use Rattle.sittings.specs.Report.{sum, greatest, sittings, figures, report_of}
use Rattle.sittings.specs.WrongReports.{waits_by, ticks_up_to, ticks_before, last, report_by, Keeps, handed_in}
use Rattle.sittings.specs.WrongReports.{without_closing, answered_at_once, of_another, refused_counted, refused_unseen}
use Rattle.sittings.specs.WrongReports.{end_unseen, open_unseen, zero_unseen, last_wait, WrongReports}

-- a tray of frames, one behind the other
unfoldable pair_bytes : ℕ → List (List ℕ) → List ℕ
pair_bytes at [] = []
pair_bytes at (f ∷ fs) = four_bytes at ++ four_bytes (length f) ++ pair_bytes (at + length f) fs

unfoldable tray_of : List (List ℕ) → List ℕ
tray_of fs = four_bytes (length fs) ++ pair_bytes (4 + 8 * length fs) fs ++ joined fs

-- two pairs, of which the second begins before the first ends; the first is a look-up's
abbrev bad_tray : List ℕ
bad_tray = four_bytes 2 ++ four_bytes 20 ++ four_bytes 28 ++ four_bytes 4 ++ four_bytes 0 ++ read_by 1 0 0 7

-- a word of the report of one tray
same_word : (told : List (List ℕ) → List ℕ) → Keeps told → (tray : List ℕ) (i : ℕ)
    → get_or (told (tray ∷ [])) i 0 ≡ get_or (report_of (tray ∷ [])) i 0
same_word told keeps tray i = ap (λ l. get_or l i 0) ((keeps [] tray (omega arith)).report [] (omega arith) refl)

-- party 1's words: look-ups not refused, founds, the longest wait, ticks waited in all, count of waits
abbrev asked : ℕ
asked = 2

abbrev longest : ℕ
longest = 4

abbrev count : ℕ
count = 6

pub wrong_reports : WrongReports
unfolding all-trays was_refused log_from records_of sitting waits waited waits_of asked_by founds_of sum greatest
    sittings
    figures report_of waits_by ticks_up_to ticks_before last report_by handed_in pair_bytes tray_of
wrong_reports =
    record {
      -- waiting; ticked, nothing
      without_closing_lem = λ keeps.
          let z : ◌≡◌ {A = ℕ} 0 1 = same_word without_closing keeps (tray_of (read_by 1 0 1 7 ∷ a_tick ∷ [])) longest in
          omega (arith, z);
      -- nothing
      answered_at_once_lem = λ keeps.
          let z : ◌≡◌ {A = ℕ} 1 0 = same_word answered_at_once keeps (tray_of (read_by 1 0 0 7 ∷ [])) count in
          omega (arith, z);
      -- waiting; nothing, to party 2; ticked; ticked, nothing
      of_another_lem = λ keeps.
          let fs = read_by 1 0 2 7 ∷ read_by 2 0 0 7 ∷ a_tick ∷ a_tick ∷ [] in
          let z : ◌≡◌ {A = ℕ} 0 2 = same_word of_another keeps (tray_of fs) longest in omega (arith, z);
      -- created; waiting; ticked, exception; ticked
      exception_unseen = λ keeps.
          let fs = create_by 1 1 ∷ read_by 1 1 5 7 ∷ a_tick ∷ a_tick ∷ [] in
          let z : ◌≡◌ {A = ℕ} 2 1 = same_word (end_unseen kind_exception) keeps (tray_of fs) longest in omega
          (arith, z);
      -- created; waiting; aborted; ticked
      abort_unseen = λ keeps.
          let fs = create_by 1 9 ∷ read_by 1 1 5 7 ∷ abort_by 1 1 ∷ a_tick ∷ [] in
          let z : ◌≡◌ {A = ℕ} 1 0 = same_word (end_unseen kind_aborted) keeps (tray_of fs) longest in omega (arith, z);
      -- waiting; ticked
      open_unseen_lem = λ keeps.
          let z : ◌≡◌ {A = ℕ} 0 1 = same_word open_unseen keeps (tray_of (read_by 1 0 2 7 ∷ a_tick ∷ [])) longest in
          omega (arith, z);
      -- waiting
      zero_unseen_lem = λ keeps.
          let z : ◌≡◌ {A = ℕ} 0 1 = same_word zero_unseen keeps (tray_of (read_by 1 0 1 7 ∷ [])) count in
          omega (arith, z);
      refused_counted_lem = λ keeps.
          let z : ◌≡◌ {A = ℕ} 1 0 = same_word refused_counted keeps bad_tray asked in omega (arith, z);
      -- two ticks, then one
      last_wait_lem = λ keeps.
          let fs = read_by 1 0 2 7 ∷ a_tick ∷ a_tick ∷ read_by 1 0 1 7 ∷ a_tick ∷ [] in
          let z : ◌≡◌ {A = ℕ} 1 2 = same_word last_wait keeps (tray_of fs) longest in omega (arith, z);
      refused_unseen_lem = λ keeps. let z : ◌≡◌ {A = ℕ} 0 1 = same_word refused_unseen keeps bad_tray 0 in omega
          (arith, z);
      one_too_many = λ tray after a. omega (arith, (a.full (omega arith)).0);
      refused_first = λ after a. omega (arith, (a.full (omega arith)).0);
      full_and_changed = λ tray a.
          let z : ◌≡◌ {A = ℕ} 65 64 = ap (λ l. get_or l 0 0) (a.full (omega arith)).1 in omega (arith, z);
      one_too_few = λ after a. omega (arith, a.number (omega arith));
    }
