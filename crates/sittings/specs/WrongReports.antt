-- Wrong reports: the contract, `Added`, rules out each.
use Rattle.std.specs.Prelude.{ℕ, ◌+◌, ◌*◌, ◌<◌, Bool, cond, not, ◌&&◌, List, [], ◌∷◌, ◌++◌, map, length, ◌==◌, nat_eq}
use Rattle.std.specs.Prelude.{nat_le}
use Rattle.rules.specs.declared.Record.{Record}
use Rattle.rules.specs.Lists.{anyb, filterb, joined}
use Rattle.rules.specs.Numbers.{kind_exception, kind_aborted, tray_refused, sittings_refused}
use Rattle.rules.specs.Frame.{four_bytes, decode}
use Rattle.rules.specs.Tray.{tray_refusal}
use Rattle.rules.specs.SerialRun.{Logged}
use Rattle.demands.specs.Answers.{closes}
use Rattle.demands.specs.WaitingList.{is_asked, number}
use Rattle.sittings.specs.Waits.{sitting, ticks, is_of, waits, waited, waits_of, asked_by, founds_of}
use Rattle.sittings.specs.Report.{max_sittings, sum, greatest, is_refused, sittings, parties, report_of, Added}

-- a party's waits, by other rules of which frames begin one and how long it lasts
unfoldable pub waits_by : (Logged → Bool) → (ℕ → ℕ → List Logged → ℕ) → ℕ → List Logged → List ℕ
waits_by begins lasts p [] = []
waits_by begins lasts p (l ∷ later) =
    let rest = waits_by begins lasts p later in
    cond (is_of p l && begins l) (lasts p (decode l.frame).txn later ∷ rest) rest

-- the ticks up to the first frame that passes a test, with or without its own
unfoldable pub ticks_up_to : (ℕ → ℕ → Record → Bool) → ℕ → ℕ → List Logged → ℕ
ticks_up_to ends p t [] = 0
ticks_up_to ends p t (l ∷ later) =
    let rest = ticks_up_to ends p t later in
    ticks l + cond (anyb (ends p t) l.records) 0 rest

unfoldable pub ticks_before : (ℕ → ℕ → Record → Bool) → ℕ → ℕ → List Logged → ℕ
ticks_before ends p t [] = 0
ticks_before ends p t (l ∷ later) =
    let rest = ticks_before ends p t later in
    cond (anyb (ends p t) l.records) 0 (ticks l + rest)

unfoldable pub last : List ℕ → ℕ
last [] = 0
last (n ∷ []) = n
last (n ∷ k ∷ ns) = last (k ∷ ns)

-- a report by other rules of which histories are told of, what a party's waits are, and which of them is the longest
unfoldable pub report_by : (List (List ℕ) → List (List Logged)) → (ℕ → List Logged → List ℕ) → (List ℕ → ℕ)
    → List (List ℕ) → List ℕ
report_by histories waits longest trays =
    let logs = histories trays in
    length trays ∷ number is_refused trays ∷ joined (map (λ p.
    let all = joined (map (waits p) logs) in
    sum (map (asked_by p) logs) ∷ sum (map (founds_of p) logs) ∷ longest all ∷ sum all ∷ length all ∷ []) parties)

-- a wait without the tick that closes it: "the difference of the two clocks after those frames"
abbrev pub without_closing : List (List ℕ) → List ℕ
without_closing = report_by sittings (waits_by waits (ticks_before closes)) greatest

-- the wait of a look-up that was answered at once: "Only a look-up answered waiting has a wait"
abbrev pub answered_at_once : List (List ℕ) → List ℕ
answered_at_once = report_by sittings (waits_by is_asked waited) greatest

-- a wait that ends with another party's answer: "to its closing answer"
abbrev pub of_another : List (List ℕ) → List ℕ
of_another = report_by sittings (waits_by waits (ticks_up_to (λ p t a. closes a.party t a))) greatest

-- a wait that records of one kind do not end: the exception and the abort of its transaction are closing answers, too
abbrev pub end_unseen : ℕ → List (List ℕ) → List ℕ
end_unseen k =
    report_by sittings (waits_by waits (ticks_up_to (λ p t a. closes p t a && not (a.kind == k)))) greatest

-- a wait that is open at the end of the tray has taken no tick: "or to the end of the tray"
abbrev pub open_unseen : List (List ℕ) → List ℕ
open_unseen =
    report_by sittings (waits_by waits (λ p t later.
    cond (anyb (λ (l : Logged). anyb (closes p t) l.records) later) (waited p t later) 0)) greatest

-- a wait of 0 ticks left out: it is the look-up's wait all the same
abbrev pub zero_unseen : List (List ℕ) → List ℕ
zero_unseen = report_by sittings (λ p log. filterb (nat_le 1) (waits_of p log)) greatest

-- a refused tray's look-ups counted, or the tray not counted: "Refused trays add only to their own count"
abbrev pub refused_counted : List (List ℕ) → List ℕ
refused_counted = report_by (map sitting) waits_of greatest

abbrev pub refused_unseen : List (List ℕ) → List ℕ
refused_unseen trays = report_of (filterb (λ t. nat_eq (tray_refusal t) 0) trays)

-- the last wait: "the longest wait"
abbrev pub last_wait : List (List ℕ) → List ℕ
last_wait = report_by sittings waits_of last

-- a program that reports so keeps the contract
abbrev pub Keeps : (List (List ℕ) → List ℕ) → Type 0
Keeps told =
    (trays : List (List ℕ)) (tray : List ℕ) → length trays < max_sittings
    → Added (report_of trays) tray (65536 * tray_refusal tray) (told (trays ++ (tray ∷ [])))

-- the words of a report that no figure is in: so many trays handed in
unfoldable pub handed_in : ℕ → List ℕ
handed_in n = n ∷ 0 ∷ joined (map (λ p. 0 ∷ 0 ∷ 0 ∷ 0 ∷ 0 ∷ []) parties)

pub record WrongReports : Type 0 where
  pub without_closing_lem : Keeps without_closing → ⊥
  pub answered_at_once_lem : Keeps answered_at_once → ⊥
  pub of_another_lem : Keeps of_another → ⊥
  pub exception_unseen : Keeps (end_unseen kind_exception) → ⊥
  pub abort_unseen : Keeps (end_unseen kind_aborted) → ⊥
  pub open_unseen_lem : Keeps open_unseen → ⊥
  pub zero_unseen_lem : Keeps zero_unseen → ⊥
  pub refused_counted_lem : Keeps refused_counted → ⊥
  pub refused_unseen_lem : Keeps refused_unseen → ⊥
  pub last_wait_lem : Keeps last_wait → ⊥
  -- the 65th tray is taken up, is refused for itself, or changes the report; the 64th is refused
  pub one_too_many : (tray after : List ℕ) → Added (handed_in 64) tray 0 after → ⊥
  pub refused_first : (after : List ℕ) → Added (handed_in 64) [] (65536 * tray_refused) after → ⊥
  pub full_and_changed : (tray : List ℕ) → Added (handed_in 64) tray (65536 * sittings_refused) (handed_in 65) → ⊥
  pub one_too_few : (after : List ℕ) → Added (handed_in 63) (four_bytes 0) (65536 * sittings_refused) after → ⊥
