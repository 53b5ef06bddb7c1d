-- The figures of a party: of a history, added, and as they stand in the words of a report.
use Rattle.std.specs.Prelude.{◌≡◌, ℕ, ◌+◌, ◌-◌, ◌*◌, ◌%◌, ◌<◌, max, cond, List, [], ◌∷◌, length, ◌==◌, slice_index}
use Rattle.std.proofs.lemmas.List.Edits.{sets}
use Rattle.rules.specs.Sound.{IsParty}
use Rattle.rules.specs.SerialRun.{Logged}
use Rattle.sittings.specs.declared.figures.Figures.{Figures}
use Rattle.sittings.specs.Waits.{waits_of, asked_by, founds_of}
use Rattle.sittings.specs.Report.{sum, greatest}

abbrev pub five : ℕ → ℕ → ℕ → ℕ → ℕ → Figures
five a f l t n = record { asked = a; founds = f; longest = l; total = t; count = n }

-- of some look-ups, founds and waits
abbrev pub figures_for : ℕ → ℕ → List ℕ → Figures
figures_for a f ws = five a f (greatest ws) (sum ws) (length ws)

-- of a party in a history
abbrev pub figures_of : ℕ → List Logged → Figures
figures_of p log = figures_for (asked_by p log) (founds_of p log) (waits_of p log)

-- both together
abbrev pub plus : Figures → Figures → Figures
plus a b =
    five (a.asked + b.asked) (a.founds + b.founds) (max a.longest b.longest) (a.total + b.total)
    (a.count + b.count)

-- sums wrap at 2^32
abbrev pub wrapped : Figures → Figures
wrapped a =
    five (a.asked % 4294967296) (a.founds % 4294967296) a.longest (a.total % 4294967296)
    (a.count % 4294967296)

-- where a party's five words begin, behind the two of all
abbrev pub place_of : ℕ → ℕ
place_of p = 2 + 5 * (p - 1)

abbrev pub figures_at : List ℕ → ℕ → Figures
figures_at ws p =
    let o = place_of p in
    five (slice_index ws o) (slice_index ws (o + 1)) (slice_index ws (o + 2)) (slice_index ws (o + 3))
    (slice_index ws (o + 4))

abbrev pub words_of : Figures → List ℕ
words_of a = a.asked ∷ a.founds ∷ a.longest ∷ a.total ∷ a.count ∷ []

-- a report's words once figures are added to a party's
abbrev pub adding : List ℕ → ℕ → Figures → List ℕ
adding ws p more = sets ws (place_of p) (words_of (wrapped (plus (figures_at ws p) more)))

-- what one party gains, and no other
abbrev pub only : ℕ → Figures → ℕ → Figures
only p more q = cond (p == q) more (figures_for 0 0 [])

-- each party gains figures, but for whole multiples of 2^32 in the sums, which are below 2^32 then if they were before;
-- the two words of all stay
pub record Gained (before : List ℕ) (gain : ℕ → Figures) (after : List ℕ) : Type 0 where
  pub figures : (p : ℕ) → IsParty p → wrapped (figures_at after p) ≡ wrapped (plus (figures_at before p) (gain p))
  pub fits : (p : ℕ) → IsParty p → wrapped (figures_at before p) ≡ figures_at before p
      → wrapped (figures_at after p) ≡ figures_at after p
  pub front : (j : ℕ) → j < 2 → slice_index after j ≡ slice_index before j
