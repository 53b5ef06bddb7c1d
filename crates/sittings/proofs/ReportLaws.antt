-- The report over trays, and over one more.
use Rattle.std.proofs.Common.{◌≡◌, ℕ, zero, suc, ◌+◌, ◌*◌, ◌%◌, ◌<◌, ◌≤◌, Bool, true, false, cond, not, eqb, List, []}
use Rattle.std.proofs.Common.{◌∷◌, ◌++◌, map, length, get_or, set, sym, refl, ap, ◌∙◌, subst, ap₂, ⊎_elim, arith}
use Rattle.std.proofs.Common.{length-append, length-set, get_or-set_other, get_or-set_same, drop-set-lt, eq-eqb, ne_eqb}
use Rattle.std.proofs.Common.{eqb-true}
use mathlib.Core.List.{map-append}
use borrow.Author.Tests.{eqb-false, not-false}
use Rattle.rules.specs.Lists.{filterb, anyb, joined}
use Rattle.rules.specs.Numbers.{step_records, max_frames}
use Rattle.rules.specs.Sound.{IsParty}
use Rattle.rules.specs.SerialRun.{Logged}
use Rattle.rules.specs.Tray.{tray_refusal}
use Rattle.rules.proofs.BoolLaws.{bool_cases, or_left, or_right}
use Rattle.rules.proofs.ListLaws.{filter-append, count-append, count_cons, length-filter}
use Rattle.demands.specs.WaitingList.{number}
use Rattle.sittings.specs.declared.figures.Figures.{Figures}
use Rattle.sittings.specs.Waits.{sitting, waits_of, asked_by, founds_of}
use Rattle.sittings.specs.Report.{max_sittings, sum, greatest, is_refused, sittings, figures, parties, report_of}
use Rattle.sittings.specs.Report.{Added}
use Rattle.sittings.specs.Figures.{figures_for, figures_of, plus, wrapped, place_of, figures_at, words_of, Gained}
use Rattle.sittings.specs.Watch.{one}
use Rattle.sittings.proofs.FigureLaws.{figures-plus, plus_none, none-plus, plus_assoc, figures-kept}
use Rattle.sittings.proofs.WatchLaws.{is_in, is_in_lem}
use Rattle.sittings.proofs.SmallLaws.{Within, within_more, within-plus, small_whole, sitting_small}

-- ---- the figures over several histories
abbrev over_all : ℕ → List (List Logged) → Figures
over_all p logs =
    figures_for (sum (map (asked_by p) logs)) (sum (map (founds_of p) logs)) (joined (map (waits_of p) logs))

over_cons : (p : ℕ) (log : List Logged) (logs : List (List Logged))
    → over_all p (log ∷ logs) ≡ plus (figures_of p log) (over_all p logs)
unfolding sum
over_cons p log logs = sym (figures-plus _ _ _ _ (waits_of p log) (joined (map (waits_of p) logs)))

over-append : (p : ℕ) (xs ys : List (List Logged)) → over_all p (xs ++ ys) ≡ plus (over_all p xs) (over_all p ys)
unfolding sum
over-append p [] ys = sym (none-plus (over_all p ys))
over-append p (x ∷ xs) ys =
    over_cons p x (xs ++ ys) ∙ ap (plus (figures_of p x)) (over-append p xs ys)
    ∙ sym (plus_assoc (figures_of p x) (over_all p xs) (over_all p ys))
    ∙ ap (λ a. plus a (over_all p ys)) (sym (over_cons p x xs))

-- one that is not refused is one history more
abbrev passed : List ℕ → Bool
passed t = eqb (tray_refusal t) 0

over-trays : (p : ℕ) (trays : List (List ℕ))
    → Within (step_records * max_frames * length trays) (over_all p (sittings trays))
unfolding sittings sum greatest
over-trays p [] =
    record {
      asked = omega arith;
      founds = omega arith;
      longest = omega arith;
      total = omega arith;
      count = omega arith;
    }
over-trays p (t ∷ trays) =
    ⊎_elim (λ e. rw e (subst (Within (step_records * max_frames * suc (length trays)))
    (sym (over_cons p (sitting t) (sittings trays)))
    (within_more _ (omega arith)
    (within-plus (figures_of p (sitting t)) (over_all p (sittings trays))
    (sitting_small p t (eqb-true (tray_refusal t) 0 e)) (over-trays p trays)))))
    (λ e. rw e (within_more (over_all p (sittings trays)) (omega arith) (over-trays p trays))) (bool_cases (passed t))

module _ (trays : List (List ℕ)) (tray : List ℕ) where
  abbrev more : List (List ℕ)
  more = trays ++ (tray ∷ [])

  one_more : length more ≡ length trays + 1
  one_more = length-append trays (tray ∷ [])

  refused_more : number is_refused more ≡ number is_refused trays + one (is_refused tray)
  refused_more = omega (arith, count-append is_refused trays (tray ∷ []), count_cons is_refused tray [])

  over_more : (p : ℕ) → over_all p (sittings more)
      ≡ plus (over_all p (sittings trays)) (over_all p (map sitting (filterb passed (tray ∷ []))))
  unfolding sittings
  over_more p =
      ap (over_all p) (ap (map sitting) (filter-append passed trays (tray ∷ []))
      ∙ map-append sitting (filterb passed trays) (filterb passed (tray ∷ [])))
      ∙ over-append p (sittings trays) (map sitting (filterb passed (tray ∷ [])))

  -- "Refused trays add only to their own count"
  over-refused : (p : ℕ) → passed tray ≡ false → over_all p (sittings more) ≡ over_all p (sittings trays)
  unfolding sum
  over-refused p e = over_more p ∙ rw e (plus_none (over_all p (sittings trays)))

  over_passed : (p : ℕ) → passed tray ≡ true
      → over_all p (sittings more) ≡ plus (over_all p (sittings trays)) (figures_of p (sitting tray))
  unfolding sum
  over_passed p e =
      over_more p
      ∙ rw e (ap (plus (over_all p (sittings trays)))
      (over_cons p (sitting tray) [] ∙ plus_none (figures_of p (sitting tray))))

-- ---- the words
-- what follows where it holds of n, of the number before, down to 1
abbrev Down : ℕ → (ℕ → Type 0) → Type 0 → Type 0
Down zero Q R = R
Down (suc n) Q R = Q (suc n) → Down n Q R

-- it holds of all up to k then, if it holds of those above n
one_by_one : (n k : ℕ) (Q : ℕ → Type 0) → ((p : ℕ) → n < p → p ≤ k → Q p)
    → Down n Q ((p : ℕ) → 1 ≤ p → p ≤ k → Q p)
one_by_one zero k Q h = h
one_by_one (suc n) k Q h =
    λ q. one_by_one n k Q (λ p a b. ⊎_elim (λ e. subst Q (eqb-true (suc n) p e) q)
    (λ e. h p (omega (arith, eqb-false (suc n) p e)) b) (bool_cases (eqb (suc n) p)))

report-figures : (trays : List (List ℕ)) (p : ℕ) → IsParty p
    → figures_at (report_of trays) p ≡ over_all p (sittings trays)
unfolding report_of figures
report-figures trays p i =
    one_by_one 16 16 (λ q. figures_at (report_of trays) q ≡ over_all q (sittings trays)) (λ q a b. absurd (omega arith))
    refl refl refl refl refl refl refl refl refl refl refl refl refl refl refl refl p i.first i.last

pub report-first : (trays : List (List ℕ)) → get_or (report_of trays) 0 0 ≡ length trays
unfolding report_of
report-first trays = refl

report_second : (trays : List (List ℕ)) → get_or (report_of trays) 1 0 ≡ number is_refused trays
unfolding report_of
report_second trays = refl

listing : (ℕ → ℕ) → ℕ → List ℕ
listing f zero = []
listing f (suc n) = f 0 ∷ listing (λ i. f (suc i)) n

listed : (ws : List ℕ) → listing (λ i. get_or ws i 0) (length ws) ≡ ws
unfolding listing
listed [] = refl
listed (w ∷ ws) = ap (λ l. w ∷ l) (listed ws)

words_are : (ws : List ℕ) → length ws ≡ 82
    → ws ≡ get_or ws 0 0 ∷ get_or ws 1 0 ∷ joined (map (λ p. words_of (figures_at ws p)) parties)
unfolding listing
words_are ws long = sym (listed ws) ∙ ap (listing (λ i. get_or ws i 0)) long

map-parties : {A : Type 0} (f g : ℕ → A) (ps : List ℕ) → anyb (λ p. not (is_in p)) ps ≡ false
    → ((p : ℕ) → IsParty p → f p ≡ g p) → map f ps ≡ map g ps
map-parties f g [] e h = refl
map-parties f g (p ∷ ps) e h =
    ap₂ (λ x xs. x ∷ xs)
    (h p (is_in_lem p (not-false (is_in p) (or_left (not (is_in p)) (anyb (λ q. not (is_in q)) ps) e))))
    (map-parties f g ps (or_right (not (is_in p)) (anyb (λ q. not (is_in q)) ps) e) h)

report_is : (ws : List ℕ) (trays : List (List ℕ)) → length ws ≡ 82 → get_or ws 0 0 ≡ length trays
    → get_or ws 1 0 ≡ number is_refused trays → ((p : ℕ) → IsParty p → figures_at ws p ≡ over_all p (sittings trays))
    → ws ≡ report_of trays
unfolding report_of figures
report_is ws trays long first second h =
    words_are ws long
    ∙ ap₂ (λ a b. a ∷ b ∷ joined (map (λ p. words_of (figures_at ws p)) parties)) first second
    ∙ ap (λ ls. length trays ∷ number is_refused trays ∷ joined ls)
    (map-parties (λ p. words_of (figures_at ws p)) (figures (sittings trays)) parties refl (λ p i. ap words_of (h p i)))

-- ---- a tray is handed in
module _ (ws tray : List ℕ) where
  pub added_full : max_sittings ≤ get_or ws 0 0 → Added ws tray (65536 * 25) ws
  added_full l =
      record {
        full = λ _. (refl, refl);
        number = λ k. absurd (omega arith);
        refused = λ k. absurd (omega arith);
        report = λ trays k e. absurd (omega (arith, ap (λ x. get_or x 0 0) e ∙ report-first trays));
      }

  module _ (n w : ℕ) (long : length ws ≡ 82) (l : get_or ws 0 0 < max_sittings) (first : w ≡ get_or ws 0 0 + 1)
      (judged : n ≡ tray_refusal tray) where
    -- the words of the parties, and the second
    behind : (j : ℕ) → 0 < j → get_or (set ws 0 w) j 0 ≡ get_or ws j 0
    behind j h = get_or-set_other ws 0 j w 0 (λ e. omega arith)

    same-figures : (p : ℕ) → figures_at (set ws 0 w) p ≡ figures_at ws p
    same-figures p = figures-kept (set ws 0 w) p ws (λ j h. behind (place_of p + j) (omega arith))

    first_word : get_or (set ws 0 w) 0 0 ≡ get_or ws 0 0 + 1
    first_word = get_or-set_same ws 0 w 0 (omega arith) ∙ first

    pub added-refused : {v : ℕ} → (n ≡ 0 → ⊥) → v ≡ (get_or (set ws 0 w) 1 0 + 1) % 4294967296
        → Added ws tray (65536 * n) (set (set ws 0 w) 1 v)
    added-refused {v} d second =
        record {
          full = λ k. absurd (omega arith);
          number = λ _. ap (λ k. 65536 * k) judged;
          refused = λ _ _. drop-set-lt 2 (set ws 0 w) 1 v (omega arith) ∙ drop-set-lt 2 ws 0 w (omega arith);
          report = λ trays k e. report_is (set (set ws 0 w) 1 v) (trays ++ (tray ∷ []))
              (length-set (set ws 0 w) 1 v ∙ length-set ws 0 w ∙ long)
              (get_or-set_other (set ws 0 w) 1 0 v 0 (λ z. omega arith) ∙ first_word
              ∙ omega (arith, ap (λ x. get_or x 0 0) e ∙ report-first trays, one_more trays tray))
              (get_or-set_same (set ws 0 w) 1 v 0 (omega (arith, length-set ws 0 w))
              ∙ second ∙ omega (
                arith,
                behind 1 (omega arith),
                ap (λ x. get_or x 1 0) e ∙ report_second trays,
                length-filter is_refused trays,
                refused_more trays tray,
                ap (λ b. one (cond b false true)) not_passed,
              ))
              (λ p i. kept p ∙ ap (λ x. figures_at x p) e ∙ report-figures trays p i
              ∙ sym (over-refused trays tray p not_passed));
        }
      where
        not_passed : passed tray ≡ false
        not_passed = ne_eqb (tray_refusal tray) 0 (λ z. d (judged ∙ z))

        beside : (j : ℕ) → 1 < j → get_or (set (set ws 0 w) 1 v) j 0 ≡ get_or (set ws 0 w) j 0
        beside j h = get_or-set_other (set ws 0 w) 1 j v 0 (λ e. omega arith)

        kept : (p : ℕ) → figures_at (set (set ws 0 w) 1 v) p ≡ figures_at ws p
        kept p =
            figures-kept (set (set ws 0 w) 1 v) p (set ws 0 w) (λ j h. beside (place_of p + j) (omega arith))
            ∙ same-figures p

    pub added-sitting : {after : List ℕ} → n ≡ 0 → length after ≡ 82
        → Gained (set ws 0 w) (λ p. figures_of p (sitting tray)) after → Added ws tray 0 after
    added-sitting {after} z long' g =
        record {
          full = λ k. absurd (omega arith);
          number = λ _. omega (arith, judged, z);
          refused = λ _ d. absurd (d (sym judged ∙ z));
          report = λ trays k e. report_is after (trays ++ (tray ∷ [])) long'
              (g.front 0 (omega arith) ∙ first_word
              ∙ omega (arith, ap (λ x. get_or x 0 0) e ∙ report-first trays, one_more trays tray))
              (g.front 1 (omega arith) ∙ behind 1 (omega arith) ∙ ap (λ x. get_or x 1 0) e ∙ report_second trays
              ∙ omega (arith, refused_more trays tray, ap (λ b. one (cond b false true)) fine))
              (λ p i. figures_more trays k e p i);
        }
      where
        fine : passed tray ≡ true
        fine = eq-eqb (tray_refusal tray) 0 (sym judged ∙ z)

        figures_more : (trays : List (List ℕ)) → length trays < max_sittings → ws ≡ report_of trays → (p : ℕ)
            → IsParty p
            → figures_at after p ≡ over_all p (sittings (trays ++ (tray ∷ [])))
        figures_more trays k e p i =
            let before = same-figures p ∙ ap (λ x. figures_at x p) e ∙ report-figures trays p i in
            let small = small_whole (over_all p (sittings trays)) (omega arith) (over-trays p trays) in
            sym (g.fits p i (ap wrapped before ∙ small ∙ sym before)) ∙ g.figures p i
            ∙ ap (λ x. wrapped (plus x (figures_of p (sitting tray)))) before
            ∙ ap wrapped (sym (over_passed trays tray p fine))
            ∙ small_whole (over_all p (sittings (trays ++ (tray ∷ [])))) (omega (arith, one_more trays tray))
            (over-trays p (trays ++ (tray ∷ [])))
