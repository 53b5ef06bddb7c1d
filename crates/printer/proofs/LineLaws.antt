-- A line, number after number.
use Prim.Native.Nat.{ℕ, suc, ◌+◌, ◌-◌, ◌*◌, ◌≤◌, ◌<◌}
use mathlib.Core.Bool.{cond}
use mathlib.Core.Path.{◌≡◌, refl, sym, ap, ◌∙◌}
use mathlib.Core.List.{List, [], ◌∷◌, ◌++◌, append_assoc, append-nil}
use native.Mathlib.Omega.{arith}
use native.Mathlib.Numerals.{add-one}
use lib.Dec.{ltb}
use lib.ListN.{length, get_or, set, drop, length-append, length-drop, drop_of_length-le}
use lib.Seq.{drop-cons}
use borrow.Author.Tests.{lt-ltb, le-ltb}
use Rattle.rules.specs.Print.{decimal, line}
use Rattle.printer.specs.Text.{Puts}
use Rattle.printer.proofs.DigitLaws.{digits-length}
use Rattle.printer.proofs.TextLaws.{puts-length, puts_none, puts_one, puts_then}

-- what is left of a line: nothing, where no number is left
abbrev pub rest_line : List ℕ → List ℕ
rest_line [] = []
rest_line (n ∷ ns) = line (n ∷ ns)

-- what stands behind the first i of the numbers
abbrev pub after_at : ℕ → List ℕ → ℕ
after_at i ns = cond (ltb i (length ns)) 32 10

rest_next : (ns rest : List ℕ) (n i : ℕ) → i < length ns → length rest ≡ length ns - suc i
    → line (n ∷ rest) ≡ (decimal n ++ (after_at (suc i) ns ∷ [])) ++ rest_line rest
unfolding line
rest_next ns [] n i h e = rw (le-ltb (suc i) (length ns) (omega arith), append-nil)
rest_next ns (m ∷ rest) n i h e = rw (lt-ltb (suc i) (length ns) (omega arith), append_assoc)

-- the first i numbers stand in the buffer from `at` on
pub record Lining (ns old new : List ℕ) (at next i : ℕ) : Type 0 where
  pub text : List ℕ
  pub puts : Puts text old new at next
  pub few : length text ≤ 11 * i
  pub rest : line ns ≡ text ++ rest_line (drop i ns)

pub lining_none : (ns old : List ℕ) (at : ℕ) → 1 ≤ length ns → at ≤ length old → Lining ns old old at at 0
lining_none [] old at h l = absurd (omega arith)
lining_none (n ∷ ns) old at h l = record { text = []; puts = puts_none old at l; few = omega arith; rest = refl }

module _ (ns old new : List ℕ) (at next i : ℕ) (l : Lining ns old new at next i) where
  pub lining_done : length ns ≤ i → Puts (line ns) old new at next
  lining_done h =
      rw (l.rest ∙ ap (λ x. l.text ++ rest_line x) (drop_of_length-le ns h) ∙ append-nil l.text) l.puts

  pub lining_length : length new ≡ length old
  lining_length = puts-length l.text old new at next l.puts

  -- one number more
  module _ (h : i < length ns) (room : at + 11 * length ns ≤ length old) where
    pub lining_room : next + 11 ≤ length new
    lining_room = omega (arith, l.few, lining_length, l.puts.end)

    -- the line from number i on
    rest_is : rest_line (drop i ns) ≡ (decimal (get_or ns i 0) ++ (after_at (i + 1) ns ∷ []))
        ++ rest_line (drop (i + 1) ns)
    rest_is =
        ap rest_line (drop-cons ns i 0 h)
        ∙ rest_next ns (drop (suc i) ns) (get_or ns i 0) i h (length-drop (suc i) ns)
        ∙ ap (λ k. (decimal (get_or ns i 0) ++ (after_at k ns ∷ [])) ++ rest_line (drop k ns)) (sym (add-one i))

    -- its digits, and what stands behind them
    pub lining_next : (mid : List ℕ) (to s : ℕ) → Puts (decimal (get_or ns i 0)) new mid next to → s
        ≡ after_at (i + 1) ns
        → Lining ns old (set mid to s) at (to + 1) (i + 1)
    lining_next mid to s p e =
        let n = get_or ns i 0 in
        let few = digits-length 10 n in
        let long = puts-length (decimal n) new mid next to p in
        let behind = puts_one mid to s (omega (arith, lining_room, p.end)) in
        let more = puts_then (decimal n) (s ∷ []) new mid (set mid to s) next to (to + 1) p behind in
        record {
          text = l.text ++ (decimal n ++ (s ∷ []));
          puts = puts_then l.text (decimal n ++ (s ∷ [])) old new (set mid to s) at next (to + 1) l.puts more;
          few = simp length-append (omega (arith, l.few));
          rest =
              l.rest
              ∙ ap (λ x. l.text ++ x)
              (rest_is ∙ ap (λ x. (decimal n ++ (x ∷ [])) ++ rest_line (drop (i + 1) ns)) (sym e))
              ∙ sym (append_assoc l.text (decimal n ++ (s ∷ [])) (rest_line (drop (i + 1) ns)));
        }
