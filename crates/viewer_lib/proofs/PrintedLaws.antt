-- Texts printed one behind another.
use Prim.Native.Nat.{ℕ, zero, suc, ◌+◌, ◌-◌, ◌*◌, ◌≤◌}
use mathlib.Core.Bool.{Bool, true, ◌&&◌}
use mathlib.Core.Path.{◌≡◌, refl, sym, ap, ap₂, ◌∙◌, subst}
use mathlib.Core.List.{List, ◌++◌, append_assoc, append-nil}
use native.Mathlib.Numerals.{add-one}
use native.Mathlib.Omega.{arith}
use borrow.Author.Tests.{le-leb}
use lib.ListN.{length, take, drop, length-append, length-take, length-drop, take-append-drop}
use lib.Seq.{take_at, drop_at, drop-append-le, drop-drop}
use Rattle.printer.specs.Text.{Prints, line_size, has_line, has_record, record_text}
use Rattle.rules.specs.Numbers.{record_size}
use Rattle.rules.proofs.PartLaws.{part_from}
use Rattle.viewer_lib.specs.Shows.{record_texts}

-- a text printed into a buffer ends within it
pub prints_within : (text old new : List ℕ) (n : ℕ) → Prints true text old new n → length new ≡ length old
    → n ≤ length new
prints_within text old new n p h =
    let l = length-append text (drop (length text) old) in
    omega (arith, p.count, ap length p.bytes, l, length-drop (length text) old)

-- the bytes of a line of a buffer from `at` on, and the buffer with other bytes in their place
abbrev pub line_at : List ℕ → ℕ → List ℕ
line_at out at = take (at + line_size - at) (drop at out)

abbrev pub with_line : List ℕ → ℕ → List ℕ → List ℕ
with_line out at new = take at out ++ (new ++ drop (at + line_size - at) (drop at out))

pub line_room : (out : List ℕ) (at : ℕ) → at + line_size ≤ length out → has_line (line_at out at) ≡ true
line_room out at h = le-leb line_size (length (line_at out at)) (simp (length-take, length-drop) (omega arith))

pub by_room : (room : Bool) (text old new : List ℕ) (n : ℕ) → room ≡ true → Prints room text old new n
    → Prints true text old new n
by_room room text old new n e p = subst (λ b. Prints b text old new n) e p

-- a text is printed where another one ends
module _ (first text old out new : List ℕ) (at n : ℕ) (f : Prints true first old out at)
    (t : Prints true text (line_at out at) new n) (same : length new ≡ length (line_at out at)) where
  pub no_longer : n ≤ line_size
  no_longer =
      omega (
        arith,
        prints_within text (line_at out at) new n t same,
        same,
        length-take (at + line_size - at)
            (drop at out),
      )

  pub prints_then : Prints true (first ++ text) old (with_line out at new) (at + n)
  prints_then =
      record {
        bytes =
            ap₂ (λ (x y : List ℕ). x ++ y) front (ap (λ l. l ++ drop size (drop at out)) t.bytes ∙ back)
            ∙ sym (append_assoc first text (drop (length (first ++ text)) old));
        count = omega (arith, f.count, t.count, length-append first text);
      }
    where
      size : ℕ
      size = at + line_size - at

      fits : length text ≤ length (line_at out at)
      fits = omega (arith, prints_within text (line_at out at) new n t same, same, t.count)

      front : take at out ≡ first
      front = ap (take at) f.bytes ∙ take_at first (drop (length first) old) at (sym f.count)

      rest : drop at out ≡ drop (length first) old
      rest = ap (drop at) f.bytes ∙ drop_at first (drop (length first) old) at (sym f.count)

      back : (text ++ drop (length text) (line_at out at)) ++ drop size (drop at out)
          ≡ text ++ drop (length (first ++ text)) old
      back =
          append_assoc text (drop (length text) (line_at out at)) (drop size (drop at out))
          ∙ ap (λ l. text ++ l)
          (sym (drop-append-le (length text) (line_at out at) (drop size (drop at out)) fits)
          ∙ ap (drop (length text)) (take-append-drop size (drop at out) ∙ rest)
          ∙ drop-drop (length text) (length first) old
          ∙ ap (λ k. drop k old) (sym (length-append first text)))

-- the lines of records
pub none_printed : (area old : List ℕ) → Prints true (record_texts 0 area) old old 0
unfolding record_texts
none_printed area old = record { bytes = refl; count = refl }

texts_suc : (n : ℕ) (bs : List ℕ) → record_texts (suc n) bs ≡ record_texts n bs
    ++ record_text (drop (record_size * n) bs)
unfolding record_texts
texts_suc zero bs = append-nil (record_text bs)
texts_suc (suc n) bs =
    let on : record_size + record_size * n ≡ record_size * suc n = omega arith in
    let same : drop (record_size * n) (drop record_size bs) ≡ drop (record_size * suc n) bs
    = drop-drop (record_size * n) record_size bs ∙ ap (λ k. drop k bs) on in
    ap (λ l. record_text bs ++ l)
    (texts_suc n (drop record_size bs) ∙ ap (λ l. record_texts n (drop record_size bs) ++ record_text l) same)
    ∙ sym (append_assoc (record_text bs) (record_texts n (drop record_size bs))
    (record_text (drop (record_size * suc n) bs)))

-- the bytes of an area from the record at i on
abbrev pub record_from : List ℕ → ℕ → List ℕ
record_from area i = take (length area - record_size * i) (drop (record_size * i) area)

-- the line of the record at i, printed behind those before it
module _ (area old out new : List ℕ) (at i n : ℕ) (f : Prints true (record_texts i area) old out at)
    (h : record_size * i + record_size ≤ length area) (k : at + line_size ≤ length out)
    (p : Prints (has_record (record_from area i) && has_line (line_at out at)) (record_text (record_from area i))
    (line_at out at) new n)
    (same : length new ≡ length (line_at out at)) where
  its_line : Prints true (record_text (drop (record_size * i) area)) (line_at out at) new n
  its_line =
      subst (λ bs. Prints true (record_text bs) (line_at out at) new n) (part_from area (record_size * i))
      (by_room _ (record_text (record_from area i)) (line_at out at) new n room p)
    where
      whole : has_record (record_from area i) ≡ true
      whole = le-leb record_size (length (record_from area i)) (simp (length-take, length-drop) (omega arith))

      room : (has_record (record_from area i) && has_line (line_at out at)) ≡ true
      room = ap₂ (λ x y. x && y) whole (line_room out at k)

  pub record_short : n ≤ line_size
  record_short =
      no_longer (record_texts i area) (record_text (drop (record_size * i) area)) old out new at n f its_line same

  pub record_printed : Prints true (record_texts (i + 1) area) old (with_line out at new) (at + n)
  record_printed =
      subst (λ text. Prints true text old (with_line out at new) (at + n))
      (sym (texts_suc i area) ∙ ap (λ k. record_texts k area) (sym (add-one i)))
      (prints_then (record_texts i area) (record_text (drop (record_size * i) area)) old out new at n f its_line same)
