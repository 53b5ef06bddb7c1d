-- Text written into a buffer, part after part.
use Prim.Native.Nat.{ℕ, ◌+◌, ◌/◌, ◌%◌, ◌≤◌, ◌<◌}
use mathlib.Core.Bool.{Bool, true}
use mathlib.Core.Path.{◌≡◌, refl, sym, ap, ◌∙◌}
use mathlib.Core.List.{List, [], ◌∷◌, ◌++◌}
use native.Mathlib.Nat.{zero-add}
use native.Mathlib.Omega.{arith}
use lib.ListN.{length, set, drop, length-append}
use lib.Seq.{length-sets}
use Rattle.rules.specs.Print.{decimal}
use Rattle.codec.specs.Area.{over}
use Rattle.codec.proofs.FrontLaws.{over-next, over-front, front-all}
use Rattle.printer.specs.Text.{Puts, Prints}
use Rattle.printer.proofs.DigitLaws.{decimal-one, decimal-many, many-long}

pub puts-length : (text old new : List ℕ) (at next : ℕ) → Puts text old new at next → length new ≡ length old
unfolding over
puts-length text old new at next p = ap length p.bytes ∙ length-sets old at text

-- no text, a character, and a text behind another
pub puts_none : (old : List ℕ) (at : ℕ) → at ≤ length old → Puts [] old old at at
unfolding over
puts_none old at h = record { bytes = refl; end = omega arith; room = h }

pub puts_one : (old : List ℕ) (at x : ℕ) → at < length old → Puts (x ∷ []) old (set old at x) at (at + 1)
unfolding over
puts_one old at x h = record { bytes = refl; end = refl; room = omega arith }

-- a text that is copied to the front
pub puts_front : (text old : List ℕ) {part : List ℕ} (n : ℕ) → part ≡ text → n ≡ length text → n ≤ length old
    → Puts text old (part ++ drop n old) 0 n
puts_front text old n e l room =
    record {
      bytes =
          ap (λ p. p ++ drop n old) e ∙ ap (λ k. text ++ drop k old) l ∙ sym (over-front text old (omega arith));
      end = omega arith;
      room = room;
    }

pub puts_then : (text more old mid new : List ℕ) (at to next : ℕ) → Puts text old mid at to → Puts more mid new to next
    → Puts (text ++ more) old new at next
puts_then text more old mid new at to next p q =
    record {
      bytes = over-next old mid new text more at p.bytes (q.bytes ∙ ap (λ k. over mid k more) p.end);
      end = omega (arith, p.end, q.end, length-append text more);
      room = omega (arith, q.room, puts-length text old mid at to p);
    }

-- the only digit of a number, and the last of several
pub puts_digit : (old : List ℕ) (at n d : ℕ) → n < 10 → d ≡ 48 + n → at < length old
    → Puts (decimal n) old (set old at d) at (at + 1)
puts_digit old at n d h e l = rw (decimal-one n h, sym e) (puts_one old at d l)

pub puts-digits : (old new : List ℕ) (at next n d : ℕ) → n < 4294967296 → 10 ≤ n
    → Puts (decimal (n / 10)) old new at next
    → d ≡ 48 + n % 10 → at + length (decimal n) ≤ length old
    → Puts (decimal n) old (set new next d) at (next + 1)
puts-digits old new at next n d f h p e l =
    rw (decimal-many n f h, sym e)
    (puts_then (decimal (n / 10)) (d ∷ []) old new (set new next d) at next (next + 1) p
    (puts_one new next d (omega (arith, many-long n f h, p.end, puts-length _ old new at next p))))

-- text in front of a buffer
pub prints-all : (room : Bool) (text old new : List ℕ) (n : ℕ) → room ≡ true → Puts text old new 0 n
    → Prints room text old new n
prints-all room text old new n e p =
    front-all room text old new n e p.bytes (p.end ∙ zero-add (length text)) p.room
