-- A slice from a place on, as it is lent and put back.
use Prim.Native.Nat.{ℕ, ◌-◌}
use mathlib.Core.Path.{◌≡◌, sym, ap, ◌∙◌}
use mathlib.Core.List.{List, ◌++◌, append-nil}
use native.Mathlib.Omega.{arith}
use lib.ListN.{length, take, drop, length-drop}
use lib.Seq.{take_all, drop-length}

-- the part of an area from n on, and the area with that part changed
pub part_from : (a : List ℕ) (n : ℕ) → take (length a - n) (drop n a) ≡ drop n a
part_from a n = take_all (length a - n) (drop n a) (omega (arith, length-drop n a))

pub part_put : (a part : List ℕ) (n : ℕ) → take n a ++ (part ++ drop (length a - n) (drop n a)) ≡ take n a ++ part
part_put a part n =
    ap (λ l. take n a ++ (part ++ l)) (ap (λ m. drop m (drop n a)) (sym (length-drop n a)) ∙ drop-length (drop n a))
    ∙ ap (λ l. take n a ++ l) (append-nil part)
