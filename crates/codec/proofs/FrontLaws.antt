-- Bytes written one part after another, from the front on.
use Prim.Native.Nat.{ℕ, suc, ◌+◌, ◌≤◌}
use mathlib.Core.Bool.{Bool, true, false}
use mathlib.Core.Path.{◌≡◌, sym, ap, ◌∙◌}
use mathlib.Core.List.{List, [], ◌∷◌, ◌++◌}
use native.Mathlib.Nat.{add-zero, zero-add}
use native.Mathlib.Omega.{arith}
use lib.ListN.{length, drop, set}
use lib.Seq.{sets-eq}
use borrow.Author.Tests.{le-ltb}
use Rattle.rules.specs.declared.Record.{Record}
use Rattle.rules.specs.Numbers.{record_size}
use Rattle.rules.specs.Records.{record_bytes}
use Rattle.rules.proofs.ReadBack.{record_length}
use Rattle.codec.specs.Area.{over, record_put, InFront}

-- more behind what has been stored
pub over-append : (old r q : List ℕ) (i : ℕ) → over (over old i r) (i + length r) q ≡ over old i (r ++ q)
unfolding over
over-append old [] q i = ap (λ k. over old k q) (add-zero i)
over-append old (a ∷ r) q i =
    let next : i + suc (length r) ≡ suc i + length r = omega arith in
    ap (λ k. over (over (set old i a) (suc i) r) k q) next ∙ over-append (set old i a) r q (suc i)

-- the same, of what two calls left
pub over-next : (old mid new r q : List ℕ) (i : ℕ) → mid ≡ over old i r → new ≡ over mid (i + length r) q
    → new ≡ over old i (r ++ q)
over-next old mid new r q i p e = e ∙ ap (λ l. over l (i + length r) q) p ∙ over-append old r q i

-- and where the second call's place is told otherwise
pub over_then : (old mid new r q : List ℕ) (i j : ℕ) → j ≡ i + length r → mid ≡ over old i r → new ≡ over mid j q
    → new ≡ over old i (r ++ q)
over_then old mid new r q i j k p e = over-next old mid new r q i p (e ∙ ap (λ n. over mid n q) k)

pub over-front : (bs old : List ℕ) → length bs ≤ length old → over old 0 bs ≡ bs ++ drop (length bs) old
unfolding over
over-front bs old h = sets-eq bs old 0 (omega arith) ∙ ap (λ k. bs ++ drop k old) (zero-add (length bs))

-- ---- where there is room, in front of a slice
pub front-none : (room : Bool) (bs old : List ℕ) → room ≡ false → InFront room bs old old 0
front-none room bs old e = record { bytes = rw e; count = rw e }

pub front-all : (room : Bool) (bs old new : List ℕ) (n : ℕ) → room ≡ true → new ≡ over old 0 bs → n ≡ length bs
    → n ≤ length old
    → InFront room bs old new n
front-all room bs old new n e p l h = record { bytes = rw e (p ∙ over-front bs old (omega arith)); count = rw e l }

-- ---- a record's bytes
pub put_fits : (r : Record) (area : List ℕ) → record_size ≤ length area
    → record_put r area ≡ record_bytes r ++ drop record_size area
unfolding record_put
put_fits r area h = rw (le-ltb _ _ h)

pub put_over : (r : Record) (area : List ℕ) → record_size ≤ length area → record_put r area
    ≡ over area 0 (record_bytes r)
put_over r area h =
    put_fits r area h
    ∙ ap (λ k. record_bytes r ++ drop k area) (sym (record_length r))
    ∙ sym (over-front (record_bytes r) area (omega (arith, record_length r)))
