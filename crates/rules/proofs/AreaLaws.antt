-- The answers area with records in front, and with more of them behind those.
use Prim.Native.Nat.{ℕ, ◌+◌, ◌*◌, ◌≤◌}
use mathlib.Core.Path.{◌≡◌, refl, sym, ap, ap₂, ◌∙◌}
use mathlib.Core.List.{List, [], ◌∷◌, ◌++◌, append_assoc}
use native.Mathlib.Omega.{arith}
use lib.ListN.{length, take, drop, length-append, length-drop}
use lib.Seq.{take_at, drop_at, drop-drop}
use Rattle.rules.specs.declared.Record.{Record}
use Rattle.rules.specs.Numbers.{record_size}
use Rattle.rules.specs.Records.{record_bytes, answer_bytes, area_after}

pub bytes-length : (rs : List Record) → length (answer_bytes rs) ≡ record_size * length rs
unfolding answer_bytes record_bytes
bytes-length [] = refl
bytes-length (r ∷ rs) = length-append (record_bytes r) (answer_bytes rs) ∙ omega (arith, bytes-length rs)

pub area-length : (rs : List Record) (area : List ℕ) → record_size * length rs ≤ length area
    → length (area_after rs area) ≡ length area
unfolding area_after
area-length rs area h =
    length-append (answer_bytes rs) (drop (record_size * length rs) area)
    ∙ omega (arith, length-drop (record_size * length rs) area, bytes-length rs)

pub area-front : (rs : List Record) (area : List ℕ) → take (record_size * length rs) (area_after rs area)
    ≡ answer_bytes rs
unfolding area_after
area-front rs area = take_at (answer_bytes rs) (drop (record_size * length rs) area) (record_size * length rs)
    (bytes-length rs)

pub area_rest : (rs : List Record) (area : List ℕ) → drop (record_size * length rs) (area_after rs area)
    ≡ drop (record_size * length rs) area
unfolding area_after
area_rest rs area = drop_at (answer_bytes rs) (drop (record_size * length rs) area) (record_size * length rs)
    (bytes-length rs)

pub bytes-append : (rs qs : List Record) → answer_bytes (rs ++ qs) ≡ answer_bytes rs ++ answer_bytes qs
unfolding answer_bytes
bytes-append [] qs = refl
bytes-append (r ∷ rs) qs = ap (λ l. record_bytes r ++ l) (bytes-append rs qs)
    ∙ sym (append_assoc (record_bytes r) (answer_bytes rs) (answer_bytes qs))

-- records written into the part that the ones before left
pub area-then : (rs qs : List Record) (area : List ℕ)
    → take (record_size * length rs) (area_after rs area)
    ++ area_after qs (drop (record_size * length rs) (area_after rs area)) ≡ area_after (rs ++ qs) area
unfolding area_after
area-then rs qs area =
    ap₂ (λ x y. x ++ area_after qs y) (area-front rs area) (area_rest rs area) ∙ joined
  where
    joined : answer_bytes rs ++ area_after qs (drop (record_size * length rs) area) ≡ area_after (rs ++ qs) area
    joined =
        let sum : record_size * length rs + record_size * length qs
        ≡ record_size * length (rs ++ qs) = omega (arith, length-append rs qs) in
        ap (λ l. answer_bytes rs ++ (answer_bytes qs ++ l))
        (drop-drop (record_size * length qs) (record_size * length rs) area)
        ∙ sym (append_assoc (answer_bytes rs) (answer_bytes qs)
        (drop (record_size * length rs + record_size * length qs) area))
        ∙ ap₂ (λ x k. x ++ drop k area) (sym (bytes-append rs qs)) sum
