-- Laws of `Adds` and `Does`: no record is written, one is, and some behind others.
use Prim.Native.Nat.{ℕ, ◌+◌, ◌*◌, ◌≤◌}
use mathlib.Core.Path.{◌≡◌, refl, sym, ap, ap₂, ◌∙◌, subst}
use mathlib.Core.List.{List, [], ◌∷◌, ◌++◌, append_assoc, append-nil}
use native.Mathlib.Omega.{arith}
use lib.ListN.{length, take, drop, length-append, length-drop, take-append-drop}
use lib.Seq.{take-append-add, drop-append-add, length-take-le}
use Rattle.rules.specs.declared.Record.{Record}
use Rattle.rules.specs.Numbers.{record_size}
use Rattle.rules.specs.Records.{record_bytes, answer_bytes, area_after}
use Rattle.rules.specs.Done.{Done, quiet, ending_with}
use Rattle.rules.specs.Words.{view}
use Rattle.rules.proofs.AreaLaws.{area-length, area-then}
use Rattle.finish.specs.Does.{Adds, Does}

pub adds_none : (a : List ℕ) (c : ℕ) → Adds [] a a c c
unfolding area_after answer_bytes
adds_none a c = record { counts = omega arith; bytes = sym (take-append-drop (record_size * c) a) }

-- one record's bytes in front of an area
pub area-one : (r : Record) (area : List ℕ) → record_bytes r ++ drop record_size area ≡ area_after (r ∷ []) area
unfolding area_after answer_bytes
area-one r area = ap (λ l. l ++ drop record_size area) (sym (append-nil (record_bytes r)))

-- the area keeps its length
pub adds-length : {rs : List Record} {a a₁ : List ℕ} {c c₁ : ℕ} → Adds rs a a₁ c c₁ → record_size * c₁ ≤ length a
    → length a₁ ≡ length a
adds-length {rs} {a = a} {c = c} p h =
    let rest = drop (record_size * c) a in
    let long = length-drop (record_size * c) a in
    ap length p.bytes
    ∙ length-append (take (record_size * c) a) (area_after rs rest)
    ∙ omega (
      arith,
      p.counts,
      long,
      length-take-le (record_size * c) a (omega (arith, p.counts)),
      area-length rs rest
          (omega (arith, p.counts, long)),
    )

-- some records, and then others
pub adds_then : {rs ss : List Record} {a a₁ a₂ : List ℕ} {c c₁ c₂ : ℕ} → record_size * c ≤ length a
    → Adds rs a a₁ c c₁ → Adds ss a₁ a₂ c₁ c₂ → Adds (rs ++ ss) a a₂ c c₂
adds_then {rs} {ss} {a = a} {c = c} {c₁ = c₁} room p q =
    let front = take (record_size * c) a in
    let x = area_after rs (drop (record_size * c) a) in
    let at : record_size * c₁ ≡ length front + record_size * length rs
    = omega (arith, p.counts, length-take-le (record_size * c) a room) in
    record {
      counts = rw length-append (omega (arith, p.counts, q.counts));
      bytes =
          q.bytes
          ∙ ap₂ (λ k l. take k l ++ area_after ss (drop k l)) at p.bytes
          ∙ ap₂ (λ u v. u ++ area_after ss v) (take-append-add front x _) (drop-append-add front x _)
          ∙ append_assoc front _ _
          ∙ ap (λ l. front ++ l) (area-then rs ss (drop (record_size * c) a));
    }

-- ---- and the words' model
pub does-nothing : (ws a : List ℕ) (c : ℕ) → Does (quiet (view ws)) ws a a c c
does-nothing ws a c = record { model = refl; adds = adds_none a c }

-- one part after another
pub does-then : {d e : Done} {ws₁ ws₂ a a₁ a₂ : List ℕ} {c c₁ c₂ : ℕ} → record_size * c ≤ length a
    → Does d ws₁ a a₁ c c₁ → Does e ws₂ a₁ a₂ c₁ c₂
    → Does (record { model = e.model; records = d.records ++ e.records }) ws₂ a a₂ c c₂
does-then room p q = record { model = q.model; adds = adds_then room p.adds q.adds }

-- one part, and records behind all of its own
pub does-ending : {d : Done} {rs : List Record} {ws' a a₁ a₂ : List ℕ} {c c₁ c₂ : ℕ} → record_size * c ≤ length a
    → Does d ws' a a₁ c c₁ → Adds rs a₁ a₂ c₁ c₂ → Does (ending_with rs d) ws' a a₂ c c₂
does-ending room p q = record { model = p.model; adds = adds_then room p.adds q }

-- the same, said of an equal part
pub does_as : {d d' : Done} {ws' a a' : List ℕ} {c n : ℕ} → d ≡ d' → Does d ws' a a' c n → Does d' ws' a a' c n
does_as {ws' = ws'} {a = a} {a' = a'} {c = c} {n = n} q h = subst (λ (d : Done). Does d ws' a a' c n) q h
