-- The lines of records, one behind another.
use Prim.Native.Nat.{ℕ}
use mathlib.Core.Path.{◌≡◌, refl, ap, ap₂, ◌∙◌}
use mathlib.Core.List.Memᴰ
use mathlib.Core.List.{List, [], ◌∷◌, ◌++◌, map, append_assoc}
use lib.ListN.{length}
use Rattle.rules.specs.declared.Record.{Record}
use Rattle.rules.specs.Lists.{joined}
use Rattle.rules.specs.Records.{record_bytes, answer_bytes}
use Rattle.rules.specs.Print.{record_line}
use Rattle.demands.specs.Bounds.{InRange, AllInRange}
use Rattle.printer.specs.Text.{record_text}
use Rattle.printer.proofs.RecordText.{record_text_lem}
use Rattle.viewer_lib.specs.Shows.{record_texts}

its_line : (r : Record) (rest : List ℕ) → InRange r → record_text (record_bytes r ++ rest) ≡ record_line r
its_line r rest h =
    record_text_lem r rest h.txn h.entry h.field_kind h.field_side h.field_image h.field_place

pub texts_are_lines : (rs : List Record) (rest : List ℕ) → AllInRange rs
    → record_texts (length rs) (answer_bytes rs ++ rest) ≡ joined (map record_line rs)
unfolding record_texts answer_bytes record_bytes
texts_are_lines [] rest h = refl
texts_are_lines (r ∷ rs) rest h =
    ap (record_texts (length (r ∷ rs))) (append_assoc (record_bytes r) (answer_bytes rs) rest)
    ∙ ap₂ (λ (x y : List ℕ). x ++ y) (its_line r (answer_bytes rs ++ rest) (h r (Memᴰ.head refl)))
    (texts_are_lines rs rest (λ q i. h q (Memᴰ.tail i)))
