-- The line of a record's bytes is the record's line.
use Prim.Native.Nat.{ℕ, ◌<◌}
use mathlib.Core.Path.{◌≡◌, ap}
use mathlib.Core.List.{List, ◌++◌}
use Rattle.rules.specs.declared.Record.{Record}
use Rattle.rules.specs.Records.{record_bytes}
use Rattle.rules.specs.Print.{record_line}
use Rattle.rules.proofs.ReadBack.{record_back}
use Rattle.printer.specs.Text.{record_text}

-- where each number is below 2^32, whatever stands behind the bytes
pub record_text_lem : (r : Record) (rest : List ℕ) → r.txn.0 < 4294967296 → r.entry.0 < 4294967296
    → r.fields.kind < 4294967296 → r.fields.side < 4294967296 → r.fields.image < 4294967296
    → r.fields.place < 4294967296
    → record_text (record_bytes r ++ rest) ≡ record_line r
unfolding record_text
record_text_lem r rest t e k s i p =
    ap record_line
    (record_back r rest (record { txn = t; entry = e; fields = record { kind = k; side = s; image = i; place = p } }))
