-- What the program prints: "per record: kind, party, refusal, transaction, entry number, kind, side, image, place;
-- then `done`, frames, records, number". Characters are their ASCII numbers.
use Rattle.std.specs.Prelude.{ℕ, zero, suc, ◌+◌, ◌/◌, ◌%◌, cond, List, [], ◌∷◌, ◌++◌, map, ltb, length}
use Rattle.rules.specs.declared.Record.{Record}
use Rattle.rules.specs.Lists.{joined}
use Rattle.rules.specs.Tray.{TrayOutcome}

-- the decimal digits of a number that has at most k, none ahead that is 0 but the only one
unfoldable pub digits : ℕ → ℕ → List ℕ
digits zero n = []
digits (suc k) n = let ahead = digits k (n / 10) in cond (ltb n 10) ((48 + n) ∷ []) (ahead ++ ((48 + n % 10) ∷ []))

-- a 32-bit number has at most ten
abbrev pub decimal : ℕ → List ℕ
decimal n = digits 10 n

-- numbers with a space between each two, and a line feed
unfoldable pub line : List ℕ → List ℕ
line [] = 10 ∷ []
line (n ∷ []) = decimal n ++ (10 ∷ [])
line (n ∷ m ∷ ns) = decimal n ++ (32 ∷ line (m ∷ ns))

unfoldable pub record_line : Record → List ℕ
record_line r =
    line
    (r.kind
    ∷ r.party
    ∷ r.refusal
    ∷ r.txn.0
    ∷ r.entry.0
    ∷ r.fields.kind
    ∷ r.fields.side
    ∷ r.fields.image
    ∷ r.fields.place
    ∷ [])

-- `done`, frames, records, number
unfoldable pub done_line : ℕ → ℕ → ℕ → List ℕ
done_line frames records number =
    (100 ∷ 111 ∷ 110 ∷ 101 ∷ 32 ∷ []) ++ line (frames ∷ records ∷ number ∷ [])

unfoldable pub printed : TrayOutcome → List ℕ
printed o = joined (map record_line o.records) ++ done_line o.frames (length o.records) o.number
