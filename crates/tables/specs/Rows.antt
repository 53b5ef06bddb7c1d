-- The rows of a space as the code reads them, its words after a row is put or moved, and the words of an empty space.
use Rattle.std.specs.Prelude.{ℕ, zero, suc, ◌+◌, ◌-◌, ◌*◌, ◌≡◌, List, [], ◌∷◌, ◌++◌, get_or, take, drop}
use Rattle.std.proofs.lemmas.List.Edits.{sets}
use Rattle.rules.specs.declared.Entry.{Entry}
use Rattle.rules.specs.declared.Fields.{Fields}
use Rattle.rules.specs.declared.LookUp.{LookUp}
use Rattle.rules.specs.declared.Registration.{Registration}
use Rattle.rules.specs.declared.Txn.{Txn}
use Rattle.rules.specs.declared.until.Until.{Until}
use Rattle.rules.specs.Words.{row, until_of, until_word, entry_of, txn_of, wait_of, registration_of, entry_words}
use Rattle.rules.specs.Words.{registration_words, entries_at, entry_width, txns_at, txn_width, waits_at, wait_width}
use Rattle.rules.specs.Words.{registrations_at, registration_width, space_words}

-- row k of each table, read
abbrev pub entry_row : List ℕ → ℕ → Entry
entry_row ws k = entry_of (row entries_at entry_width ws k)

abbrev pub txn_row : List ℕ → ℕ → Txn
txn_row ws k = txn_of (row txns_at txn_width ws k)

abbrev pub wait_row : List ℕ → ℕ → LookUp
wait_row ws k = wait_of (row waits_at wait_width ws k)

abbrev pub registration_row : List ℕ → ℕ → Registration
registration_row ws k = registration_of (row registrations_at registration_width ws k)

-- the field at a column, counted from 0
abbrev pub field_at : ℕ → Fields → ℕ
field_at k f = get_or (f.kind ∷ f.side ∷ f.image ∷ f.place ∷ []) k 0

-- the words once an entry is put in row k
abbrev pub put_entry : List ℕ → ℕ → Entry → List ℕ
put_entry ws k e = sets ws (entries_at + entry_width * k) (entry_words e)

-- and a registration
abbrev pub put_registration : List ℕ → ℕ → Registration → List ℕ
put_registration ws k g = sets ws (registrations_at + registration_width * k) (registration_words g)

-- once the n words from the offset f on also stand from t on
abbrev pub move_words : List ℕ → ℕ → ℕ → ℕ → List ℕ
move_words ws f t n = sets ws t (take n (drop f ws))

-- and once row `from` also stands at row `to`
abbrev pub move_txn : List ℕ → ℕ → ℕ → List ℕ
move_txn ws from to = move_words ws (txns_at + txn_width * from) (txns_at + txn_width * to) txn_width

abbrev pub move_wait : List ℕ → ℕ → ℕ → List ℕ
move_wait ws from to = move_words ws (waits_at + wait_width * from) (waits_at + wait_width * to) wait_width

abbrev pub move_registration : List ℕ → ℕ → ℕ → List ℕ
move_registration ws from to =
    move_words ws (registrations_at + registration_width * from) (registrations_at + registration_width * to)
    registration_width

-- a list without its element at i
abbrev pub without : {A : Type 0} → ℕ → List A → List A
without i xs = take i xs ++ drop (suc i) xs

-- how many values a byte has
abbrev pub byte_values : ℕ
byte_values = 256

-- an end that a word can hold: no tick at FOREVER
abbrev pub FitsWord : Until → Type 0
FitsWord u = until_of (until_word u) ≡ u

-- an empty space: 1 as each next number, and 0 elsewhere
abbrev pub zeros : ℕ → List ℕ
zeros zero = []
zeros (suc n) = 0 ∷ zeros n

unfoldable pub empty_words : List ℕ
empty_words = 0 ∷ 1 ∷ 1 ∷ 0 ∷ 0 ∷ 0 ∷ 1 ∷ zeros (space_words - 7)
