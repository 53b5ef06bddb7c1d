-- A space as words, and how they are read as the rules' model.
use Rattle.std.specs.Prelude.{ℕ, zero, suc, ◌+◌, ◌*◌, ◌/◌, ◌%◌, min, cond, List, [], ◌∷◌, ◌++◌, eqb, get_or, take, drop}
use Rattle.rules.specs.declared.Entry.{Entry}
use Rattle.rules.specs.declared.Txn.{Txn}
use Rattle.rules.specs.declared.LookUp.{LookUp}
use Rattle.rules.specs.declared.Registration.{Registration}
use Rattle.rules.specs.declared.until.Until.{Until}
use Rattle.rules.specs.declared.until.Until.TheVariants.{Tick, Forever}
use Rattle.rules.specs.Template.{four_fields, mark_of}
use Rattle.rules.specs.Frame.{is_take, is_if_exists, look_up_op}
use Rattle.rules.specs.Numbers.{forever, max_entries, max_txns, max_waits, max_registrations}
use Rattle.rules.specs.State.{Model}

-- where the clock, the next numbers and the counts of rows stand
abbrev pub clock_at : ℕ
clock_at = 0

abbrev pub next_entry_at : ℕ
next_entry_at = 1

abbrev pub next_txn_at : ℕ
next_txn_at = 2

abbrev pub entry_count_at : ℕ
entry_count_at = 3

abbrev pub txn_count_at : ℕ
txn_count_at = 4

abbrev pub wait_count_at : ℕ
wait_count_at = 5

abbrev pub next_registration_at : ℕ
next_registration_at = 6

abbrev pub registration_count_at : ℕ
registration_count_at = 7

-- where the four tables begin behind them, the words of a row, and the words of a space
abbrev pub entries_at : ℕ
entries_at = 8

abbrev pub entry_width : ℕ
entry_width = 9

abbrev pub txns_at : ℕ
txns_at = entries_at + entry_width * max_entries

abbrev pub txn_width : ℕ
txn_width = 4

abbrev pub waits_at : ℕ
waits_at = txns_at + txn_width * max_txns

abbrev pub wait_width : ℕ
wait_width = 9

abbrev pub registrations_at : ℕ
registrations_at = waits_at + wait_width * max_waits

abbrev pub registration_width : ℕ
registration_width = 9

abbrev pub space_words : ℕ
space_words = registrations_at + registration_width * max_registrations

-- the first n values of a function
abbrev pub up_to : {A : Type 0} → (ℕ → A) → ℕ → List A
up_to f zero = []
up_to f (suc n) = up_to f n ++ (f n ∷ [])

-- row k of the table at b, of rows of w words
unfoldable pub row : ℕ → ℕ → List ℕ → ℕ → List ℕ
row b w ws k = take w (drop (b + w * k) ws)

-- the first n rows of the table at b, read by `read`
abbrev pub table : {A : Type 0} → (List ℕ → A) → ℕ → ℕ → ℕ → List ℕ → List A
table read b w n ws = up_to (λ k. read (row b w ws k)) n

-- the end of a lease or a deadline, as a word: FOREVER is never
unfoldable pub until_of : ℕ → Until
until_of n = cond (eqb n forever) Forever (Tick n)

abbrev pub until_word : Until → ℕ
until_word (Tick t) = t
until_word Forever = forever

-- the words of a row from the offset o on
abbrev pub entry_from : List ℕ → ℕ → Entry
entry_from ws o =
    record {
      id = record { 0 = get_or ws o 0 };
      fields =
          mark_of (get_or ws (o + 8) 0 / 256 % 256)
          (four_fields (get_or ws (o + 1) 0) (get_or ws (o + 2) 0) (get_or ws (o + 3) 0) (get_or ws (o + 4) 0));
      end = until_of (get_or ws (o + 5) 0);
      private_to = record { 0 = get_or ws (o + 6) 0 };
      taken_by = record { 0 = get_or ws (o + 7) 0 };
      readers = get_or ws (o + 8) 0 % 256;
      writer = get_or ws (o + 8) 0 / 65536 % 256;
    }

abbrev pub txn_from : List ℕ → ℕ → Txn
txn_from ws o =
    record {
      id = record { 0 = get_or ws o 0 };
      party = get_or ws (o + 1) 0 % 256;
      end = until_of (get_or ws (o + 2) 0);
      slot = get_or ws (o + 3) 0 % max_txns;
    }

abbrev pub wait_from : List ℕ → ℕ → LookUp
wait_from ws o =
    record {
      party = get_or ws o 0 % 256;
      takes = is_take (get_or ws (o + 1) 0);
      if_exists = is_if_exists (get_or ws (o + 1) 0);
      mask = get_or ws (o + 2) 0 % 256;
      fields = four_fields (get_or ws (o + 3) 0) (get_or ws (o + 4) 0) (get_or ws (o + 5) 0) (get_or ws (o + 6) 0);
      txn = record { 0 = get_or ws (o + 7) 0 };
      deadline = until_of (get_or ws (o + 8) 0);
    }

abbrev pub registration_from : List ℕ → ℕ → Registration
registration_from ws o =
    record {
      id = record { 0 = get_or ws o 0 };
      party = get_or ws (o + 1) 0 % 256;
      mask = get_or ws (o + 2) 0 % 256;
      fields = four_fields (get_or ws (o + 3) 0) (get_or ws (o + 4) 0) (get_or ws (o + 5) 0) (get_or ws (o + 6) 0);
      end = until_of (get_or ws (o + 7) 0);
      total = get_or ws (o + 8) 0;
    }

-- and the words that are read so
abbrev pub entry_words : Entry → List ℕ
entry_words e =
    e.id.0 ∷ e.fields.kind ∷ e.fields.side ∷ e.fields.image ∷ e.fields.place ∷ until_word e.end
    ∷ e.private_to.0 ∷ e.taken_by.0 ∷ (e.readers + 256 * e.fields.blanks + 65536 * e.writer) ∷ []

abbrev pub txn_words : Txn → List ℕ
txn_words t = t.id.0 ∷ t.party ∷ until_word t.end ∷ t.slot ∷ []

abbrev pub wait_words : LookUp → List ℕ
wait_words w =
    w.party ∷ look_up_op w.takes w.if_exists ∷ w.mask
    ∷ w.fields.kind ∷ w.fields.side ∷ w.fields.image ∷ w.fields.place
    ∷ w.txn.0 ∷ until_word w.deadline ∷ []

abbrev pub registration_words : Registration → List ℕ
registration_words g =
    g.id.0 ∷ g.party ∷ g.mask
    ∷ g.fields.kind ∷ g.fields.side ∷ g.fields.image ∷ g.fields.place
    ∷ until_word g.end ∷ g.total ∷ []

unfoldable pub entry_of : List ℕ → Entry
entry_of r = entry_from r 0

unfoldable pub txn_of : List ℕ → Txn
txn_of r = txn_from r 0

unfoldable pub wait_of : List ℕ → LookUp
wait_of r = wait_from r 0

unfoldable pub registration_of : List ℕ → Registration
registration_of r = registration_from r 0

abbrev pub entry_count : List ℕ → ℕ
entry_count ws = min (get_or ws entry_count_at 0) max_entries

abbrev pub txn_count : List ℕ → ℕ
txn_count ws = min (get_or ws txn_count_at 0) max_txns

abbrev pub wait_count : List ℕ → ℕ
wait_count ws = min (get_or ws wait_count_at 0) max_waits

abbrev pub registration_count : List ℕ → ℕ
registration_count ws = min (get_or ws registration_count_at 0) max_registrations

unfoldable pub entries : ℕ → List ℕ → List Entry
entries n ws = table entry_of entries_at entry_width n ws

unfoldable pub txns : ℕ → List ℕ → List Txn
txns n ws = table txn_of txns_at txn_width n ws

unfoldable pub waits : ℕ → List ℕ → List LookUp
waits n ws = table wait_of waits_at wait_width n ws

unfoldable pub registrations : ℕ → List ℕ → List Registration
registrations n ws = table registration_of registrations_at registration_width n ws

unfoldable pub view : List ℕ → Model
view ws =
    record {
      clock = get_or ws clock_at 0;
      next_entry = get_or ws next_entry_at 0;
      next_txn = get_or ws next_txn_at 0;
      next_registration = get_or ws next_registration_at 0;
      entries = entries (entry_count ws) ws;
      txns = txns (txn_count ws) ws;
      waits = waits (wait_count ws) ws;
      registrations = registrations (registration_count ws) ws;
    }
