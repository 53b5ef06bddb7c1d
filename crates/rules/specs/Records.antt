-- "Answer records": kind, party, refusal number, blanks, transaction, entry number, four fields; and their 28 bytes. "A
-- found record's byte 3 carries the blanks" (document 02, T-08); in all others it is 0.
use Rattle.std.specs.Prelude.{ℕ, ◌+◌, ◌*◌, Bool, List, [], ◌∷◌, ◌++◌, map, eqb, length, drop}
use Rattle.rules.specs.declared.Entry.{Entry}
use Rattle.rules.specs.declared.Fields.{Fields}
use Rattle.rules.specs.declared.Mark.{Mark}
use Rattle.rules.specs.declared.Record.{Record}
use Rattle.rules.specs.declared.Txn.{Txn}
use Rattle.rules.specs.declared.LookUp.{LookUp}
use Rattle.rules.specs.declared.Registration.{Registration}
use Rattle.rules.specs.Lists.{joined}
use Rattle.rules.specs.Numbers.{record_size, kind_written, kind_found, kind_nothing, kind_waiting, kind_created}
use Rattle.rules.specs.Numbers.{kind_committed, kind_aborted, kind_exception, kind_ticked, kind_notified, kind_rung}
use Rattle.rules.specs.Numbers.{kind_renewed, kind_refused}
use Rattle.rules.specs.Template.{four_fields, mark_of}
use Rattle.rules.specs.Frame.{Frame, entry_named, byte_at, number_at, four_bytes, fields_at}

abbrev pub no_fields : Fields
no_fields = four_fields 0 0 0 0

abbrev pub no_mark : Mark
no_mark = mark_of 0 no_fields

-- a record with no entry: its kind, party and transaction
abbrev pub plain : ℕ → ℕ → ℕ → Record
plain kind party txn =
    record {
      kind = kind;
      party = party;
      refusal = 0;
      txn = record { 0 = txn };
      entry = record { 0 = 0 };
      fields = no_mark;
    }

unfoldable pub written : Frame → ℕ → Record
written f n =
    record {
      kind = kind_written;
      party = f.party;
      refusal = 0;
      txn = record { 0 = f.txn };
      entry = record { 0 = n };
      fields = no_mark;
    }

unfoldable pub found : LookUp → Entry → Record
found w e =
    record { kind = kind_found; party = w.party; refusal = 0; txn = w.txn; entry = e.id; fields = e.fields }

unfoldable pub nothing : LookUp → Record
nothing w = plain kind_nothing w.party w.txn.0

unfoldable pub waiting : LookUp → Record
waiting w = plain kind_waiting w.party w.txn.0

unfoldable pub created : Frame → ℕ → Record
created f t = plain kind_created f.party t

unfoldable pub committed : Frame → Record
committed f = plain kind_committed f.party f.txn

unfoldable pub aborted : Frame → Record
aborted f = plain kind_aborted f.party f.txn

unfoldable pub exception : Txn → Record
exception t = plain kind_exception t.party t.id.0

unfoldable pub ticked : Record
ticked = plain kind_ticked 0 0

-- "kind 10 with a registration number .. in the entry place" (document 02, T-03)
unfoldable pub notified : Frame → ℕ → Record
notified f n =
    record {
      kind = kind_notified;
      party = f.party;
      refusal = 0;
      txn = record { 0 = 0 };
      entry = record { 0 = n };
      fields = no_mark;
    }

-- "registration number in the entry place, count in this step in kind, total so far in side, transaction 0"
unfoldable pub rung : ℕ → Registration → Record
rung count g =
    record {
      kind = kind_rung;
      party = g.party;
      refusal = 0;
      txn = record { 0 = 0 };
      entry = record { 0 = g.id.0 };
      fields = mark_of 0 (four_fields count g.total 0 0);
    }

-- "kind 12 with the entry number and transaction 0" (document 02, T-05)
unfoldable pub renewed : Frame → Record
renewed f =
    record {
      kind = kind_renewed;
      party = f.party;
      refusal = 0;
      txn = record { 0 = 0 };
      entry = record { 0 = entry_named f };
      fields = no_mark;
    }

-- "A refused record's party is byte 1 of the frame, or 0 if the frame has none."
unfoldable pub refused : List ℕ → ℕ → Record
refused bs n =
    record {
      kind = kind_refused;
      party = byte_at bs 1;
      refusal = n;
      txn = record { 0 = 0 };
      entry = record { 0 = 0 };
      fields = no_mark;
    }

-- the 28 bytes of a record
unfoldable pub record_bytes : Record → List ℕ
record_bytes r =
    (r.kind ∷ r.party ∷ r.refusal ∷ r.fields.blanks ∷ [])
    ++ four_bytes r.txn.0
    ++ four_bytes r.entry.0
    ++ four_bytes r.fields.kind
    ++ four_bytes r.fields.side
    ++ four_bytes r.fields.image
    ++ four_bytes r.fields.place

-- the record whose 28 bytes stand at a place
unfoldable pub record_at : List ℕ → ℕ → Record
record_at bs i =
    record {
      kind = byte_at bs i;
      party = byte_at bs (i + 1);
      refusal = byte_at bs (i + 2);
      txn = record { 0 = number_at bs (i + 4) };
      entry = record { 0 = number_at bs (i + 8) };
      fields = mark_of (byte_at bs (i + 3)) (fields_at bs (i + 12));
    }

-- each record "into the part of the answers area that starts where the last record ended"
unfoldable pub answer_bytes : List Record → List ℕ
answer_bytes rs = joined (map record_bytes rs)

-- the answers area afterwards: "bytes after the last record keep their contents"
unfoldable pub area_after : List Record → List ℕ → List ℕ
area_after rs area = answer_bytes rs ++ drop (record_size * length rs) area

abbrev pub is_ticked : Record → Bool
is_ticked a = eqb a.kind kind_ticked
