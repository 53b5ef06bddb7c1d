-- Numbers that fit their bytes, so that a record or a frame is read back from what is written of it.
use Rattle.std.specs.Prelude.{ℕ, ◌≤◌, ◌<◌, true, ◌≡◌}
use Rattle.rules.specs.declared.Fields.{Fields}
use Rattle.rules.specs.declared.Record.{Record}
use Rattle.rules.specs.Frame.{Frame, frame_length, is_operation}
use Rattle.rules.specs.Template.{bare}
use Rattle.rules.specs.Records.{no_fields}

-- four bytes are enough
abbrev pub Word : ℕ → Type 0
Word n = n < 4294967296

pub record FieldsFit (f : Fields) : Type 0 where
  pub kind : Word f.kind
  pub side : Word f.side
  pub image : Word f.image
  pub place : Word f.place

pub record RecordFits (r : Record) : Type 0 where
  pub txn : Word r.txn.0
  pub entry : Word r.entry.0
  pub fields : FieldsFit (bare r.fields)

pub record FrameFits (f : Frame) : Type 0 where
  pub txn : Word f.txn
  pub lease_or_timeout : Word f.lease_or_timeout
  pub fields : FieldsFit f.fields

-- a frame of an operation, with nothing where the operation has no bytes
pub record InItsBytes (f : Frame) : Type 0 where
  pub operation : is_operation f.op ≡ true
  pub txn : frame_length f.op ≤ 4 → f.txn ≡ 0
  pub lease_or_timeout : frame_length f.op ≤ 8 → f.lease_or_timeout ≡ 0
  pub fields : frame_length f.op ≤ 12 → f.fields ≡ no_fields
