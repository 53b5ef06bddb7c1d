-- Bytes written into a lent slice.
use Rattle.std.specs.Prelude.{ℕ, Bool, cond, ◌≡◌, List, ◌++◌, leb, ltb, length, drop}
use Rattle.std.proofs.lemmas.List.Edits.{sets}
use Rattle.rules.specs.declared.Fields.{Fields}
use Rattle.rules.specs.declared.Record.{Record}
use Rattle.rules.specs.Numbers.{record_size}
use Rattle.rules.specs.Frame.{Frame, four_bytes, frame_bytes}
use Rattle.rules.specs.Records.{record_bytes}

-- bytes stored one after another, from a place on
unfoldable pub over : List ℕ → ℕ → List ℕ → List ℕ
over old at bs = sets old at bs

-- the sixteen bytes of the four fields
abbrev pub fields_bytes : Fields → List ℕ
fields_bytes f = four_bytes f.kind ++ four_bytes f.side ++ four_bytes f.image ++ four_bytes f.place

-- a record's bytes in front; a slice too short for them stays as it is
unfoldable pub record_put : Record → List ℕ → List ℕ
record_put r area = cond (ltb (length area) record_size) area (record_bytes r ++ drop record_size area)

-- where there is room, bytes stand in front of a slice and their count is returned; else nothing is written and 0 is
-- returned
pub record InFront (room : Bool) (bs old new : List ℕ) (n : ℕ) : Type 0 where
  pub bytes : new ≡ cond room (bs ++ drop (length bs) old) old
  pub count : n ≡ cond room (length bs) 0

-- a frame's bytes in front, where the slice is long enough
abbrev pub FramePut : Frame → List ℕ → List ℕ → ℕ → Type 0
FramePut f old new n = InFront (leb (length (frame_bytes f)) (length old)) (frame_bytes f) old new n
