-- "Frame layout": byte 0 operation, 1 party, 2 mask, 3 zero, 4-7 transaction or entry, 8-11 lease or timeout, 12-27
-- fields.
use Rattle.std.specs.Prelude.{ℕ, ◌+◌, ◌*◌, ◌/◌, ◌%◌, Bool, true, false, not, cond, ◌&&◌, ◌||◌, List, [], ◌∷◌, ◌++◌, eqb}
use Rattle.std.specs.Prelude.{leb, get_or, take}
use Rattle.rules.specs.declared.Fields.{Fields}
use Rattle.rules.specs.Template.{four_fields}
use Rattle.rules.specs.Numbers.{op_write, op_read, op_take, op_read_if_exists, op_take_if_exists, op_create, op_commit}
use Rattle.rules.specs.Numbers.{op_abort, op_tick, op_notify, op_renew}

-- the byte at a place, and the little-endian number of four bytes there; 0 past the end
abbrev pub byte_at : List ℕ → ℕ → ℕ
byte_at bs i = get_or bs i 0

unfoldable pub number_at : List ℕ → ℕ → ℕ
number_at bs i = byte_at bs i + 256 * byte_at bs (i + 1) + 65536 * byte_at bs (i + 2) + 16777216 * byte_at bs (i + 3)

-- the four bytes of a number
abbrev pub four_bytes : ℕ → List ℕ
four_bytes n = n % 256 ∷ n / 256 % 256 ∷ n / 65536 % 256 ∷ n / 16777216 % 256 ∷ []

-- the four fields, from a place on
abbrev pub fields_at : List ℕ → ℕ → Fields
fields_at bs i = four_fields (number_at bs i) (number_at bs (i + 4)) (number_at bs (i + 8)) (number_at bs (i + 12))

pub record Frame : Type 0 where
  pub op : ℕ
  pub party : ℕ
  pub mask : ℕ
  pub byte3 : ℕ
  -- a transaction's number, or an entry's (`names_entry`)
  pub txn : ℕ
  pub lease_or_timeout : ℕ
  pub fields : Fields

unfoldable pub decode : List ℕ → Frame
decode bs =
    record {
      op = byte_at bs 0;
      party = byte_at bs 1;
      mask = byte_at bs 2;
      byte3 = byte_at bs 3;
      txn = number_at bs 4;
      lease_or_timeout = number_at bs 8;
      fields = fields_at bs 12;
    }

-- Operations

abbrev pub is_write : ℕ → Bool
is_write op = eqb op op_write

-- the four look-ups: read, take, readIfExists, takeIfExists
abbrev pub is_look_up : ℕ → Bool
is_look_up op = leb op_read op && leb op op_take_if_exists

abbrev pub is_take : ℕ → Bool
is_take op = eqb op op_take || eqb op op_take_if_exists

abbrev pub is_if_exists : ℕ → Bool
is_if_exists op = eqb op op_read_if_exists || eqb op op_take_if_exists

-- the operation of a look-up that takes or reads, waits or goes by conflicts
abbrev pub look_up_op : Bool → Bool → ℕ
look_up_op takes if_exists = cond takes (cond if_exists op_take_if_exists op_take)
    (cond if_exists op_read_if_exists op_read)

abbrev pub is_create : ℕ → Bool
is_create op = eqb op op_create

abbrev pub is_commit : ℕ → Bool
is_commit op = eqb op op_commit

abbrev pub is_abort : ℕ → Bool
is_abort op = eqb op op_abort

abbrev pub is_tick : ℕ → Bool
is_tick op = eqb op op_tick

abbrev pub is_notify : ℕ → Bool
is_notify op = eqb op op_notify

abbrev pub is_renew : ℕ → Bool
is_renew op = eqb op op_renew

-- What the frames of an operation have
pub record Layout : Type 0 where
  -- "length"
  pub size : ℕ
  -- mask and fields are a template
  pub template : Bool
  -- "the mask byte now tells blank fields" (document 02, T-08); where it tells neither, it is 0
  pub blanks : Bool
  -- bytes 8-11 are a lease or a timeout
  pub lease : Bool
  -- it names no transaction: bytes 4-7 are 0
  pub outside : Bool
  -- it names an entry: "an entry number in bytes 4-7" (document 02, T-05)
  pub entry : Bool
  -- it ends a transaction: 0 is none
  pub ends : Bool
  -- service follows: "After a write outside transactions, a commit, an abort, and within a tick"
  pub serves : Bool

abbrev layout : ℕ → Bool → Bool → Bool → Bool → Bool → Bool → Bool → Layout
layout n t b l o i e s =
    record { size = n; template = t; blanks = b; lease = l; outside = o; entry = i; ends = e; serves = s }

abbrev no_layout : Layout
no_layout = layout 0 false false false false false false false

-- The table of operations, by number; none has the number 0
abbrev pub layouts : List Layout
layouts =
    --      size template blanks lease outside entry ends serves
    no_layout
    ∷ layout 28 false true true false false false true  -- write
    ∷ layout 28 true false true false false false false  -- read
    ∷ layout 28 true false true false false false false  -- take
    ∷ layout 28 true false true false false false false  -- readIfExists
    ∷ layout 28 true false true false false false false  -- takeIfExists
    ∷ layout 12 false false true true false false false  -- create
    ∷ layout 8 false false false false false true true  -- commit
    ∷ layout 8 false false false false false true true  -- abort
    ∷ layout 4 false false false false false false true  -- tick
    ∷ layout 28 true false true true false false false  -- notify
    ∷ layout 12 false false true false true false false  -- renew
    ∷ []

unfoldable pub layout_of : ℕ → Layout
layout_of op = get_or layouts op no_layout

-- and its columns
abbrev pub is_operation : ℕ → Bool
is_operation op = not (eqb (layout_of op).size 0)

-- "The lengths are a constant table"
unfoldable pub frame_length : ℕ → ℕ
frame_length op = (layout_of op).size

abbrev pub has_template : ℕ → Bool
has_template op = (layout_of op).template

abbrev pub has_blanks : ℕ → Bool
has_blanks op = (layout_of op).blanks

abbrev pub has_lease_or_timeout : ℕ → Bool
has_lease_or_timeout op = (layout_of op).lease

abbrev pub names_no_txn : ℕ → Bool
names_no_txn op = (layout_of op).outside

abbrev pub names_entry : ℕ → Bool
names_entry op = (layout_of op).entry

abbrev pub ends_txn : ℕ → Bool
ends_txn op = (layout_of op).ends

-- the entry that a frame names, by its number
abbrev pub entry_named : Frame → ℕ
entry_named f = f.txn

-- whether service follows the frame: not after a write inside a transaction
unfoldable pub serves : Frame → Bool
serves f = (layout_of f.op).serves && not (is_write f.op && not (eqb f.txn 0))

-- the bytes of a frame: as many as its operation has
unfoldable pub frame_bytes : Frame → List ℕ
frame_bytes f =
    take (frame_length f.op)
    ((f.op ∷ f.party ∷ f.mask ∷ f.byte3 ∷ [])
    ++ four_bytes f.txn
    ++ four_bytes f.lease_or_timeout
    ++ four_bytes f.fields.kind
    ++ four_bytes f.fields.side
    ++ four_bytes f.fields.image
    ++ four_bytes f.fields.place)
