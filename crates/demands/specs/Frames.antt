-- Frames and records of the course's examples, by what they say.
use Rattle.std.specs.Prelude.{ℕ, zero, suc, List, [], ◌∷◌, ◌++◌}
use Rattle.rules.specs.declared.Fields.{Fields}
use Rattle.rules.specs.declared.Mark.{Mark}
use Rattle.rules.specs.declared.Record.{Record}
use Rattle.rules.specs.Numbers.{op_write, op_read, op_take, op_read_if_exists, op_take_if_exists, op_create, op_commit}
use Rattle.rules.specs.Numbers.{op_abort}
use Rattle.rules.specs.Numbers.{op_tick, op_notify, op_renew, kind_written, kind_found, kind_nothing, kind_waiting}
use Rattle.rules.specs.Numbers.{kind_created, kind_committed, kind_aborted, kind_exception, kind_ticked, kind_notified}
use Rattle.rules.specs.Numbers.{kind_rung, kind_renewed, kind_refused}
use Rattle.rules.specs.Records.{no_mark, plain}
use Rattle.rules.specs.Places.{arc_of}
use Rattle.rules.specs.Template.{mark_of}
use Rattle.rules.specs.Frame.{four_bytes}

-- four fields
abbrev pub F : ℕ → ℕ → ℕ → ℕ → Fields
F k s i p = record { kind = k; side = s; image = i; place = p }

abbrev field_bytes : Fields → List ℕ
field_bytes x = four_bytes x.kind ++ four_bytes x.side ++ four_bytes x.image ++ four_bytes x.place

-- an operation by a party in a transaction, with a lease or timeout, a mask and fields
abbrev pub long : ℕ → ℕ → ℕ → ℕ → ℕ → Fields → List ℕ
long op party t lease_or_timeout mask x =
    (op ∷ party ∷ mask ∷ 0 ∷ []) ++ four_bytes t ++ four_bytes lease_or_timeout ++ field_bytes x

-- by party: the transaction, the lease and the fields
abbrev pub write_by : ℕ → ℕ → ℕ → Fields → List ℕ
write_by party t lease x = long op_write party t lease 0 x

-- with blanks, told by a mask
abbrev pub write_blank : ℕ → ℕ → ℕ → ℕ → Fields → List ℕ
write_blank party t lease blanks x = long op_write party t lease blanks x

-- by party: the transaction, the timeout, and a kind, the one field that is asked for
abbrev pub read_by : ℕ → ℕ → ℕ → ℕ → List ℕ
read_by party t timeout k = long op_read party t timeout 1 (F k 0 0 0)

abbrev pub take_by : ℕ → ℕ → ℕ → ℕ → List ℕ
take_by party t timeout k = long op_take party t timeout 1 (F k 0 0 0)

abbrev pub read_if_exists_by : ℕ → ℕ → ℕ → ℕ → List ℕ
read_if_exists_by party t timeout k = long op_read_if_exists party t timeout 1 (F k 0 0 0)

abbrev pub take_if_exists_by : ℕ → ℕ → ℕ → ℕ → List ℕ
take_if_exists_by party t timeout k = long op_take_if_exists party t timeout 1 (F k 0 0 0)

-- by party: the transaction, the timeout, and the start and the length of an arc, the one thing that is asked for
abbrev pub read_arc : ℕ → ℕ → ℕ → ℕ → ℕ → List ℕ
read_arc party t timeout start size = long op_read party t timeout 16 (F 0 0 0 (arc_of start size))

-- by party: the lease, and a kind, the one field that is asked for
abbrev pub notify_by : ℕ → ℕ → ℕ → List ℕ
notify_by party lease k = long op_notify party 0 lease 1 (F k 0 0 0)

-- by party: the entry, and the lease
abbrev pub renew_by : ℕ → ℕ → ℕ → List ℕ
renew_by party n lease = (op_renew ∷ party ∷ 0 ∷ 0 ∷ []) ++ four_bytes n ++ four_bytes lease

abbrev pub create_by : ℕ → ℕ → List ℕ
create_by party lease = (op_create ∷ party ∷ 0 ∷ 0 ∷ []) ++ four_bytes 0 ++ four_bytes lease

abbrev pub commit_by : ℕ → ℕ → List ℕ
commit_by party t = (op_commit ∷ party ∷ 0 ∷ 0 ∷ []) ++ four_bytes t

abbrev pub abort_by : ℕ → ℕ → List ℕ
abort_by party t = (op_abort ∷ party ∷ 0 ∷ 0 ∷ []) ++ four_bytes t

abbrev pub a_tick : List ℕ
a_tick = op_tick ∷ 0 ∷ 0 ∷ 0 ∷ []

-- a frame n times
abbrev pub times : ℕ → List ℕ → List (List ℕ)
times zero f = []
times (suc n) f = f ∷ times n f

-- records: kind, party, refusal, transaction, entry number, fields
abbrev answer : ℕ → ℕ → ℕ → ℕ → ℕ → Mark → Record
answer k p r t n x =
    record { kind = k; party = p; refusal = r; txn = record { 0 = t }; entry = record { 0 = n }; fields = x }

-- by party, then what the kind has
abbrev pub Refused : ℕ → ℕ → Record
Refused party n = answer kind_refused party n 0 0 no_mark

abbrev pub Written : ℕ → ℕ → ℕ → Record
Written party t n = answer kind_written party 0 t n no_mark

abbrev pub Found : ℕ → ℕ → ℕ → Fields → Record
Found party t n x = answer kind_found party 0 t n (mark_of 0 x)

abbrev pub FoundBlank : ℕ → ℕ → ℕ → ℕ → Fields → Record
FoundBlank party t n blanks x = answer kind_found party 0 t n (mark_of blanks x)

abbrev pub Renewed : ℕ → ℕ → Record
Renewed party n = answer kind_renewed party 0 0 n no_mark

-- by party: the registration's number; with it the count in a step and the total
abbrev pub Notified : ℕ → ℕ → Record
Notified party n = answer kind_notified party 0 0 n no_mark

abbrev pub Rung : ℕ → ℕ → ℕ → ℕ → Record
Rung party n count total = answer kind_rung party 0 0 n (mark_of 0 (F count total 0 0))

abbrev pub Nothing : ℕ → ℕ → Record
Nothing party t = plain kind_nothing party t

abbrev pub Waiting : ℕ → ℕ → Record
Waiting party t = plain kind_waiting party t

abbrev pub Created : ℕ → ℕ → Record
Created party t = plain kind_created party t

abbrev pub Committed : ℕ → ℕ → Record
Committed party t = plain kind_committed party t

abbrev pub Aborted : ℕ → ℕ → Record
Aborted party t = plain kind_aborted party t

abbrev pub Exception : ℕ → ℕ → Record
Exception party t = plain kind_exception party t

abbrev pub Ticked : Record
Ticked = plain kind_ticked 0 0

-- the entry E of the examples
abbrev pub E : Fields
E = F 7 1 40 9
