-- The length of a frame, worked out from its operation (document 02, T-06).
use Rattle.std.specs.Prelude.{ℕ, cond, ◌||◌, ◌≡◌, eqb, leb, ltb}
use Rattle.rules.specs.Numbers.{op_take_if_exists, op_create, op_abort, op_notify, op_renew}
use Rattle.rules.specs.Frame.{frame_length}

-- "The constant table of frame lengths is to go; the length is worked out from the operation instead." A frame ends
-- behind its fields, its lease or timeout, its transaction, or its first four bytes, whichever it has last; what is no
-- operation has no length.
unfoldable pub length_by_rule : ℕ → ℕ
length_by_rule op =
    cond (eqb op 0 || ltb op_renew op) 0
    (cond (leb op op_take_if_exists || eqb op op_notify) 28
    (cond (leb op op_create || eqb op op_renew) 12
    (cond (leb op op_abort) 8 4)))

-- "Every frame is judged as before": it is the length of document 01's table, for every operation byte 0 to 255, and
-- any number at all.
abbrev pub LengthsAsBefore : Type 0
LengthsAsBefore = (op : ℕ) → length_by_rule op ≡ frame_length op
