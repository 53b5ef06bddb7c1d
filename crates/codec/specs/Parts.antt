-- A frame by its parts, as that of a request is put together.
use Rattle.rules.specs.Frame.{Frame}
use Rattle.rules.specs.Requests.{frame}
use Rattle.codec.specs.declared.encode.Parts.{Parts}

-- the frame of these parts: "Byte 0 operation, 1 party, 2 mask, 3 zero, 4-7 transaction, 8-11 lease or timeout, 12-27
-- fields"
abbrev pub frame_from : Parts → Frame
frame_from p = frame p.op p.party p.mask p.txn p.lease p.fields
