-- `put_parts`: the parts stand one behind another.
use Rattle.std.proofs.Common.{arith, length-append}
use Rattle.codec.proofs.FrontLaws.{over_then}
use Rattle.codec.proofs.bytes.put_parts.Goals as goal

pub returns : goal.returns
returns c =
    let e2 = over_then _ _ _ _ _ 0 4 (omega arith) c.put.ensures c.put_number.ensures in
    let e3 = over_then _ _ _ _ _ 0 8 (simp length-append (omega arith)) e2 c.put_number-2.ensures in
    over_then _ _ _ _ _ 0 12 (simp length-append (omega arith)) e3 c.put_fields.ensures
