use Rattle.std.proofs.Common.{arith}
use Rattle.viewer_lib.proofs.PrintedLaws.{none_printed, record_short, record_printed}
use Rattle.viewer_lib.proofs.text.put_records.Goals as goal

pub loop-i-init : goal.loop-i-init
loop-i-init c = (none_printed _ _, omega arith)

pub loop-i-preserved : goal.loop-i-preserved
loop-i-preserved c =
    let l = c.loop-i in
    let t = c.record_line-at in
    let short =
    record_short _ _ l.out _ l.at l.i _ l.invariant.0 (omega arith) (omega arith) t.ensures t.auto.out in (
      record_printed _ _ l.out _ l.at l.i _ l.invariant.0 (omega arith) (omega arith) t.ensures t.auto.out,
      omega (arith, short),
    )
