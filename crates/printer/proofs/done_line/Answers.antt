use Rattle.std.proofs.Common.{le-leb, arith}
use Rattle.rules.specs.Print.{done_line}
use Rattle.printer.proofs.TextLaws.{prints-all, puts_then, puts_front}
use Rattle.printer.proofs.done_line.Goals as goal

pub returns : goal.returns
unfolding done_line
returns c =
    prints-all _ _ _ _ _ (le-leb _ _ c.if-out-lt-LINE_SIZE.false)
    (puts_then _ _ _ _ _ 0 5 _ (puts_front _ _ 5 c.copy_from_slice.ensures.after (omega arith) (omega arith))
    c.put_line.ensures)
