use Rattle.std.proofs.Common.{refl, sym, le-leb}
use Rattle.rules.specs.Print.{record_line}
use Rattle.printer.specs.Text.{record_text}
use Rattle.printer.proofs.TextLaws.{prints-all}
use Rattle.printer.proofs.record_line.Goals as goal

pub returns : goal.returns
unfolding record_text record_line
returns c =
    rw (sym c.record_at-r.ensures, le-leb _ _ c.if-bytes-lt-RECORD_SIZE.false, le-leb _ _ c.if-out-lt-LINE_SIZE.false)
    (prints-all _ _ _ _ _ refl (rw (c.from.ensures, c.from-2.ensures, c.from-3.ensures) at c.put_line.ensures))
