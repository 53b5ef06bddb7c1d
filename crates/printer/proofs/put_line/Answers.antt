use Rattle.std.proofs.Common.{get_or, lt-ltb, le-ltb, arith}
use Rattle.printer.proofs.DigitLaws.{digits-length}
use Rattle.printer.proofs.LineLaws.{lining_none, lining_room, lining_next}
use Rattle.printer.proofs.put_line.Goals as goal
use Rattle.printer.proofs.put_line.Goals.{then-i-numbers, else-i-numbers}

pub loop-i-init : goal.loop-i-init
loop-i-init c = lining_none _ _ _ c.requires.0 (omega (arith, c.requires))

pub put_decimal-next-requires : goal.put_decimal-next-requires
put_decimal-next-requires c =
    omega (
      arith,
      lining_room _ _ _ _ _ _ c.loop-i.invariant c.loop-i-test.true c.requires.1,
      digits-length 10 (get_or c.args.numbers.now c.loop-i.i 0),
    )

-- the digits end within the buffer
pub bounds-out-next : goal.bounds-out-next
bounds-out-next c =
    omega (
      arith,
      lining_room _ _ _ _ _ _ c.loop-i.invariant c.loop-i-test.true c.requires.1,
      digits-length 10 (get_or c.args.numbers.now c.loop-i.i 0),
      c.put_decimal-next.ensures.end,
      c.put_decimal-next.auto.out,
    )

pub loop-i-preserved : goal.loop-i-preserved
loop-i-preserved c =
    lining_next _ _ _ _ _ _ c.loop-i.invariant c.loop-i-test.true c.requires.1 _ _ _ c.put_decimal-next.ensures
    (elim c.if-i-numbers.branch [
      | then-i-numbers w ↦ rw (lt-ltb _ _ w.if-i-numbers.true) w.out-is
      | else-i-numbers w ↦ rw (le-ltb _ _ w.if-i-numbers.false) w.out-is
    ])
