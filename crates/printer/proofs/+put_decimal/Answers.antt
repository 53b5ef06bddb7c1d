-- A digit; or the digits of a tenth, and one more behind them.
use Rattle.std.proofs.Common.{refl, arith}
use Rattle.printer.proofs.DigitLaws.{one-long, many-long}
use Rattle.printer.proofs.TextLaws.{puts_digit, puts-digits}
use Rattle.printer.proofs.+put_decimal.Goals as goal

pub bounds-out-at : goal.bounds-out-at
bounds-out-at t c = omega (arith, c.requires, one-long c.args.n c.if-n-lt10.true)

pub returns-then-n-lt10 : goal.returns-then-n-lt10
returns-then-n-lt10 t c =
    puts_digit _ _ c.args.n _ c.if-n-lt10.true refl (omega (arith, c.requires, one-long c.args.n c.if-n-lt10.true))

pub put_decimal-next-requires : goal.put_decimal-next-requires
put_decimal-next-requires t c =
    (omega (arith, c.decreases), omega (arith, c.requires, many-long c.args.n c.ranges.n.fits c.if-n-lt10.false))

pub bounds-out-next : goal.bounds-out-next
bounds-out-next t c =
    let many = many-long c.args.n c.ranges.n.fits c.if-n-lt10.false in
    omega (arith, c.requires, c.put_decimal-next.ensures.end, c.put_decimal-next.auto.out)

pub returns : goal.returns
returns t c =
    puts-digits _ _ _ _ _ _ c.ranges.n.fits c.if-n-lt10.false c.put_decimal-next.ensures refl c.requires
