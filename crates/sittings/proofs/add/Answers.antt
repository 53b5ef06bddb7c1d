use Rattle.std.proofs.Common.{◌+◌, get_or, refl, arith}
use Rattle.rules.proofs.RefusalLaws.{number_not_zero}
use Rattle.sittings.proofs.ReportLaws.{added_full, added-refused, added-sitting}
use Rattle.sittings.proofs.add.Goals as goal

pub returns-then-report-ge-MAX_SITTINGS : goal.returns-then-report-ge-MAX_SITTINGS
returns-then-report-ge-MAX_SITTINGS c =
    rw (c.from.ensures, c.number.ensures)
    (added_full c.args.report.now c.args.tray.now c.if-report-ge-MAX_SITTINGS.true)

pub returns-in-Ok : goal.returns-in-Ok
returns-in-Ok c =
    let ws = c.args.report.now in
    added-sitting ws c.args.tray.now 0 (get_or ws 0 0 + 1) (omega arith)
    (omega (arith, c.if-report-ge-MAX_SITTINGS.false)) refl c.in-Ok.ensures refl (omega arith) c.add_sitting.ensures

pub returns-in-Err : goal.returns-in-Err
returns-in-Err c =
    let ws = c.args.report.now in
    let refused = c.in-Err.refused in
    rw (c.from-in-Err.ensures, c.number-in-Err.ensures)
    (added-refused ws c.args.tray.now _ (get_or ws 0 0 + 1) (omega arith)
    (omega (arith, c.if-report-ge-MAX_SITTINGS.false)) refl c.in-Err.ensures (number_not_zero refused) refl)
