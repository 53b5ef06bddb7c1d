use Rattle.std.proofs.Common.{arith}
use Rattle.rules.proofs.RefusalLaws.{number_not_zero}
use Rattle.tray.proofs.TrayLaws.{tray_refused_lem}
use Rattle.tray.proofs.run.run_tray.Goals as goal

pub returns-in-Err : goal.returns-in-Err
returns-in-Err c =
    tray_refused_lem _ _ _ _ c.in-Err.ensures (number_not_zero c.in-Err.refused)
    (omega (arith, c.packed.ensures, c.number.ensures))
