use Rattle.std.proofs.Common.{refl}
use Rattle.sittings.specs.Report.{sum, greatest, sittings, figures, report_of}
use Rattle.sittings.proofs.set_empty.Goals as goal

pub returns : goal.returns
unfolding sum greatest sittings figures report_of
returns c = refl
