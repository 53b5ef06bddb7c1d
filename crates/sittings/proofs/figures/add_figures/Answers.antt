use Rattle.std.proofs.Common.{refl, arith}
use Rattle.sittings.proofs.FigureLaws.{stored_one}
use Rattle.sittings.proofs.figures.add_figures.Goals as goal

pub returns : goal.returns
returns c =
    stored_one c.args.report.now c.args.party c.args.more c.figures_at-old.result (omega arith) c.requires
    c.figures_at-old.ensures refl refl c.max.ensures refl refl
