use Rattle.std.proofs.Common.{rules}
use Rattle.rules.specs.Holds.{available}
use Rattle.rules.specs.Words.{view}
use Rattle.available.proofs.FindLaws.{only-available}
use Rattle.available.proofs.find.find_available.Goals as goal

pub returns : goal.returns
returns c =
    let m = view c.args.space.now in
    c.first_passing.ensures (available m.txns c.args.w) (only-available m.txns c.args.w) (λ e r p. search rules)
