use Rattle.std.proofs.Common.{rules}
use Rattle.rules.specs.Closing.{is_over, close_waits}
use Rattle.rules.specs.Records.{nothing}
use Rattle.rules.specs.Words.{view}
use Rattle.finish.proofs.closing.put_nothings.Goals as goal

pub returns : goal.returns
unfolding close_waits nothing
returns c = c.add_each.ensures (is_over (view c.args.space.now)) nothing (λ w r p. search rules)
