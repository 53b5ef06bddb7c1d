use Rattle.std.proofs.Common.{arith, rules}
use Rattle.rules.specs.Records.{exception}
use Rattle.rules.specs.Tick.{ended_txns}
use Rattle.rules.specs.Time.{reached}
use Rattle.rules.specs.Words.{view}
use Rattle.rules.proofs.ViewLaws.{view-bounded}
use Rattle.finish.proofs.tick.put_exceptions.Goals as goal

pub add_each-requires-clause-room : goal.add_each-requires-clause-room
add_each-requires-clause-room c = omega (arith, c.requires, (view-bounded c.args.space.now).txns_fit)

pub returns : goal.returns
unfolding ended_txns exception
returns c =
    c.add_each.ensures (λ t. reached (view c.args.space.now).clock t.end) exception (λ t r p. search rules)
