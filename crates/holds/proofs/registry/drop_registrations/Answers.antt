use Rattle.std.proofs.Common.{not, rules}
use Rattle.rules.specs.Tick.{unregistered}
use Rattle.rules.specs.Time.{reached}
use Rattle.rules.specs.Words.{view}
use Rattle.holds.proofs.registry.drop_registrations.Goals as goal

pub returns : goal.returns
unfolding unregistered
returns c =
    c.retain_rows.ensures (λ g. not (reached (view c.args.space.now).clock g.end)) (λ p xs x r same q. search rules)
