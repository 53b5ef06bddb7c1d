use Rattle.rules.specs.Lists.{All}
use Rattle.tables.specs.Table.{first}
use Rattle.hints.specs.Hints.{NotBefore}
use Rattle.hints.proofs.renew.first_end.Given as goal

-- no row passed ends before the tick
abbrev pub invariant-loop-i : goal.invariant-loop-i
invariant-loop-i g l = All (λ x. NotBefore l.least (g.T.Lasting.ends x)) (first g.T.Row.table l.i l.space)
