use borrow.Author.Tests.{eq-eqb, ne_eqb}
use Rattle.rules.specs.Numbers.{max_entries}
use Rattle.rules.specs.Words.{view}
use Rattle.rules.proofs.ViewLaws.{view-bounded}
use Rattle.finish.proofs.AddsLaws.{does-nothing}
use Rattle.finish.proofs.FromLaws.{from_none}
use Rattle.finish.proofs.serve_ended.Goals as goal

pub returns-then-ended-eq0 : goal.returns-then-ended-eq0
returns-then-ended-eq0 c =
    let a = c.args in
    let ws = a.space.now in
    rw (eq-eqb a.ended 0 c.if-ended-eq0.true, from_none max_entries (view ws) (view-bounded ws).entries_fit)
    (does-nothing _ _ _)

pub returns : goal.returns
returns c = rw (ne_eqb c.args.ended 0 c.if-ended-eq0.false) c.serve.ensures
