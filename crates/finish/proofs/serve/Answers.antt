use mathlib.Core.Path.{sym, subst}
use native.Mathlib.Omega.{arith}
use Rattle.rules.specs.Done.{Done}
use Rattle.rules.specs.Words.{view}
use Rattle.tables.proofs.Tables.{length-entries}
use Rattle.finish.specs.Does.{Does}
use Rattle.finish.proofs.AddsLaws.{does-nothing}
use Rattle.finish.proofs.FromLaws.{from_none}
use Rattle.finish.proofs.serve.Goals as goal

pub returns-then-row_count-from : goal.returns-then-row_count-from
returns-then-row_count-from c =
    let a = c.args in
    let ws = a.space.now in
    let none = from_none a.from (view ws) (omega (arith, c.row_count.ensures.0, length-entries ws)) in
    subst (λ (d : Done). Does d ws a.answers.now a.answers.now a.count a.count) (sym none)
    (does-nothing _ _ _)
