use Rattle.std.proofs.Common.{Bool, ◌∙◌, rules, tests}
use Rattle.std.proofs.lemmas.Iterator.Consumers.{YieldsList-from_first}
use Rattle.std.proofs.lemmas.Iterator.Search.{any_from_yields_List}
use Rattle.rules.specs.declared.LookUp.{LookUp}
use Rattle.rules.specs.Words.{view}
use Rattle.tables.specs.Table.{left}
use Rattle.tables.specs.Tables.{wait_table}
use Rattle.words.proofs.IterLaws.{any_in}
use Rattle.finish.proofs.closing.any_if_exists.Goals as goal

pub returns : goal.returns
returns c =
    let exists : LookUp → Bool = λ w. w.if_exists in
    let waits = (view c.args.space.now).waits in
    any_from_yields_List exists c.any.new.self _ c.any.result c.any.ensures.ran
    (YieldsList-from_first (λ x. x) (λ s. left wait_table s.space.now s.at s.end) {s = c.rows.result} waits
    c.rows.ensures) (λ x b q k. search (rules, tests))
    ∙ any_in exists waits
