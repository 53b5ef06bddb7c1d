use Rattle.std.proofs.Common.{Bool, rules, tests}
use Rattle.std.proofs.lemmas.Iterator.Consumers.{YieldsList-from_first}
use Rattle.std.proofs.lemmas.Iterator.Search.{find_from_yields_List}
use Rattle.rules.specs.declared.Txn.{Txn}
use Rattle.rules.specs.Time.{reached}
use Rattle.rules.specs.Words.{view}
use Rattle.tables.specs.Table.{left}
use Rattle.tables.specs.Tables.{txn_table}
use Rattle.words.proofs.IterLaws.{found}
use Rattle.finish.proofs.tick.first_ended.Goals as goal

pub returns : goal.returns
returns c =
    let ends : Txn → Bool = λ t. reached (view c.args.space.now).clock t.end in
    let f =
    find_from_yields_List ends c.find.new.self _ c.find.result c.find.ensures.ran
    (YieldsList-from_first (λ x. x) (λ s. left txn_table s.space.now s.at s.end) {s = c.rows.result} _ c.rows.ensures)
    (λ x b q k. search (rules, tests)) in
    found ends c.find.result _ f
