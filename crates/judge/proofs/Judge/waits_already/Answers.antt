use Rattle.std.proofs.Common.{sym, ◌∙◌, rules, tests}
use Rattle.std.proofs.lemmas.Iterator.Consumers.{YieldsList-from_first}
use Rattle.std.proofs.lemmas.Iterator.Search.{any_from_yields_List}
use Rattle.tables.specs.Table.{left}
use Rattle.tables.specs.Tables.{wait_table}
use Rattle.words.proofs.IterLaws.{any_in}
use Rattle.judge.specs.Judge.{bars_unless}
use Rattle.judge.proofs.RefusalParts.{unflagged_waits}
use Rattle.judge.proofs.Judge.waits_already.Goals as goal

pub returns-then-may_wait : goal.returns-then-may_wait
returns-then-may_wait c =
    let bar = bars_unless c.args.party c.args.leaving in
    any_from_yields_List bar c.any.new.self _ c.any.result c.any.ensures.ran
    (YieldsList-from_first (λ x. x) (λ s. left wait_table s.space.now s.at s.end) {s = c.rows.result} _
    c.rows.ensures)
    (λ x b q k. search (rules, tests))
    ∙ any_in bar _

pub returns-else-may_wait : goal.returns-else-may_wait
returns-else-may_wait c =
    c.if-may_wait.false
    ∙ sym (unflagged_waits c.args.self.now.hints.now _ c.args.party c.args.leaving c.args.self.now.flagged
    (sym c.may_wait.ensures ∙ c.if-may_wait.false))
