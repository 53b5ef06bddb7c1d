use Rattle.std.proofs.Common.{◌≡◌, ◌∙◌, sym, true, false, arith, rules}
use Rattle.std.proofs.lemmas.Iterator.{IsFirst-from_position}
use Rattle.std.proofs.lemmas.Iterator.Consumers.{YieldsList-from_first}
use mathlib.Core.Logic.{inl}
use Rattle.rules.specs.declared.Entry.{Entry}
use Rattle.tables.specs.Table.{left}
use Rattle.tables.specs.Tables.{entry_table}
use Rattle.tables.proofs.Tables.{entries-read}
use Rattle.holds.proofs.SearchLaws.{is_row, stops, few}
use Rattle.holds.proofs.search.first_row.Goals as goal

pub position-requires-clause-fits : goal.position-requires-clause-fits
position-requires-clause-fits g c = inl (omega (arith, few c.args.space.now _ c.rows.ensures))

pub returns-clause-row : goal.returns-clause-row
returns-clause-row g c =
    let ws = c.args.space.now in
    let any : Entry → Type 0 = λ e. Unit {0} in
    is_row ws any any c.position.result
    (IsFirst-from_position c.position.new.self _ c.position.result any any c.position.ensures.ran
    (YieldsList-from_first (λ x. x) (λ s. left entry_table s.space.now s.at s.end) {s = c.rows.result} _
    (c.rows.ensures ∙ (entries-read ws).is))
    (λ x b k. tt) (λ x b k. (search rules, tt)))

pub returns-clause-first : goal.returns-clause-first
returns-clause-first g c q computes =
    let ws = c.args.space.now in
    stops ws q c.position.result
    (IsFirst-from_position c.position.new.self _ c.position.result (λ e. q e ≡ true) (λ e. q e ≡ false)
    c.position.ensures.ran
    (YieldsList-from_first (λ x. x) (λ s. left entry_table s.space.now s.at s.end) {s = c.rows.result} _
    (c.rows.ensures ∙ (entries-read ws).is))
    (λ x b k. sym (computes x true (search rules))) (λ x b k. (search rules, sym (computes x false (search rules)))))
