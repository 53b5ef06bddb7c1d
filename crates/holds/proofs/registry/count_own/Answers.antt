use Rattle.std.proofs.Common.{ℕ, ◌≡◌, ◌≤◌, List, arith, rules, tests}
use Rattle.std.proofs.lemmas.Iterator.Consumers.{YieldsList-from_filter, YieldsList-from_first, count_from_yields_List}
use mathlib.Core.Logic.{inl}
use mathlib.Core.Path.{ap, ◌∙◌}
use Rattle.rules.specs.declared.Entry.{Entry}
use Rattle.rules.specs.Numbers.{max_entries}
use Rattle.rules.specs.Words.{view}
use Rattle.tables.specs.Table.{left}
use Rattle.tables.specs.Tables.{entry_table}
use Rattle.holds.specs.Registry.{own_matching}
use Rattle.holds.proofs.SearchLaws.{few}
use Rattle.holds.proofs.RegistryLaws.{own_match, own_counted}
use Rattle.holds.proofs.registry.count_own.Goals as goal

abbrev rows_of : List ℕ → ℕ → ℕ → List Entry
rows_of = left entry_table

pub count-requires-clause-fits : goal.count-requires-clause-fits
count-requires-clause-fits c =
    let source = ap (λ s. rows_of s.space.now s.at s.end) c.filter.ensures.source ∙ c.rows.ensures in
    inl (omega (arith, few c.args.space.now _ source))

counted : (c : goal.After-count)
    → (c.count.result ≡ own_matching c.args.t.0 (view c.args.space.now).entries c.args.g)
    × (c.count.result ≤ max_entries)
counted c =
    let source = ap (λ s. rows_of s.space.now s.at s.end) c.filter.ensures.source ∙ c.rows.ensures in
    own_counted c.args.t.0 c.args.space.now c.args.g c.count.result
    (count_from_yields_List c.filter.result c.count.result c.count.ensures.ran
    (YieldsList-from_filter _ (own_match c.args.t.0 c.args.g)
    (YieldsList-from_first (λ x. x) (λ s. rows_of s.space.now s.at s.end) {s = c.filter.result.iter} _ source)
    c.filter.ensures.closure (λ x b q k. search (rules, tests))))

pub overflow_cast-result : goal.overflow_cast-result
overflow_cast-result c = let k = counted c in record { fits = omega (arith, k.1) }

pub returns : goal.returns
returns c = (counted c).0
