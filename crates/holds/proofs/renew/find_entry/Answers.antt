use Rattle.std.proofs.Common.{sym, subst, arith, rules, tests}
use Rattle.rules.specs.Renew.{stored_entry, has_number}
use Rattle.tables.proofs.SearchLaws.{search_found, search_none}
use Rattle.tables.proofs.Tables.{entries-read}
use Rattle.holds.specs.Search.{IsRow, Stops}
use Rattle.holds.proofs.renew.find_entry.Goals as goal

pub returns-in_err-row : goal.returns-in_err-row
unfolding stored_entry
returns-in_err-row c =
    let ws = c.args.space.now in
    let s =
    subst (Stops (has_number c.args.id.0) ws) c.in_err-row.was
    (c.first_row.ensures.first (has_number c.args.id.0) (λ e r k. search (rules, tests))) in
    rw c.from_residual.ensures (sym (search_none (entries-read ws) (record { passed = s }) (omega arith)), tt)

pub row_at-requires : goal.row_at-requires
row_at-requires c =
    let row = subst (IsRow c.args.space.now) c.in_ok-row.was c.first_row.ensures.row in
    omega (arith, row)

pub returns : goal.returns
unfolding stored_entry
returns c =
    let ws = c.args.space.now in
    let is = c.row_at.ensures in
    let row = subst (IsRow ws) c.in_ok-row.was c.first_row.ensures.row in
    let s =
    subst (Stops (has_number c.args.id.0) ws) c.in_ok-row.was
    (c.first_row.ensures.first (has_number c.args.id.0) (λ e r k. search (rules, tests))) in
    (sym (search_found (entries-read ws) (record { passed = s.1 }) row is (rw is s.0)), (row, is))
