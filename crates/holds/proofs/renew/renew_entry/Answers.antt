use Rattle.std.proofs.Common.{◌∙◌, ap}
use borrow.Author.Tests.{eq-eqb, ne_eqb}
use lib.ListN.{set}
use Rattle.rules.specs.Renew.{ending_at}
use Rattle.rules.specs.State.{with_entries}
use Rattle.rules.specs.Time.{until}
use Rattle.rules.specs.Words.{view}
use Rattle.holds.specs.Renew.{renewed_at}
use Rattle.holds.proofs.renew.renew_entry.Goals as goal

pub returns-then-lease-eq0 : goal.returns-then-lease-eq0
unfolding renewed_at
returns-then-lease-eq0 c = rw (eq-eqb _ _ c.if-lease-eq0.true) c.remove_row.ensures.0

pub returns-else-lease-eq0 : goal.returns-else-lease-eq0
unfolding renewed_at
returns-else-lease-eq0 c =
    let m = view c.args.space.now in
    let end = c.end_of-end.ensures.0 ∙ ap (λ k. until k c.args.lease) c.clock.ensures in
    rw (ne_eqb _ _ c.if-lease-eq0.false)
    (c.set_row.ensures.0 ∙ ap (λ u. with_entries (set m.entries c.args.row (ending_at u c.args.e)) m) end)
