use Rattle.std.proofs.Common.{eq-eqb, ◌∙◌}
use Rattle.sittings.proofs.WatchLaws.{refused_none, refused_first}
use Rattle.sittings.proofs.records.is_refused.Goals as goal

pub returns-then-n-eq0 : goal.returns-then-n-eq0
returns-then-n-eq0 c rs s = eq-eqb _ _ c.if-n-eq0.true ∙ refused_none rs s c.if-n-eq0.true

pub returns-else-n-eq0 : goal.returns-else-n-eq0
returns-else-n-eq0 c rs s = refused_first rs s c.if-n-eq0.false c.record_at.ensures
