use mathlib.Core.Path.{sym, ◌∙◌}
use Rattle.finish.proofs.AddsLaws.{does-nothing}
use Rattle.finish.proofs.closing.close_in_vain.Goals as goal

pub returns-then-any_if_exists : goal.returns-then-any_if_exists
returns-then-any_if_exists c = rw (sym c.any_if_exists.ensures ∙ c.if-any_if_exists.true) c.close_waits.ensures

pub returns-else-any_if_exists : goal.returns-else-any_if_exists
returns-else-any_if_exists c =
    rw (sym c.any_if_exists.ensures ∙ c.if-any_if_exists.false) (does-nothing _ _ _)
