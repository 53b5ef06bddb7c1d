use Rattle.std.proofs.Common.{◌≡◌, ◌∙◌, ap, not, rules}
use Rattle.rules.specs.Closing.{is_over}
use Rattle.rules.specs.Words.{view}
use Rattle.holds.proofs.endings.leave_over.Goals as goal

-- what leaves is told by entries, transactions and clock, which stay
pub returns : goal.returns
unfolding is_over
returns c =
    c.retain_rows.ensures (λ w. not (is_over (view c.args.space.now) w))
    (λ p xs x r same q.
    let told : r ≡ not (is_over (view p.now) x) = search rules in told ∙ ap (λ m. not (is_over m x)) same)
