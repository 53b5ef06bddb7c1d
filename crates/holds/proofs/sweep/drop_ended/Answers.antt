use Rattle.std.proofs.Common.{◌∙◌, sym, not, rules}
use Rattle.rules.specs.Time.{reached}
use Rattle.rules.specs.Words.{view}
use Rattle.holds.proofs.HandLaws.{drop-ended}
use Rattle.holds.proofs.SweepLaws.{ended_spared}
use Rattle.holds.proofs.sweep.drop_ended.Goals as goal

pub returns : goal.returns
returns c =
    let m = view c.args.space.now in
    let done =
    c.pass_over.ensures (λ e. reached m.clock e.end) (λ e. not (reached m.clock e.end)) (λ e. e) (ended_spared m.clock)
    (λ e r k. search rules) (λ e r q k. rw q (search rules)) in
    done.0 ∙ sym (drop-ended m)
