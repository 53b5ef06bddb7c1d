use Rattle.std.proofs.Common.{◌∙◌}
use Rattle.sound.proofs.AllLaws.{all_snoc}
use Rattle.hints.proofs.known.Hints.flag_waiting.Goals as goal

pub loop-w-preserved : goal.loop-w-preserved
loop-w-preserved c =
    let i = c.loop-w.invariant in
    let f = c.flag_party.ensures in
    (all_snoc _ (λ w m. f.0.stays w.party (i.0 w m)) f.1, f.2 ∙ i.1, f.3 ∙ i.2)
