use Rattle.step.proofs.step_frame.Goals as goal

pub step_hinted-requires : goal.step_hinted-requires
step_hinted-requires c = c.unknown.ensures _
