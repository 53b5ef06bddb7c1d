use Rattle.trial.specs.Progress.{heard_by}
use Rattle.trial.proofs.HeardLaws.{one_of}
use Rattle.trial.proofs.Progress.hear.Goals as goal

pub returns : goal.returns
unfolding heard_by
returns c =
    rw (c.hears-self.ensures, one_of _ c.from.ensures, one_of _ c.from-2.ensures, one_of _ c.from-3.ensures)
