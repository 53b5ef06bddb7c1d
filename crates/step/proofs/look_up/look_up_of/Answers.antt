use Rattle.rules.specs.LookUp.{look_up_of}
use Rattle.rules.proofs.LookUpKinds.{kind_back}
use Rattle.step.proofs.look_up.look_up_of.Goals as goal

pub end_of-requires : goal.end_of-requires
end_of-requires c = rw c.clock.ensures c.requires

pub returns : goal.returns
unfolding look_up_of
returns c =
    let l = c.args.l in
    let k = kind_back l.takes l.if_exists in
    (rw (k.0, k.1, c.end_of.ensures.0, c.clock.ensures), c.end_of.ensures.1)
