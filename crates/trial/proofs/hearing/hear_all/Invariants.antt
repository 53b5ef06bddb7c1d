-- The first i records are heard.
use Rattle.std.proofs.Common.{◌-◌}
use Rattle.trial.specs.Progress.{Room, Each, follows, records_at}
use Rattle.trial.proofs.hearing.hear_all.Given as goal

abbrev pub invariant-loop-i : goal.invariant-loop-i
invariant-loop-i l =
    Each l.setup.words.now (follows l.setup.words.now (records_at l.area l.i)) l.initial.panes l.panes
    × Room l.setup.words.now (l.count - l.i) l.panes
