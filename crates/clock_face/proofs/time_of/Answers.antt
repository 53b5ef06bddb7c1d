use Rattle.std.proofs.Common.{rules}
use Rattle.rules.specs.Places.{hour_of, minute_of, time_of_place}
use Rattle.clock_face.proofs.time_of.Goals as goal

pub returns-then-place-ge-PLACES : goal.returns-then-place-ge-PLACES
unfolding time_of_place
returns-then-place-ge-PLACES c = search rules

pub returns-then-place-lt-MINUTES : goal.returns-then-place-lt-MINUTES
unfolding time_of_place hour_of minute_of
returns-then-place-lt-MINUTES c = search rules

pub returns : goal.returns
unfolding time_of_place hour_of minute_of
returns c = search rules
