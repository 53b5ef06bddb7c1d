use Rattle.rules.specs.Write.{new_entry}
use Rattle.step.proofs.write.new_entry.Goals as goal

pub end_of-requires : goal.end_of-requires
end_of-requires c = rw c.clock.ensures c.requires

pub returns : goal.returns
unfolding new_entry
returns c = (
  rw (c.next_number.ensures, c.mark_of.ensures, c.end_of.ensures.0, c.clock.ensures),
  c.end_of.ensures.1,
)
