use Rattle.rules.specs.Notify.{notify, new_registration}
use Rattle.holds.proofs.registry.register.Goals as goal

pub returns-clause-made : goal.returns-clause-made
unfolding notify new_registration
returns-clause-made c =
    rw (
      c.set_next_number.ensures,
      c.add_row.ensures c.requires.room,
      c.end_of.ensures.0,
      c.next_number-n.ensures,
      c.clock.ensures,
    )
