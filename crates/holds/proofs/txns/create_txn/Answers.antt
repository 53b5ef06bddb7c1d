use Rattle.rules.specs.Transactions.{create}
use Rattle.holds.proofs.txns.create_txn.Goals as goal

pub returns-clause-made : goal.returns-clause-made
unfolding create
returns-clause-made c =
    rw (
      c.set_next_number.ensures,
      c.add_row.ensures c.requires.room,
      c.free_slot.ensures.0,
      c.end_of.ensures.0,
      c.next_number-n.ensures,
      c.clock.ensures,
    )
