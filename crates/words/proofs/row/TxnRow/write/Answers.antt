use Rattle.std.proofs.Common.{arith}
use Rattle.tables.proofs.Tables.{txn_back}
use Rattle.words.proofs.row.TxnRow.write.Goals as goal

pub returns-clause-back : goal.returns-clause-back
returns-clause-back c h =
    txn_back c.args.self
    (record { party-fits = omega (arith, c.well_formed); slot-fits = h.0; end_fits = h.1 })
