use Rattle.std.proofs.Common.{arith}
use Rattle.tables.proofs.Tables.{entry_back}
use Rattle.words.proofs.row.EntryRow.write.Goals as goal

pub returns-clause-back : goal.returns-clause-back
returns-clause-back c h =
    entry_back c.args.self
    (record {
      readers-fit = omega (arith, c.well_formed);
      blanks-fit = omega (arith, c.well_formed);
      writer_fits = omega (arith, c.well_formed);
      end_fits = h;
    })
