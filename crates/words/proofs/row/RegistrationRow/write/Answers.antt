use Rattle.std.proofs.Common.{arith}
use Rattle.tables.proofs.Tables.{registration_back}
use Rattle.words.proofs.row.RegistrationRow.write.Goals as goal

pub returns-clause-back : goal.returns-clause-back
returns-clause-back c h =
    registration_back c.args.self
    (record {
      party-fits = omega (arith, c.well_formed);
      mask_fits = omega (arith, c.well_formed);
      end_fits = h;
    })
