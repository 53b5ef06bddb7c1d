use mathlib.Core.Path.{ap, ◌∙◌}
use Rattle.rules.specs.Numbers.{kind_created}
use Rattle.rules.specs.Records.{plain, created}
use Rattle.rules.specs.Transactions.{create}
use Rattle.rules.specs.Words.{view}
use Rattle.step.proofs.PassedLaws.{create_in_time, create-room, create-number}
use Rattle.step.proofs.own.create.Goals as goal

pub create_txn-id-requires : goal.create_txn-id-requires
create_txn-id-requires c =
    let a = c.args in
    let m = view a.space.now in
    let p = c.requires in
    record {
      in_time = create_in_time m a.party a.lease p;
      room = create-room m a.party a.lease p;
      number = create-number m a.party a.lease p;
    }

pub returns : goal.returns
unfolding create created
returns c =
    let t = c.create_txn-id in
    let party = c.args.party in
    record { model = t.ensures.made; own = c.plain_record.ensures ∙ ap (plain kind_created party) t.ensures.numbered }
