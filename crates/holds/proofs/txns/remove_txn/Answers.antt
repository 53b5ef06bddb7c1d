use Rattle.std.proofs.Common.{not, eqb, rules, tests}
use Rattle.rules.specs.Transactions.{without_txn}
use Rattle.holds.proofs.txns.remove_txn.Goals as goal

pub returns : goal.returns
unfolding without_txn
returns c = c.retain_rows.ensures (λ t. not (eqb t.id.0 c.args.id.0)) (λ p xs x r same q. search (rules, tests))
