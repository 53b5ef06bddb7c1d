use Rattle.std.proofs.Common.{refl, arith}
use Rattle.std.proofs.lemmas.Bool.Decides.{nat_tests}
use Rattle.order.proofs.TxnLaws.{no_words, too_many, no_txns_read, one_more_txn, no_txn, left_over, all_txns_read}
use Rattle.order.proofs.read.read_export.Goals as goal

pub returns-in_err-count : goal.returns-in_err-count
returns-in_err-count c = rw c.from_residual.ensures (no_words _ c.in_err-count.ensures.cases)

pub returns-then-n-gt-MAX_TXNS : goal.returns-then-n-gt-MAX_TXNS
returns-then-n-gt-MAX_TXNS c =
    too_many _ _ _ _ c.in_ok-count.ensures.cases.0 refl c.if-n-gt-MAX_TXNS.true

pub loop-t-init : goal.loop-t-init
loop-t-init c = (no_txns_read _ _, omega arith)

pub returns-in_err-len : goal.returns-in_err-len
returns-in_err-len c =
    rw c.from_residual-in_err-len.ensures
    (no_txn _ _ _ _ c.in_ok-count.ensures.cases.0 refl c.loop-t.invariant.0 c.loop-t-test.true c.in_err-len.ensures)

pub loop-t-preserved : goal.loop-t-preserved
loop-t-preserved c =
    let x = c.in_ok-len.ensures in
    let l = c.loop-t.invariant in
    (one_more_txn l.0 x (omega (arith, x.ends, x.few)) (omega arith), omega (arith, x.ends, x.few))

pub returns-then-not-is_empty : goal.returns-then-not-is_empty
returns-then-not-is_empty c =
    left_over _ _ _ _ c.in_ok-count.ensures.cases.0 refl c.loop-t.invariant.0 (omega arith) (grind (arith, nat_tests))

pub returns : goal.returns
returns c =
    all_txns_read _ _ _ _ c.in_ok-count.ensures.cases.0 refl c.loop-t.invariant.0 (omega arith)
    (grind (arith, nat_tests)) (omega arith)
