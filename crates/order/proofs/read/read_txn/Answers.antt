use Rattle.std.proofs.Common.{refl, ap, ◌∙◌, length, length-append, length-set, arith}
use Rattle.std.specs.Iterator.Adapters.{enumerate_source}
use Rattle.std.specs.Slice.Iter.{chunks_exact_rest}
use Rattle.order.proofs.ReadLaws.{its_kind, none_kind, no_count, too_large, too_short, no_kind}
use Rattle.order.proofs.ReadLaws.{room, one_more, txn_read}
use Rattle.order.proofs.read.read_txn.Goals as goal

pub returns-in_err-count : goal.returns-in_err-count
returns-in_err-count c = rw c.from_residual.ensures (no_count _ c.in_err-count.ensures.cases)

pub returns-then-k-gt-MAX_ACTIONS : goal.returns-then-k-gt-MAX_ACTIONS
returns-then-k-gt-MAX_ACTIONS c =
    too_large _ _ _ _ c.in_ok-count.ensures.cases.0 refl c.if-k-gt-MAX_ACTIONS.true

pub returns-in_err-pairs : goal.returns-in_err-pairs
returns-in_err-pairs c =
    rw c.from_residual-in_err-pairs.ensures
    (too_short _ _ _ _ c.in_ok-count.ensures.cases.0 refl c.in_err-pairs.ensures.cases)

pub returns-in_err-kind : goal.returns-in_err-kind
returns-in_err-kind c =
    let next = c.in-Some.ensures.steps.0.1 in
    rw c.from_residual-in_err-kind.ensures
    (no_kind _ _ _ _ c.in_ok-count.ensures.cases.0 refl c.in_ok-pairs.ensures.cases
    (ap (λ it. chunks_exact_rest (enumerate_source it)) c.into_iter-i-iterator.ensures.into_iter_gives
    ∙ ap chunks_exact_rest c.enumerate-i-items.ensures.source ∙ c.chunks_exact.ensures.rest)
    _ _ c.loop-i.invariant.0 next.0 (next.1 ∙ c.loop-i.invariant.1)
    (none_kind _ c.try_from.ensures c.ok.ensures.value c.in_err-kind.was))

pub loop-i-preserved : goal.loop-i-preserved
loop-i-preserved c =
    let step = c.in-Some.ensures.steps in
    let next = step.0.1 in
    let two = next.1 ∙ c.loop-i.invariant.1 in
    let more = length-append c.in-Some.pair.now (chunks_exact_rest (enumerate_source c.next.new.self)) in
    let below = room _ _ _ _ c.in_ok-count.ensures.cases.0 refl c.in_ok-pairs.ensures.cases
    (ap (λ it. chunks_exact_rest (enumerate_source it)) c.into_iter-i-iterator.ensures.into_iter_gives
    ∙ ap chunks_exact_rest c.enumerate-i-items.ensures.source ∙ c.chunks_exact.ensures.rest)
    c.loop-i.invariant.0 c.if-k-gt-MAX_ACTIONS.false (omega (arith, ap length next.0, more, two)) c.requires in (
      one_more _ _ c.loop-i.invariant.0 next.0 two _
          (its_kind _ c.try_from.ensures c.ok.ensures.value c.in_ok-kind.was)
          (omega (arith, below, c.loop-i.invariant.2)) _ _ (omega (arith, step.1)) (omega (arith, step.2)),
      step.0.0 ∙ c.loop-i.invariant.1,
      length-set c.loop-i.actions _ _ ∙ c.loop-i.invariant.2,
    )

pub returns : goal.returns
returns c =
    txn_read _ _ _ _ c.in_ok-count.ensures.cases.0 refl c.in_ok-pairs.ensures.cases
    (ap (λ it. chunks_exact_rest (enumerate_source it)) c.into_iter-i-iterator.ensures.into_iter_gives
    ∙ ap chunks_exact_rest c.enumerate-i-items.ensures.source ∙ c.chunks_exact.ensures.rest)
    c.loop-i.invariant.0 (omega (arith, c.in-None.ensures.steps.0.1.0, c.loop-i.invariant.1))
    c.if-k-gt-MAX_ACTIONS.false
