use Rattle.std.proofs.Common.{◌+◌, eqb, ap, ◌∙◌, ap₂, arith}
use Rattle.rules.specs.declared.Record.{Record}
use Rattle.sittings.specs.Watch.{one}
use Rattle.sittings.proofs.WatchLaws.{one_of, count_next, count-all}
use Rattle.sittings.proofs.records.count_of.Goals as goal

pub loop-i-preserved : goal.loop-i-preserved
loop-i-preserved c =
    let l = c.loop-i in
    let k = c.args.kind in (
      λ rs s. ap₂ (λ x y. x + y) (l.invariant.0 rs s)
          (one_of _ c.from-count.ensures ∙ ap (λ (a : Record). one (eqb a.kind k)) c.record_at-a.ensures)
          ∙ count_next (λ (a : Record). eqb a.kind k) l.i s (omega arith),
      grind arith,
    )

pub returns : goal.returns
returns c =
    let l = c.loop-i in
    (λ rs s. l.invariant.0 rs s ∙ count-all _ l.i s (omega arith), omega arith)
