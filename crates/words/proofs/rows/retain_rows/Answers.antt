use Rattle.std.proofs.Common.{◌≡◌, ◌≤◌, ◌∙◌, sym, ap, arith, refl, true, false}
use Rattle.rules.specs.Lists.{filterb}
use Rattle.rules.specs.Words.{view}
use Rattle.tables.proofs.CompactLaws.{compact_passed, compact_moved, compact_mid, leaving_done}
use Rattle.tables.proofs.PlacedLaws.{placed_end}
use Rattle.words.proofs.rows.retain_rows.Goals as goal

pub loop-i-preserved-then-not-stays : goal.loop-i-preserved-then-not-stays
loop-i-preserved-then-not-stays g c =
    let laws = g.met.T.Row in
    let l = c.loop-i in (
      l.invariant.0,
      omega (arith, l.invariant.1),
      λ q computes.
          let k = l.invariant.2 q computes in
          let few : c.loop-i.i ≤ g.T.Row.table.most = omega (arith, laws.placed.is_most, c.row_count-count.ensures.0) in
          let same = laws.turned l.space c.args.space.now _ (compact_mid k few) in
          let test : q c.row_at-x.result ≡ false = sym (computes _ _ _ _ same c.stays.ensures) ∙ c.if-not-stays.true in
          compact_passed k c.row_at-x.ensures test,
    )

pub loop-i-preserved : goal.loop-i-preserved
loop-i-preserved g c =
    let laws = g.met.T.Row in
    let l = c.loop-i in
    let ws = c.args.space.now in (
      l.invariant.0,
      omega (arith, l.invariant.1),
      λ q computes.
          let k = l.invariant.2 q computes in
          let few : c.loop-i.i ≤ g.T.Row.table.most = omega (arith, laws.placed.is_most, c.row_count-count.ensures.0) in
          let same = laws.turned l.space ws _ (compact_mid k few) in
          let test : q c.row_at-x.result ≡ true = sym (computes _ _ _ _ same c.stays.ensures) ∙ c.if-not-stays.false in
          compact_moved k c.row_at-x.ensures test (omega (arith, c.row_count-count.ensures.0))
          (placed_end laws.placed ws c.told-space) c.move_row.ensures refl,
    )

pub returns : goal.returns
returns g c q computes =
    let r = g.T.Row in
    let laws = g.met.T.Row in
    let ws = c.args.space.now in
    let turned =
    leaving_done (c.loop-i.invariant.2 q computes) c.set_row_count.ensures
    (omega (arith, c.row_count-count.ensures.0)) (placed_end laws.placed ws c.told-space) in
    laws.turned _ ws _ turned ∙ ap (λ l. r.with_rows (filterb q l) (view ws)) (sym (laws.rows_in ws))
