use Rattle.std.proofs.Common.{◌∙◌, sym, arith, set, subst}
use mathlib.Core.Path.{ap₂}
use Rattle.rules.specs.Words.{view}
use Rattle.tables.specs.Table.{all, Turned}
use Rattle.tables.proofs.PlacedLaws.{placed_end}
use Rattle.tables.proofs.Table.{put}
use Rattle.words.proofs.rows.set_row.Goals as goal

pub returns : goal.returns
returns g c =
    let r = g.T.Row in
    let laws = g.met.T.Row in
    let ws = c.args.space.now in
    let e = c.put_row.ensures in
    let p = laws.placed in
    let turned =
    subst (λ v. Turned r.table v ws (set (all r.table ws) c.args.i (r.table.read (r.words_of c.args.x)))) (sym e.words)
    (put r.table ws c.args.i (r.words_of c.args.x) (e.width ∙ sym p.is_width) (omega (arith, c.requires))
    (placed_end p ws c.told-space)) in (
      laws.turned _ ws _ turned
          ∙ ap₂ (λ l y. r.with_rows (set l c.args.i y) (view ws)) (sym (laws.rows_in ws)) (e.back c.requires.1),
      c.put_row.array_long,
    )
