use Rattle.std.proofs.Common.{◌≡◌, ◌%◌, ◌<◌, ◌∙◌, sym, ap, arith, length}
use native.Mathlib.Nat.{mod-eq_of_lt, mod-lt}
use mathlib.Core.List.{[], ◌∷◌, ◌++◌}
use Rattle.rules.specs.Words.{view}
use Rattle.tables.proofs.PlacedLaws.{placed_end}
use Rattle.tables.proofs.Table.{appended, length-all}
use Rattle.words.proofs.rows.add_row.Goals as goal

pub nonzero_rem-n : goal.nonzero_rem-n
nonzero_rem-n g c = let p = g.met.T.Row.placed in omega (arith, p.some, c.MOST.ensures)

pub put_row-requires : goal.put_row-requires
put_row-requires g c =
    let p = g.met.T.Row.placed in
    omega (arith, c.MOST.ensures, mod-lt c.row_count.result {m = c.MOST.result} (omega (arith, p.some, c.MOST.ensures)))

pub set_row_count-requires : goal.set_row_count-requires
set_row_count-requires g c =
    let p = g.met.T.Row.placed in
    omega (arith, c.MOST.ensures, mod-lt c.row_count.result {m = c.MOST.result} (omega (arith, p.some, c.MOST.ensures)))

pub returns : goal.returns
returns g c free =
    let r = g.T.Row in
    let laws = g.met.T.Row in
    let p = laws.placed in
    let ws = c.args.space.now in
    let n = c.row_count in
    let e = c.put_row.ensures in
    let few : n.result < c.MOST.result =
    omega (arith, n.ensures.0, free, c.MOST.ensures, length-all r.table ws, ap length (laws.rows_in ws)) in
    let row : n.result % c.MOST.result ≡ n.result = mod-eq_of_lt few in
    let turned =
    appended r.table ws n.result (r.words_of c.args.x) (e.width ∙ sym p.is_width)
    (omega (arith, few, c.MOST.ensures, p.is_most)) (placed_end p ws c.told-space) n.ensures.0 (e.back c.requires)
    (e.words ∙ rw row) (c.set_row_count.ensures ∙ rw row) in
    laws.turned _ ws _ turned
    ∙ ap (λ l. r.with_rows (l ++ (c.args.x ∷ [])) (view ws)) (sym (laws.rows_in ws))
