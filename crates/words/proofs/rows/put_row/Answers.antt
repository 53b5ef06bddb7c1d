use Rattle.std.proofs.Common.{◌+◌, ◌-◌, ◌*◌, ap, ◌∙◌, rules}
use Rattle.std.proofs.lemmas.List.Edits.{sets}
use Rattle.tables.proofs.PlacedLaws.{placed_at, put_part}
use Rattle.words.proofs.rows.put_row.Goals as goal

pub returns-clause-words : goal.returns-clause-words
returns-clause-words g c =
    let o = c.AT.result + c.WIDTH.result * c.args.i in
    put_part o (o + c.WIDTH-2.result - o) c.args.space.now c.write.new.words (search rules) (search rules)
    ∙ ap (sets c.args.space.now o) c.write.ensures.words
    ∙ ap (λ o. sets c.args.space.now o (g.T.Row.words_of c.args.x))
    (placed_at g.met.T.Row.placed c.args.i c.AT.ensures c.WIDTH.ensures)
