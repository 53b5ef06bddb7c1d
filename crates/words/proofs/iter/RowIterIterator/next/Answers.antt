use Rattle.std.proofs.Common.{◌+◌, arith, rules}
use Rattle.tables.proofs.PlacedLaws.{none_left, more_left, length-left}
use Rattle.words.proofs.iter.RowIterIterator.next.Goals as goal

pub returns-then-self-clause-steps : goal.returns-then-self-clause-steps
returns-then-self-clause-steps g c =
    let s = c.args.self.now in
    let e = none_left g.T.Row.table s.space.now s.at s.end (omega arith) in (e, e)

pub returns-clause-steps : goal.returns-clause-steps
returns-clause-steps g c =
    let s = c.args.self.now in
    more_left g.T.Row.table s.space.now s.at s.end (omega arith) c.row_at-x.ensures

pub returns-clause-goes : goal.returns-clause-goes
returns-clause-goes g c =
    let s = c.args.self.now in
    let t = g.T.Row.table in
    let before = length-left t s.space.now s.at s.end in
    let after = length-left t s.space.now (s.at + 1) s.end in
    search (rules, arith, before, after)
