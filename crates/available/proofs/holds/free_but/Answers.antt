use Rattle.std.proofs.Common.{◌≡◌, eqb, ◌∙◌, ap, arith}
use lib.Count.{ones, count_trailing_zeros}
use borrow.Author.Tests.{eq-eqb, ne_eqb}
use Rattle.available.proofs.BitLaws.{free_but, free_but_lem}
use Rattle.available.proofs.holds.free_but.Goals as goal

pub returns-then-n-eq0 : goal.returns-then-n-eq0
returns-then-n-eq0 c =
    let a = c.args in
    let t : eqb (ones a.x) 0 ≡ free_but a.p a.x = rw (eq-eqb _ _ c.if-n-eq0.true) in
    t ∙ free_but_lem a.p a.x (omega arith) (omega arith)

pub returns-then-n-eq1 : goal.returns-then-n-eq1
returns-then-n-eq1 c =
    let a = c.args in
    let t : eqb (count_trailing_zeros 8 a.x) a.p ≡ free_but a.p a.x =
    rw (ne_eqb _ _ c.if-n-eq0.false, eq-eqb _ _ c.if-n-eq1.true) in
    ap (eqb (count_trailing_zeros 8 a.x)) c.from.ensures ∙ t ∙ free_but_lem a.p a.x (omega arith) (omega arith)

pub returns-else-n-eq1 : goal.returns-else-n-eq1
returns-else-n-eq1 c =
    let a = c.args in
    let t : eqb (ones a.x) 1 ≡ free_but a.p a.x =
    rw (ne_eqb _ _ c.if-n-eq0.false, ne_eqb _ _ c.if-n-eq1.false) in
    t ∙ free_but_lem a.p a.x (omega arith) (omega arith)
