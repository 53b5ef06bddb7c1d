use Rattle.std.proofs.Common.{◌≡◌, sym, subst, ap, ◌∙◌, arith}
use mathlib.Core.Path.{subst⁻¹}
use native.Mathlib.Numerals.{add-one}
use Rattle.rules.specs.Lists.{All}
use Rattle.rules.specs.Words.{view}
use Rattle.tables.specs.Table.{cell, first}
use Rattle.sound.proofs.AllLaws.{all_none, all_snoc}
use Rattle.hints.specs.Hints.{NotBefore}
use Rattle.hints.proofs.HintLaws.{sooner_still, word-not_before}
use Rattle.hints.proofs.renew.first_end.Goals as goal

pub loop-i-init : goal.loop-i-init
loop-i-init g c = all_none _

pub loop-i-preserved : goal.loop-i-preserved
loop-i-preserved g c =
    let t = g.T.Row.table in
    let ends = g.T.Lasting.ends in
    let ws = c.args.space.now in
    let i = c.loop-i.i in
    let least = c.min-least.result in
    let ahead : All (λ x. NotBefore least (ends x)) (first t i ws) =
    λ x m. sooner_still (ends x) (omega (arith, c.min-least.ensures)) (c.loop-i.invariant x m) in
    let here = word-not_before {n = least} (ends (cell t ws i)) (omega (arith, c.min-least.ensures, c.end_at.ensures)) in
    subst⁻¹ (λ k. All (λ x. NotBefore least (ends x)) (first t k ws)) (add-one i) (all_snoc (first t i ws) ahead here)

pub returns : goal.returns
returns g c =
    let t = g.T.Row.table in
    let ws = c.args.space.now in
    let Ahead = All (λ x. NotBefore c.loop-i.least (g.T.Lasting.ends x)) in
    let last : c.loop-i.i ≡ c.row_count-i-end.result = omega (arith, c.loop-i.auto.i-end, c.loop-i-test.false) in
    let are : first t c.loop-i.i ws ≡ g.T.Row.rows (view ws) =
    ap (λ k. first t k ws) (last ∙ c.row_count-i-end.ensures.0) ∙ sym (g.met.T.Row.rows_in ws) in
    subst Ahead are c.loop-i.invariant
