use Rattle.std.proofs.Common.{refl, sym, ◌∙◌, arith}
use Rattle.trial.proofs.SetupLaws.{fair}
use Rattle.trial.proofs.setup.Setup.read.Goals as goal

pub bounds-words-0 : goal.bounds-words-0
bounds-words-0 c =
    let f = fair _ _ (sym c.is_bad_setup.ensures ∙ c.if-is_bad_setup.false) in
    omega (arith, f.long)

pub invariant_of-result : goal.invariant_of-result
invariant_of-result c =
    let f = fair _ _ (sym c.is_bad_setup.ensures ∙ c.if-is_bad_setup.false) in
    record { few = f.few; starting = f.starting; size = f.size; rounds = omega arith }

pub returns-clause-kept : goal.returns-clause-kept
returns-clause-kept c =
    let f = fair _ _ (sym c.is_bad_setup.ensures ∙ c.if-is_bad_setup.false) in
    (refl, f.counts)
