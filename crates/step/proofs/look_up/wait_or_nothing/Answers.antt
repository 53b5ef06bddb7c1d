use mathlib.Core.Path.{refl, sym, ◌∙◌}
use Rattle.rules.specs.Records.{nothing, waiting}
use Rattle.step.proofs.LookUpAnswers.{gets_nothing, waits_on}
use Rattle.step.proofs.look_up.wait_or_nothing.Goals as goal

pub returns-then-gives_nothing : goal.returns-then-gives_nothing
unfolding nothing
returns-then-gives_nothing c _ =
    let a = c.args in
    gets_nothing _ _ a.w a.timeout (sym c.gives_nothing.ensures ∙ c.if-gives_nothing.true) refl
    c.plain_record.ensures

pub returns : goal.returns
unfolding waiting
returns c free =
    let a = c.args in
    waits_on _ _ a.w a.timeout (sym c.gives_nothing.ensures ∙ c.if-gives_nothing.false)
    (c.add_wait.ensures free) c.plain_record-2.ensures
