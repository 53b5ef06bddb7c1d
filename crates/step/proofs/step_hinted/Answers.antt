use Rattle.std.proofs.Common.{◌≡◌, ◌+◌, ◌*◌, [], ◌∷◌, refl, subst}
use Rattle.rules.specs.Records.{refused}
use Rattle.rules.specs.Requests.{number}
use Rattle.rules.proofs.RefusalLaws.{number_not_zero}
use Rattle.finish.specs.Does.{Adds}
use Rattle.step.proofs.SteppedLaws.{stepped_short, stepped-refused}
use Rattle.step.proofs.step_hinted.Goals as goal

pub returns-then-answers-lt-STEP_AREA : goal.returns-then-answers-lt-STEP_AREA
returns-then-answers-lt-STEP_AREA c = (
  stepped_short c.if-answers-lt-STEP_AREA.true refl refl (rw (c.from.ensures, c.number.ensures)),
  λ _. c.requires,
)

pub returns-in-Err : goal.returns-in-Err
returns-in-Err c =
    let t = c.in-Err.ensures in
    let r = c.in-Err.refusal in
    let added =
    subst (λ a. (c.refuse.result ≡ 1 + 65536 * number r)
    × Adds (refused c.args.frame.now (number r) ∷ []) a c.refuse.new.answers 0 1) t.1.1 c.refuse.ensures in
    (stepped-refused c.if-answers-lt-STEP_AREA.false t.0 (number_not_zero r) t.1.0 added, λ _. t.1.2)
