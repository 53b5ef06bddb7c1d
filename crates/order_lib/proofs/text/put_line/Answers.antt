use Rattle.std.proofs.Common.{◌≡◌, sym, ◌∙◌, length, arith}
use Rattle.std.proofs.lemmas.Bool.Decides.{nat_tests}
use Rattle.order_lib.proofs.CopyLaws.{copy_whole}
use Rattle.order_lib.proofs.LineLaws.{put_empty, line_length, position_put, line_blank, line_end}
use Rattle.order_lib.proofs.text.put_line.Goals as goal
use Rattle.order_lib.proofs.text.put_line.Goals.{then-i-positions, else-i-positions}

pub returns-then-is_empty : goal.returns-then-is_empty
returns-then-is_empty c = put_empty _ (grind (arith, nat_tests)) c.put_text.ensures

pub loop-i-preserved : goal.loop-i-preserved
loop-i-preserved c =
    position_put _ _ _ _ _ c.loop-i.invariant c.loop-i-test.true (omega (arith, c.requires))
    (elim c.if-i-positions.branch [
      | then-i-positions w ↦ w.out-is ∙ sym (line_blank _ _ w.if-i-positions.true)
      | else-i-positions w ↦ w.out-is ∙ sym (line_end _ _ (omega arith))
    ])

pub returns : goal.returns
returns c =
    let some : length c.args.positions.now ≡ 0 → ⊥ = grind (arith, nat_tests) in
    let long = line_length c.args.positions.now (omega arith) in
    record { bytes = copy_whole _ _ _ _ c.loop-i.invariant (omega arith); count = sym long }
