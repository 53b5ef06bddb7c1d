-- `Parts::put`: the first bytes of all 28, as many as the operation's frames have.
use Rattle.std.proofs.Common.{take, sym, ap, ◌∙◌, arith}
use Rattle.std.proofs.lemmas.List.{length-take-le}
use Rattle.codec.specs.Area.{over}
use Rattle.codec.proofs.LengthLaws.{at_most_28}
use Rattle.codec.proofs.FrontLaws.{over-front}
use Rattle.codec.proofs.EncodeLaws.{frame-none, frame-all}
use Rattle.codec.proofs.encode.Parts.put.Goals as goal

pub returns-then-out-n : goal.returns-then-out-n
returns-then-out-n c = frame-none _ _ _ c.length_of-n.ensures c.if-out-n.true

pub returns : goal.returns
returns c =
    let n = c.length_of-n.result in
    let all = c.put_parts.ensures ∙ over-front _ _ (omega arith) in
    frame-all _ _ _ c.length_of-n.ensures _ c.if-out-n.false
    (c.put.ensures ∙ ap (λ l. over c.args.out.now 0 (take n l)) all)

pub slice_bounds-put-end : goal.slice_bounds-put-end
slice_bounds-put-end c =
    sym (length-take-le _ _ (omega (arith, at_most_28 c.args.self.op, c.length_of-n.ensures, c.put_parts.auto.out)))
