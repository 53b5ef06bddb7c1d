use Rattle.std.proofs.Common.{sym, ◌∙◌, arith}
use Rattle.order_lib.proofs.WordLaws.{words_length, words_at}
use Rattle.order_lib.proofs.CopyLaws.{copy_more, copy_front}
use Rattle.order_lib.proofs.words.read_words.Goals as goal

pub loop-i-preserved : goal.loop-i-preserved
loop-i-preserved c =
    let l = c.loop-i in
    let many = words_length c.args.bytes.now in
    copy_more _ _ _ _ _ 0 l.invariant
    (c.whole_number.ensures ∙ sym (words_at c.args.bytes.now l.i (omega arith))) (omega arith) (omega arith)

pub returns : goal.returns
returns c =
    copy_front _ _ _ c.loop-i.i _ c.loop-i.invariant (omega arith) (sym (words_length c.args.bytes.now))
