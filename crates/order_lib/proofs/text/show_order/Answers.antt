use Rattle.std.proofs.Common.{length-take, get_or, arith}
use Rattle.order_lib.proofs.ShownLaws.{not_whole, none_shown, refusal_shown, order_shown, positions, front_digits}
use Rattle.order_lib.proofs.text.show_order.Goals as goal

pub returns-then-bytes-ne0 : goal.returns-then-bytes-ne0
returns-then-bytes-ne0 c = not_whole c.if-bytes-ne0.true c.put_text.ensures

pub returns-in-0 : goal.returns-in-0
returns-in-0 c =
    none_shown c.find_order.ensures c.read_words-words.ensures c.if-bytes-ne0.false c.in-0.is c.put_text-in-0.ensures

pub bounds-words-0 : goal.bounds-words-0
bounds-words-0 c = (positions c.find_order.ensures c.in-1.is).some

pub slice_bounds-order-end : goal.slice_bounds-order-end
slice_bounds-order-end c = omega (arith, (positions c.find_order.ensures c.in-1.is).few)

pub slice_bounds-put_line-end : goal.slice_bounds-put_line-end
slice_bounds-put_line-end c =
    let f = positions c.find_order.ensures c.in-1.is in
    omega (arith, f.few, length-take (get_or c.read_words-words.result.now 0 0) c.find_order.new.order)

pub put_line-requires : goal.put_line-requires
put_line-requires c =
    let f = positions c.find_order.ensures c.in-1.is in
    let n = get_or c.read_words-words.result.now 0 0 in
    (omega (arith, f.few, length-take n c.find_order.new.order), c.requires.1, front_digits n _ f.digits)

pub returns-in-1 : goal.returns-in-1
returns-in-1 c =
    order_shown c.find_order.ensures c.read_words-words.ensures c.if-bytes-ne0.false c.in-1.is c.put_line.ensures

pub returns-in_default : goal.returns-in_default
returns-in_default c =
    refusal_shown c.find_order.ensures c.read_words-words.ensures c.if-bytes-ne0.false (omega arith) (omega arith)
    c.put_text-in_default.ensures
