use Rattle.order.proofs.FoundLaws.{not_planned, no_room, none_there, first_found}
use Rattle.order.proofs.find_order.Goals as goal

pub returns-in_default : goal.returns-in_default
returns-in_default c = not_planned c.in_default.ensures

pub returns-then-order-n : goal.returns-then-order-n
returns-then-order-n c = no_room c.in-Some.ensures c.if-order-n.true

pub returns-in_default-search : goal.returns-in_default-search
returns-in_default-search c = none_there c.in-Some.ensures c.if-order-n.false c.in_default-search.ensures

pub returns : goal.returns
returns c =
    rw c.copy_from_slice.ensures.after (first_found c.in-Some.ensures c.if-order-n.false c.in-Some-search.ensures)
