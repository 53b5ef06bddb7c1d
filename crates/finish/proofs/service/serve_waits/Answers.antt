-- `finish::service::serve_waits`: each look-up in turn finds an entry, or waits on. In the search for its entry the
-- turns so far stand still (`turns-still`).
use Rattle.std.proofs.Common.{refl, arith}
use Rattle.tables.proofs.SearchLaws.{from_start}
use Rattle.finish.proofs.TurnLaws.{turns-none, turns-still, turn_length, turn_room, turn_found, turn_waits, turns-done}
use Rattle.finish.proofs.TurnLaws.{looking_on, looking_more, looking_found, looking_none}
use Rattle.finish.proofs.service.serve_waits.Goals as goal

pub waiting-init : goal.waiting-init
waiting-init c = turns-none _ _ _ _ c.row_count-waits.ensures.1

pub loop-j-init : goal.loop-j-init
loop-j-init c =
    looking_on c.asked_at-asked.ensures c.row_count-entries.ensures.0 (omega arith) from_start
    c.next_row-j.ensures

pub hand_out-requires : goal.hand_out-requires
hand_out-requires c = (omega (arith, c.loop-j.invariant.all), c.row_at-e.ensures)

pub add_record-done-requires : goal.add_record-done-requires
add_record-done-requires c =
    turn_room (turns-still c.loop-j.invariant c.waiting.invariant) c.requires.0
    (omega (arith, c.row_count-waits.ensures.0))

pub waiting-preserved-then-is_available : goal.waiting-preserved-then-is_available
waiting-preserved-then-is_available c =
    let e =
    looking_found c.loop-j.invariant c.row_at-w.ensures c.row_at-e.ensures
    c.is_available.ensures c.if-is_available.true c.loop-j-test.true in
    turn_found (turns-still c.loop-j.invariant c.waiting.invariant)
    (omega (arith, c.row_count-waits.ensures.0)) c.row_at-w.ensures e c.hand_out.ensures c.found_record.ensures
    (omega (arith, c.requires.0)) c.add_record-done.ensures

pub loop-j-smaller : goal.loop-j-smaller
loop-j-smaller c = omega (arith, c.next_row-j-in-loop-j.ensures.0)

pub loop-j-preserved : goal.loop-j-preserved
loop-j-preserved c =
    looking_more c.loop-j.invariant c.row_at-w.ensures c.row_at-e.ensures c.is_available.ensures
    c.if-is_available.false c.next_row-j-in-loop-j.ensures

pub waiting-preserved : goal.waiting-preserved
waiting-preserved c =
    let none = looking_none c.loop-j.invariant (omega (arith, c.loop-j-test.false)) in
    turn_waits (turns-still c.loop-j.invariant c.waiting.invariant)
    (omega (arith, c.row_count-waits.ensures.0)) refl none c.move_row.ensures

pub shape_of-answers : goal.shape_of-answers
shape_of-answers c = turn_length c.waiting.invariant c.requires.0 (omega arith)

pub returns : goal.returns
returns c = turns-done c.waiting.invariant (omega (arith, c.row_count-waits.ensures.0)) c.set_row_count.ensures
