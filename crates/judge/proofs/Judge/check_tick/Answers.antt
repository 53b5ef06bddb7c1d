use Rattle.std.proofs.Common.{sym}
use borrow.Author.Tests.{le-leb, lt-leb}
use Rattle.judge.proofs.RefusalParts.{tick_enters, tick_room, by_party, by_room}
use Rattle.judge.proofs.Judge.check_tick.Goals as goal

pub returns-in_err-check_party : goal.returns-in_err-check_party
returns-in_err-check_party c =
    by_party _ _ tick_enters _ _ c.from_residual.ensures.1 c.in_err-check_party.ensures

pub returns-then-clock-ge-LAST_CLOCK : goal.returns-then-clock-ge-LAST_CLOCK
returns-then-clock-ge-LAST_CLOCK c =
    by_room _ _ tick_enters c.in_ok-check_party.ensures
    (rw (← tick_room _, sym c.clock.ensures, le-leb _ _ c.if-clock-ge-LAST_CLOCK.true))

pub returns-else-clock-ge-LAST_CLOCK : goal.returns-else-clock-ge-LAST_CLOCK
returns-else-clock-ge-LAST_CLOCK c =
    by_room _ _ tick_enters c.in_ok-check_party.ensures
    (rw (← tick_room _, sym c.clock.ensures, lt-leb _ _ c.if-clock-ge-LAST_CLOCK.false))
