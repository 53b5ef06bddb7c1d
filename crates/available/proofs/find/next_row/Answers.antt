use Rattle.available.proofs.FindLaws.{asked_passed}
use Rattle.available.proofs.find.next_row.Goals as goal

pub returns-in-Some : goal.returns-in-Some
returns-in-Some c =
    let r = c.row_with.ensures in
    let a = c.in-Some.a in (
      r.begun,
      λ mask want q. asked_passed a r mask want (rw c.in-Some.is at q),
    )
