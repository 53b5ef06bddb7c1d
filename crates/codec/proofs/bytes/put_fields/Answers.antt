-- `put_fields`: the four numbers stand one behind another.
use Rattle.codec.proofs.FrontLaws.{over-next}
use Rattle.codec.proofs.bytes.put_fields.Goals as goal

pub returns : goal.returns
returns c =
    let e1 = c.put_number.ensures in
    let e2 = over-next _ _ _ _ _ _ e1 c.put_number-2.ensures in
    over-next _ _ _ _ _ _ (over-next _ _ _ _ _ _ e2 c.put_number-3.ensures) c.put_number-4.ensures
