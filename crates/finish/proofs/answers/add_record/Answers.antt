use Prim.Native.Nat.{◌*◌}
use mathlib.Core.Path.{refl, ap, ◌∙◌}
use mathlib.Core.List.{◌++◌}
use native.Mathlib.Omega.{arith}
use lib.ListN.{take, drop, length-drop}
use Rattle.rules.specs.Numbers.{record_size}
use Rattle.rules.proofs.PartLaws.{part_from, part_put}
use Rattle.codec.specs.Area.{record_put}
use Rattle.codec.proofs.FrontLaws.{put_fits}
use Rattle.finish.proofs.AddsLaws.{area-one}
use Rattle.finish.proofs.answers.add_record.Goals as goal

pub returns : goal.returns
returns c =
    let r = c.args.r in
    let a = c.args.answers.now in
    let at = record_size * c.args.count in
    record {
      counts = refl;
      bytes =
          part_put a _ at
          ∙ ap (λ x. take at a ++ x)
          (c.put_record.ensures
          ∙ ap (record_put r) (part_from a at)
          ∙ put_fits r (drop at a) (rw length-drop (omega (arith, c.requires)))
          ∙ area-one r (drop at a));
    }
