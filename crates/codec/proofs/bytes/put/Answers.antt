-- `put`: bytes copied to a part of a slice are bytes stored one after another.
use Rattle.std.proofs.Common.{length, sym, ◌∙◌, arith, refl}
use Rattle.std.proofs.lemmas.List.Edits.{sets-eq}
use Rattle.std.proofs.lemmas.Slice.{put_mid-paste}
use Rattle.std.proofs.Math.Seq.{take-length}
use Rattle.codec.specs.Area.{over}
use Rattle.codec.proofs.bytes.put.Goals as goal

pub returns : goal.returns
unfolding over
returns c =
    let bs = c.args.bytes.now in
    let old = c.args.out.now in
    put_mid-paste c.args.at _ old _ bs (length bs) c.copy_from_slice.ensures.after (omega arith) refl
    ∙ rw take-length (sym (sets-eq bs old c.args.at c.requires))
