-- `put_record`: the 28 bytes stand in front.
use Rattle.std.proofs.Common.{sym, ◌∙◌}
use Rattle.rules.specs.Records.{record_bytes}
use Rattle.codec.proofs.FrontLaws.{put_over}
use Rattle.codec.proofs.records.put_record.Goals as goal

pub returns : goal.returns
unfolding record_bytes
returns c =
    rw c.bare_fields.ensures at c.put_parts.ensures ∙ sym (put_over _ _ c.if-out-lt-RECORD_SIZE.false)
