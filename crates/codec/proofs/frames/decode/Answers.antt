-- `decode`: what is no operation is refused with 2.
use Rattle.std.proofs.Common.{arith}
use Rattle.codec.proofs.RequestLaws.{no_operation_lem, below, above}
use Rattle.codec.proofs.frames.decode.Goals as goal

pub returns-in_default : goal.returns-in_default
returns-in_default c = no_operation_lem _ (below _ (omega arith))

pub returns-in_default-2 : goal.returns-in_default-2
returns-in_default-2 c = no_operation_lem _ (above _ (omega arith))
