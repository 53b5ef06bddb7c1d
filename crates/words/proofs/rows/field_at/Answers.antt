use Rattle.std.proofs.Common.{sym}
use Rattle.tables.proofs.Tables.{field_word}
use Rattle.words.proofs.rows.field_at.Goals as goal

pub returns : goal.returns
returns c = sym (field_word c.args.space.now c.args.i c.args.column c.requires.1)
