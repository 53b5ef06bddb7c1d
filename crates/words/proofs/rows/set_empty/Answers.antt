use Rattle.std.proofs.Common.{refl}
use Rattle.rules.specs.Words.{entries, txns, waits, registrations, view}
use Rattle.tables.specs.Rows.{empty_words}
use Rattle.words.proofs.rows.set_empty.Goals as goal

pub returns : goal.returns
unfolding view entries txns waits registrations empty_words
returns c = (refl, refl)
