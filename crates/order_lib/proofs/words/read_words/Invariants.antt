-- The first i words are read.
use Rattle.order_lib.specs.Shows.{words_in}
use Rattle.order_lib.proofs.CopyLaws.{Copying}
use Rattle.order_lib.proofs.words.read_words.Given as goal

abbrev pub invariant-loop-i : goal.invariant-loop-i
invariant-loop-i l = Copying (words_in l.bytes) l.initial.words l.words l.i
