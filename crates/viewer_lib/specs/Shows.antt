-- The text of a tray's answers.
use Rattle.std.specs.Prelude.{ℕ, zero, suc, true, List, [], ◌++◌, length, drop}
use Rattle.rules.specs.Tray.{run_tray}
use Rattle.rules.specs.Print.{printed}
use Rattle.rules.specs.Numbers.{record_size}
use Rattle.printer.specs.Text.{Prints, record_text}

-- the lines of the first n records of an answers area
unfoldable pub record_texts : ℕ → List ℕ → List ℕ
record_texts zero bs = []
record_texts (suc n) bs = record_text bs ++ record_texts n (drop record_size bs)

-- What the rules answer to a tray stands in front of the buffer, as it is printed, and its length is n.
abbrev pub Shows : List ℕ → List ℕ → List ℕ → List ℕ → ℕ → Type 0
Shows tray area old new n = Prints true (printed (run_tray tray (length area))) old new n
