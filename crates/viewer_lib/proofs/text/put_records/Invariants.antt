-- The lines of the first i records are printed.
use Rattle.std.proofs.Common.{true, ◌*◌, ◌≤◌}
use Rattle.printer.specs.Text.{Prints, line_size}
use Rattle.viewer_lib.specs.Shows.{record_texts}
use Rattle.viewer_lib.proofs.text.put_records.Given as goal

abbrev pub invariant-loop-i : goal.invariant-loop-i
invariant-loop-i l =
    Prints true (record_texts l.i l.answers) l.initial.out l.out l.at × (l.at ≤ line_size * l.i)
