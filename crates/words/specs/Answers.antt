-- Answers of the code, as the rules say them.
use Rattle.std.specs.Prelude.{Option, Some, None}
use Rattle.std.proofs.Math.Option.{Option as Found, none, some}

abbrev pub as_found : {A : Type 0} → Option A → Found A
as_found (Some x) = some x
as_found None = none
