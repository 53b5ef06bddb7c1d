-- The number that tells a host which header belongs to the archive: SPACE_VERSION of host/space.h.
use Rattle.std.specs.Prelude.{ℕ}

abbrev pub version : ℕ
version = 12
