-- The clock, leases and deadlines: "ends when the clock reaches t + d, or never for FOREVER".
use Rattle.std.specs.Prelude.{ℕ, ◌+◌, ◌≤◌, Bool, false, cond, eqb, leb}
use Rattle.rules.specs.declared.until.Until.{Until}
use Rattle.rules.specs.declared.until.Until.TheVariants.{Tick, Forever}
use Rattle.rules.specs.Numbers.{forever, last_clock}

-- where a lease or timeout that starts at the clock ends
unfoldable pub until : ℕ → ℕ → Until
until clock lease_or_timeout = cond (eqb lease_or_timeout forever) Forever (Tick (clock + lease_or_timeout))

-- whether the clock has reached an end
unfoldable pub reached : ℕ → Until → Bool
reached clock (Tick t) = leb t clock
reached clock Forever = false

-- an end that is not FOREVER is at most the last clock
abbrev pub EndFits : Until → Type 0
EndFits (Tick n) = n ≤ last_clock
EndFits Forever = Unit {0}
