-- Ends that the clock can reach.
use Rattle.std.specs.Prelude.{ℕ, ◌+◌, ◌≤◌, ◌≡◌}
use Rattle.rules.specs.Numbers.{forever, last_clock}

-- refusal 10 does not apply: "clock + lease or timeout, FOREVER excepted", is not above 4294967294
abbrev pub InTime : ℕ → ℕ → Type 0
InTime clock lease_or_timeout = (lease_or_timeout ≡ forever → ⊥) → clock + lease_or_timeout ≤ last_clock
