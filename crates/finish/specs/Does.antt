-- What a function over the words and the answers area does, as the rules say it.
use Rattle.std.specs.Prelude.{ℕ, ◌+◌, ◌*◌, ◌≡◌, List, ◌++◌, length, take, drop}
use Rattle.rules.specs.declared.Record.{Record}
use Rattle.rules.specs.Numbers.{record_size}
use Rattle.rules.specs.Records.{area_after}
use Rattle.rules.specs.Done.{Done}
use Rattle.rules.specs.Words.{view}

-- the answers area, in which `count` records stand, becomes area' with count' records: the records rs behind those
pub record Adds (rs : List Record) (area area' : List ℕ) (count count' : ℕ) : Type 0 where
  pub counts : count' ≡ count + length rs
  pub bytes : area' ≡ take (record_size * count) area ++ area_after rs (drop (record_size * count) area)

-- a part with any number of records, as the rules' `d` says it: the words become ws', and its records stand in the
-- area behind those before
pub record Does (d : Done) (ws' area area' : List ℕ) (count count' : ℕ) : Type 0 where
  pub model : view ws' ≡ d.model
  pub adds : Adds d.records area area' count count'
