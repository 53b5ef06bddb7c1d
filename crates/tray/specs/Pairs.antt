-- A tray's pairs, as the code reads them.
use Rattle.std.specs.Prelude.{ℕ, ◌+◌, ◌*◌, Bool, ◌||◌, ◌≡◌, List, ltb}
use Rattle.rules.specs.Frame.{number_at}
use Rattle.rules.specs.Tray.{Pair}
use Rattle.tray.specs.declared.pairs.Pair.{Pair as Place}

-- the pair whose eight bytes are the i-th behind the count: the i-th of `pairs`, where there are so many (PairLaws)
abbrev pub pair_at : List ℕ → ℕ → Pair
pair_at tray i = record { offset = number_at tray (4 + 8 * i); size = number_at tray (4 + 8 * i + 4) }

-- its frame stands from offset to end
pub record Stands (tray : List ℕ) (i : ℕ) (p : Place) : Type 0 where
  pub begins : p.offset ≡ (pair_at tray i).offset
  pub ends : p.end ≡ (pair_at tray i).offset + (pair_at tray i).size

-- where a pair's frame stands
abbrev pub place_of : Pair → Place
place_of p = record { offset = p.offset; end = p.offset + p.size }

-- 16, of one pair: "begins before the pairs' end or before the previous pair's end, or runs past the tray"
abbrev pub misplaced : ℕ → ℕ → Place → Bool
misplaced free size p = ltb p.offset free || ltb size p.end
