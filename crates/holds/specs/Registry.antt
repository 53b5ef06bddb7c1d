-- What registrations hear of, as the code counts it.
use Rattle.std.specs.Prelude.{ℕ, ◌+◌, ◌<◌, Bool, not, cond, ◌&&◌, List, [], ◌∷◌, leb, length}
use Rattle.rules.specs.declared.Entry.{Entry}
use Rattle.rules.specs.declared.Mark.{Mark}
use Rattle.rules.specs.declared.Registration.{Registration}
use Rattle.rules.specs.Lists.{filterb}
use Rattle.rules.specs.Numbers.{forever, max_registrations}
use Rattle.rules.specs.State.{Model}
use Rattle.rules.specs.Template.{matches}
use Rattle.rules.specs.Transactions.{is_private_to, is_taken_by}
use Rattle.rules.specs.Notify.{matching, with_total}
use Rattle.words.specs.Ends.{InTime}

-- none of 10, 17 and 13 applies to a notify
pub record Notifiable (m : Model) (lease : ℕ) : Type 0 where
  pub in_time : InTime m.clock lease
  pub room : length m.registrations < max_registrations
  pub number : m.next_registration < forever

-- what the commit of the transaction t makes public, and how much of it a registration matches
abbrev pub is_own : ℕ → Entry → Bool
is_own t e = is_private_to t e && not (is_taken_by t e)

unfoldable pub own_matching : ℕ → List Entry → Registration → ℕ
own_matching t es g = matching (filterb (is_own t) es) g

-- and of the one entry with these fields that a write outside transactions makes public
abbrev pub match_count : Mark → Registration → ℕ
match_count have g = cond (matches g.mask g.fields have) 1 0

-- a total with so many more, up to a limit
abbrev pub sum_of : ℕ → ℕ → ℕ → ℕ
sum_of limit total count = cond (leb (total + count) limit) (total + count) limit

abbrev pub heard_once : ℕ → ℕ → Registration → Registration
heard_once limit count g = with_total (sum_of limit g.total count) g

-- each registration with its count
unfoldable pub heard_by : ℕ → List ℕ → List Registration → List Registration
heard_by limit [] gs = gs
heard_by limit (c ∷ cs) [] = []
heard_by limit (c ∷ cs) (g ∷ gs) = heard_once limit c g ∷ heard_by limit cs gs
