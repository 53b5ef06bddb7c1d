-- One answer meets the search's contract, and no other: whatever is handed in, the number and the bytes are fixed.
use Rattle.std.specs.Prelude.{ℕ, ◌≡◌, List}
use Rattle.order.specs.Found.{OrderFound}

unfoldable pub OnlyOne : Type 0
OnlyOne = (words order : List ℕ) (r r' : ℕ) (o o' : List ℕ) → OrderFound words order r o → OrderFound words order r' o'
    → (r ≡ r') × (o ≡ o')
