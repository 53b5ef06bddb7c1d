-- What a program makes of its input.
use Rattle.std.specs.Prelude.{◌≡◌, ℕ, ◌≤◌, List, length, take, ◌⊎◌}
use Rattle.std.specs.Fn.{Once}
use Rattle.std.specs.Borrow.{Bor, MutBor}
use Rattle.input.specs.Counts.{IsPrefixLen}

-- A call at bytes that fit a buffer and at a text buffer may be made, and tells how many bytes of text it put in front.
abbrev pub Writes : {A : Type 0}
    → Once A (Bor (List ℕ) × (MutBor (List ℕ) × Unit {0})) (ℕ × (MutBor (List ℕ) × Unit {0})) → A → ℕ → ℕ → Type 0
Writes g f max room =
    (bytes : Bor (List ℕ)) (text : MutBor (List ℕ)) → length bytes.now ≤ max → length text.now ≡ room
    → g.pre f (bytes, (text, tt))
    × ((n : ℕ) (after : MutBor (List ℕ)) → g.post f (bytes, (text, tt)) (n, (after, tt)) → n ≤ length after.now)

-- A call at some first bytes of a buffer has made the text `text'` of the buffer `text`. (How many were read is what no
-- contract of a reader says.)
pub record AnswersFront {A : Type 0}
    (g : Once A (Bor (List ℕ) × (MutBor (List ℕ) × Unit {0})) (ℕ × (MutBor (List ℕ) × Unit {0}))) (f : A)
    (bytes text text' : List ℕ) : Type 0 where
  pub len : ℕ
  pub within : IsPrefixLen len bytes
  pub front : Bor (List ℕ)
  pub is_front : front.now ≡ take len bytes
  pub lent : MutBor (List ℕ)
  pub is_lent : lent.now ≡ text
  pub end : ℕ
  pub after : MutBor (List ℕ)
  pub made : g.post f (front, (lent, tt)) (end, (after, tt))
  pub is_after : after.now ≡ text'

-- The text is as it was, or what such a call has made of it.
abbrev pub KeptOrAnswered : {A : Type 0}
    → Once A (Bor (List ℕ) × (MutBor (List ℕ) × Unit {0})) (ℕ × (MutBor (List ℕ) × Unit {0})) → A
    → List ℕ → List ℕ → List ℕ → Type 0
KeptOrAnswered g f bytes text text' = (text' ≡ text) ⊎ AnswersFront g f bytes text text'
