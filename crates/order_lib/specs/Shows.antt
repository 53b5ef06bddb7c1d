-- What is printed of a study export: one line.
use Rattle.std.specs.Prelude.{ℕ, ◌+◌, ◌*◌, ◌%◌, true, cond, ◌≡◌, List, [], ◌∷◌, eqb, length, get_or, take, replicate}
use Rattle.codec.specs.Area.{InFront}
use Rattle.order.specs.Found.{OrderFound}

-- the words of some bytes, little-endian
unfoldable pub words_in : List ℕ → List ℕ
words_in [] = []
words_in (a ∷ []) = []
words_in (a ∷ b ∷ []) = []
words_in (a ∷ b ∷ c ∷ []) = []
words_in (a ∷ b ∷ c ∷ d ∷ rest) = (a + 256 * b + 65536 * c + 16777216 * d) ∷ words_in rest

-- positions, which are digits, with a blank between each two, and a line feed
unfoldable pub line_of : List ℕ → List ℕ
line_of [] = 10 ∷ []
line_of (p ∷ []) = (48 + p) ∷ 10 ∷ []
line_of (p ∷ q ∷ ps) = (48 + p) ∷ 32 ∷ line_of (q ∷ ps)

-- "none", and "refused 22"
abbrev pub none_text : List ℕ
none_text = 110 ∷ 111 ∷ 110 ∷ 101 ∷ 10 ∷ []

abbrev pub refused_text : List ℕ
refused_text = 114 ∷ 101 ∷ 102 ∷ 117 ∷ 115 ∷ 101 ∷ 100 ∷ 32 ∷ 50 ∷ 50 ∷ 10 ∷ []

-- the text of an answer to some words, the first of which counts the transactions
unfoldable pub text_of : List ℕ → ℕ → List ℕ → List ℕ
text_of words r o =
    cond (eqb r 1) (line_of (take (get_or words 0 0) o)) (cond (eqb r 0) none_text refused_text)

-- the text of an export: bytes that are no whole number of words are refused
pub data Told (bytes : List ℕ) : List ℕ → Type 0 where
  answered : (r : ℕ) (o : List ℕ) → length bytes % 4 ≡ 0 → OrderFound (words_in bytes) (replicate 6 0) r o
      → Told bytes (text_of (words_in bytes) r o)
  no_words : (length bytes % 4 ≡ 0 → ⊥) → Told bytes refused_text

-- it stands in front of the buffer, and its length is n
pub record Shows (bytes old new : List ℕ) (n : ℕ) : Type 0 where
  pub text : List ℕ
  pub told : Told bytes text
  pub printed : InFront true text old new n
