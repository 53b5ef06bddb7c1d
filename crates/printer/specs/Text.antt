-- Text written into a lent buffer.
use Rattle.std.specs.Prelude.{ℕ, ◌+◌, ◌≤◌, Bool, ◌≡◌, List, leb, length}
use Rattle.rules.specs.Numbers.{record_size}
use Rattle.rules.specs.Records.{record_at}
use Rattle.rules.specs.Print.{record_line}
use Rattle.codec.specs.Area.{over, InFront}

-- a text stands in the buffer from `at` on, and ends at `next`, within it
pub record Puts (text old new : List ℕ) (at next : ℕ) : Type 0 where
  pub bytes : new ≡ over old at text
  pub end : next ≡ at + length text
  pub room : next ≤ length old

-- where there is room, the text stands in front of the buffer and its length is returned; else nothing is written and
-- 0 is returned
abbrev pub Prints : Bool → List ℕ → List ℕ → List ℕ → ℕ → Type 0
Prints room text old new n = InFront room text old new n

-- a line has at most nine numbers of at most ten digits, with a space or a line feed behind each
abbrev pub line_size : ℕ
line_size = 100

abbrev pub has_line : List ℕ → Bool
has_line out = leb line_size (length out)

abbrev pub has_record : List ℕ → Bool
has_record bs = leb record_size (length bs)

-- the line of the record that the first 28 bytes tell
unfoldable pub record_text : List ℕ → List ℕ
record_text bs = record_line (record_at bs 0)
