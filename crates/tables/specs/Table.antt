-- A table of rows of words: how it lies, what it holds, and that a write changes it alone.
use Rattle.std.specs.Prelude.{ℕ, ◌+◌, ◌*◌, ◌≤◌, ◌<◌, ◌≡◌, min, List, get_or, length, drop}
use Rattle.rules.specs.Numbers.{max_entries}
use Rattle.rules.specs.Words.{row, table, space_words}

-- where its rows begin, the words of a row, how many rows it has at most, where its count stands, how a row is read
pub record Table (A : Type 0) : Type 0 where
  pub base : ℕ
  pub width : ℕ
  pub most : ℕ
  pub count_at : ℕ
  pub read : List ℕ → A
  pub ahead : count_at < base

abbrev pub table_of : {A : Type 0} (b w m c : ℕ) → (List ℕ → A) → c < b → Table A
table_of b w m c f h = record { base = b; width = w; most = m; count_at = c; read = f; ahead = h }

module _ {A : Type 0} (t : Table A) where
  -- where row k stands
  abbrev pub at : ℕ → ℕ
  at k = t.base + t.width * k

  -- row k, read
  abbrev pub cell : List ℕ → ℕ → A
  cell ws k = t.read (row t.base t.width ws k)

  -- the first n rows
  abbrev pub first : ℕ → List ℕ → List A
  first n ws = table t.read t.base t.width n ws

  -- how many there are, and all of them
  abbrev pub count : List ℕ → ℕ
  count ws = min (get_or ws t.count_at 0) t.most

  abbrev pub all : List ℕ → List A
  all ws = first (count ws) ws

  -- the first n rows, from row i on
  abbrev pub left : List ℕ → ℕ → ℕ → List A
  left ws i n = drop i (first n ws)

  abbrev pub end : ℕ
  end = at t.most

-- it lies so, within the words of a space, and has no more rows than there may be entries
pub record Placed {A : Type 0} (t : Table A) (b w m c : ℕ) : Type 0 where
  pub is_base : t.base ≡ b
  pub is_width : t.width ≡ w
  pub is_most : t.most ≡ m
  pub is_count_at : t.count_at ≡ c
  pub within : end t ≤ space_words
  pub some : 0 < m
  pub few : t.most ≤ max_entries

-- the words are the same but for the one at c and those from lo up to hi
pub record But (c lo hi : ℕ) (ws ws₀ : List ℕ) : Type 0 where
  pub long : length ws ≡ length ws₀
  pub same : (j : ℕ) → (j ≡ c → ⊥) → (lo ≤ j → hi ≤ j) → get_or ws j 0 ≡ get_or ws₀ j 0

-- a write within: the table is xs now
pub record Turned {A : Type 0} (t : Table A) (ws ws₀ : List ℕ) (xs : List A) : Type 0 where
  pub but : But t.count_at t.base (end t) ws ws₀
  pub now : all t ws ≡ xs
