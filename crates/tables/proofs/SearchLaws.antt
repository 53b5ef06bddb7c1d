-- Laws of the first element that passes a test, and the search for it row by row.
use Prim.Native.Nat.{ℕ, zero, suc, ◌+◌, ◌-◌, ◌≤◌, ◌<◌}
use mathlib.Core.Bool.{Bool, true, false, cond}
use mathlib.Core.Option.{Option, none, some}
use mathlib.Core.Path.{◌≡◌, refl, sym, ap, ◌∙◌}
use mathlib.Core.List.{List, [], ◌∷◌, ◌++◌}
use native.Mathlib.Omega.{arith}
use native.Mathlib.Decide.{dec_lt}
use lib.ListN.{drop, drop_of_length-le}
use Rattle.rules.specs.Lists.{filterb, findb, anyb}
use Rattle.rules.proofs.ListLaws.{none≢some, some_any, none_any}
use Rattle.rules.specs.Words.{up_to}
use Rattle.tables.proofs.UpToLaws.{length-up_to, drop-up_to}

module _ {A : Type 0} (p : A → Bool) where
  pub find_append-none : (xs ys : List A) → findb p xs ≡ none → findb p (xs ++ ys) ≡ findb p ys
  find_append-none [] ys e = refl
  find_append-none (x ∷ xs) ys e = go (p x) e (λ r. find_append-none xs ys r)
    where
      go : (b : Bool) → cond b (some x) (findb p xs) ≡ none → (findb p xs ≡ none → findb p (xs ++ ys) ≡ findb p ys)
          → cond b (some x) (findb p (xs ++ ys)) ≡ findb p ys
      go true r below = absurd (none≢some (sym r))
      go false r below = below r

  pub find_append_some : {x : A} (xs ys : List A) → findb p xs ≡ some x → findb p (xs ++ ys) ≡ some x
  find_append_some [] ys e = absurd (none≢some e)
  find_append_some {x} (y ∷ xs) ys e = go (p y) e (λ r. find_append_some xs ys r)
    where
      go : (b : Bool) → cond b (some y) (findb p xs) ≡ some x → (findb p xs ≡ some x → findb p (xs ++ ys) ≡ some x)
          → cond b (some y) (findb p (xs ++ ys)) ≡ some x
      go true r below = r
      go false r below = below r

  -- the first that passes is the first that is kept
  pub find_head : {x : A} (xs : List A) → findb p xs ≡ some x → (ys : List A) × (filterb p xs ≡ x ∷ ys)
  find_head [] e = absurd (none≢some e)
  find_head {x} (y ∷ xs) e = go (p y) e (λ r. find_head xs r)
    where
      go : (b : Bool) → cond b (some y) (findb p xs) ≡ some x
          → (findb p xs ≡ some x → (ys : List A) × (filterb p xs ≡ x ∷ ys))
          → (ys : List A) × (cond b (y ∷ filterb p xs) (filterb p xs) ≡ x ∷ ys)
      go true r below = let s : y ≡ x = cc in (filterb p xs, ap {B = List A} (λ z. z ∷ filterb p xs) s)
      go false r below = below r

-- ---- the list xs is the n rows that a loop reads by f
pub record Rows {A : Type 0} (xs : List A) (f : ℕ → A) (n : ℕ) : Type 0 where
  pub is : xs ≡ up_to f n

-- ---- a loop that looks for the first row that passes a test: none of the first i does
pub record Searching {A : Type 0} (q : A → Bool) (f : ℕ → A) (i : ℕ) : Type 0 where
  pub passed : (k : ℕ) → k < i → q (f k) ≡ false

module _ {A : Type 0} {q : A → Bool} {f : ℕ → A} where
  pub search_start : Searching q f 0
  search_start = record { passed = λ k h. absurd (omega arith) }

  -- the next does not pass either
  pub search_more : {i : ℕ} {x : A} → Searching q f i → x ≡ f i → q x ≡ false → Searching q f (i + 1)
  search_more {i} s e t = record { passed = λ k l. go k l (dec_lt k i) }
    where
      go : (k : ℕ) → k < i + 1 → Dec (k < i) → q (f k) ≡ false
      go k l (yes b) = s.passed k b
      go k l (no b) = let p : k ≡ i = omega arith in ap (λ j. q (f j)) p ∙ ap q (sym e) ∙ t

  none_up_to : (n : ℕ) → Searching q f n → findb q (up_to f n) ≡ none
  none_up_to zero s = refl
  none_up_to (suc n) s =
      find_append-none q (up_to f n) (f n ∷ []) (none_up_to n (record { passed = λ k l. s.passed k (omega arith) }))
      ∙ ap {B = Option A} (λ b. cond b (some (f n)) none) (s.passed n (omega arith))

  found_up_to : (i n : ℕ) → Searching q f i → i < n → q (f i) ≡ true → findb q (up_to f n) ≡ some (f i)
  found_up_to i zero s h t = absurd (omega arith)
  found_up_to i (suc n) s h t = go (dec_lt i n) (λ l. found_up_to i n s l t)
    where
      go : Dec (i < n) → (i < n → findb q (up_to f n) ≡ some (f i)) → findb q (up_to f (suc n)) ≡ some (f i)
      go (yes l) below = find_append_some q (up_to f n) (f n ∷ []) (below l)
      go (no l) below =
          let p : n ≡ i = omega arith in
          find_append-none q (up_to f n) (f n ∷ []) (none_up_to n (record { passed = λ k b. s.passed k (omega arith) }))
          ∙ ap {B = Option A} (λ b. cond b (some (f n)) none) (ap (λ j. q (f j)) p ∙ t)
          ∙ ap (λ j. some (f j)) p

  -- what it finds of the rows xs
  module _ {n : ℕ} {xs : List A} (r : Rows xs f n) {i : ℕ} (s : Searching q f i) where
    pub search_found : {x : A} → i < n → x ≡ f i → q x ≡ true → findb q xs ≡ some x
    search_found l e t = ap (findb q) r.is ∙ found_up_to i n s l (ap q (sym e) ∙ t) ∙ ap some (sym e)

    pub search_none : n ≤ i → findb q xs ≡ none
    search_none e = ap (findb q) r.is ∙ none_up_to n (record { passed = λ k l. s.passed k (omega arith) })

    pub search_any : {x : A} → i < n → x ≡ f i → q x ≡ true → anyb q xs ≡ true
    search_any l e t = some_any q xs (search_found l e t)

    pub search_no : n ≤ i → anyb q xs ≡ false
    search_no e = none_any q xs (search_none e)

-- ---- a loop that begins at row k: none of those from k up to i passes
pub record SearchingFrom {A : Type 0} (k : ℕ) (q : A → Bool) (f : ℕ → A) (i : ℕ) : Type 0 where
  pub passed : (x : ℕ) → k ≤ x → x < i → q (f x) ≡ false

module _ {A : Type 0} {k : ℕ} {q : A → Bool} {f : ℕ → A} where
  pub from_start : SearchingFrom k q f k
  from_start = record { passed = λ x h l. absurd (omega arith) }

  pub from_more : {i : ℕ} {x : A} → SearchingFrom k q f i → x ≡ f i → q x ≡ false → SearchingFrom k q f (i + 1)
  from_more {i} s e t = record { passed = λ y h l. go y h l (dec_lt y i) }
    where
      go : (y : ℕ) → k ≤ y → y < i + 1 → Dec (y < i) → q (f y) ≡ false
      go y h l (yes b) = s.passed y h b
      go y h l (no b) = let p : y ≡ i = omega arith in ap (λ j. q (f j)) p ∙ ap q (sym e) ∙ t

-- the first row that it looks at, and those behind
module _ {A : Type 0} (q : A → Bool) (f : ℕ → A) (n : ℕ) where
  passed_by : (k : ℕ) → k < n → q (f k) ≡ false → findb q (drop k (up_to f n)) ≡ findb q (drop (suc k) (up_to f n))
  passed_by k h e =
      ap (findb q) (drop-up_to f n k h)
      ∙ ap {B = Option A} (λ b. cond b (some (f k)) (findb q (drop (suc k) (up_to f n)))) e

  stops_at : (d k i : ℕ) → k + d ≡ i → i < n → SearchingFrom k q f i → q (f i) ≡ true
      → findb q (drop k (up_to f n)) ≡ some (f i)
  stops_at zero k i e h s t =
      let p : k ≡ i = omega arith in
      ap (λ j. findb q (drop j (up_to f n))) p ∙ ap (findb q) (drop-up_to f n i h)
      ∙ ap {B = Option A} (λ b. cond b (some (f i)) (findb q (drop (suc i) (up_to f n)))) t
  stops_at (suc d) k i e h s t =
      passed_by k (omega arith) (s.passed k (omega arith) (omega arith))
      ∙ stops_at d (suc k) i (omega arith) h (record { passed = λ x l r. s.passed x (omega arith) r }) t

  none_behind : (d k : ℕ) → k + d ≡ n → SearchingFrom k q f n → findb q (drop k (up_to f n)) ≡ none
  none_behind zero k e s =
      ap (findb q) (drop_of_length-le (up_to f n) {i = k} (omega (arith, length-up_to f n)))
  none_behind (suc d) k e s =
      passed_by k (omega arith) (s.passed k (omega arith) (omega arith))
      ∙ none_behind d (suc k) (omega arith) (record { passed = λ x l r. s.passed x (omega arith) r })

module _ {A : Type 0} {k : ℕ} {q : A → Bool} {f : ℕ → A} {n : ℕ} {xs : List A} (r : Rows xs f n) {i : ℕ}
    (s : SearchingFrom k q f i) where
  pub from_found : {x : A} → k ≤ i → i < n → x ≡ f i → q x ≡ true → findb q (drop k xs) ≡ some x
  from_found h l e t =
      ap (λ l. findb q (drop k l)) r.is ∙ stops_at q f n (i - k) k i (omega arith) l s (ap q (sym e) ∙ t)
      ∙ ap some (sym e)

  pub from_none : n ≤ i → findb q (drop k xs) ≡ none
  from_none h = ap (λ l. findb q (drop k l)) r.is ∙ go (dec_lt n k)
    where
      go : Dec (n < k) → findb q (drop k (up_to f n)) ≡ none
      go (yes l) = ap (findb q) (drop_of_length-le (up_to f n) {i = k} (omega (arith, length-up_to f n)))
      go (no l) =
          none_behind q f n (n - k) k (omega arith) (record { passed = λ x a b. s.passed x a (omega arith) })
