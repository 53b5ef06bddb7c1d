-- The first n values of a function: their number, the elements, the first of them, and a function that differs at one.
use Prim.Native.Nat.{ℕ, zero, suc, ◌≤◌, ◌<◌}
use mathlib.Core.Logic.{◌≢◌}
use mathlib.Core.Path.{◌≡◌, refl, sym, ap, ap₂, ◌∙◌}
use mathlib.Core.List.{List, [], ◌∷◌, ◌++◌, append_assoc, append-nil}
use native.Mathlib.Omega.{arith}
use native.Mathlib.Decide.{dec_lt}
use lib.ListN.{length, get_or, take, drop, set, get_or-append, length-append, drop_of_length-le}
use lib.Seq.{set-append_left, set_at, set_out, get_or_at, drop-cons, take_all, take-append-le, drop-append-le}
use Rattle.rules.specs.Words.{up_to}
use Rattle.tables.specs.Rows.{without}

module _ {A : Type 0} where
  pub up_to_ext : (f g : ℕ → A) (n : ℕ) → ((k : ℕ) → k < n → f k ≡ g k) → up_to f n ≡ up_to g n
  up_to_ext f g zero h = refl
  up_to_ext f g (suc n) h =
      ap₂ {C = List A} (λ l x. l ++ (x ∷ [])) (up_to_ext f g n (λ k p. h k (omega arith))) (h n (omega arith))

  pub length-up_to : (f : ℕ → A) (n : ℕ) → length (up_to f n) ≡ n
  length-up_to f zero = refl
  length-up_to f (suc n) = simp (length-append, length-up_to f n) (omega arith)

module _ {A : Type 0} (f : ℕ → A) where
  pub get_or-up_to : (n i : ℕ) (d : A) → i < n → get_or (up_to f n) i d ≡ f i
  get_or-up_to zero i d h = absurd (omega arith)
  get_or-up_to (suc n) i d h = go (dec_lt i n) (λ l. get_or-up_to n i d l)
    where
      go : Dec (i < n) → (i < n → get_or (up_to f n) i d ≡ f i) → get_or (up_to f n ++ (f n ∷ [])) i d ≡ f i
      go (yes l) below = get_or-append (up_to f n) (f n ∷ []) d i (omega (arith, length-up_to f n)) ∙ below l
      go (no l) below =
          let s : n ≡ i = omega arith in
          get_or_at (up_to f n) (f n) [] d i (length-up_to f n ∙ s) ∙ ap f s

  -- the elements from i on
  pub drop-up_to : (n i : ℕ) → i < n → drop i (up_to f n) ≡ f i ∷ drop (suc i) (up_to f n)
  drop-up_to n i h =
      drop-cons (up_to f n) i (f i) (omega (arith, length-up_to f n))
      ∙ ap (λ x. x ∷ drop (suc i) (up_to f n)) (get_or-up_to n i (f i) h)

  -- the first n of them
  pub take-up_to : (m n : ℕ) → n ≤ m → take n (up_to f m) ≡ up_to f n
  take-up_to zero n h = let s : n ≡ 0 = omega arith in ap (λ k. take k []) s ∙ ap (up_to f) (sym s)
  take-up_to (suc m) n h = go (dec_lt n (suc m)) (λ l. take-up_to m n l)
    where
      go : Dec (n < suc m) → (n ≤ m → take n (up_to f m) ≡ up_to f n) → take n (up_to f (suc m)) ≡ up_to f n
      go (yes l) below = take-append-le n (up_to f m) (f m ∷ []) (omega (arith, length-up_to f m)) ∙ below (omega arith)
      go (no l) below =
          let s : n ≡ suc m = omega arith in
          take_all n (up_to f (suc m)) (omega (arith, length-up_to f (suc m))) ∙ ap (up_to f) (sym s)

-- a function that differs at k alone
pub up_to-set : {A : Type 0} (f g : ℕ → A) (k : ℕ) (n : ℕ) → ((j : ℕ) → j ≢ k → g j ≡ f j)
    → up_to g n ≡ set (up_to f n) k (g k)
up_to-set f g k zero h = refl
up_to-set {A} f g k (suc n) h = go (dec_lt k n) (dec_lt n k) (up_to-set f g k n h)
  where
    go : Dec (k < n) → Dec (n < k) → up_to g n ≡ set (up_to f n) k (g k)
        → up_to g n ++ (g n ∷ []) ≡ set (up_to f n ++ (f n ∷ [])) k (g k)
    go (yes l) r below =
        ap₂ {C = List A} (λ a b. a ++ (b ∷ [])) below (h n (λ e. omega arith))
        ∙ sym (set-append_left (up_to f n) (f n ∷ []) k (g k) (omega (arith, length-up_to f n)))
    go (no l) (yes r) below =
        ap₂ {C = List A} (λ a b. a ++ (b ∷ [])) (below
        ∙ set_out (up_to f n) k (g k) (omega (arith, length-up_to f n))) (h n (λ e. omega arith))
        ∙ sym (set_out (up_to f (suc n)) k (g k) (omega (arith, length-up_to f (suc n))))
    go (no l) (no r) below =
        let s : n ≡ k = omega arith in
        ap₂ {C = List A} (λ a b. a ++ (b ∷ [])) (below
        ∙ set_out (up_to f n) k (g k) (omega (arith, length-up_to f n))) (ap g s)
        ∙ sym (set_at (up_to f n) (f n) [] (g k) k (length-up_to f n ∙ s))

-- a function that leaves one value out
pub up_to_skip : {A : Type 0} (f g : ℕ → A) (i n : ℕ) → i ≤ n → ((k : ℕ) → k < i → g k ≡ f k)
    → ((k : ℕ) → i ≤ k → k < n → g k ≡ f (suc k)) → up_to g n ≡ without i (up_to f (suc n))
up_to_skip f g i zero l h p =
    let s : i ≡ 0 = omega arith in ap (λ k. without k (f 0 ∷ [])) (sym s)
up_to_skip {A} f g i (suc n) l h p = go (dec_lt i (suc n)) (λ b. up_to_skip f g i n b h (λ k q r. p k q (omega arith)))
  where
    more : List A
    more = up_to f (suc n)

    go : Dec (i < suc n) → (i ≤ n → up_to g n ≡ without i more) → up_to g (suc n) ≡ without i (up_to f (suc (suc n)))
    go (yes b) below =
        ap₂ {C = List A} (λ xs x. xs ++ (x ∷ [])) (below (omega arith)) (p n (omega arith) (omega arith))
        ∙ append_assoc (take i more) (drop (suc i) more) (f (suc n) ∷ [])
        ∙ sym (ap₂ {C = List A} (λ xs ys. xs ++ ys)
        (take-append-le i more (f (suc n) ∷ []) (omega (arith, length-up_to f (suc n))))
        (drop-append-le (suc i) more (f (suc n) ∷ []) (omega (arith, length-up_to f (suc n)))))
    go (no b) below =
        let s : i ≡ suc n = omega arith in
        up_to_ext g f (suc n) (λ k q. h k (omega arith))
        ∙ sym (append-nil more)
        ∙ sym (ap₂ {C = List A} (λ xs ys. xs ++ ys)
        (take-up_to f (suc (suc n)) i (omega arith) ∙ ap (up_to f) s)
        (drop_of_length-le (up_to f (suc (suc n))) {i = suc i} (omega (arith, length-up_to f (suc (suc n))))))
