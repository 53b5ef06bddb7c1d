-- A row as the code lends it, by numbers that say where its table lies.
use Prim.Native.Nat.{ℕ, suc, ◌+◌, ◌-◌, ◌*◌, ◌≤◌, ◌<◌}
use mathlib.Core.Path.{◌≡◌, refl, sym, ap, ◌∙◌}
use mathlib.Core.List.{List, [], ◌∷◌, ◌++◌, append_assoc}
use native.Mathlib.Omega.{arith}
use native.Mathlib.Nat.{mul-add, mul-le-mul_left}
use native.Mathlib.Numerals.{add-one}
use borrow.Rule.Slice.PartMut.{put_mid}
use lib.ListN.{length, length-drop, take, drop, drop_of_length-le}
use lib.Seq.{drop-drop, sets, sets-eq, length-take-le}
use Rattle.std.specs.List.{copy_within}
use Rattle.rules.specs.Words.{row, space_words}
use Rattle.tables.specs.Rows.{move_words}
use Rattle.tables.specs.Table.{Table, at, cell, first, left, end, Placed}
use Rattle.tables.proofs.RowLaws.{lent_row, row_within}
use Rattle.tables.proofs.UpToLaws.{length-up_to, drop-up_to}

module _ {A : Type 0} {t : Table A} {b w m c : ℕ} (p : Placed t b w m c) (i : ℕ) where
  pub placed_at : {b' w' : ℕ} → b' ≡ b → w' ≡ w → b' + w' * i ≡ at t i
  placed_at e f = rw (e, f, p.is_base, p.is_width)

  pub placed_row : {b' w' w₂ : ℕ} (ws : List ℕ) → b' ≡ b → w' ≡ w → w₂ ≡ w
      → take (b' + w' * i + w₂ - (b' + w' * i)) (drop (b' + w' * i) ws) ≡ row t.base t.width ws i
  placed_row ws e f g = rw (e, f, g, p.is_base, p.is_width) (lent_row b w i ws)

-- words that stand in the place of as many
pub put_part : (a k : ℕ) (ws r : List ℕ) → length r ≡ k → a + k ≤ length ws → put_mid a k ws r ≡ sets ws a r
put_part a k ws r e h =
    let rest : drop k (drop a ws) ≡ drop (a + length r) ws = drop-drop k a ws ∙ ap (λ n. drop n ws) (omega arith) in
    ap (λ l. take a ws ++ (r ++ l)) rest
    ∙ sym (sets-eq r ws a (omega arith) ∙ append_assoc (take a ws) r (drop (a + length r) ws))

-- words that are copied within
pub copied : (ws : List ℕ) (f e t n : ℕ) → e ≡ f + n → t ≤ f → f + n ≤ length ws
    → copy_within ws f e t ≡ move_words ws f t n
copied ws f e t n q h l =
    let r = take n (drop f ws) in
    let many : e - f ≡ n = omega arith in
    let long : length r ≡ n = length-take-le n (drop f ws) (omega (arith, length-drop f ws)) in
    rw many
    (ap (λ m. take t ws ++ r ++ drop (t + m) ws) (sym long) ∙ sym (sets-eq r ws t (omega (arith, long))))

module _ {A : Type 0} {t : Table A} {b w m c : ℕ} (p : Placed t b w m c) (ws : List ℕ)
    (h : length ws ≡ space_words) where
  ends_within : b + w * m ≤ length ws
  ends_within = rw (← p.is_base, ← p.is_width, ← p.is_most, h) p.within

  pub placed_end : end t ≤ length ws
  placed_end = rw h p.within

  -- a row is copied to the front
  pub placed_move : {b₁ b₂ w₁ w₂ w₃ : ℕ} (f k : ℕ) → b₁ ≡ b → w₁ ≡ w → w₂ ≡ w → b₂ ≡ b → w₃ ≡ w
      → f < m → k ≤ f
      → copy_within ws (b₁ + w₁ * f) (b₁ + w₁ * f + w₂) (b₂ + w₃ * k) ≡ move_words ws (at t f) (at t k) t.width
  placed_move f k e₁ e₂ e₃ e₄ e₅ q l =
      rw (e₁, e₂, e₃, e₄, e₅, p.is_base, p.is_width)
      (copied ws (b + w * f) (b + w * f + w) (b + w * k) w refl (omega (arith, mul-le-mul_left w l))
      (omega (arith, row_within w b f m q, ends_within)))

  -- the rows behind row i move up by one
  pub placed_up : {b₁ b₂ b₃ w₁ w₂ w₃ : ℕ} (i n : ℕ) → b₁ ≡ b → w₁ ≡ w → b₂ ≡ b → w₂ ≡ w → b₃ ≡ b → w₃ ≡ w
      → i < n → n ≤ m
      → copy_within ws (b₁ + w₁ * (i + 1)) (b₂ + w₂ * n) (b₃ + w₃ * i)
      ≡ move_words ws (at t (suc i)) (at t i) (t.width * (n - suc i))
  placed_up i n e₁ e₂ e₃ e₄ e₅ e₆ q l =
      let many : i + 1 + (n - (i + 1)) ≡ n = omega arith in
      let spread : b + w * n ≡ b + w * (i + 1) + w * (n - (i + 1)) =
      ap (λ k. b + w * k) (sym many) ∙ rw (mul-add w (i + 1) (n - (i + 1))) (omega arith) in
      let inside : b + w * n ≤ length ws = omega (arith, mul-le-mul_left w l, ends_within) in
      rw (e₁, e₂, e₃, e₄, e₅, e₆, p.is_base, p.is_width, ← add-one i)
      (copied ws (b + w * (i + 1)) (b + w * n) (b + w * i) (w * (n - (i + 1))) spread
      (omega (arith, mul-le-mul_left {m = i} {n = i + 1} w (omega arith))) (omega (arith, spread, inside)))

-- the rows that are left of the first n, from row i on
module _ {A : Type 0} (t : Table A) (ws : List ℕ) (i n : ℕ) where
  pub none_left : n ≤ i → left t ws i n ≡ []
  none_left h = drop_of_length-le (first t n ws) {i = i} (omega (arith, length-up_to (cell t ws) n))

  pub more_left : {x : A} → i < n → x ≡ cell t ws i → left t ws i n ≡ x ∷ left t ws (i + 1) n
  more_left h e = rw (e, add-one i) (drop-up_to (cell t ws) n i h)

  pub length-left : length (left t ws i n) ≡ n - i
  length-left = length-drop i (first t n ws) ∙ ap (λ k. k - i) (length-up_to (cell t ws) n)
