-- The pairs of a tray, one after another.
use Prim.Native.Nat.{ℕ, zero, suc, ◌+◌, ◌*◌, ◌≤◌, ◌<◌}
use mathlib.Core.Bool.{false, ◌||◌}
use mathlib.Core.Path.{◌≡◌, refl, ap, ap₂, ◌∙◌}
use mathlib.Core.List.{List, [], ◌∷◌, ◌++◌}
use native.Mathlib.Omega.{arith}
use borrow.Author.Tests.{ltb-false}
use lib.Dec.{ltb}
use lib.ListN.{length, get_or, take, drop, length-map, get_or-map}
use lib.Seq.{get_or-drop, take-suc, drop-cons}
use Rattle.rules.specs.Frame.{byte_at, number_at}
use Rattle.rules.specs.Tray.{Pair, frame_count, pairs_of, pairs, bad_pairs, frame_at, frames_of}
use Rattle.rules.proofs.BoolLaws.{or_left, or_right}
use Rattle.tray.specs.Pairs.{pair_at}

-- the pair whose eight bytes begin at j
abbrev pair_from : List ℕ → ℕ → Pair
pair_from bs j = record { offset = number_at bs j; size = number_at bs (j + 4) }

byte_drop : (n : ℕ) (bs : List ℕ) (j i : ℕ) → byte_at (drop n bs) (j + i) ≡ byte_at bs (n + j + i)
byte_drop n bs j i = get_or-drop n bs (j + i) 0 ∙ ap (λ k. get_or bs k 0) (omega arith)

number-drop : (n : ℕ) (bs : List ℕ) (j : ℕ) → number_at (drop n bs) j ≡ number_at bs (n + j)
unfolding number_at
number-drop n bs j =
    let first : byte_at (drop n bs) j ≡ byte_at bs (n + j) = get_or-drop n bs j 0 in
    ap₂ (λ x y. x + 16777216 * y)
    (ap₂ (λ x y. x + 65536 * y) (ap₂ (λ x y. x + 256 * y) first (byte_drop n bs j 1)) (byte_drop n bs j 2))
    (byte_drop n bs j 3)

pair-drop : (n : ℕ) (bs : List ℕ) (j : ℕ) → pair_from (drop n bs) j ≡ pair_from bs (n + j)
pair-drop n bs j =
    ap₂ (λ (x y : ℕ). record { offset = x; size = y }) (number-drop n bs j)
    (number-drop n bs (j + 4) ∙ ap (number_at bs) (omega arith))

count_of : (n : ℕ) (bs : List ℕ) → length (pairs_of n bs) ≡ n
unfolding pairs_of
count_of zero bs = refl
count_of (suc n) bs = ap suc (count_of n (drop 8 bs))

one_of : (n k : ℕ) (bs : List ℕ) (d : Pair) → k < n → get_or (pairs_of n bs) k d ≡ pair_from bs (8 * k)
unfolding pairs_of
one_of zero k bs d h = absurd (omega arith)
one_of (suc n) zero bs d h = refl
one_of (suc n) (suc k) bs d h =
    one_of n k (drop 8 bs) d (omega arith) ∙ pair-drop 8 bs (8 * k) ∙ ap (pair_from bs) (omega arith)

-- how many there are, and the one at k
module _ (tray : List ℕ) where
  pub pairs-length : length (pairs tray) ≡ frame_count tray
  unfolding pairs
  pairs-length = count_of (frame_count tray) (drop 4 tray)

  module _ (k : ℕ) (h : k < frame_count tray) where
    pub pair_is : (d : Pair) → get_or (pairs tray) k d ≡ pair_at tray k
    unfolding pairs
    pair_is d = one_of (frame_count tray) k (drop 4 tray) d h ∙ pair-drop 4 tray (8 * k)

    pub pairs_from : drop k (pairs tray) ≡ pair_at tray k ∷ drop (suc k) (pairs tray)
    pairs_from =
        drop-cons (pairs tray) k (pair_at tray k) (omega (arith, pairs-length))
        ∙ ap (λ p. p ∷ drop (suc k) (pairs tray)) (pair_is (pair_at tray k))

-- the frames of a tray: how many, and the one at k
pub frames-length : (tray : List ℕ) → length (frames_of tray) ≡ frame_count tray
frames-length tray = length-map (pairs tray) (frame_at tray) ∙ pairs-length tray

frame_is : (tray : List ℕ) (k : ℕ) → k < frame_count tray
    → get_or (frames_of tray) k (frame_at tray (pair_at tray k)) ≡ frame_at tray (pair_at tray k)
frame_is tray k h =
    get_or-map (frame_at tray) (pairs tray) k (pair_at tray k) ∙ ap (frame_at tray) (pair_is tray k h (pair_at tray k))

-- one frame more
pub frames-next : (tray : List ℕ) (k : ℕ) → k < frame_count tray
    → take (k + 1) (frames_of tray) ≡ take k (frames_of tray) ++ (frame_at tray (pair_at tray k) ∷ [])
frames-next tray k h =
    let f = frame_at tray (pair_at tray k) in
    let next : k + 1 ≡ suc k = omega arith in
    ap (λ j. take j (frames_of tray)) next
    ∙ take-suc (frames_of tray) k f (omega (arith, frames-length tray))
    ∙ ap (λ g. take k (frames_of tray) ++ (g ∷ [])) (frame_is tray k h)

-- what is not bad lies within the tray
pub pair_in : (before size : ℕ) (ps : List Pair) (k : ℕ) (d : Pair) → bad_pairs before size ps ≡ false → k < length ps
    → (get_or ps k d).offset + (get_or ps k d).size ≤ size
unfolding bad_pairs
pair_in before size [] k d e h = absurd (omega arith)
pair_in before size (p ∷ ps) zero d e h =
    ltb-false size (p.offset + p.size) (or_right (ltb p.offset before) _
    (or_left _ (bad_pairs (p.offset + p.size) size ps) e))
pair_in before size (p ∷ ps) (suc k) d e h =
    pair_in (p.offset + p.size) size ps k d
    (or_right (ltb p.offset before || ltb size (p.offset + p.size)) _ e) (omega arith)
