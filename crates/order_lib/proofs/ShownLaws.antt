-- What is shown of an answer.
use Prim.Native.Nat.{ℕ, zero, suc, ◌+◌, ◌-◌, ◌%◌, ◌≤◌, ◌<◌}
use mathlib.Core.Bool.{true}
use mathlib.Core.Path.{◌≡◌, refl, ap, ◌∙◌, subst, subst⁻¹}
use mathlib.Core.List.Memᴰ
use mathlib.Core.List.{List, [], ◌∷◌, ◌++◌}
use native.Mathlib.Decide.{dec_lt}
use native.Mathlib.Omega.{arith}
use borrow.Author.Tests.{ne_eqb}
use lib.ListN.{length, get_or, take, drop, replicate, length-take, get_or-append}
use lib.Seq.{get_or-take, get_or-drop, get_or-append-add}
use Rattle.std.specs.Prelude.{EachIndex}
use Rattle.codec.specs.Area.{InFront}
use Rattle.rules.specs.Lists.{All}
use Rattle.order.specs.Export.{words_of}
use Rattle.order.specs.Found.{OrderFound, found, none_found, refused}
use Rattle.order.proofs.ArrayLaws.{all_same}
use Rattle.order_lib.specs.Shows.{words_in, line_of, none_text, refused_text, text_of, answered, no_words, Shows}

pub not_whole : {bytes old new : List ℕ} {n : ℕ} → (length bytes % 4 ≡ 0 → ⊥) → InFront true refused_text old new n
    → Shows bytes old new n
not_whole h p = record { text = refused_text; told = no_words h; printed = p }

-- an answer to the words of some bytes
module _ {bytes words : List ℕ} {r : ℕ} {o : List ℕ} (a : OrderFound words (replicate 6 0) r o)
    (are : words ≡ words_in bytes) (whole : length bytes % 4 ≡ 0) {old new : List ℕ} {n : ℕ} where
  shows : (text : List ℕ) → text_of (words_in bytes) r o ≡ text → InFront true text old new n → Shows bytes old new n
  shows text e p =
      record {
        text = text_of (words_in bytes) r o;
        told = answered r o whole (subst (λ ws. OrderFound ws (replicate 6 0) r o) are a);
        printed = subst⁻¹ (λ t. InFront true t old new n) e p;
      }

  pub none_shown : r ≡ 0 → InFront true none_text old new n → Shows bytes old new n
  unfolding text_of
  none_shown e = shows none_text (ap (λ k. text_of (words_in bytes) k o) e)

  pub refusal_shown : (r ≡ 1 → ⊥) → (r ≡ 0 → ⊥) → InFront true refused_text old new n → Shows bytes old new n
  unfolding text_of
  refusal_shown h k = shows refused_text (rw (ne_eqb r 1 h, ne_eqb r 0 k))

  pub order_shown : r ≡ 1 → InFront true (line_of (take (get_or words 0 0) o)) old new n → Shows bytes old new n
  unfolding text_of
  order_shown e p =
      shows (line_of (take (get_or (words_in bytes) 0 0) o)) (ap (λ m. text_of (words_in bytes) m o) e)
      (subst (λ ws. InFront true (line_of (take (get_or ws 0 0) o)) old new n) are p)

-- an order that is found has at most six positions, each a digit
pub record Positions (words o : List ℕ) : Type 0 where
  pub some : 0 < length words
  pub few : get_or words 0 0 ≤ 6
  pub digits : (j : ℕ) → get_or o j 0 < 10

each_at : (m : ℕ) (ps : List ℕ) → All (λ p. p < m) ps → (j : ℕ) → j < length ps → get_or ps j 0 < m
each_at m [] h j l = absurd (omega arith)
each_at m (p ∷ ps) h zero l = h p (Memᴰ.head refl)
each_at m (p ∷ ps) h (suc j) l = each_at m ps (λ q i. h q (Memᴰ.tail i)) j (omega arith)

pub positions : {words o : List ℕ} {r : ℕ} → OrderFound words (replicate 6 0) r o → r ≡ 1 → Positions words o
unfolding words_of
positions (found ts h ps f) e =
    record {
      some = omega (arith, ap length h.stand_for);
      few = omega (arith, ap (λ l. get_or l 0 0) h.stand_for, h.accepted.transactions);
      digits = λ j. digit j (dec_lt j (length ps));
    }
  where
    zeros : List ℕ
    zeros = replicate 6 0

    behind : (k : ℕ) → get_or (ps ++ drop (length ts) zeros) (length ps + k) 0 ≡ 0
    behind k =
        get_or-append-add ps (drop (length ts) zeros) k 0 ∙ get_or-drop (length ts) zeros k 0
        ∙ all_same 6 0 (length ts + k)

    digit : (j : ℕ) → Dec (j < length ps) → get_or (ps ++ drop (length ts) zeros) j 0 < 10
    digit j (yes l) =
        let p = each_at (length ts) ps f.order.positions j l in
        let is = get_or-append ps (drop (length ts) zeros) 0 j l in
        omega (arith, h.accepted.transactions)
    digit j (no l) =
        let on : j ≡ length ps + (j - length ps) = omega arith in
        let is = ap (λ m. get_or (ps ++ drop (length ts) zeros) m 0) on ∙ behind (j - length ps) in
        omega arith
positions (none_found ts h z) e = absurd (omega arith)
positions (refused z) e = absurd (omega arith)

-- the first positions of some are digits too
pub front_digits : (n : ℕ) (o : List ℕ) → ((j : ℕ) → get_or o j 0 < 10)
    → EachIndex (take n o) (λ j. get_or (take n o) j 0 < 10)
front_digits n o h j l =
    let is = get_or-take n o j 0 (omega (arith, length-take n o)) in
    omega (arith, h j)
