-- A hint written, and what is then said.
use Prim.Native.Nat.{ℕ, zero, suc, ◌+◌, ◌-◌, ◌%◌, ◌≤◌, ◌<◌}
use mathlib.Core.Bool.{true, false}
use mathlib.Core.Path.{◌≡◌, refl, sym, ap, ◌∙◌}
use mathlib.Core.List.{List, [], ◌∷◌, ◌++◌}
use native.Mathlib.Omega.{arith}
use native.Mathlib.Nat.{mod-lt}
use borrow.Author.Tests.{lt-leb}
use lib.Dec.{eqb}
use lib.ListN.{length, get_or, replicate, length-append}
use Rattle.std.specs.List.{fold}
use Rattle.std.specs.Prelude.{min}
use Rattle.std.proofs.lemmas.List.{get_or-replicate}
use Rattle.rules.specs.declared.until.Until.{Until}
use Rattle.rules.specs.declared.until.Until.TheVariants.{Tick, Forever}
use Rattle.rules.specs.Lists.{All}
use Rattle.rules.specs.Numbers.{forever}
use Rattle.rules.specs.Time.{until, reached}
use Rattle.rules.specs.Words.{until_word, up_to}
use Rattle.rules.proofs.BoolLaws.{cond_cases}
use Rattle.tables.proofs.SearchLaws.{Rows}
use Rattle.sound.proofs.AllLaws.{all_none, all_cons}
use Rattle.hints.specs.declared.known.Hints.{Hints}
use Rattle.hints.specs.Hints.{flag_count, NotBefore, Weaker}

pub weaker-same : {hs : Hints} → Weaker hs hs
weaker-same = record { falls = omega arith; stays = λ p h. h; grows = omega arith }

pub weaker-then : {a b c : Hints} → Weaker a b → Weaker b c → Weaker a c
weaker-then x y =
    record {
      falls = omega (arith, x.falls, y.falls);
      stays = λ p h. y.stays p (x.stays p h);
      grows = omega (arith, x.grows, y.grows);
    }

-- an end is not before a tick that is not after it, nor is FOREVER
pub tick-not_before : (n t : ℕ) → n ≤ t → NotBefore n (Tick t)
unfolding reached
tick-not_before n t h c l = lt-leb t c (omega arith)

pub never_before : (n : ℕ) → NotBefore n Forever
unfolding reached
never_before n c l = refl

pub word-not_before : {n : ℕ} (end : Until) → n ≤ until_word end → NotBefore n end
word-not_before {n} (Tick t) h = tick-not_before n t h
word-not_before {n} Forever h = never_before n

-- nor is the end of a lease, before the lease is over
pub until-not_before : (n clock lease : ℕ) → n ≤ clock + lease → NotBefore n (until clock lease)
unfolding until
until-not_before n clock lease h =
    cond_cases (NotBefore n) (eqb lease forever) (λ _. never_before n) (λ _. tick-not_before n (clock + lease) h)

pub sooner_still : {n k : ℕ} (end : Until) → k ≤ n → NotBefore n end → NotBefore k end
sooner_still end h e c l = e c (omega arith)

-- flags that all stand
pub all-flagged : (p : ℕ) → get_or (replicate flag_count true) (p % flag_count) false ≡ true
all-flagged p = get_or-replicate flag_count (p % flag_count) true false (mod-lt p {m = flag_count} (omega arith))

-- the least of a tick and of all ends
module _ {A : Type 0} (ends : A → Until) where
  abbrev pub sooner : ℕ → A → ℕ
  sooner n x = min n (until_word (ends x))

  least-falls : (n : ℕ) (xs : List A) → fold sooner n xs ≤ n
  least-falls n [] = omega arith
  least-falls n (x ∷ xs) = let l = least-falls (sooner n x) xs in omega (arith, l)

  pub least-all : (n : ℕ) (xs : List A) → All (λ x. NotBefore (fold sooner n xs) (ends x)) xs
  least-all n [] = all_none _
  least-all n (x ∷ xs) =
      let l = least-falls (sooner n x) xs in
      all_cons (word-not_before (ends x) (omega (arith, l))) (least-all (sooner n x) xs)

-- what stands last
last-same : {A : Type 0} (xs ys : List A) (x y : A) → xs ++ (x ∷ []) ≡ ys ++ (y ∷ []) → x ≡ y
last-same [] [] x y e = cc
last-same [] (z ∷ ys) x y e = absurd (omega (arith, ap length e, length-append ys (y ∷ [])))
last-same (z ∷ xs) [] x y e = absurd (omega (arith, ap length e, length-append xs (x ∷ [])))
last-same {A} (z ∷ xs) (v ∷ ys) x y e = last-same xs ys x y (tail_same e)
  where
    tail_same : {us vs : List A} → z ∷ us ≡ v ∷ vs → us ≡ vs
    tail_same q = cc

pub row_last : {A : Type 0} {xs : List A} {f : ℕ → A} {n : ℕ} → Rows xs f n → (vs : List A) (x : A)
    → xs ≡ vs ++ (x ∷ [])
    → (0 < n) × (x ≡ f (n - 1))
row_last {f = f} {n = zero} r vs x e = absurd (omega (arith, ap length (sym r.is ∙ e), length-append vs (x ∷ [])))
row_last {f = f} {n = suc k} r vs x e = (
  omega arith,
  sym (last-same (up_to f k) vs (f k) x (sym r.is ∙ e)) ∙ ap f (omega arith),
)
