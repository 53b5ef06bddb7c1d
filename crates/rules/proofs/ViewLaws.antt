-- Every array of words is read as tables within their capacities.
use Prim.Native.Nat.{ℕ, zero, suc, ◌≤◌, min}
use mathlib.Core.Path.{◌≡◌, refl, ◌∙◌, subst⁻¹}
use mathlib.Core.List.{List, [], ◌∷◌}
use native.Mathlib.Nat.{min-le_right}
use native.Mathlib.Omega.{arith}
use lib.ListN.{length, get_or, length-append}
use Rattle.rules.specs.Numbers.{max_entries, max_txns, max_waits, max_registrations}
use Rattle.rules.specs.State.{Bounded}
use Rattle.rules.specs.Words.{up_to, entries, txns, waits, registrations, view, entry_count_at, txn_count_at}
use Rattle.rules.specs.Words.{wait_count_at, registration_count_at}

pub length-up_to : {A : Type 0} (f : ℕ → A) (n : ℕ) → length (up_to f n) ≡ n
length-up_to f zero = refl
length-up_to f (suc n) = length-append (up_to f n) (f n ∷ []) ∙ omega (arith, length-up_to f n)

capped : {A : Type 0} (f : ℕ → A) (n most : ℕ) → length (up_to f (min n most)) ≤ most
capped f n most = subst⁻¹ (λ k. k ≤ most) (length-up_to f (min n most)) (min-le_right n most)

pub view-bounded : (ws : List ℕ) → Bounded (view ws)
unfolding view entries txns waits registrations
view-bounded ws =
    record {
      entries_fit = capped _ (get_or ws entry_count_at 0) max_entries;
      txns_fit = capped _ (get_or ws txn_count_at 0) max_txns;
      waits_fit = capped _ (get_or ws wait_count_at 0) max_waits;
      registrations_fit = capped _ (get_or ws registration_count_at 0) max_registrations;
    }
