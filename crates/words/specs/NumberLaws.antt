-- The next numbers of a space: read, and set.
use Rattle.std.specs.Prelude.{ℕ, ◌≡◌, List, get_or, length, set}
use Rattle.std.proofs.Common.{refl}
use Rattle.rules.specs.State.{with_next_entry, with_next_txn, with_next_registration}
use Rattle.rules.specs.Words.{view, next_entry_at, next_txn_at, next_registration_at, space_words}
use Rattle.tables.proofs.Tables.{view-next-entry, view-next-txn, view-next_registration}

pub next_entry_in : (ws : List ℕ) → (view ws).next_entry ≡ get_or ws next_entry_at 0
unfolding view
next_entry_in ws = refl

pub next_entry_set : (ws : List ℕ) (n : ℕ) → length ws ≡ space_words
    → view (set ws next_entry_at n) ≡ with_next_entry n (view ws)
next_entry_set ws n h = view-next-entry ws n h

pub next_txn_in : (ws : List ℕ) → (view ws).next_txn ≡ get_or ws next_txn_at 0
unfolding view
next_txn_in ws = refl

pub next_txn_set : (ws : List ℕ) (n : ℕ) → length ws ≡ space_words
    → view (set ws next_txn_at n) ≡ with_next_txn n (view ws)
next_txn_set ws n h = view-next-txn ws n h

pub next_registration_in : (ws : List ℕ) → (view ws).next_registration ≡ get_or ws next_registration_at 0
unfolding view
next_registration_in ws = refl

pub next_registration_set : (ws : List ℕ) (n : ℕ) → length ws ≡ space_words
    → view (set ws next_registration_at n) ≡ with_next_registration n (view ws)
next_registration_set ws n h = view-next_registration ws n h
