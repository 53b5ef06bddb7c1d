-- Demand 2, who holds what: told from frames and records alone, by the serial run's set and the live transactions'
-- lists.
use Rattle.std.specs.Prelude.{ℕ, ◌<◌, Bool, true, false, not, cond, ◌&&◌, ◌≡◌, ◌↔◌, eqb}
use mathlib.Core.List.{List, [], ◌∷◌, ◌++◌, map, Memᴰ}
use Rattle.rules.specs.declared.Entry.{Entry}
use Rattle.rules.specs.declared.Txn.{Txn}
use Rattle.rules.specs.Lists.{filterb, anyb, joined, distinct}
use Rattle.rules.specs.Time.{reached}
use Rattle.rules.specs.State.{Model}
use Rattle.rules.specs.Template.{bit}
use Rattle.rules.specs.SerialRun.{Kept, Operation, adds, finds, Pending, Run, kept_of}

-- an entry: the transaction that it is private to (0: committed), those that have taken it, and those that have read it
pub record Told : Type 0 where
  pub kept : Kept
  pub private_to : ℕ
  pub takers : List ℕ
  pub readers : List ℕ

abbrev pub takes_number : ℕ → Operation → Bool
takes_number n (adds k) = false
takes_number n (finds takes i x) = takes && eqb i n

unfoldable pub reads_number : ℕ → Operation → Bool
reads_number n (adds k) = false
reads_number n (finds takes i x) = not takes && eqb i n

unfoldable pub who_takes : ℕ → Run → List ℕ
who_takes n r = map (λ (p : Pending). p.txn) (filterb (λ (p : Pending). takes_number n p.operation) r.pending)

unfoldable pub who_reads : ℕ → Run → List ℕ
who_reads n r =
    filterb (λ t. not (anyb (eqb t) (who_takes n r)))
    (map (λ (p : Pending). p.txn) (filterb (λ (p : Pending). reads_number n p.operation) r.pending))

unfoldable pub committed_told : Run → Kept → Told
committed_told r k =
    record { kept = k; private_to = 0; takers = who_takes k.number r; readers = who_reads k.number r }

-- what a live transaction has written and not taken
unfoldable pub private_told : Run → Pending → List Told
private_told r p = elim p.operation [
  | adds k ↦ cond (anyb (eqb p.txn) (who_takes k.number r)) []
      (record { kept = k; private_to = p.txn; takers = []; readers = [] } ∷ [])
  | finds takes n x ↦ []
]

unfoldable pub told : Run → List Told
told r =
    filterb (λ (x : Told). not (reached r.clock x.kept.end))
    (map (committed_told r) r.kept ++ joined (map (private_told r) r.pending))

-- a stored entry is as it is told
pub record AsTold (ts : List Txn) (e : Entry) (x : Told) : Type 0 where
  pub kept : kept_of e ≡ x.kept
  pub private_to : e.private_to.0 ≡ x.private_to
  pub taken_by : (t : ℕ) → (0 < t) → (e.taken_by.0 ≡ t) ↔ Memᴰ t x.takers
  pub readers : (t : Txn) → Memᴰ t ts → (bit t.slot e.readers ≡ true) ↔ Memᴰ t.id.0 x.readers

-- the space stores what its answers tell, held as they tell
pub record Explained (r : Run) (m : Model) : Type 0 where
  pub stored_told : (e : Entry) → Memᴰ e m.entries → (x : Told) × Memᴰ x (told r) × AsTold m.txns e x
  pub told_stored : (x : Told) → Memᴰ x (told r) → (e : Entry) × Memᴰ e m.entries × AsTold m.txns e x
  pub holders_live : (e : Entry) (p : ℕ) → Memᴰ e m.entries → bit p e.readers ≡ true
      → (t : Txn) × Memᴰ t m.txns × (t.slot ≡ p)
  -- each entry is stored once, and each live transaction has a slot of its own
  pub once : distinct (map (λ (e : Entry). e.id.0) m.entries) ≡ true
  pub own_slot : (t u : Txn) → Memᴰ t m.txns → Memᴰ u m.txns → t.slot ≡ u.slot → t ≡ u
