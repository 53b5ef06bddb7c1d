-- What a look-up is answered: at once, after each step, and by its deadline. (`Consequences` says it of any space that
-- meets the demands.)
use Rattle.std.specs.Prelude.{ℕ, Bool, true, false, ◌&&◌, ◌||◌, ◌≡◌, ◌⊎◌, eqb}
use mathlib.Core.List.{List, ◌∷◌, map, Memᴰ}
use Rattle.rules.specs.declared.Entry.{Entry}
use Rattle.rules.specs.declared.LookUp.{LookUp}
use Rattle.rules.specs.declared.Record.{Record}
use Rattle.rules.specs.Numbers.{kind_found, kind_nothing, kind_aborted, kind_exception}
use Rattle.rules.specs.Time.{reached}
use Rattle.rules.specs.State.{Model}
use Rattle.rules.specs.Holds.{some_available, some_conflicts}
use Rattle.rules.specs.Records.{found, nothing, waiting}
use Rattle.rules.specs.LookUp.{gives_nothing}
use Rattle.demands.specs.Said.{Oldest}

-- a step's first record, and the nothings of those who wait in vain from now on
abbrev pub FirstOf : Record → List Record → Type 0
FirstOf own records = (ws : List LookUp) × (records ≡ own ∷ map nothing ws)

-- The own record of a look-up that is not refused, for the four kinds together: found exactly when an entry is
-- available, then with the oldest of those; nothing exactly under document 01's conditions (`gives_nothing`); else
-- waiting, behind those that wait. (The cases exclude each other, and so do the kinds of their records.)
pub record AnsweredNow (m : Model) (w : LookUp) (timeout : ℕ) (records : List Record) (n : Model) : Type 0 where
  pub found_case : some_available m.txns w m.entries ≡ true
      → (e : Entry) × Oldest m.txns w m.entries e × FirstOf (found w e) records
  pub nothing_case : some_available m.txns w m.entries ≡ false
      → gives_nothing m w timeout ≡ true
      → FirstOf (nothing w) records
  pub waiting_case : some_available m.txns w m.entries ≡ false
      → gives_nothing m w timeout ≡ false
      → FirstOf (waiting w) records × Memᴰ w n.waits

-- a permitted nothing, "read this way for the whole space" (document 02, T-07): no entry is available, and the deadline
-- is reached (at once, with timeout 0), or the look-up is of an IfExists kind and no entry conflicts
pub record Permitted (n : Model) (w : LookUp) : Type 0 where
  pub none_available : some_available n.txns w n.entries ≡ false
  pub in_vain : (reached n.clock w.deadline ≡ true)
      ⊎ ((w.if_exists ≡ true) × (some_conflicts n.txns w n.entries ≡ false))

-- an open look-up that a step gives nothing is permitted it when the step is over
abbrev pub NothingLeft : Model → List Record → Model → Type 0
NothingLeft m records n = (w : LookUp) → Memᴰ w m.waits → Memᴰ (nothing w) records → Permitted n w

-- after each step no waiting look-up has an available entry, every deadline lies ahead, and each of an IfExists kind
-- has a conflicting entry: so none waits in vain, FOREVER or not
pub record Settled (m : Model) : Type 0 where
  pub none_available : (w : LookUp) → Memᴰ w m.waits → some_available m.txns w m.entries ≡ false
  pub not_reached : (w : LookUp) → Memᴰ w m.waits → reached m.clock w.deadline ≡ false
  pub not_in_vain : (w : LookUp) → Memᴰ w m.waits → w.if_exists ≡ true
      → some_conflicts m.txns w m.entries ≡ true

-- whether a record closes a look-up of a party in a transaction: found, nothing, the transaction's exception, or its
-- abort ("A withdrawn look-up counts as closed by its timeout's end": document 02, T-01)
abbrev pub closes : ℕ → ℕ → Record → Bool
closes p t a =
    eqb a.party p
    && eqb a.txn.0 t
    && (eqb a.kind kind_found || eqb a.kind kind_nothing || eqb a.kind kind_exception
    || eqb a.kind kind_aborted)
