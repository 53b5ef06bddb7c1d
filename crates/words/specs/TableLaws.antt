-- The four tables of a space: each lies within its words and holds the rows of its model, and a model is known once one
-- of them is written.
use Rattle.std.specs.Prelude.{ℕ, ◌≡◌, List}
use Rattle.std.proofs.Common.{refl, arith}
use Rattle.rules.specs.declared.Entry.{Entry}
use Rattle.rules.specs.declared.LookUp.{LookUp}
use Rattle.rules.specs.declared.Registration.{Registration}
use Rattle.rules.specs.declared.Txn.{Txn}
use Rattle.rules.specs.Numbers.{max_entries, max_txns, max_waits, max_registrations}
use Rattle.rules.specs.State.{with_entries, with_txns, with_waits, with_registrations}
use Rattle.rules.specs.Words.{view, entries, entries_at, entry_width, entry_count_at, txns, txns_at, txn_width}
use Rattle.rules.specs.Words.{txn_count_at, waits, waits_at, wait_width, wait_count_at, registrations}
use Rattle.rules.specs.Words.{registrations_at, registration_width, registration_count_at}
use Rattle.tables.specs.Table.{Placed, Turned, all}
use Rattle.tables.specs.Tables.{entry_table, txn_table, wait_table, registration_table}
use Rattle.tables.proofs.Tables.{view-entries, view-txns, view-waits, view-registrations}

pub entries_placed : Placed entry_table entries_at entry_width max_entries entry_count_at
entries_placed =
    record {
      is_base = refl;
      is_width = refl;
      is_most = refl;
      is_count_at = refl;
      within = omega arith;
      some = omega arith;
      few = omega arith;
    }

pub entries_in : (ws : List ℕ) → (view ws).entries ≡ all entry_table ws
unfolding view entries
entries_in ws = refl

pub entries_turned : (ws ws₀ : List ℕ) (xs : List Entry) → Turned entry_table ws ws₀ xs
    → view ws ≡ with_entries xs (view ws₀)
entries_turned ws ws₀ xs = view-entries ws ws₀

pub txns_placed : Placed txn_table txns_at txn_width max_txns txn_count_at
txns_placed =
    record {
      is_base = refl;
      is_width = refl;
      is_most = refl;
      is_count_at = refl;
      within = omega arith;
      some = omega arith;
      few = omega arith;
    }

pub txns_in : (ws : List ℕ) → (view ws).txns ≡ all txn_table ws
unfolding view txns
txns_in ws = refl

pub txns_turned : (ws ws₀ : List ℕ) (xs : List Txn) → Turned txn_table ws ws₀ xs → view ws ≡ with_txns xs (view ws₀)
txns_turned ws ws₀ xs = view-txns ws ws₀

pub waits_placed : Placed wait_table waits_at wait_width max_waits wait_count_at
waits_placed =
    record {
      is_base = refl;
      is_width = refl;
      is_most = refl;
      is_count_at = refl;
      within = omega arith;
      some = omega arith;
      few = omega arith;
    }

pub waits_in : (ws : List ℕ) → (view ws).waits ≡ all wait_table ws
unfolding view waits
waits_in ws = refl

pub waits_turned : (ws ws₀ : List ℕ) (xs : List LookUp) → Turned wait_table ws ws₀ xs
    → view ws ≡ with_waits xs (view ws₀)
waits_turned ws ws₀ xs = view-waits ws ws₀

pub registrations_placed :
    Placed registration_table registrations_at registration_width max_registrations registration_count_at
registrations_placed =
    record {
      is_base = refl;
      is_width = refl;
      is_most = refl;
      is_count_at = refl;
      within = omega arith;
      some = omega arith;
      few = omega arith;
    }

pub registrations_in : (ws : List ℕ) → (view ws).registrations ≡ all registration_table ws
unfolding view registrations
registrations_in ws = refl

pub registrations_turned : (ws ws₀ : List ℕ) (xs : List Registration) → Turned registration_table ws ws₀ xs
    → view ws ≡ with_registrations xs (view ws₀)
registrations_turned ws ws₀ xs = view-registrations ws ws₀
