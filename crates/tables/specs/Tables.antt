-- The four tables of a space.
use Rattle.rules.specs.declared.Entry.{Entry}
use Rattle.rules.specs.declared.LookUp.{LookUp}
use Rattle.rules.specs.declared.Registration.{Registration}
use Rattle.rules.specs.declared.Txn.{Txn}
use Rattle.rules.specs.Numbers.{max_entries, max_txns, max_waits, max_registrations}
use Rattle.rules.specs.Words.{entries_at, entry_width, entry_count_at, entry_of, txns_at, txn_width, txn_count_at}
use Rattle.rules.specs.Words.{txn_of, waits_at, wait_width, wait_count_at, wait_of, registrations_at}
use Rattle.rules.specs.Words.{registration_width, registration_count_at, registration_of}
use Rattle.std.proofs.Common.{arith}
use Rattle.tables.specs.Table.{Table, table_of}

abbrev pub entry_table : Table Entry
entry_table = table_of entries_at entry_width max_entries entry_count_at entry_of (omega arith)

abbrev pub txn_table : Table Txn
txn_table = table_of txns_at txn_width max_txns txn_count_at txn_of (omega arith)

abbrev pub wait_table : Table LookUp
wait_table = table_of waits_at wait_width max_waits wait_count_at wait_of (omega arith)

abbrev pub registration_table : Table Registration
registration_table =
    table_of registrations_at registration_width max_registrations registration_count_at registration_of (omega arith)
