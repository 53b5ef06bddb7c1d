-- Write: an entry is stored, committed or private to its transaction.
use Rattle.std.specs.Prelude.{◌+◌, cond, [], ◌∷◌, ◌++◌, eqb}
use Rattle.rules.specs.declared.Entry.{Entry}
use Rattle.rules.specs.Time.{until}
use Rattle.rules.specs.State.{Model, with_entries, with_next_entry}
use Rattle.rules.specs.Template.{mark_of}
use Rattle.rules.specs.Frame.{Frame}
use Rattle.rules.specs.Records.{written}
use Rattle.rules.specs.Done.{Carried}

-- the entry that a write makes
unfoldable pub new_entry : Model → Frame → Entry
new_entry m f =
    record {
      id = record { 0 = m.next_entry };
      fields = mark_of f.mask f.fields;
      end = until m.clock f.lease_or_timeout;
      private_to = record { 0 = f.txn };
      taken_by = record { 0 = 0 };
      readers = 0;
      writer = f.party;
    }

-- "Lease 0: the write is accepted and gets a number, but the entry is never stored or found."
unfoldable pub stored : Model → Frame → Model
stored m f =
    with_next_entry (m.next_entry + 1)
    (with_entries (cond (eqb f.lease_or_timeout 0) m.entries (m.entries ++ (new_entry m f ∷ []))) m)

unfoldable pub write : Model → Frame → Carried
write m f = record { model = stored m f; own = written f m.next_entry }
