-- Renew: "the entry then ends at clock + lease, or never for FOREVER. Lease 0 removes it in this step" (document 02,
-- T-05).
use Rattle.std.specs.Prelude.{ℕ, Bool, not, cond, List, map, eqb}
use Rattle.std.proofs.Math.Option.{Option}
use Rattle.rules.specs.declared.Entry.{Entry}
use Rattle.rules.specs.declared.until.Until.{Until}
use Rattle.rules.specs.Lists.{filterb, findb}
use Rattle.rules.specs.Time.{until}
use Rattle.rules.specs.State.{Model, with_entries}
use Rattle.rules.specs.Frame.{Frame, entry_named}
use Rattle.rules.specs.Records.{renewed}
use Rattle.rules.specs.Done.{Carried}

abbrev pub has_number : ℕ → Entry → Bool
has_number n e = eqb e.id.0 n

-- the stored entry with a number
unfoldable pub stored_entry : ℕ → List Entry → Option Entry
stored_entry n es = findb (has_number n) es

-- the same entry with another end
abbrev pub ending_at : Until → Entry → Entry
ending_at end e =
    record {
      id = e.id;
      fields = e.fields;
      end = end;
      private_to = e.private_to;
      taken_by = e.taken_by;
      readers = e.readers;
      writer = e.writer;
    }

-- the entries once the one with number n ends then, or without it
abbrev pub renewed_to : ℕ → Until → List Entry → List Entry
renewed_to n end es = map (λ e. cond (has_number n e) (ending_at end e) e) es

abbrev pub without_entry : ℕ → List Entry → List Entry
without_entry n es = filterb (λ e. not (has_number n e)) es

unfoldable pub renew_entries : Model → Frame → List Entry
renew_entries m f =
    cond (eqb f.lease_or_timeout 0) (without_entry (entry_named f) m.entries)
    (renewed_to (entry_named f) (until m.clock f.lease_or_timeout) m.entries)

unfoldable pub renew : Model → Frame → Carried
renew m f = record { model = with_entries (renew_entries m f) m; own = renewed f }
