-- Notify: a registration, of which entries made public are heard (document 02, T-03).
use Rattle.std.specs.Prelude.{ℕ, ◌+◌, not, cond, ◌&&◌, List, [], ◌∷◌, ◌++◌, map, eqb, length}
use Rattle.rules.specs.declared.Entry.{Entry}
use Rattle.rules.specs.declared.Record.{Record}
use Rattle.rules.specs.declared.Registration.{Registration}
use Rattle.rules.specs.Lists.{filterb}
use Rattle.rules.specs.Time.{until}
use Rattle.rules.specs.State.{Model, with_registrations, with_next_registration}
use Rattle.rules.specs.Template.{matches}
use Rattle.rules.specs.Frame.{Frame, is_write, is_commit}
use Rattle.rules.specs.Records.{notified, rung}
use Rattle.rules.specs.Done.{Carried}
use Rattle.rules.specs.Write.{new_entry}
use Rattle.rules.specs.Transactions.{is_private_to, is_taken_by}

-- "takes a lease and a template .. and is answered by kind 10 with a registration number, counted from 1"
unfoldable pub new_registration : Model → Frame → Registration
new_registration m f =
    record {
      id = record { 0 = m.next_registration };
      party = f.party;
      mask = f.mask;
      fields = f.fields;
      end = until m.clock f.lease_or_timeout;
      total = 0;
    }

unfoldable pub notify : Model → Frame → Carried
notify m f =
    record {
      model =
          with_next_registration (m.next_registration + 1)
          (with_registrations (m.registrations ++ (new_registration m f ∷ [])) m);
      own = notified f m.next_registration;
    }

-- "stored entries become committed by a write or commit": outside transactions the one written, unless its lease is 0;
-- in a commit those private to the transaction that it leaves. An abort's "put-backs do not count"
unfoldable pub made_public : Model → Frame → List Entry
made_public m f =
    cond (is_write f.op) (cond (eqb f.txn 0 && not (eqb f.lease_or_timeout 0)) (new_entry m f ∷ []) [])
    (cond (is_commit f.op) (filterb (λ e. is_private_to f.txn e && not (is_taken_by f.txn e)) m.entries) [])

-- how many of some entries a registration matches: its "count in this step"
unfoldable pub matching : List Entry → Registration → ℕ
matching es g = length (filterb (λ e. matches g.mask g.fields e.fields) es)

-- its "total so far"
abbrev pub with_total : ℕ → Registration → Registration
with_total n g =
    record { id = g.id; party = g.party; mask = g.mask; fields = g.fields; end = g.end; total = n }

unfoldable pub hearing : List Entry → Registration → Registration
hearing es g = with_total (g.total + matching es g) g

unfoldable pub heard_of : List Entry → Model → Model
heard_of es m = with_registrations (map (hearing es) m.registrations) m

-- "each registration that matches some gives one record of kind 11 to its party, .. by number"
unfoldable pub ringing : List Entry → List Registration → List Record
ringing es gs = map (λ g. rung (matching es g) (hearing es g)) (filterb (λ g. not (eqb (matching es g) 0)) gs)
