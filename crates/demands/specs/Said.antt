-- Demand 2, what a step says: the frame's own record, then what every step ends with; every record, and no other, in
-- document 01's order. (What a step leaves in the tables is told by `Book` and `Told`.)
use Rattle.std.specs.Prelude.{◌+◌, ◌≤◌, Bool, true, false, cond, not, ◌&&◌, ◌||◌, ◌≡◌, eqb, length}
use mathlib.Core.List.{List, [], ◌∷◌, ◌++◌, map, Memᴰ}
use Rattle.rules.specs.declared.Entry.{Entry}
use Rattle.rules.specs.declared.LookUp.{LookUp}
use Rattle.rules.specs.declared.Record.{Record}
use Rattle.rules.specs.declared.Registration.{Registration}
use Rattle.rules.specs.declared.Txn.{Txn}
use Rattle.rules.specs.Lists.{filterb, joined}
use Rattle.rules.specs.Time.{reached}
use Rattle.rules.specs.Template.{matches}
use Rattle.rules.specs.State.{Model, with_entries, with_waits}
use Rattle.rules.specs.Holds.{available, some_available, some_conflicts}
use Rattle.rules.specs.Frame.{Frame, is_write, is_look_up, is_if_exists, is_create, is_commit, is_abort, is_renew}
use Rattle.rules.specs.Frame.{is_notify}
use Rattle.rules.specs.Frame.{is_tick}
use Rattle.rules.specs.Records.{written, found, nothing, waiting, created, committed, aborted, exception, ticked}
use Rattle.rules.specs.Records.{renewed, notified, rung}
use Rattle.rules.specs.Write.{stored}
use Rattle.rules.specs.LookUp.{look_up_of, hand_out}
use Rattle.rules.specs.Transactions.{create, commit, abort}
use Rattle.rules.specs.Renew.{renew}
use Rattle.rules.specs.Notify.{notify, made_public, heard_of, with_total}
use Rattle.rules.specs.Tick.{tick, abort_all}

-- with no entry available: "timeout 0 gives nothing", and "the IfExists kinds .. give nothing if none" conflicts
abbrev pub in_vain : Frame → Model → Bool
in_vain f m =
    eqb f.lease_or_timeout 0
    || is_if_exists f.op && not (some_conflicts m.txns (look_up_of m f) m.entries)

-- "Where several entries are available, found now hands out the one with the lowest entry number .. for immediate and
-- served look-ups alike" (document 02, T-02): e is stored, available, and no available entry has a lower number
pub record Oldest (ts : List Txn) (w : LookUp) (es : List Entry) (e : Entry) : Type 0 where
  pub stored : Memᴰ e es
  pub is_available : available ts w e ≡ true
  pub lowest : (x : Entry) → Memᴰ x es → available ts w x ≡ true → e.id.0 ≤ x.id.0

-- "What each frame does" of its own: the frame's own record, and the tables then
pub data Own (f : Frame) (m : Model) : Record → Model → Type 0 where
  -- registrations hear of what a write or a commit makes public (document 02, T-03)
  writes : is_write f.op ≡ true → Own f m (written f m.next_entry) (heard_of (made_public m f) (stored m f))
  -- "Found, if an entry is available."
  finds : (e : Entry) → is_look_up f.op ≡ true
      → Oldest m.txns (look_up_of m f) m.entries e
      → Own f m (found (look_up_of m f) e) (with_entries (hand_out m.txns (look_up_of m f) e m.entries) m)
  finds_none : is_look_up f.op ≡ true
      → some_available m.txns (look_up_of m f) m.entries ≡ false
      → in_vain f m ≡ true
      → Own f m (nothing (look_up_of m f)) m
  -- "Otherwise read and take wait; the IfExists kinds wait if some entry conflicts."
  waits : is_look_up f.op ≡ true
      → some_available m.txns (look_up_of m f) m.entries ≡ false
      → in_vain f m ≡ false
      → Own f m (waiting (look_up_of m f)) (with_waits (m.waits ++ (look_up_of m f ∷ [])) m)
  creates : is_create f.op ≡ true → Own f m (created f m.next_txn) (create m f).model
  commits : is_commit f.op ≡ true → Own f m (committed f) (heard_of (made_public m f) (commit f.txn m))
  aborts : is_abort f.op ≡ true → Own f m (aborted f) (abort f.txn m)
  -- "the entry then ends at clock + lease .. Lease 0 removes it in this step" (document 02, T-05)
  renews : is_renew f.op ≡ true → Own f m (renewed f) (renew m f).model
  -- "answered by kind 10 with a registration number, counted from 1, in the entry place" (document 02, T-03)
  notifies : is_notify f.op ≡ true → Own f m (notified f m.next_registration) (notify m f).model
  -- "the clock advances"; registrations that end now go
  ticks : is_tick f.op ≡ true → Own f m ticked (tick m).model

-- "The waiting look-ups are gone through once in order of arrival, and each with an available entry is answered found":
-- from the entries and the waiting look-ups to the founds in the order served, the look-ups that wait on, and the
-- entries then
pub data Serves (ts : List Txn) : List Entry → List LookUp → List Record → List LookUp → List Entry → Type 0 where
  gone_through : (es : List Entry) → Serves ts es [] [] [] es
  -- found, with the oldest entry that is available at its turn
  is_found : (w : LookUp) (e : Entry) {es xs : List Entry} {ws left : List LookUp} {founds : List Record}
      → Oldest ts w es e
      → Serves ts (hand_out ts w e es) ws founds left xs
      → Serves ts es (w ∷ ws) (found w e ∷ founds) left xs
  -- passed over, since none is available at its turn
  waits_on : (w : LookUp) {es xs : List Entry} {ws left : List LookUp} {founds : List Record}
      → some_available ts w es ≡ false
      → Serves ts es ws founds left xs
      → Serves ts es (w ∷ ws) founds (w ∷ left) xs

-- "Service. After a write outside transactions, a commit, an abort, and within a tick"
abbrev pub is_served : Frame → Bool
is_served f = cond (is_write f.op) (eqb f.txn 0) (is_commit f.op || is_abort f.op || is_tick f.op)

pub data Service (f : Frame) (m : Model) : List Record → List LookUp → List Entry → Type 0 where
  follows : {founds : List Record} {left : List LookUp} {xs : List Entry} → is_served f ≡ true
      → Serves m.txns m.entries m.waits founds left xs
      → Service f m founds left xs
  follows_not : is_served f ≡ false → Service f m [] m.waits m.entries

-- In a tick: "transactions that end now are aborted, by number, each with an exception ..; stored entries that end now
-- are removed, held or not"
abbrev pub end_now : Model → List Txn
end_now m = filterb (λ t. reached m.clock t.end) m.txns

abbrev pub entries_left : Model → List Entry
entries_left m = filterb (λ e. not (reached m.clock e.end)) m.entries

abbrev pub exceptions : Frame → Model → List Record
exceptions f m = cond (is_tick f.op) (map exception (end_now m)) []

abbrev pub lapsed : Frame → Model → Model
lapsed f m = let n = abort_all (end_now m) m in cond (is_tick f.op) (with_entries (entries_left n) n) m

-- "After every frame that is not refused, once service is over, a waiting IfExists look-up with no conflicting entry
-- left gets nothing, in order of arrival, with the other nothings. .. except that the deadline still ends them"
-- (document 02, T-07): whether a look-up that waits is given nothing, when the entries are these
abbrev pub given_nothing : Model → List Entry → LookUp → Bool
given_nothing m es w =
    reached m.clock w.deadline || w.if_exists && not (some_conflicts m.txns w es)

abbrev pub nothings : Model → List Entry → List LookUp → List Record
nothings m es left = map nothing (filterb (given_nothing m es) left)

-- What every step ends with: "then exceptions, founds in the order served, nothings."
pub data Ends (f : Frame) (m : Model) : List Record → Type 0 where
  in_order : {founds : List Record} {left : List LookUp} {xs : List Entry} → Service f (lapsed f m) founds left xs
      → Ends f m (exceptions f m ++ founds ++ nothings (lapsed f m) xs left)

-- "each registration that matches some gives one record of kind 11 to its party, after all others, by number:
-- registration number in the entry place, count in this step in kind, total so far in side" (document 02, T-03)
unfoldable pub bell : List Entry → Registration → List Record
bell es g =
    let count = length (filterb (λ (e : Entry). matches g.mask g.fields e.fields) es) in
    cond (eqb count 0) [] (rung count (with_total (g.total + count) g) ∷ [])

abbrev pub bells : Frame → Model → List Record
bells f m = joined (map (bell (made_public m f)) m.registrations)

-- "The frame's own record comes first"
pub data Said (f : Frame) (m : Model) : List Record → Type 0 where
  own_first : {own : Record} {n : Model} {rest : List Record} → Own f m own n → Ends f n rest
      → Said f m (own ∷ rest ++ bells f m)
