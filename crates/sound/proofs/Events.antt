-- The events of a step: each is small, and at most one thing is heard of it, that the frame's look-up arrives, or a
-- record. A new operation is a constructor here, its part in EventsProof, and a clause in each lemma that goes by
-- events (in Becomes, ConsistentProof and SoundProof; in demands AnswersProof, BookProof, BoundsRange and
-- SerialRunProof).
use Prim.Native.Nat.{ℕ, ◌≤◌, ◌<◌}
use mathlib.Core.Bool.{Bool, true, false, cond, not, ◌&&◌}
use mathlib.Core.Logic.{◌⊎◌}
use mathlib.Core.Path.{◌≡◌}
use mathlib.Core.List.{List, [], ◌∷◌, ◌++◌, map, append_assoc, Memᴰ}
use lib.ListN.{length}
use Rattle.rules.specs.declared.Entry.{Entry}
use Rattle.rules.specs.declared.Record.{Record}
use Rattle.rules.specs.declared.Txn.{Txn}
use Rattle.rules.specs.declared.LookUp.{LookUp}
use Rattle.rules.specs.declared.Registration.{Registration}
use Rattle.rules.specs.Numbers.{forever, last_clock, max_txns, max_registrations}
use Rattle.rules.specs.Time.{until, reached, EndFits}
use Rattle.rules.specs.State.{Model, with_entries, with_waits}
use Rattle.rules.specs.Holds.{available, some_available, some_conflicts}
use Rattle.rules.specs.Frame.{Frame, decode, is_write, is_look_up, is_create, is_commit, is_abort, is_tick}
use Rattle.rules.specs.Frame.{has_lease_or_timeout}
use Rattle.rules.specs.Frame.{ends_txn, is_renew, is_notify, names_entry, entry_named}
use Rattle.rules.specs.Records.{written, found, nothing, waiting, created, committed, aborted, exception, ticked}
use Rattle.rules.specs.Records.{renewed, notified, rung, refused}
use Rattle.rules.specs.Write.{stored}
use Rattle.rules.specs.LookUp.{look_up_of, hand_out}
use Rattle.rules.specs.Transactions.{create, commit, abort}
use Rattle.rules.specs.Renew.{renew}
use Rattle.rules.specs.Notify.{notify, made_public, heard_of}
use Rattle.rules.specs.Tick.{tick, drop_ended}
use Rattle.rules.specs.Refusals.{malformed, refusal}
use Rattle.rules.specs.SerialRun.{was_refused}
use Rattle.rules.specs.Sound.{LiveOf, IsParty, Lasting}
use Rattle.sound.proofs.AllLaws.{Out}

-- what a renewal names: it is stored, the party wrote it, it is committed, and nobody holds it
pub record Renewable (f : Frame) (m : Model) : Type 0 where
  pub entry : Entry
  pub stored : Memᴰ entry m.entries
  pub number : entry.id.0 ≡ entry_named f
  pub writer : entry.writer ≡ f.party
  pub committed : entry.private_to.0 ≡ 0
  pub untaken : entry.taken_by.0 ≡ 0
  pub unread : entry.readers ≡ 0

-- what the refusal table lets pass, when the step before is over
pub record Admitted (f : Frame) (m : Model) : Type 0 where
  pub formed : malformed f ≡ false
  -- nothing stored is past its lease
  pub lasting : Lasting m
  pub renewable : is_renew f.op ≡ true → Renewable f m
  -- but for a renewal, outside transactions, or in a live one of the party; a commit or abort in one
  pub inside : names_entry f.op ≡ false → (f.txn ≡ 0) ⊎ LiveOf f.txn f.party m.txns
  pub ends : ends_txn f.op ≡ true → LiveOf f.txn f.party m.txns
  -- the party does not wait, unless the frame is an abort
  pub free : is_abort f.op ≡ false → (w : LookUp) → Memᴰ w m.waits → w.party ≡ f.party → ⊥
  -- it is 1 to 16, but for a tick
  pub party : is_tick f.op ≡ false → IsParty f.party
  -- a lease or timeout ends in time, and so does the clock
  pub in_time : has_lease_or_timeout f.op ≡ true → EndFits (until m.clock f.lease_or_timeout)
  pub ticks_on : is_tick f.op ≡ true → m.clock < last_clock
  -- there is a slot and a number for what is made
  pub slot-left : is_create f.op ≡ true → length m.txns < max_txns
  pub entry-number : is_write f.op ≡ true → m.next_entry < forever
  pub txn-number : is_create f.op ≡ true → m.next_txn < forever
  pub registration_left : is_notify f.op ≡ true → length m.registrations < max_registrations
  pub registration_number : is_notify f.op ≡ true → m.next_registration < forever

-- what is heard of a step: that the frame's look-up arrives, and records
pub data Heard : Type 0 where
  asking : Heard
  saying : Record → Heard

-- why a look-up is given nothing: its deadline is reached, or an IfExists kind has no conflicting entry. (That none is
-- available is told of whole steps: EventsProof, AnswersProof.)
abbrev pub Closes : Model → LookUp → Type 0
Closes m w = (reached m.clock w.deadline ≡ true)
    ⊎ ((w.if_exists ≡ true) × (some_conflicts m.txns w m.entries ≡ false))

pub data Event (f : Frame) : Model → List Heard → Model → Type 0 where
  refuses : (m : Model) (bs : List ℕ) (area : ℕ) → decode bs ≡ f
      → Event f m (saying (refused bs (refusal m bs area)) ∷ []) m
  -- the frame's look-up arrives last
  asks : (m : Model) → is_look_up f.op ≡ true → Admitted f m
      → Event f m (asking ∷ []) (with_waits (m.waits ++ (look_up_of m f ∷ [])) m)
  writes : (m : Model) → is_write f.op ≡ true → Admitted f m
      → Event f m (saying (written f m.next_entry) ∷ []) (heard_of (made_public m f) (stored m f))
  -- the entry is stored and available just then; the look-up waits no longer
  is_found : (m : Model) (w : LookUp) (e : Entry) (ws : List LookUp) → Out w m.waits ws → Memᴰ e m.entries
      → available m.txns w e ≡ true
      → Event f m (saying (found w e) ∷ []) (with_entries (hand_out m.txns w e m.entries) (with_waits ws m))
  is_nothing : (m : Model) (w : LookUp) (ws : List LookUp) → Out w m.waits ws
      → Closes m w → Event f m (saying (nothing w) ∷ []) (with_waits ws m)
  -- it stays, since none is available, its deadline lies ahead, and for an IfExists kind some entry conflicts
  is_waiting : (m : Model) (w : LookUp) → Memᴰ w m.waits → w ≡ look_up_of m f
      → some_available m.txns w m.entries ≡ false → reached m.clock w.deadline ≡ false
      → (w.if_exists ≡ true → some_conflicts m.txns w m.entries ≡ true) → Event f m (saying (waiting w) ∷ []) m
  creates : (m : Model) → is_create f.op ≡ true → Admitted f m
      → Event f m (saying (created f m.next_txn) ∷ []) (create m f).model
  commits : (m : Model) → is_commit f.op ≡ true → Admitted f m
      → Event f m (saying (committed f) ∷ []) (heard_of (made_public m f) (commit f.txn m))
  aborts : (m : Model) → is_abort f.op ≡ true → Admitted f m → Event f m (saying (aborted f) ∷ []) (abort f.txn m)
  renews : (m : Model) → is_renew f.op ≡ true → Admitted f m → Event f m (saying (renewed f) ∷ []) (renew m f).model
  notifies : (m : Model) → is_notify f.op ≡ true → Admitted f m
      → Event f m (saying (notified f m.next_registration) ∷ []) (notify m f).model
  ticks : (m : Model) → is_tick f.op ≡ true → Admitted f m
      → Event f m (saying ticked ∷ []) (tick m).model
  -- the transaction is live and ends just then
  excepts : (m : Model) (t : Txn) → is_tick f.op ≡ true → Memᴰ t m.txns → reached m.clock t.end ≡ true
      → Event f m (saying (exception t) ∷ []) (abort t.id.0 m)
  -- entries that end now are removed
  expires : (m : Model) → is_tick f.op ≡ true → Event f m [] (drop_ended m)
  -- a live registration has heard of entries, counted in its total
  rings : (m : Model) (count : ℕ) (g : Registration) → Memᴰ g m.registrations → count ≤ g.total
      → Event f m (saying (rung count g) ∷ []) m

-- one after the other
pub data Events (f : Frame) : Model → List Heard → Model → Type 0 where
  over : {m : Model} → Events f m [] m
  then : {m n o : Model} {hs ks : List Heard} → Event f m hs n → Events f n ks o → Events f m (hs ++ ks) o

pub join : {f : Frame} {m n o : Model} {hs ks : List Heard} → Events f m hs n → Events f n ks o
    → Events f m (hs ++ ks) o
join over u = u
join (then e t) u = rw append_assoc (then e (join t u))

-- of a frame's step are heard the arrival of its look-up, unless it is refused, and the records
abbrev pub heard : Frame → List Record → List Heard
heard f rs = cond (is_look_up f.op && not (was_refused rs)) (asking ∷ map saying rs) (map saying rs)

-- whether a record passes a test is heard
abbrev pub says : (Record → Bool) → Heard → Bool
says p asking = false
says p (saying a) = p a
