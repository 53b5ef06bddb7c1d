-- Demand 2, the registrations (document 02, T-03): who is registered, and which entries have been made public since,
-- told from frames and records alone, by the serial run's set.
use Rattle.std.specs.Prelude.{ℕ, ◌+◌, Bool, true, not, cond, ◌&&◌, ◌||◌, ◌≡◌, List, [], ◌∷◌, ◌++◌, map, eqb, length}
use Rattle.rules.specs.declared.Fields.{Fields}
use Rattle.rules.specs.declared.Record.{Record}
use Rattle.rules.specs.declared.Registration.{Registration}
use Rattle.rules.specs.declared.until.Until.{Until}
use Rattle.rules.specs.Numbers.{kind_written, kind_committed, kind_ticked, kind_notified}
use Rattle.rules.specs.Lists.{filterb, anyb}
use Rattle.rules.specs.Time.{until, reached}
use Rattle.rules.specs.Template.{matches}
use Rattle.rules.specs.State.{Model}
use Rattle.rules.specs.Frame.{Frame, decode}
use Rattle.rules.specs.SerialRun.{Logged, Kept, Run, start, follow, note_look_up, left}

-- a record by which "stored entries become committed by a write or commit"
abbrev pub publishes : Record → Bool
publishes a = eqb a.kind kind_written || eqb a.kind kind_committed

-- what it makes public: the entries in the serial run's set once it has followed the record whose numbers were not in
-- it before, those past their lease aside
unfoldable pub published : Frame → Record → Run → List Kept
published f a r =
    filterb (λ k. not (anyb (λ (j : Kept). eqb j.number k.number) (left r))) (left (follow f a r))

-- a live registration, with the entries made public since
pub record Registered : Type 0 where
  pub number : ℕ
  pub party : ℕ
  pub mask : ℕ
  pub fields : Fields
  pub end : Until
  pub since : List Kept

pub record Registry : Type 0 where
  pub run : Run
  -- the number that the next registration gets
  pub next : ℕ
  -- by number
  pub live : List Registered
  -- whether each number so far was the next
  pub right : Bool

abbrev pub no_registry : Registry
no_registry = record { run = start; next = 1; live = []; right = true }

-- the registration that a record of kind 10 is the answer to
abbrev pub registered_by : Frame → Record → ℕ → Registered
registered_by f a clock =
    record {
      number = a.entry.0;
      party = f.party;
      mask = f.mask;
      fields = f.fields;
      end = until clock f.lease_or_timeout;
      since = [];
    }

abbrev pub hears_of : List Kept → Registered → Registered
hears_of ks g =
    record {
      number = g.number;
      party = g.party;
      mask = g.mask;
      fields = g.fields;
      end = g.end;
      since = g.since ++ ks;
    }

-- who is registered after a record: one more; in a tick without those whose lease ends; and all hear of what is made
-- public
abbrev pub live_after : Frame → Record → Registry → List Registered
live_after f a b =
    cond (eqb a.kind kind_notified) (b.live ++ (registered_by f a b.run.clock ∷ []))
    (cond (eqb a.kind kind_ticked)
    (filterb (λ (g : Registered). not (reached (b.run.clock + 1) g.end)) b.live)
    (cond (publishes a) (map (hears_of (published f a b.run)) b.live) b.live))

unfoldable pub registers : Frame → Record → Registry → Registry
registers f a b =
    record {
      run = follow f a b.run;
      next = cond (eqb a.kind kind_notified) (b.next + 1) b.next;
      live = live_after f a b;
      right = b.right && cond (eqb a.kind kind_notified) (eqb a.entry.0 b.next) true;
    }

unfoldable pub registers_all : Frame → List Record → Registry → Registry
registers_all f [] b = b
registers_all f (a ∷ later) b = registers_all f later (registers f a b)

-- the serial run notes look-ups
unfoldable pub notes : Frame → List Record → Registry → Registry
notes f rs b = record { run = note_look_up f rs b.run; next = b.next; live = b.live; right = b.right }

unfoldable pub keep_registry : List Logged → Registry → Registry
keep_registry [] b = b
keep_registry (l ∷ ls) b =
    let f = decode l.frame in keep_registry ls (registers_all f l.records (notes f l.records b))

unfoldable pub registry_of : List Logged → Registry
registry_of log = keep_registry log no_registry

-- "The total is to equal the matching entries made public in the history since the registration."
unfoldable pub total_of : Registered → ℕ
total_of g = length (filterb (λ (k : Kept). matches g.mask g.fields k.fields) g.since)

abbrev pub as_registered : Registered → Registration
as_registered g =
    record {
      id = record { 0 = g.number };
      party = g.party;
      mask = g.mask;
      fields = g.fields;
      end = g.end;
      total = total_of g;
    }

-- each number was the next, and the space's registrations, with their totals, are what frames and records tell
pub record RegisteredIn (b : Registry) (m : Model) : Type 0 where
  pub right : b.right ≡ true
  pub next : b.next ≡ m.next_registration
  pub live : m.registrations ≡ map as_registered b.live
