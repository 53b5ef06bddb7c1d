-- What is known of a space beside its words, so that a step need not look for it. Hints may say less than is so, never
-- more.
use Rattle.std.specs.Prelude.{ℕ, ◌%◌, ◌≤◌, ◌<◌, Bool, true, false, ◌⊎◌, ◌≡◌, List, [], ◌∷◌, ◌++◌, get_or}
use Rattle.rules.specs.declared.Entry.{Entry}
use Rattle.rules.specs.declared.LookUp.{LookUp}
use Rattle.rules.specs.declared.Txn.{Txn}
use Rattle.rules.specs.declared.until.Until.{Until}
use Rattle.rules.specs.Lists.{All}
use Rattle.rules.specs.Numbers.{forever}
use Rattle.rules.specs.State.{Model}
use Rattle.rules.specs.Template.{bit}
use Rattle.rules.specs.Time.{reached}
use Rattle.hints.specs.declared.known.Hints.{Hints}

-- flags of the parties that wait, by the remainder of the party's number
abbrev pub flag_count : ℕ
flag_count = 32

abbrev pub has_flag : Hints → ℕ → Bool
has_flag hs party = get_or hs.flags (party % flag_count) false

-- no clock before the tick n has reached the end
abbrev pub NotBefore : ℕ → Until → Type 0
NotBefore n end = (clock : ℕ) → clock < n → reached clock end ≡ false

-- no lease ends before it, nor anyone's time to wait
pub record EndsFrom (n : ℕ) (m : Model) : Type 0 where
  pub entries : All (λ e. NotBefore n e.end) m.entries
  pub txns : All (λ t. NotBefore n t.end) m.txns
  pub waits : All (λ w. NotBefore n w.deadline) m.waits
  pub registrations : All (λ g. NotBefore n g.end) m.registrations

-- the party of a look-up has a flag
abbrev pub Flagged : Hints → LookUp → Type 0
Flagged hs w = has_flag hs w.party ≡ true

-- hints that say no more than others
pub record Weaker (hs hs' : Hints) : Type 0 where
  pub falls : hs'.least ≤ hs.least
  pub stays : (party : ℕ) → has_flag hs party ≡ true → has_flag hs' party ≡ true
  pub grows : hs.acted ≤ hs'.acted

-- they know of the look-up that waits last
abbrev pub Knows : Hints → List LookUp → Type 0
Knows hs ws =
    (vs : List LookUp) (w : LookUp) → ws ≡ vs ++ (w ∷ []) → NotBefore hs.least w.deadline × Flagged hs w

-- the transaction has nothing of the entry
pub record Apart (t : Txn) (e : Entry) : Type 0 where
  pub unwritten : e.private_to.0 ≡ t.id.0 → ⊥
  pub untaken : e.taken_by.0 ≡ t.id.0 → ⊥
  pub unread : bit t.slot e.readers ≡ false

-- nor of any, and nobody waits inside
pub record Idle (m : Model) (t : Txn) : Type 0 where
  pub apart : All (Apart t) m.entries
  pub outside : All (λ w. w.txn.0 ≡ t.id.0 → ⊥) m.waits

abbrev pub IdleAbove : ℕ → Model → Type 0
IdleAbove n m = All (λ t. n < t.id.0 → Idle m t) m.txns

-- what the hints say is so of the space
pub record Reliable (hs : Hints) (m : Model) : Type 0 where
  pub ends : EndsFrom hs.least m
  pub flagged : All (Flagged hs) m.waits
  pub idle : hs.acted < forever → IdleAbove hs.acted m

-- ends and flags told from the space anew; or hints left as they are
pub record Anew (hs : Hints) (m : Model) (hs' : Hints) : Type 0 where
  pub ends : EndsFrom hs'.least m
  pub flagged : All (Flagged hs') m.waits
  pub same : hs'.acted ≡ hs.acted

abbrev pub Renewed : Hints → Model → Hints → Type 0
Renewed hs m hs' = (hs' ≡ hs) ⊎ Anew hs m hs'
