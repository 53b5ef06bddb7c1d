-- What every space is that frames can make of the empty one: the condition on which the code's contract speaks of a
-- frame that is carried out. The empty space has it, and each step keeps it (crate `sound`).
use Rattle.std.specs.Prelude.{ℕ, ◌+◌, ◌≤◌, ◌<◌, Bool, true, false, not, ◌≡◌, ◌⊎◌, eqb, length}
use mathlib.Core.List.{List, [], ◌∷◌, map, Memᴰ}
use Rattle.rules.specs.declared.Entry.{Entry}
use Rattle.rules.specs.declared.Txn.{Txn}
use Rattle.rules.specs.declared.LookUp.{LookUp}
use Rattle.rules.specs.declared.Registration.{Registration}
use Rattle.rules.specs.Lists.{All, filterb}
use Rattle.rules.specs.Numbers.{max_party}
use Rattle.rules.specs.Time.{reached}
use Rattle.rules.specs.Template.{bit}
use Rattle.rules.specs.State.{Model}
use Rattle.rules.specs.Holds.{some_available, some_conflicts}
use Rattle.rules.specs.Transactions.{is_private_to}

-- ---- who waits
-- parties are 1 to 16
pub record IsParty (p : ℕ) : Type 0 where
  pub first : 1 ≤ p
  pub last : p ≤ max_party

abbrev pub of_party : ℕ → LookUp → Bool
of_party p w = eqb w.party p

-- "A party has at most one waiting look-up."
abbrev pub OneEach : Model → Type 0
OneEach m = (p : ℕ) → length (filterb (of_party p) m.waits) ≤ 1

-- ---- numbers
-- each number is below all that stand after it
unfoldable pub Ascending : List ℕ → Type 0
Ascending [] = Unit {0}
Ascending (n ∷ ns) = ((k : ℕ) → Memᴰ k ns → n < k) × Ascending ns

-- transactions stand by number
abbrev pub Ordered : List Txn → Type 0
Ordered ts = Ascending (map (λ (t : Txn). t.id.0) ts)

-- the entries, the live transactions and registrations stand by number, none twice
pub record ByNumber (m : Model) : Type 0 where
  pub entries : Ascending (map (λ (e : Entry). e.id.0) m.entries)
  pub txns : Ordered m.txns
  pub registrations : Ascending (map (λ (g : Registration). g.id.0) m.registrations)

-- numbers and slots of the live transactions
pub record TxnsOk (n : ℕ) (ts : List Txn) : Type 0 where
  pub unique : (a b : Txn) → Memᴰ a ts → Memᴰ b ts → a.id.0 ≡ b.id.0 → a ≡ b
  pub slot : (a b : Txn) → Memᴰ a ts → Memᴰ b ts → a.slot ≡ b.slot → a ≡ b
  pub above : All (λ t. 0 < t.id.0) ts
  pub below : All (λ t. t.id.0 < n) ts

-- ---- who holds what
-- a live transaction with a number; and of a party; at a slot
abbrev pub Live : ℕ → List Txn → Type 0
Live t ts = (x : Txn) × Memᴰ x ts × (x.id.0 ≡ t)

abbrev pub LiveOf : ℕ → ℕ → List Txn → Type 0
LiveOf t party ts = (x : Txn) × Memᴰ x ts × (x.id.0 ≡ t) × (x.party ≡ party)

abbrev pub At : ℕ → List Txn → Type 0
At p ts = (x : Txn) × Memᴰ x ts × (x.slot ≡ p)

-- the number of a live transaction, or of none
abbrev pub Ok : ℕ → List Txn → Type 0
Ok t ts = (t ≡ 0) ⊎ Live t ts

pub record EntryOk (ts : List Txn) (e : Entry) : Type 0 where
  -- it is committed, or nobody holds it
  pub own : (e.private_to.0 ≡ 0) ⊎ ((e.taken_by.0 ≡ 0) × (e.readers ≡ 0))
  -- it is private to, taken and read by live transactions
  pub owner : Ok e.private_to.0 ts
  pub taker : Ok e.taken_by.0 ts
  pub readers : (p : ℕ) → bit p e.readers ≡ true → At p ts
  -- what is taken nobody reads
  pub unread : (e.taken_by.0 ≡ 0) ⊎ (e.readers ≡ 0)

-- ---- who hears of what
-- the private entries have numbers too: what is made public of them is still to be counted
abbrev pub privates : Model → List Entry
privates m = filterb (λ e. not (is_private_to 0 e)) m.entries

-- so a registration's total, and what may be added to it, is at most the next entry's number
abbrev pub Tallied : Model → Registration → Type 0
Tallied m g = g.total + length (privates m) ≤ m.next_entry

-- ---- in the midst of a step, too
pub record Consistent (m : Model) : Type 0 where
  pub ordered : ByNumber m
  pub below : All (λ e. e.id.0 < m.next_entry) m.entries
  pub held : All (EntryOk m.txns) m.entries
  pub txns_ok : TxnsOk m.next_txn m.txns
  pub positive : 0 < m.next_txn
  pub registered : All (λ g. g.id.0 < m.next_registration) m.registrations
  pub tallied : All (Tallied m) m.registrations
  -- a look-up waits in no transaction, or in a live one of its party; a party waits once
  pub owned : All (λ w. (w.txn.0 ≡ 0) ⊎ LiveOf w.txn.0 w.party m.txns) m.waits
  pub parties : All (λ w. IsParty w.party) m.waits
  pub each : OneEach m

-- ---- and when it is over
-- every deadline lies ahead, and so does the end of every entry's lease
abbrev pub Ahead : Model → Type 0
Ahead m = All (λ w. reached m.clock w.deadline ≡ false) m.waits

abbrev pub Lasting : Model → Type 0
Lasting m = All (λ e. reached m.clock e.end ≡ false) m.entries

-- nobody who waits has an available entry, and nobody waits in vain
abbrev pub NoneFor : Model → Type 0
NoneFor m = All (λ w. some_available m.txns w m.entries ≡ false) m.waits

abbrev pub Hopeful : Model → Type 0
Hopeful m = All (λ w. w.if_exists ≡ true → some_conflicts m.txns w m.entries ≡ true) m.waits

pub record Sound (m : Model) : Type 0 where
  pub consistent : Consistent m
  pub ahead : Ahead m
  pub lasting : Lasting m
  pub none_for : NoneFor m
  pub hopeful : Hopeful m
