-- What a pass over the entries does: which it keeps, and how it changes those.
use Rattle.std.specs.Prelude.{ℕ, Bool, true, false, cond, Option, Some, None, ◌||◌, ◌≡◌, List, map, take}
use Rattle.rules.specs.declared.Entry.{Entry}
use Rattle.rules.specs.declared.TxnId.{TxnId}
use Rattle.rules.specs.Lists.{filterb}
use Rattle.rules.specs.LookUp.{held_by}
use Rattle.rules.specs.State.{Model, with_entries}
use Rattle.rules.specs.Template.{bit}
use Rattle.rules.specs.Transactions.{is_private_to, is_taken_by, released_by}
use Rattle.available.specs.Readers.{add_at, drop_at}

-- an entry that is t's own no longer and that t, at slot p, holds no longer
unfoldable pub released_at : ℕ → ℕ → Entry → Entry
released_at t p e = released_by (drop_at p) t e

-- as it stays when it is handed out to a look-up of the transaction t, at slot p: t's own private entry, or a committed
-- one outside transactions, gets no mark
unfoldable pub marked_at : Bool → TxnId → ℕ → Entry → Entry
marked_at takes t p e = cond (is_private_to t.0 e) e (held_by (add_at p) (drop_at p) takes t e)

-- the transaction t, at slot p, has written the entry, or holds it
abbrev pub has_part : ℕ → ℕ → Entry → Bool
has_part t p e = is_private_to t e || is_taken_by t e || bit p e.readers

-- what a pass over the entries does not touch it keeps as it is, and it changes no end
pub record Spares (touch keep : Entry → Bool) (change : Entry → Entry) : Type 0 where
  pub spared : (e : Entry) → touch e ≡ false → (keep e ≡ true) × (change e ≡ e)
  pub same_end : (e : Entry) → (change e).end ≡ e.end

-- what a pass makes of an entry: none, where it does not keep it
abbrev pub passed : (Entry → Bool) → (Entry → Entry) → Entry → Option Entry
passed keep change e = cond (keep e) (Some (change e)) None

-- some entries are kept, and changed
abbrev pub swept : (Entry → Bool) → (Entry → Entry) → List Entry → List Entry
swept keep change es = map change (filterb keep es)

unfoldable pub sweep_model : (Entry → Bool) → (Entry → Entry) → Model → Model
sweep_model keep change m = with_entries (swept keep change m.entries) m

-- the entries before row r are the same
abbrev pub SameBefore : ℕ → Model → Model → Type 0
SameBefore r m n = take r n.entries ≡ take r m.entries
