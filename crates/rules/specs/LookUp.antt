-- Look-ups: what is handed out, and what is answered at once.
use Rattle.std.specs.Prelude.{ℕ, Bool, not, cond, ◌&&◌, ◌||◌, List, [], ◌∷◌, ◌++◌, map, eqb}
use Rattle.std.proofs.Math.Option.{Option, none, some}
use Rattle.rules.specs.declared.Entry.{Entry}
use Rattle.rules.specs.declared.Txn.{Txn}
use Rattle.rules.specs.declared.TxnId.{TxnId}
use Rattle.rules.specs.declared.LookUp.{LookUp}
use Rattle.rules.specs.Lists.{filterb}
use Rattle.rules.specs.Time.{until}
use Rattle.rules.specs.State.{Model, holding, with_entries, with_waits}
use Rattle.rules.specs.Holds.{live_txn, add_reader_of, drop_reader_of, oldest, some_conflicts}
use Rattle.rules.specs.Frame.{Frame, is_look_up, is_take, is_if_exists}
use Rattle.rules.specs.Records.{found, nothing, waiting}
use Rattle.rules.specs.Done.{Carried}

-- the look-up that a frame asks for
unfoldable pub look_up_of : Model → Frame → LookUp
look_up_of m f =
    record {
      party = f.party;
      takes = is_take f.op;
      if_exists = is_if_exists f.op;
      mask = f.mask;
      fields = f.fields;
      txn = record { 0 = f.txn };
      deadline = until m.clock f.lease_or_timeout;
    }

-- whether handing the entry out removes it: a take outside transactions, or of the transaction's own private entry
unfoldable pub removes : LookUp → Entry → Bool
removes w e = w.takes && eqb e.private_to.0 w.txn.0

-- a committed entry with the transaction's read hold, or with its take hold and no longer its read hold; `add` puts it
-- among the read holders, `drop` takes it from them
abbrev pub held_by : (ℕ → ℕ) → (ℕ → ℕ) → Bool → TxnId → Entry → Entry
held_by add drop takes t e =
    holding e e.private_to (cond takes t e.taken_by) (cond takes (drop e.readers) (add e.readers))

unfoldable pub with_hold : List Txn → LookUp → Entry → Entry
with_hold ts w e =
    let own = live_txn w.txn.0 ts in held_by (add_reader_of own) (drop_reader_of own) w.takes w.txn e

-- the entry as it stays: a read outside transactions, or of the transaction's own private entry, leaves no mark
unfoldable pub marked : List Txn → LookUp → Entry → Entry
marked ts w e = cond (eqb e.private_to.0 w.txn.0) e (with_hold ts w e)

abbrev pub is_entry : Entry → Entry → Bool
is_entry e x = eqb x.id.0 e.id.0

-- the entries once e is handed out to the look-up
unfoldable pub hand_out : List Txn → LookUp → Entry → List Entry → List Entry
hand_out ts w e es =
    cond (removes w e) (filterb (λ x. not (is_entry e x)) es) (map (λ x. cond (is_entry e x) (marked ts w x) x) es)

-- with no entry available: nothing at timeout 0, and for the IfExists kinds where none conflicts; otherwise the
-- look-up waits
unfoldable pub gives_nothing : Model → LookUp → ℕ → Bool
gives_nothing m w timeout = eqb timeout 0 || w.if_exists && not (some_conflicts m.txns w m.entries)

-- the three answers
unfoldable pub answer_found : Model → LookUp → Entry → Carried
answer_found m w e = record { model = with_entries (hand_out m.txns w e m.entries) m; own = found w e }

unfoldable pub answer_nothing : Model → LookUp → Carried
answer_nothing m w = record { model = m; own = nothing w }

unfoldable pub answer_waiting : Model → LookUp → Carried
answer_waiting m w = record { model = with_waits (m.waits ++ (w ∷ [])) m; own = waiting w }

unfoldable pub answer : Model → LookUp → ℕ → Option Entry → Carried
answer m w timeout (some e) = answer_found m w e
answer m w timeout none = cond (gives_nothing m w timeout) (answer_nothing m w) (answer_waiting m w)

unfoldable pub look_up : Model → Frame → Carried
look_up m f = let w = look_up_of m f in answer m w f.lease_or_timeout (oldest m.txns w m.entries)

-- a step begins with the frame's look-up, if it is one: it arrives last
unfoldable pub asked : Model → Frame → Model
asked m f = cond (is_look_up f.op) (with_waits (m.waits ++ (look_up_of m f ∷ [])) m) m
