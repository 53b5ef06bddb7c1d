-- Create, commit and abort.
use Rattle.std.specs.Prelude.{ℕ, ◌+◌, Bool, not, cond, List, [], ◌∷◌, ◌++◌, map, eqb}
use Rattle.std.proofs.Math.Option.{Option, none, some}
use Rattle.rules.specs.declared.Entry.{Entry}
use Rattle.rules.specs.declared.TxnId.{TxnId}
use Rattle.rules.specs.declared.Txn.{Txn}
use Rattle.rules.specs.Lists.{filterb, findb, anyb}
use Rattle.rules.specs.Time.{until}
use Rattle.rules.specs.State.{Model, holding, with_entries, with_txns, with_waits, with_next_txn}
use Rattle.rules.specs.Holds.{live_txn, drop_reader_of}
use Rattle.rules.specs.Frame.{Frame}
use Rattle.rules.specs.Records.{created}
use Rattle.rules.specs.Done.{Carried}

abbrev pub or_zero : Option ℕ → ℕ
or_zero none = 0
or_zero (some p) = p

-- the first of the eight slots that no live transaction has ("Freed places are used again"); create is refused where
-- there is none
unfoldable pub free_slot : List Txn → ℕ
free_slot ts =
    or_zero (findb (λ p. not (anyb (λ (t : Txn). eqb t.slot p) ts)) (0 ∷ 1 ∷ 2 ∷ 3 ∷ 4 ∷ 5 ∷ 6 ∷ 7 ∷ []))

unfoldable pub create : Model → Frame → Carried
create m f =
    let t : Txn =
    record {
      id = record { 0 = m.next_txn };
      party = f.party;
      end = until m.clock f.lease_or_timeout;
      slot = free_slot m.txns;
    } in
    record {
      model = with_next_txn (m.next_txn + 1) (with_txns (m.txns ++ (t ∷ [])) m);
      own = created f m.next_txn;
    }

abbrev pub no_txn : TxnId
no_txn = record { 0 = 0 }

abbrev pub is_private_to : ℕ → Entry → Bool
is_private_to t e = eqb e.private_to.0 t

abbrev pub is_taken_by : ℕ → Entry → Bool
is_taken_by t e = eqb e.taken_by.0 t

-- an entry that is t's own no longer and that t holds no longer; `drop` takes t from the read holders
abbrev pub released_by : (ℕ → ℕ) → ℕ → Entry → Entry
released_by drop t e =
    holding e (cond (is_private_to t e) no_txn e.private_to) (cond (is_taken_by t e) no_txn e.taken_by)
    (drop e.readers)

unfoldable pub released : List Txn → ℕ → Entry → Entry
released ts t e = released_by (drop_reader_of (live_txn t ts)) t e

unfoldable pub without_txn : ℕ → List Txn → List Txn
without_txn t ts = filterb (λ x. not (eqb x.id.0 t)) ts

-- "Private entries become committed, take-held ones are removed, read holds go."
unfoldable pub commit : ℕ → Model → Model
commit t m =
    with_entries (map (released m.txns t) (filterb (λ e. not (is_taken_by t e)) m.entries))
    (with_txns (without_txn t m.txns) m)

-- "Private entries are removed, both kinds of hold go." A look-up that waits inside is closed with it: by the exception
-- of a tick, or withdrawn by its party's own abort (document 02, T-01)
unfoldable pub abort : ℕ → Model → Model
abort t m =
    with_entries (map (released m.txns t) (filterb (λ e. not (is_private_to t e)) m.entries))
    (with_txns (without_txn t m.txns) (with_waits (filterb (λ w. not (eqb w.txn.0 t)) m.waits) m))
