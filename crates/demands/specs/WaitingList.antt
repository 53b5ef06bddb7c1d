-- "The waiting list explained by its history" (document 02, T-11). "After every list of frames from an empty space: no
-- waiting look-up has an available entry; and look-ups not refused = found + nothing + look-ups closed by an exception
-- or abort + still waiting, the last counted in the space and the others from frames and answers alone."
use Rattle.std.specs.Prelude.{ℕ, ◌+◌, Bool, false, not, cond, ◌&&◌, ◌||◌, ◌≡◌, eqb, length}
use mathlib.Core.List.{List, [], ◌∷◌, ◌++◌, Memᴰ}
use Rattle.rules.specs.declared.LookUp.{LookUp}
use Rattle.rules.specs.declared.Record.{Record}
use Rattle.rules.specs.Numbers.{kind_found, kind_nothing, kind_aborted, kind_exception}
use Rattle.rules.specs.Lists.{filterb}
use Rattle.rules.specs.State.{Model}
use Rattle.rules.specs.Holds.{some_available}
use Rattle.rules.specs.Frame.{decode, is_look_up}
use Rattle.rules.specs.SerialRun.{Logged, was_refused}
use Rattle.rules.specs.Log.{records_of}
use Rattle.demands.specs.Machine.{Machine, the_rules}
use Rattle.demands.specs.History.{EveryState}
use Rattle.demands.specs.Answers.{closes}
use Rattle.demands.specs.Demands.{Demand1, Demand2}

-- a look-up that is not refused
abbrev pub is_asked : Logged → Bool
is_asked l = is_look_up (decode l.frame).op && not (was_refused l.records)

-- how a look-up of a party in a transaction is closed: the kind of the first record, from its own step on, that closes
-- it (found, nothing, the exception or the abort of its transaction); 0: it still waits
unfoldable pub closed_as : ℕ → ℕ → List Record → ℕ
closed_as p t [] = 0
closed_as p t (a ∷ later) = cond (closes p t a) a.kind (closed_as p t later)

-- so of each look-up that is not refused, in order
unfoldable pub fates : List Logged → List ℕ
fates [] = []
fates (l ∷ later) =
    let f = decode l.frame in
    cond (is_asked l) (closed_as f.party f.txn (l.records ++ records_of later) ∷ fates later) (fates later)

abbrev pub is_found_kind : ℕ → Bool
is_found_kind k = eqb k kind_found

abbrev pub is_nothing_kind : ℕ → Bool
is_nothing_kind k = eqb k kind_nothing

abbrev pub by_txn : ℕ → Bool
by_txn k = eqb k kind_exception || eqb k kind_aborted

-- how many pass a test; how many records of a history have a kind that does
abbrev pub number : {A : Type 0} → (A → Bool) → List A → ℕ
number p xs = length (filterb p xs)

abbrev pub said : (ℕ → Bool) → List Logged → ℕ
said q log = number (λ (a : Record). q a.kind) (records_of log)

-- the sums of a history
pub record Tally : Type 0 where
  -- look-ups not refused
  pub asked : ℕ
  -- records of these kinds
  pub found : ℕ
  pub nothing : ℕ
  -- look-ups closed by an exception or abort
  pub closed : ℕ

-- from frames and answers alone
abbrev pub tally_of : List Logged → Tally
tally_of log =
    record {
      asked = number is_asked log;
      found = said is_found_kind log;
      nothing = said is_nothing_kind log;
      closed = number by_txn (fates log);
    }

abbrev pub Balances : Tally → Model → Type 0
Balances s m = s.asked ≡ s.found + s.nothing + s.closed + length m.waits

pub record WaitingList (S : Machine) : Type 0 where
  pub none_available : EveryState S (λ log t. (w : LookUp) → Memᴰ w (S.view t).waits
      → some_available (S.view t).txns w (S.view t).entries ≡ false)
  pub balances : EveryState S (λ log t. Balances (tally_of log) (S.view t))
  -- each found and each nothing closes one look-up: as many look-ups are closed by them as there are records
  pub founds : EveryState S (λ log t. said is_found_kind log ≡ number is_found_kind (fates log))
  pub nothings : EveryState S (λ log t. said is_nothing_kind log ≡ number is_nothing_kind (fates log))

-- of every space that meets the demands
unfoldable pub WaitingListFollows : Type 1
WaitingListFollows = (S : Machine) → Demand1 S → Demand2 S → WaitingList S

-- Wrong tallies, by the same words: none of them balances after every history, not even of the rules.
abbrev pub Explains : (List Logged → Tally) → Type 0
Explains tally = EveryState the_rules (λ log m. Balances (tally log) m)

-- a tally with other sums of nothings and of look-ups closed by an exception or abort
abbrev pub counting : (List Logged → ℕ) → (List Logged → ℕ) → List Logged → Tally
counting nothings closed log =
    record { asked = number is_asked log; found = said is_found_kind log; nothing = nothings log; closed = closed log }

pub record WrongTallies : Type 0 where
  -- a withdrawn look-up counted as one that got nothing, too
  pub withdrawn_as_nothing : Explains (counting
      (λ log. said is_nothing_kind log + number (λ k. eqb k kind_aborted) (fates log))
      (λ log. number by_txn (fates log))) → ⊥
  -- exceptions alone
  pub without_aborts : Explains
      (counting (said is_nothing_kind) (λ log. number (λ k. eqb k kind_exception) (fates log))) → ⊥
  -- every exception and abort, whether a look-up waited inside or not
  pub every_end : Explains (counting (said is_nothing_kind) (said by_txn)) → ⊥
