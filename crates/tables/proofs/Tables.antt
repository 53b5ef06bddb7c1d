-- The four tables of a space: how a row is read and what it can hold, and the model once one of them is written.
use Prim.Native.Nat.{ℕ, zero, suc, ◌+◌, ◌*◌, ◌<◌}
use mathlib.Core.Bool.{Bool, true, false, cond}
use mathlib.Core.Path.{◌≡◌, refl, sym, ap, ◌∙◌}
use mathlib.Core.List.{List}
use native.Mathlib.Omega.{arith}
use native.Mathlib.Nat.{mod-eq_of_lt}
use borrow.Author.Tests.{eqb-true}
use lib.Dec.{eqb, lit<}
use lib.ListN.{length, get_or, set}
use lib.Seq.{get_or-set_same}
use Rattle.rules.specs.Template.{bare}
use Rattle.rules.specs.declared.Entry.{Entry}
use Rattle.rules.specs.declared.LookUp.{LookUp}
use Rattle.rules.specs.declared.Registration.{Registration}
use Rattle.rules.specs.declared.Txn.{Txn}
use Rattle.rules.specs.declared.TxnId.{TxnId}
use Rattle.rules.specs.Frame.{is_take, is_if_exists, look_up_op}
use Rattle.rules.specs.Numbers.{forever, max_txns}
use Rattle.rules.specs.State.{Model, holding, with_entries, with_txns, with_waits, with_clock, with_next_entry}
use Rattle.rules.specs.State.{with_next_txn}
use Rattle.rules.specs.State.{with_registrations, with_next_registration}
use Rattle.rules.specs.Words.{registration_words, registration_of, registrations, next_registration_at}
use Rattle.rules.specs.Words.{registration_count, until_of, until_word}
use Rattle.rules.specs.Words.{entry_words}
use Rattle.rules.specs.Words.{txn_words, wait_words, entry_of, txn_of, wait_of, entries, row, txns, waits, view}
use Rattle.rules.specs.Words.{clock_at}
use Rattle.rules.specs.Words.{next_entry_at, next_txn_at, entry_count}
use Rattle.rules.specs.Words.{txn_count}
use Rattle.rules.specs.Words.{wait_count, entries_at, entry_width}
use Rattle.rules.specs.Words.{space_words}
use Rattle.rules.proofs.NumberLaws.{three_bytes}
use Rattle.rules.proofs.BoolLaws.{cond_cases}
use Rattle.tables.specs.Rows.{entry_row, txn_row, wait_row, registration_row, field_at, FitsWord, byte_values}
use Rattle.tables.specs.Table.{Table, all, But, Turned}
use Rattle.tables.specs.Tables.{entry_table, txn_table, wait_table, registration_table}
use Rattle.tables.proofs.RowLaws.{but_set, clear, word_kept, row_word}
use Rattle.tables.proofs.SearchLaws.{Rows}
use Rattle.tables.proofs.UpToLaws.{get_or-up_to}
use Rattle.tables.proofs.Table.{apart, kept, length-all}

-- ---- the model is the numbers and the tables: once words differ, each that has none of them is as it was
module _ {c lo hi : ℕ} {ws ws₀ : List ℕ} (b : But c lo hi ws ws₀) where
  number : (k : ℕ) → get_or ws k 0 ≡ cond (clear c lo hi k) (get_or ws₀ k 0) (get_or ws k 0)
  number k = cond_cases (λ x. get_or ws k 0 ≡ x) (clear c lo hi k) (λ e. word_kept b k e) (λ e. refl)

  rows : {A : Type 0} (t : Table A) → all t ws ≡ cond (apart t c lo hi) (all t ws₀) (all t ws)
  rows t = cond_cases (λ x. all t ws ≡ x) (apart t c lo hi) (λ e. kept t b e) (λ e. refl)

  abbrev seen : Model
  seen =
      record {
        clock = cond (clear c lo hi clock_at) (view ws₀).clock (get_or ws clock_at 0);
        next_entry = cond (clear c lo hi next_entry_at) (view ws₀).next_entry (get_or ws next_entry_at 0);
        next_txn = cond (clear c lo hi next_txn_at) (view ws₀).next_txn (get_or ws next_txn_at 0);
        next_registration = cond (clear c lo hi next_registration_at) (view ws₀).next_registration
            (get_or ws next_registration_at 0);
        entries = cond (apart entry_table c lo hi) (view ws₀).entries (all entry_table ws);
        txns = cond (apart txn_table c lo hi) (view ws₀).txns (all txn_table ws);
        waits = cond (apart wait_table c lo hi) (view ws₀).waits (all wait_table ws);
        registrations =
            cond (apart registration_table c lo hi) (view ws₀).registrations (all registration_table ws);
      }

  view_but : view ws ≡ seen
  unfolding view entries txns waits registrations
  view_but =
      λ i. record {
        clock = number clock_at i;
        next_entry = number next_entry_at i;
        next_txn = number next_txn_at i;
        next_registration = number next_registration_at i;
        entries = rows entry_table i;
        txns = rows txn_table i;
        waits = rows wait_table i;
        registrations = rows registration_table i;
      }

-- so only what is written is told anew
module _ (ws ws₀ : List ℕ) where
  pub view-entries : {xs : List Entry} → Turned entry_table ws ws₀ xs → view ws ≡ with_entries xs (view ws₀)
  view-entries h = view_but h.but ∙ ap (λ xs. with_entries xs (view ws₀)) h.now

  pub view-txns : {xs : List Txn} → Turned txn_table ws ws₀ xs → view ws ≡ with_txns xs (view ws₀)
  view-txns h = view_but h.but ∙ ap (λ xs. with_txns xs (view ws₀)) h.now

  pub view-waits : {xs : List LookUp} → Turned wait_table ws ws₀ xs → view ws ≡ with_waits xs (view ws₀)
  view-waits h = view_but h.but ∙ ap (λ xs. with_waits xs (view ws₀)) h.now

  pub view-registrations : {xs : List Registration} → Turned registration_table ws ws₀ xs
      → view ws ≡ with_registrations xs (view ws₀)
  view-registrations h = view_but h.but ∙ ap (λ xs. with_registrations xs (view ws₀)) h.now

module _ (ws : List ℕ) (v : ℕ) (l : length ws ≡ space_words) where
  new : (k : ℕ) → k < entries_at → get_or (set ws k v) k 0 ≡ v
  new k h = get_or-set_same ws k v 0 (omega arith)

  pub view-clock : view (set ws clock_at v) ≡ with_clock v (view ws)
  view-clock = view_but (but_set clock_at 0 0 ws v) ∙ ap (λ n. with_clock n (view ws)) (new clock_at (lit< tt))

  pub view-next-entry : view (set ws next_entry_at v) ≡ with_next_entry v (view ws)
  view-next-entry =
      view_but (but_set next_entry_at 0 0 ws v) ∙ ap (λ n. with_next_entry n (view ws)) (new next_entry_at (lit< tt))

  pub view-next-txn : view (set ws next_txn_at v) ≡ with_next_txn v (view ws)
  view-next-txn = view_but (but_set next_txn_at 0 0 ws v)
      ∙ ap (λ n. with_next_txn n (view ws)) (new next_txn_at (lit< tt))

  pub view-next_registration : view (set ws next_registration_at v) ≡ with_next_registration v (view ws)
  view-next_registration =
      view_but (but_set next_registration_at 0 0 ws v)
      ∙ ap (λ n. with_next_registration n (view ws)) (new next_registration_at (lit< tt))

-- ---- the tables as the code reads them
pub entries-read : (ws : List ℕ) → Rows (view ws).entries (entry_row ws) (entry_count ws)
unfolding view entries
entries-read ws = record { is = refl }

pub entry_in : (ws : List ℕ) (i : ℕ) (d : Entry) → i < entry_count ws → get_or (view ws).entries i d ≡ entry_row ws i
unfolding view entries
entry_in ws i d h = get_or-up_to (entry_row ws) (entry_count ws) i d h

pub txns-read : (ws : List ℕ) → Rows (view ws).txns (txn_row ws) (txn_count ws)
unfolding view txns
txns-read ws = record { is = refl }

pub waits-read : (ws : List ℕ) → Rows (view ws).waits (wait_row ws) (wait_count ws)
unfolding view waits
waits-read ws = record { is = refl }

pub registrations-read : (ws : List ℕ) → Rows (view ws).registrations (registration_row ws) (registration_count ws)
unfolding view registrations
registrations-read ws = record { is = refl }

pub registration_in : (ws : List ℕ) (i : ℕ) (d : Registration) → i < registration_count ws
    → get_or (view ws).registrations i d ≡ registration_row ws i
unfolding view registrations
registration_in ws i d h = get_or-up_to (registration_row ws) (registration_count ws) i d h

pub length-registrations : (ws : List ℕ) → length (view ws).registrations ≡ registration_count ws
unfolding view registrations
length-registrations ws = length-all registration_table ws

pub length-entries : (ws : List ℕ) → length (view ws).entries ≡ entry_count ws
unfolding view entries
length-entries ws = length-all entry_table ws

pub length-txns : (ws : List ℕ) → length (view ws).txns ≡ txn_count ws
unfolding view txns
length-txns ws = length-all txn_table ws

pub length-waits : (ws : List ℕ) → length (view ws).waits ≡ wait_count ws
unfolding view waits
length-waits ws = length-all wait_table ws

-- the field of an entry at a column, by its word
pub field_word : (ws : List ℕ) (i k : ℕ) → k < 4
    → field_at k (bare (entry_row ws i).fields) ≡ get_or ws (entries_at + 1 + entry_width * i + k) 0
unfolding entry_of
field_word ws i k h =
    go k h ∙ row_word entries_at entry_width i (1 + k) ws (omega arith) ∙ ap (λ j. get_or ws j 0) (omega arith)
  where
    go : (k : ℕ) → k < 4 → field_at k (bare (entry_row ws i).fields)
        ≡ get_or (row entries_at entry_width ws i) (1 + k) 0
    go zero h = refl
    go (suc zero) h = refl
    go (suc (suc zero)) h = refl
    go (suc (suc (suc zero))) h = refl
    go (suc (suc (suc (suc k)))) h = absurd (omega arith)

-- ---- what a row can hold is read back
-- an end that was read from a word is written as that word
pub until_back : (n : ℕ) → until_word (until_of n) ≡ n
unfolding until_of
until_back n = cond_cases (λ u. until_word u ≡ n) (eqb n forever) (λ e. sym (eqb-true n forever e)) (λ e. refl)

pub record Storable (e : Entry) : Type 0 where
  pub readers-fit : e.readers < byte_values
  pub blanks-fit : e.fields.blanks < byte_values
  pub writer_fits : e.writer < byte_values
  pub end_fits : FitsWord e.end

pub end_read : (r : List ℕ) → FitsWord (entry_of r).end
unfolding entry_of
end_read r = ap until_of (until_back _)

-- and so is an entry that was read from one, with other holders
pub held_fits : (r : List ℕ) (owner taker : TxnId) (holders : ℕ) → holders < byte_values
    → Storable (holding (entry_of r) owner taker holders)
unfolding entry_of
held_fits r owner taker holders h =
    record { readers-fit = h; blanks-fit = omega arith; writer_fits = omega arith; end_fits = end_read r }

pub entry_back : (e : Entry) → Storable e → entry_of (entry_words e) ≡ e
unfolding entry_of
entry_back e s =
    let parts = three_bytes e.readers e.fields.blanks e.writer s.readers-fit s.blanks-fit
    s.writer_fits in
    rw (s.end_fits, parts.0, parts.1, parts.2)

pub record Txnable (t : Txn) : Type 0 where
  pub party-fits : t.party < byte_values
  pub slot-fits : t.slot < max_txns
  pub end_fits : FitsWord t.end

pub txn_back : (t : Txn) → Txnable t → txn_of (txn_words t) ≡ t
unfolding txn_of
txn_back t s = rw (s.end_fits, mod-eq_of_lt s.party-fits, mod-eq_of_lt s.slot-fits)

pub record Waitable (w : LookUp) : Type 0 where
  pub party-fits : w.party < byte_values
  pub mask_fits : w.mask < byte_values
  pub deadline_fits : FitsWord w.deadline

op_back : (t i : Bool) → (is_take (look_up_op t i) ≡ t) × (is_if_exists (look_up_op t i) ≡ i)
op_back true true = (refl, refl)
op_back true false = (refl, refl)
op_back false true = (refl, refl)
op_back false false = (refl, refl)

pub wait_back : (w : LookUp) → Waitable w → wait_of (wait_words w) ≡ w
unfolding wait_of
wait_back w s =
    let o = op_back w.takes w.if_exists in
    rw (s.deadline_fits, mod-eq_of_lt s.party-fits, mod-eq_of_lt s.mask_fits, o.0, o.1)

pub record Registrable (g : Registration) : Type 0 where
  pub party-fits : g.party < byte_values
  pub mask_fits : g.mask < byte_values
  pub end_fits : FitsWord g.end

pub registration_back : (g : Registration) → Registrable g → registration_of (registration_words g) ≡ g
unfolding registration_of
registration_back g s = rw (s.end_fits, mod-eq_of_lt s.party-fits, mod-eq_of_lt s.mask_fits)
