-- The words of a model: every model that fits them is the view of some words.
use Prim.Native.Nat.{ℕ, zero, suc, ◌+◌, ◌-◌, ◌*◌, ◌≤◌, ◌<◌, min}
use mathlib.Core.Bool.{Bool, true, false}
use mathlib.Core.Path.{◌≡◌, refl, sym, ap, ap₂, ◌∙◌}
use mathlib.Core.List.Memᴰ
use mathlib.Core.List.{List, [], ◌∷◌, ◌++◌, map, append_assoc, append-nil}
use native.Mathlib.Omega.{arith}
use native.Mathlib.Nat.{mod-eq_of_lt, mul-zero, mul-suc, add_comm, mul-le-mul_left}
use borrow.Author.Tests.{ne_eqb}
use lib.ListN.{length, take, drop, length-append, replicate, length-replicate}
use lib.Seq.{take_at, drop_at, drop-drop}
use Rattle.rules.specs.declared.Entry.{Entry}
use Rattle.rules.specs.declared.Txn.{Txn}
use Rattle.rules.specs.declared.LookUp.{LookUp}
use Rattle.rules.specs.declared.Registration.{Registration}
use Rattle.rules.specs.declared.until.Until.{Until}
use Rattle.rules.specs.declared.until.Until.TheVariants.{Tick, Forever}
use Rattle.rules.specs.Numbers.{forever, max_entries, max_txns, max_waits, max_registrations}
use Rattle.rules.specs.Lists.{joined, All}
use Rattle.rules.specs.State.{Model, Bounded}
use Rattle.rules.specs.Frame.{look_up_op, is_take, is_if_exists}
use Rattle.rules.specs.Words.{up_to, row, table, until_of, until_word, entry_of, txn_of, wait_of, registration_of}
use Rattle.rules.specs.Words.{entries}
use Rattle.rules.specs.Words.{txns, waits, registrations, view, entry_words, txn_words, wait_words, entries_at}
use Rattle.rules.specs.Words.{entry_width}
use Rattle.rules.specs.Words.{txns_at, txn_width, waits_at, wait_width, registration_words, registrations_at}
use Rattle.rules.specs.Words.{registration_width}
use Rattle.rules.specs.Time.{EndFits}
use Rattle.rules.proofs.NumberLaws.{three_bytes}

-- ---- a table of words, with zeros behind its rows

module _ {A : Type 0} where
  -- the first of the values of a function, then the rest
  up_to_cons : (f : ℕ → A) (n : ℕ) → up_to f (suc n) ≡ f 0 ∷ up_to (λ k. f (suc k)) n
  up_to_cons f zero = refl
  up_to_cons f (suc n) = ap (λ (l : List A). l ++ (f (suc n) ∷ [])) (up_to_cons f n)

  up_to-same : (f g : ℕ → A) (n : ℕ) → ((k : ℕ) → f k ≡ g k) → up_to f n ≡ up_to g n
  up_to-same f g zero h = refl
  up_to-same f g (suc n) h = ap₂ (λ (l : List A) (x : A). l ++ (x ∷ [])) (up_to-same f g n h) (h n)

times_suc : (w k : ℕ) → w * suc k ≡ w + w * k
times_suc w k = mul-suc w k ∙ add_comm (w * k) w

packed : {A : Type 0} → ℕ → (A → List ℕ) → List A → List ℕ
packed n write xs = let rows = joined (map write xs) in rows ++ replicate (n - length rows) 0

module _ {A : Type 0} (read : List ℕ → A) (write : A → List ℕ) (w : ℕ) (wide : (x : A) → length (write x) ≡ w) where
  rows-length : (xs : List A) → length (joined (map write xs)) ≡ w * length xs
  rows-length [] = sym (mul-zero w)
  rows-length (x ∷ xs) =
      length-append (write x) (joined (map write xs)) ∙ ap₂ (λ a b. a + b) (wide x) (rows-length xs)
      ∙ sym (times_suc w (length xs))

  rows_back : (xs : List A) (rest : List ℕ) → All (λ x. read (write x) ≡ x) xs
      → up_to (λ k. read (take w (drop (w * k) (joined (map write xs) ++ rest)))) (length xs) ≡ xs
  rows_back [] rest h = refl
  rows_back (x ∷ xs) rest h =
      up_to_cons (λ k. read (take w (drop (w * k) ((write x ++ joined (map write xs)) ++ rest)))) (length xs)
      ∙ ap₂ {C = List A} (λ y ys. y ∷ ys)
      (ap₂ (λ j ws. read (take w (drop j ws))) (mul-zero w) assoc
      ∙ ap read (take_at (write x) (joined (map write xs) ++ rest) w (wide x)) ∙ h x (Memᴰ.head refl))
      (up_to-same _ _ (length xs) (λ k. ap (λ ws. read (take w ws)) (later k))
      ∙ rows_back xs rest (λ y i. h y (Memᴰ.tail i)))
    where
      assoc : (write x ++ joined (map write xs)) ++ rest ≡ write x ++ (joined (map write xs) ++ rest)
      assoc = append_assoc (write x) (joined (map write xs)) rest

      later : (k : ℕ)
          → drop (w * suc k) ((write x ++ joined (map write xs)) ++ rest) ≡ drop (w * k) (joined (map write xs) ++ rest)
      later k =
          ap₂ (λ (j : ℕ) (ws : List ℕ). drop j ws) (times_suc w k) assoc
          ∙ sym (drop-drop (w * k) w (write x ++ (joined (map write xs) ++ rest)))
          ∙ ap (drop (w * k)) (drop_at (write x) (joined (map write xs) ++ rest) w (wide x))

  -- the table is read back, and so is what stands behind it
  packed_back : (b most : ℕ) (ws : List ℕ) {rest : List ℕ} (xs : List A) → length xs ≤ most
      → All (λ x. read (write x) ≡ x) xs
      → drop b ws ≡ packed (w * most) write xs ++ rest
      → (table read b w (min (length xs) most) ws ≡ xs) × (drop (b + w * most) ws ≡ rest)
  unfolding row packed
  packed_back b most ws {rest} xs few h e =
      let rows = joined (map write xs) in
      let zeros = replicate {A = ℕ} (w * most - length rows) 0 in
      let count : min (length xs) most ≡ length xs = omega arith in
      let fits : w * length xs ≤ w * most = mul-le-mul_left w few in
      let size : length (rows ++ zeros) ≡ w * most =
      length-append rows zeros ∙ omega (arith, rows-length xs, length-replicate {A = ℕ} (w * most - length rows) 0) in (
        ap (λ n. table read b w n ws) count
            ∙ up_to-same _ _ (length xs)
            (λ k. ap (λ x. read (take w x))
            (sym (drop-drop (w * k) b ws) ∙ ap (drop (w * k)) (e ∙ append_assoc rows zeros rest)))
            ∙ rows_back xs (zeros ++ rest) h,
        sym (drop-drop (w * most) b ws) ∙ ap (drop (w * most)) e ∙ drop_at (rows ++ zeros) rest (w * most) size,
      )

-- ---- rows of entries, transactions, look-ups and registrations

until_back : (u : Until) → EndFits u → until_of (until_word u) ≡ u
unfolding until_of
until_back (Tick n) h = rw (ne_eqb n forever (λ q. omega arith))
until_back Forever h = refl

op_back : (a b : Bool) → (is_take (look_up_op a b) ≡ a) × (is_if_exists (look_up_op a b) ≡ b)
op_back true true = (refl, refl)
op_back true false = (refl, refl)
op_back false true = (refl, refl)
op_back false false = (refl, refl)

-- what the words of a row hold
abbrev EntryFits : Entry → Type 0
EntryFits e = (e.readers < 256) × ((e.fields.blanks < 256) × (e.writer < 256)) × EndFits e.end

abbrev TxnFits : Txn → Type 0
TxnFits t = (t.party < 256) × (t.slot < 8) × EndFits t.end

abbrev WaitFits : LookUp → Type 0
WaitFits w = (w.party < 256) × (w.mask < 256) × EndFits w.deadline

abbrev RegistrationFits : Registration → Type 0
RegistrationFits g = (g.party < 256) × (g.mask < 256) × EndFits g.end

entry_back : (e : Entry) → EntryFits e → entry_of (entry_words e) ≡ e
unfolding entry_of
entry_back e (r, (b, w), f) =
    let parts = three_bytes e.readers e.fields.blanks e.writer r b w in
    rw (until_back e.end f, parts.0, parts.1, parts.2)

txn_back : (t : Txn) → TxnFits t → txn_of (txn_words t) ≡ t
unfolding txn_of
txn_back t (p, s, f) = rw (until_back t.end f, mod-eq_of_lt p, mod-eq_of_lt s)

wait_back : (w : LookUp) → WaitFits w → wait_of (wait_words w) ≡ w
unfolding wait_of
wait_back w (p, k, f) =
    let op = op_back w.takes w.if_exists in
    rw (until_back w.deadline f, mod-eq_of_lt p, mod-eq_of_lt k, op.0, op.1)

registration_back : (g : Registration) → RegistrationFits g → registration_of (registration_words g) ≡ g
unfolding registration_of
registration_back g (p, k, f) = rw (until_back g.end f, mod-eq_of_lt p, mod-eq_of_lt k)

-- ---- the words of a model

words_of : Model → List ℕ
words_of m =
    (m.clock ∷ m.next_entry ∷ m.next_txn ∷ length m.entries ∷ length m.txns ∷ length m.waits
    ∷ m.next_registration ∷ length m.registrations ∷ [])
    ++ (packed (entry_width * max_entries) entry_words m.entries
    ++ (packed (txn_width * max_txns) txn_words m.txns
    ++ (packed (wait_width * max_waits) wait_words m.waits
    ++ packed (registration_width * max_registrations) registration_words m.registrations)))

-- a model that words can hold
pub record Fits (m : Model) : Type 0 where
  pub bounded : Bounded m
  pub entries : All EntryFits m.entries
  pub txns : All TxnFits m.txns
  pub waits : All WaitFits m.waits
  pub registrations : All RegistrationFits m.registrations

pub words_of_lem : (m : Model) → Fits m → (ws : List ℕ) × (view ws ≡ m)
unfolding view words_of entries txns waits registrations
words_of_lem m h =
    let ws = words_of m in
    let e =
    packed_back entry_of entry_words entry_width (λ e. refl) entries_at max_entries ws m.entries h.bounded.entries_fit
    (λ e i. entry_back e (h.entries e i)) refl in
    let t =
    packed_back txn_of txn_words txn_width (λ t. refl) txns_at max_txns ws m.txns h.bounded.txns_fit
    (λ t i. txn_back t (h.txns t i)) e.1 in
    let w =
    packed_back wait_of wait_words wait_width (λ w. refl) waits_at max_waits ws m.waits h.bounded.waits_fit
    (λ w i. wait_back w (h.waits w i)) t.1 in
    let g =
    packed_back registration_of registration_words registration_width (λ g. refl) registrations_at max_registrations ws
    m.registrations h.bounded.registrations_fit (λ g i. registration_back g (h.registrations g i))
    (w.1 ∙ sym (append-nil _)) in
    (ws, rw (e.0, t.0, w.0, g.0))
