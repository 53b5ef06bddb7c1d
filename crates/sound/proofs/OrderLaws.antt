-- Entries that stand by number, below the next: what is left of them, marked, freed or handed out stands so too, and
-- the first that is available is the oldest.
use Prim.Native.Nat.{ℕ, ◌+◌, ◌<◌}
use mathlib.Core.Bool.{Bool, cond, not}
use mathlib.Core.Path.{◌≡◌, refl}
use mathlib.Core.List.{List, [], ◌∷◌, map}
use native.Mathlib.Omega.{arith}
use lib.Dec.{eqb}
use Rattle.rules.specs.declared.Entry.{Entry}
use Rattle.rules.specs.declared.Txn.{Txn}
use Rattle.rules.specs.declared.LookUp.{LookUp}
use Rattle.rules.specs.Lists.{filterb, All}
use Rattle.rules.specs.State.{Model}
use Rattle.rules.specs.Time.{until}
use Rattle.rules.specs.Frame.{Frame, entry_named}
use Rattle.rules.specs.Write.{new_entry, stored}
use Rattle.rules.specs.LookUp.{removes, is_entry, marked, hand_out}
use Rattle.rules.specs.Transactions.{released, abort}
use Rattle.rules.specs.Renew.{has_number, ending_at, renew_entries}
use Rattle.rules.specs.Tick.{ended_txns, abort_all, drop_ended, lapsed}
use Rattle.rules.specs.Sound.{Ascending}
use Rattle.rules.proofs.BoolLaws.{cond_cases}
use Rattle.sound.proofs.AllLaws.{all_snoc, all_filter, all_map}
use Rattle.sound.proofs.AscendingLaws.{ascend_filter, ascend_map, ascend_snoc}
use Rattle.sound.proofs.HoldLaws.{eqb_cases, mark_cases}

abbrev pub Numbered : ℕ → List Entry → Type 0
Numbered n es = Ascending (map (λ (e : Entry). e.id.0) es) × All (λ e. e.id.0 < n) es

pub numbered-filter : {n : ℕ} (p : Entry → Bool) (es : List Entry) → Numbered n es → Numbered n (filterb p es)
numbered-filter p es h = (ascend_filter (λ (e : Entry). e.id.0) p es h.0, all_filter p es (λ e i _. h.1 e i))

pub numbered-map : {n : ℕ} (g : Entry → Entry) → ((e : Entry) → (g e).id.0 ≡ e.id.0) → (es : List Entry)
    → Numbered n es → Numbered n (map g es)
numbered-map {n} g q es h =
    let below = all_map (λ e. e.id.0 < n) g es (λ e i. let l = h.1 e i in let same = q e in omega arith) in
    (ascend_map (λ (e : Entry). e.id.0) g q es h.0, below)

pub handed-numbered : {n : ℕ} (ts : List Txn) (w : LookUp) (e : Entry) (es : List Entry) → Numbered n es
    → Numbered n (hand_out ts w e es)
unfolding hand_out
handed-numbered {n} ts w e es h =
    cond_cases (Numbered n) (removes w e) (λ _. numbered-filter (λ x. not (is_entry e x)) es h)
    (λ _. numbered-map (λ x. cond (is_entry e x) (marked ts w x) x)
    (λ x. let same : Entry → Type 0 = λ y. y.id.0 ≡ x.id.0 in
    cond_cases same (is_entry e x) (λ _. mark_cases ts w x same (λ _. refl) (λ b _ _. refl)) (λ _. refl)) es h)

pub freed_numbered : {n : ℕ} (ts : List Txn) (t : ℕ) (p : Entry → Bool) (es : List Entry) → Numbered n es
    → Numbered n (map (released ts t) (filterb p es))
unfolding released
freed_numbered ts t p es h = numbered-map (released ts t) (λ _. refl) (filterb p es) (numbered-filter p es h)

pub renewed-numbered : {n : ℕ} (m : Model) (f : Frame) → Numbered n m.entries → Numbered n (renew_entries m f)
unfolding renew_entries
renewed-numbered {n} m f h =
    let k = entry_named f in
    let end = until m.clock f.lease_or_timeout in
    cond_cases (Numbered n) (eqb f.lease_or_timeout 0) (λ _. numbered-filter (λ e. not (has_number k e)) m.entries h)
    (λ _. numbered-map (λ e. cond (has_number k e) (ending_at end e) e)
    (λ e. cond_cases (λ (x : Entry). x.id.0 ≡ e.id.0) (has_number k e) (λ _. refl) (λ _. refl)) m.entries h)

abbrev pub InOrder : Model → Type 0
InOrder m = Numbered m.next_entry m.entries

pub stored-order : (m : Model) (f : Frame) → InOrder m → InOrder (stored m f)
unfolding stored new_entry
stored-order m f h =
    let more : All (λ e. e.id.0 < m.next_entry + 1) m.entries = λ e i. let l = h.1 e i in omega arith in
    eqb_cases (Numbered (m.next_entry + 1)) f.lease_or_timeout 0 (λ _. (h.0, more))
    (λ _. let up = ascend_snoc (λ (e : Entry). e.id.0) (new_entry m f) m.entries h.1 h.0 in
    (up, all_snoc m.entries more (omega arith)))

-- what ends in a tick
abort-order : (t : ℕ) (m : Model) → InOrder m → InOrder (abort t m)
unfolding abort
abort-order t m h = freed_numbered m.txns t _ m.entries h

all-aborted : (ts : List Txn) (m : Model) → InOrder m → InOrder (abort_all ts m)
unfolding abort_all
all-aborted [] m h = h
all-aborted (t ∷ ts) m h = all-aborted ts (abort t.id.0 m) (abort-order t.id.0 m h)

pub lapsed-order : (m : Model) → InOrder m → InOrder (lapsed m).model
unfolding lapsed drop_ended
lapsed-order m h =
    let n = abort_all (ended_txns m) m in numbered-filter _ n.entries (all-aborted (ended_txns m) m h)
