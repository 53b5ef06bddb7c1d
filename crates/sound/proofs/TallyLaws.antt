-- Registrations: they stand by number, and no total outgrows the numbers of entries (`Tallied`).
use Prim.Native.Nat.{ℕ, ◌+◌, ◌≤◌, ◌<◌}
use mathlib.Core.Bool.{Bool, true, false, cond, not, ◌&&◌, true≢false}
use mathlib.Core.Path.{◌≡◌, refl, sym, ap, ◌∙◌}
use mathlib.Core.List.Memᴰ
use mathlib.Core.List.{List, [], ◌∷◌, ◌++◌, map}
use native.Mathlib.Nat.{le_trans}
use native.Mathlib.Omega.{arith}
use borrow.Author.Tests.{eqb-true, ne_eqb}
use lib.Dec.{eqb}
use lib.ListN.{length, length-map}
use Rattle.rules.specs.declared.Entry.{Entry}
use Rattle.rules.specs.declared.LookUp.{LookUp}
use Rattle.rules.specs.declared.Registration.{Registration}
use Rattle.rules.specs.declared.Txn.{Txn}
use Rattle.rules.specs.Lists.{filterb, All}
use Rattle.rules.specs.Time.{until}
use Rattle.rules.specs.Template.{matches}
use Rattle.rules.specs.State.{Model}
use Rattle.rules.specs.Frame.{Frame, is_write, entry_named}
use Rattle.rules.specs.Write.{new_entry, stored}
use Rattle.rules.specs.LookUp.{removes, is_entry, marked, hand_out}
use Rattle.rules.specs.Transactions.{no_txn, is_private_to, is_taken_by, released}
use Rattle.rules.specs.Renew.{has_number, ending_at, renew_entries}
use Rattle.rules.specs.Notify.{made_public, matching, hearing}
use Rattle.rules.specs.Sound.{Ascending, privates, Tallied}
use Rattle.rules.proofs.BoolLaws.{cond_cases, and_left, and_right}
use Rattle.rules.proofs.ListLaws.{count, count-append, count_cons, count-filter, count_map, length-filter}
use Rattle.rules.proofs.ListLaws.{filter-filter, filter_comm, filter_pass, mem_filter}
use Rattle.sound.proofs.AllLaws.{all_map}
use Rattle.sound.proofs.HoldLaws.{mark_cases}
use Rattle.sound.proofs.OrderLaws.{InOrder}

-- ---- how many pass, of what is left or mapped
module _ {A : Type 0} where
  pub count_left : (p q : A → Bool) (xs : List A) → count p (filterb q xs) ≤ count p xs
  count_left p q xs = omega (arith, count-filter p q xs)

  pub count_more : (p q : A → Bool) → ((x : A) → p x ≡ true → q x ≡ true) → (xs : List A) → count p xs ≤ count q xs
  count_more p q h [] = omega arith
  count_more p q h (x ∷ xs) =
      let below = count_more p q h xs in
      let here = go (p x) (q x) (h x) in
      omega (arith, count_cons p x xs, count_cons q x xs)
    where
      go : (a b : Bool) → (a ≡ true → b ≡ true) → cond a 1 0 ≤ cond b 1 0
      go true true i = omega arith
      go true false i = absurd (true≢false (sym (i refl)))
      go false b i = cond_cases (λ n. 0 ≤ n) b (λ _. omega arith) (λ _. omega arith)

  pub count_mapped : (p : A → Bool) (g : A → A) → ((x : A) → p (g x) ≡ true → p x ≡ true) → (xs : List A)
      → count p (map g xs) ≤ count p xs
  count_mapped p g h xs = omega (arith, count_map p g xs, count_more (λ x. p (g x)) p h xs)

-- ---- the private entries
abbrev pub is_private : Entry → Bool
is_private e = not (is_private_to 0 e)

-- numbers that ascend below n are n at most
pub ascend_length : (n k : ℕ) (ns : List ℕ) → k ≤ n → All (λ x. k ≤ x) ns → Ascending ns → All (λ x. x < n) ns
    → k + length ns ≤ n
unfolding Ascending
ascend_length n k [] l low a high = omega arith
ascend_length n k (x ∷ xs) l low a high =
    let here = low x (Memᴰ.head refl) in
    let top = high x (Memᴰ.head refl) in
    let rest =
    ascend_length n (x + 1) xs (omega arith) (λ y i. let up = a.0 y i in omega arith) a.1
    (λ y i. high y (Memᴰ.tail i)) in
    omega arith

pub few_private : (m : Model) → InOrder m → length (privates m) ≤ m.next_entry
few_private m h =
    let ids = map (λ (e : Entry). e.id.0) m.entries in
    let all = ascend_length m.next_entry 0 ids (omega arith) (λ _ _. omega arith) h.0
    (numbers m.entries h.1) in
    omega (arith, length-filter is_private m.entries, length-map m.entries (λ (e : Entry). e.id.0))
  where
    numbers : (es : List Entry) → All (λ e. e.id.0 < m.next_entry) es
        → All (λ x. x < m.next_entry) (map (λ (e : Entry). e.id.0) es)
    numbers es below = all_map (λ x. x < m.next_entry) (λ (e : Entry). e.id.0) es below

pub handed_private : (ts : List Txn) (w : LookUp) (e : Entry) (es : List Entry)
    → count is_private (hand_out ts w e es) ≤ count is_private es
unfolding hand_out
handed_private ts w e es =
    cond_cases (λ (l : List Entry). count is_private l ≤ count is_private es) (removes w e)
    (λ _. count_left is_private (λ x. not (is_entry e x)) es)
    (λ _. count_mapped is_private (λ x. cond (is_entry e x) (marked ts w x) x)
    (λ x. let still : Entry → Type 0 = λ y. is_private y ≡ true → is_private x ≡ true in
    cond_cases still (is_entry e x) (λ _. mark_cases ts w x still (λ _ p. p) (λ b _ _ p. p)) (λ _ p. p)) es)

-- what t's end leaves private was so
released_private : (ts : List Txn) (t : ℕ) (e : Entry) → is_private (released ts t e) ≡ true
    → (is_private e && not (is_private_to t e)) ≡ true
unfolding released
released_private ts t e = go (is_private_to t e) refl
  where
    go : (b : Bool) → is_private_to t e ≡ b → not (eqb (cond b no_txn e.private_to).0 0) ≡ true
        → (is_private e && not b) ≡ true
    go true q p = absurd (true≢false (sym p))
    go false q p = rw p

pub freed_private : (ts : List Txn) (t : ℕ) (p : Entry → Bool) (es : List Entry)
    → count is_private (map (released ts t) (filterb p es)) ≤ count is_private es
freed_private ts t p es =
    le_trans (count_mapped is_private (released ts t) (λ e q. and_left (is_private e) _ (released_private ts t e q))
    (filterb p es)) (count_left is_private p es)

pub renewed_private : (m : Model) (f : Frame) → count is_private (renew_entries m f) ≤ count is_private m.entries
unfolding renew_entries
renewed_private m f =
    let k = entry_named f in
    let end = until m.clock f.lease_or_timeout in
    cond_cases (λ (l : List Entry). count is_private l ≤ count is_private m.entries) (eqb f.lease_or_timeout 0)
    (λ _. count_left is_private (λ e. not (has_number k e)) m.entries)
    (λ _. count_mapped is_private (λ e. cond (has_number k e) (ending_at end e) e)
    (λ e. cond_cases (λ (x : Entry). is_private x ≡ true → is_private e ≡ true) (has_number k e) (λ _ p. p) (λ _ p. p))
    m.entries)

-- ---- what is made public is counted once
-- a commit's: as many fewer are private
pub commit_private : (ts : List Txn) (t : ℕ) (es : List Entry) → 0 < t
    → count is_private (map (released ts t) (filterb (λ e. not (is_taken_by t e)) es))
    + length (filterb (λ e. is_private_to t e && not (is_taken_by t e)) es)
    ≤ count is_private es
commit_private ts t es z =
    let left = filterb (λ e. not (is_taken_by t e)) es in
    let own : length (filterb (λ e. is_private_to t e && not (is_taken_by t e)) es) ≡ count (is_private_to t) left =
    ap length (sym (filter-filter (λ e. not (is_taken_by t e)) (is_private_to t) es)
    ∙ filter_comm (λ e. not (is_taken_by t e)) (is_private_to t) es) in
    let all_own : count is_private (filterb (is_private_to t) left) ≡ count (is_private_to t) left =
    ap length (filter_pass is_private (filterb (is_private_to t) left)
    (λ e i. mine e (mem_filter (is_private_to t) left i).1)) in
    let others : count is_private (filterb (λ e. not (is_private_to t e)) left)
    ≡ count (λ e. not (is_private_to t e) && is_private e) left =
    ap length (filter-filter is_private (λ e. not (is_private_to t e)) left) in
    let fewer =
    count_more (λ e. is_private (released ts t e)) (λ e. not (is_private_to t e) && is_private e)
    (λ e q. let r = released_private ts t e q in
    rw (and_right (is_private e) (not (is_private_to t e)) r, and_left (is_private e) (not (is_private_to t e)) r)) left
    in
    omega (
      arith,
      own,
      all_own,
      others,
      fewer,
      count_map is_private (released ts t) left,
      count-filter is_private (is_private_to t) left,
      count_left is_private (λ e. not (is_taken_by t e)) es,
    )
  where
    mine : (e : Entry) → is_private_to t e ≡ true → is_private e ≡ true
    mine e q =
        let same = eqb-true e.private_to.0 t q in
        ap not (ne_eqb e.private_to.0 0 (λ n. omega arith))

-- a write's: it has a number of its own
pub write_private : (m : Model) (f : Frame) → is_write f.op ≡ true
    → length (made_public m f) + count is_private (stored m f).entries ≤ count is_private m.entries + 1
unfolding made_public stored new_entry
write_private m f t = rw t (go (eqb f.lease_or_timeout 0) (eqb f.txn 0) refl)
  where
    new : Entry
    new = new_entry m f

    es : List Entry
    es = m.entries

    go : (b c : Bool) → is_private_to 0 new ≡ c
        → length (cond (c && not b) (new ∷ []) []) + count is_private (cond b es (es ++ (new ∷ [])))
        ≤ count is_private es + 1
    go true true q = omega arith
    go true false q = omega arith
    go false true q = omega (arith, count-append is_private es (new ∷ []), public q)
      where
        public : is_private_to 0 new ≡ true → count is_private (new ∷ []) ≡ 0
        public r = rw r
    go false false q = omega (arith, count-append is_private es (new ∷ []), length-filter is_private (new ∷ []))

-- ---- so totals stay within the numbers
heard-least : (es : List Entry) (g : Registration) → (hearing es g).total ≤ g.total + length es
unfolding hearing matching
heard-least es g = omega (arith, length-filter (λ e. matches g.mask g.fields e.fields) es)

-- the registrations that hear of some entries
pub tallied-hearing : (m n : Model) (es : List Entry)
    → (length es + length (privates n)) + m.next_entry ≤ length (privates m) + n.next_entry
    → All (Tallied m) m.registrations → All (Tallied n) (map (hearing es) m.registrations)
tallied-hearing m n es l h =
    all_map (Tallied n) (hearing es) m.registrations
    (λ g i. let before = h g i in omega (arith, heard-least es g))

-- and where nothing is heard of, private entries may only get fewer
pub tallied_on : (m n : Model) → n.next_entry ≡ m.next_entry → length (privates n) ≤ length (privates m)
    → All (Tallied m) m.registrations → All (Tallied n) m.registrations
tallied_on m n q l h g i = let before = h g i in omega arith
