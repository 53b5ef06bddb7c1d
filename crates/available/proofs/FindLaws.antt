-- The search for the next row to look at, and for an entry by it.
use Prim.Native.Nat.{ℕ, zero, suc, ◌+◌, ◌≤◌, ◌<◌}
use mathlib.Core.Bool.{Bool, true, false, and-false}
use mathlib.Core.Path.{◌≡◌, refl, sym, ap, ◌∙◌, subst}
use mathlib.Core.List.{List}
use native.Mathlib.Omega.{arith}
use native.Mathlib.Decide.{dec_lt}
use borrow.Author.Tests.{eqb-false, ne_eqb}
use lib.Dec.{eqb}
use Rattle.std.specs.Prelude.{Option, Some}
use Rattle.rules.specs.declared.Entry.{Entry}
use Rattle.rules.specs.declared.Fields.{Fields}
use Rattle.rules.specs.declared.LookUp.{LookUp}
use Rattle.rules.specs.declared.Mark.{Mark}
use Rattle.rules.specs.declared.Txn.{Txn}
use Rattle.rules.specs.Holds.{available, conflicts}
use Rattle.rules.specs.Template.{bit, bare, agrees, asked_equal, matches}
use Rattle.rules.specs.Words.{entry_count}
use Rattle.tables.specs.Rows.{field_at, entry_row}
use Rattle.tables.proofs.SearchLaws.{Searching, search_more, SearchingFrom}
use Rattle.available.specs.declared.asked.Asked.{Asked}
use Rattle.available.specs.Find.{Asks, InRow, has_field, Passes, PassesAsked}

module _ {q : Entry → Bool} {ws : List ℕ} {k : ℕ} where
  pub passes_none : {i : ℕ} → i ≡ k → Passes q ws k i
  passes_none e = record { begun = omega arith; none = λ x h l. absurd (omega arith) }

  -- those behind are passed, too
  pub passes_on : {i j : ℕ} → Passes q ws k i → Passes q ws i j → Passes q ws k j
  passes_on {i} {j} p r = record { begun = omega (arith, p.begun, r.begun); none = λ x h l. go x h l (dec_lt x i) }
    where
      go : (x : ℕ) → k ≤ x → x < j → Dec (x < i) → q (entry_row ws x) ≡ false
      go x h l (yes b) = p.none x h b
      go x h l (no b) = r.none x (omega arith) l

  -- and so is the next
  pub passes_more : {i j : ℕ} → Passes q ws k i → q (entry_row ws i) ≡ false → j ≡ i + 1 → Passes q ws k j
  passes_more {i} {j} p e n =
      passes_on p (record {
        begun = omega arith;
        none = λ x h l. let s : x ≡ i = omega arith in ap (λ y. q (entry_row ws y)) s ∙ e;
      })

  -- or fewer are passed
  pub passes_less : {i j : ℕ} → Passes q ws k i → k ≤ j → j ≤ i → Passes q ws k j
  passes_less p h l = record { begun = h; none = λ x a b. p.none x a (omega arith) }

-- a field that is asked for and differs: the template does not match
differs : (b c : Bool) (want have x : ℕ) → b ≡ true → want ≡ x → eqb have x ≡ false → agrees b c want have ≡ false
differs b c want have x t w e = rw (t, ne_eqb want have (λ q. eqb-false have x e (sym q ∙ w)), and-false)

no_match : (k x mask : ℕ) (want : Fields) (have : Mark) → k < 4 → bit k mask ≡ true → field_at k want ≡ x
    → eqb (field_at k (bare have)) x ≡ false → matches mask want have ≡ false
unfolding matches asked_equal
no_match zero x mask want have h t w e =
    rw (differs (bit 0 mask) (bit 0 have.blanks) want.kind have.kind x t w e)
no_match (suc zero) x mask want have h t w e =
    rw (differs (bit 1 mask) (bit 1 have.blanks) want.side have.side x t w e, and-false)
no_match (suc (suc zero)) x mask want have h t w e =
    rw (differs (bit 2 mask) (bit 2 have.blanks) want.image have.image x t w e, and-false)
no_match (suc (suc (suc zero))) x mask want have h t w e =
    rw (differs (bit 3 mask) (bit 3 have.blanks) want.place have.place x t w e, and-false)
no_match (suc (suc (suc (suc k)))) x mask want have h t w e = absurd (omega arith)

-- rows that have not what is asked are passed
pub asked_passed : (a : Asked) {ws : List ℕ} {k i : ℕ} → Passes (has_field a.column a.want) ws k i
    → (mask : ℕ) (want : Fields) → Asks (Some a) mask want → PassesAsked mask want ws k i
asked_passed a {ws} p mask want q =
    record {
      begun = p.begun;
      none = λ x l m. no_match a.column a.want mask want (entry_row ws x).fields q.0 q.1 q.2
          (p.none x l m);
    }

-- a search by a test that an entry passes only if it matches: none of the rows up to the next to look at passes it
module _ (mask : ℕ) (want : Fields) (q : Entry → Bool)
    (only : (e : Entry) → matches mask want e.fields ≡ false → q e ≡ false) {ws : List ℕ} where
  pub search_on : {k i : ℕ} → Searching q (entry_row ws) k → PassesAsked mask want ws k i → Searching q (entry_row ws) i
  search_on {k} {i} s p = record { passed = λ x l. go x l (dec_lt x k) }
    where
      go : (x : ℕ) → x < i → Dec (x < k) → q (entry_row ws x) ≡ false
      go x l (yes b) = s.passed x b
      go x l (no b) = only (entry_row ws x) (p.none x (omega arith) l)

  pub search_past : {k i : ℕ} → Searching q (entry_row ws) k → q (entry_row ws k) ≡ false
      → PassesAsked mask want ws (k + 1) i
      → Searching q (entry_row ws) i
  search_past s e p = search_on (search_more s refl e) p

  -- so of the rows from b on
  pub from_on : {b k i : ℕ} → SearchingFrom b q (entry_row ws) k → PassesAsked mask want ws k i
      → SearchingFrom b q (entry_row ws) i
  from_on {b} {k} {i} s p = record { passed = λ x h l. go x h l (dec_lt x k) }
    where
      go : (x : ℕ) → b ≤ x → x < i → Dec (x < k) → q (entry_row ws x) ≡ false
      go x h l (yes m) = s.passed x h m
      go x h l (no m) = only (entry_row ws x) (p.none x (omega arith) l)

-- such tests
pub only-available : (ts : List Txn) (w : LookUp) (e : Entry) → matches w.mask w.fields e.fields ≡ false
    → available ts w e ≡ false
unfolding available
only-available ts w e h = rw h

pub only_conflicting : (ts : List Txn) (w : LookUp) (e : Entry) → matches w.mask w.fields e.fields ≡ false
    → conflicts ts w e ≡ false
unfolding conflicts
only_conflicting ts w e h = rw h

-- an entry that is found stands in its row
pub in_row : (ws : List ℕ) (e : Entry) (i : ℕ) {m : Option (Entry × ℕ)} → m ≡ Some (e, i) → InRow ws m
    → (i < entry_count ws) × (e ≡ entry_row ws i)
in_row ws e i is h = subst (InRow ws) is h
