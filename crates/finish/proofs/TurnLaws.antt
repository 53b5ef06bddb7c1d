-- Service over the words and the answers area: a look-up's turn.
use Prim.Native.Nat.{ℕ, zero, suc, ◌+◌, ◌-◌, ◌*◌, ◌≤◌, ◌<◌}
use mathlib.Core.Bool.{Bool, true, false, cond}
use mathlib.Core.Option.{none, some}
use mathlib.Core.Path.{◌≡◌, refl, sym, ap, ◌∙◌, subst}
use mathlib.Core.List.{List, [], ◌∷◌, ◌++◌}
use native.Mathlib.Omega.{arith}
use lib.ListN.{length, take, drop, set}
use lib.Seq.{length-sets}
use Rattle.std.specs.Prelude.{Option}
use Rattle.rules.specs.declared.Entry.{Entry}
use Rattle.rules.specs.declared.Fields.{Fields}
use Rattle.rules.specs.declared.Record.{Record}
use Rattle.rules.specs.declared.LookUp.{LookUp}
use Rattle.rules.specs.Done.{Done}
use Rattle.rules.specs.Holds.{available, oldest}
use Rattle.rules.specs.Numbers.{max_waits, record_size}
use Rattle.rules.specs.Records.{found}
use Rattle.rules.specs.State.{with_waits}
use Rattle.rules.specs.Words.{up_to, entry_count, wait_count, wait_count_at, waits, view, space_words}
use Rattle.tables.specs.Rows.{entry_row, wait_row, move_wait}
use Rattle.tables.proofs.SearchLaws.{Rows, SearchingFrom, from_more, from_found, from_none}
use Rattle.tables.proofs.Table.{drop_all, moved, closed}
use Rattle.tables.proofs.UpToLaws.{drop-up_to}
use Rattle.tables.proofs.Tables.{view-waits, length-waits, entries-read}
use Rattle.tables.specs.Tables.{wait_table}
use Rattle.available.specs.declared.asked.Asked.{Asked}
use Rattle.available.specs.Find.{Asks, PassesAsked}
use Rattle.holds.specs.Hand.{handed_at}
use Rattle.available.proofs.FindLaws.{from_on, only-available}
use Rattle.finish.specs.Does.{Adds, Does}
use Rattle.finish.specs.From.{ahead, oldest_row, service_from}
use Rattle.finish.proofs.AddsLaws.{adds_none, adds-length, adds_then}
use Rattle.finish.proofs.ServingLaws.{Serving, serving_none, serving_found, serving_waits, serving_done}

-- the first i look-ups of ws₀ are gone through, the n that wait on stand in front, and the founds stand in the area
pub record Turns (from : ℕ) (ws₀ ws a₀ a : List ℕ) (count done i n : ℕ) : Type 0 where
  pub long : length ws ≡ space_words
  pub records : List Record
  pub serving : Serving from (view ws₀) (view ws) i n records
  pub adds : Adds records a₀ a count done

pub turns-none : (from : ℕ) (ws a : List ℕ) (count : ℕ) → length ws ≡ space_words → Turns from ws ws a a count count 0 0
turns-none from ws a count l =
    record { long = l; records = []; serving = serving_none from (view ws); adds = adds_none a count }

-- what is known in the search for an entry: nothing has changed since its begin, and none of those up to row j is
-- available to the look-up of row i
pub record Looking (from : ℕ) (ws₀ ws a₀ a : List ℕ) (done₀ done i₀ i : ℕ) (asked : Option Asked) (count j : ℕ)
    : Type 0 where
  pub same_words : ws ≡ ws₀
  pub same_area : a ≡ a₀
  pub same-done : done ≡ done₀
  pub same_turn : i ≡ i₀
  pub asks : Asks asked (wait_row ws i).mask (wait_row ws i).fields
  pub all : count ≡ entry_count ws
  pub begun : from ≤ j
  pub none_yet : SearchingFrom from (available (view ws).txns (wait_row ws i)) (entry_row ws) j

-- the row where a search stops is the one behind those that do not pass
module _ {A : Type 0} (q : A → Bool) (f : ℕ → A) (n : ℕ) where
  ahead_of : (d k i : ℕ) → k + d ≡ i → i < n → SearchingFrom k q f i → q (f i) ≡ true → ahead q (drop k (up_to f n)) ≡ d
  ahead_of zero k i e h s t =
      let p : k ≡ i = omega arith in
      ap (ahead q) (drop-up_to f n k (omega arith))
      ∙ ap {B = ℕ} (λ b. cond b 0 (suc (ahead q (drop (suc k) (up_to f n))))) (ap (λ x. q (f x)) p ∙ t)
  ahead_of (suc d) k i e h s t =
      ap (ahead q) (drop-up_to f n k (omega arith))
      ∙ ap {B = ℕ} (λ b. cond b 0 (suc (ahead q (drop (suc k) (up_to f n))))) (s.passed k (omega arith) (omega arith))
      ∙ ap suc (ahead_of d (suc k) i (omega arith) h (record { passed = λ x l r. s.passed x (omega arith) r }) t)

from_row : {A : Type 0} {k : ℕ} {q : A → Bool} {f : ℕ → A} {n : ℕ} {xs : List A} → Rows xs f n → {i : ℕ}
    → SearchingFrom k q f i → {x : A} → k ≤ i → i < n → x ≡ f i → q x ≡ true → i ≡ k + ahead q (drop k xs)
from_row {k = k} {q = q} {f = f} {n = n} r {i} s h l e t =
    omega (
      arith,
      ap (λ xs. ahead q (drop k xs)) r.is,
      ahead_of q f n (i - k) k i (omega arith) l s
          (ap q (sym e) ∙ t),
    )

-- the search goes on to row j
abbrev Goes : Option Asked → List ℕ → ℕ → ℕ → Type 0
Goes asked ws k j =
    (k ≤ j) × ((mask : ℕ) (want : Fields) → Asks asked mask want → PassesAsked mask want ws k j)

pub looking_on : {from : ℕ} {ws a : List ℕ} {done i : ℕ} {asked : Option Asked} {count k j : ℕ}
    → Asks asked (wait_row ws i).mask (wait_row ws i).fields → count ≡ entry_count ws → from ≤ k
    → SearchingFrom from (available (view ws).txns (wait_row ws i)) (entry_row ws) k → Goes asked ws k j
    → Looking from ws ws a a done done i i asked count j
looking_on {ws = ws} {i = i} {asked = asked} q c b s g =
    record {
      same_words = refl;
      same_area = refl;
      same-done = refl;
      same_turn = refl;
      asks = q;
      all = c;
      begun = omega (arith, g.0);
      none_yet =
          from_on (wait_row ws i).mask (wait_row ws i).fields (available (view ws).txns (wait_row ws i))
          (only-available (view ws).txns (wait_row ws i)) s (g.1 _ _ q);
    }

module _ {from : ℕ} {ws₀ ws a₀ a : List ℕ} {done₀ done i₀ i : ℕ} {asked : Option Asked} {count j : ℕ}
    (k : Looking from ws₀ ws a₀ a done₀ done i₀ i asked count j) where
  -- so the turns are as they were
  pub turns-still : {ws₁ a₁ : List ℕ} {c n : ℕ} → Turns from ws₁ ws₀ a₁ a₀ c done₀ i₀ n
      → Turns from ws₁ ws a₁ a c done i n
  turns-still t = rw (k.same_words, k.same_area, k.same-done, k.same_turn) t

  module _ {w : LookUp} {e : Entry} {b : Bool} (q : w ≡ wait_row ws i) (r : e ≡ entry_row ws j)
      (v : b ≡ available (view ws).txns w e) where
    test : b ≡ available (view ws).txns (wait_row ws i) e
    test = v ∙ ap (λ x. available (view ws).txns x e) q

    pub looking_more : {h : ℕ} → b ≡ false → Goes asked ws (j + 1) h
        → Looking from ws₀ ws a₀ a done₀ done i₀ i asked count h
    looking_more t g =
        rw (← k.same_words, ← k.same_area, ← k.same-done, ← k.same_turn)
        (looking_on k.asks k.all (omega (arith, k.begun)) (from_more k.none_yet r (sym test ∙ t)) g)

    pub looking_found : b ≡ true → j < count
        → (oldest (view ws).txns w (drop from (view ws).entries) ≡ some e)
        × (j ≡ oldest_row (view ws).txns w from (view ws).entries)
    looking_found t l = (
      ap (λ x. oldest (view ws).txns x (drop from (view ws).entries)) q
          ∙ from_found (entries-read ws) k.none_yet k.begun (omega (arith, k.all)) r (sym test ∙ t),
      from_row (entries-read ws) k.none_yet k.begun (omega (arith, k.all)) r (sym test ∙ t)
          ∙ ap (λ x. oldest_row (view ws).txns x from (view ws).entries) (sym q),
    )

  pub looking_none : count ≤ j → oldest (view ws).txns (wait_row ws i) (drop from (view ws).entries) ≡ none
  looking_none l = from_none (entries-read ws) k.none_yet (omega (arith, k.all))

module _ {from : ℕ} {ws₀ ws a₀ a : List ℕ} {count done i n : ℕ} (t : Turns from ws₀ ws a₀ a count done i n) where
  same_count : wait_count ws ≡ wait_count ws₀
  same_count = sym (length-waits ws) ∙ t.serving.size ∙ length-waits ws₀

  -- there is room for one record more
  module _ (room : record_size * (count + max_waits) ≤ length a₀) where
    pub turn_length : i ≤ max_waits → length a ≡ length a₀
    turn_length h = adds-length t.adds (omega (arith, t.adds.counts, t.serving.few))

    pub turn_room : i < max_waits → record_size * (done + 1) ≤ length a
    turn_room h = omega (arith, t.adds.counts, t.serving.few, turn_length (omega arith))

  -- the next look-up
  module _ {w : LookUp} (h : i < wait_count ws₀) (q : w ≡ wait_row ws i) where
    this_wait : drop i (view ws).waits ≡ w ∷ drop (suc i) (view ws).waits
    unfolding view waits
    this_wait = drop_all wait_table ws i w (omega (arith, same_count)) q

    -- and the model once it is moved
    moved_wait : view (move_wait ws i n) ≡ with_waits (set (view ws).waits n w) (view ws)
    unfolding view waits
    moved_wait =
        view-waits _ ws (moved wait_table ws i n (omega arith) (omega (arith, t.serving.low)) (omega (arith, t.long)))
        ∙ ap (λ x. with_waits (set (view ws).waits n x) (view ws)) (sym q)

    pub turn_found : {ws' a' : List ℕ} {e : Entry} {j : ℕ} {r : Record} {done' : ℕ}
        → (oldest (view ws).txns w (drop from (view ws).entries) ≡ some e)
        × (j ≡ oldest_row (view ws).txns w from (view ws).entries)
        → (view ws' ≡ handed_at w e j (view ws)) × (length ws' ≡ space_words) → r ≡ found w e
        → record_size * count ≤ length a₀
        → Adds (r ∷ []) a a' done done'
        → Turns from ws₀ ws' a₀ a' count done' (i + 1) n
    turn_found {a' = a'} {e = e} {j = j} {done' = done'} p v o room d =
        record {
          long = v.1;
          records = t.records ++ (found w e ∷ []);
          serving =
              subst (λ m. Serving from (view ws₀) m (i + 1) n (t.records ++ (found w e ∷ [])))
              (sym (v.0 ∙ ap (λ x. handed_at w e x (view ws)) p.1))
              (serving_found t.serving this_wait p.0);
          adds = adds_then room t.adds (subst (λ x. Adds (x ∷ []) a a' done done') o d);
        }

    pub turn_waits : {ws' : List ℕ} → oldest (view ws).txns w (drop from (view ws).entries) ≡ none
        → ws' ≡ move_wait ws i n → Turns from ws₀ ws' a₀ a count done (i + 1) (n + 1)
    turn_waits p e =
        record {
          long = ap length e ∙ simp length-sets t.long;
          records = t.records;
          serving =
              subst (λ m. Serving from (view ws₀) m (i + 1) (n + 1) t.records) (sym (ap view e ∙ moved_wait))
              (serving_waits t.serving this_wait p (omega (arith, t.serving.low, length-waits ws, same_count)));
          adds = t.adds;
        }

  -- all are gone through
  closed-waits : i ≡ wait_count ws₀ → view (set ws wait_count_at n) ≡ with_waits (take n (view ws).waits) (view ws)
  unfolding view waits
  closed-waits h =
      view-waits (set ws wait_count_at n) ws
      (closed wait_table ws n (omega (arith, t.serving.low, same_count)) (omega (arith, t.long)))

  pub turns-done : {ws' : List ℕ} → i ≡ wait_count ws₀ → ws' ≡ set ws wait_count_at n
      → Does (service_from from (view ws₀)) ws' a₀ a count done
  turns-done {ws'} h e =
      let d = serving_done t.serving (omega (arith, length-waits ws₀)) in
      subst (λ (x : Done). Does x ws' a₀ a count done) (sym d)
      (record { model = ap view e ∙ closed-waits h; adds = t.adds })
