-- Service, look-up by look-up, over the model.
use Prim.Native.Nat.{ℕ, suc, ◌+◌, ◌≤◌, ◌<◌}
use mathlib.Core.Option.{none, some}
use mathlib.Core.Path.{◌≡◌, refl, sym, ap, ap₂, ◌∙◌}
use mathlib.Core.List.{List, [], ◌∷◌, ◌++◌, append_assoc, append-nil}
use native.Mathlib.Omega.{arith}
use native.Mathlib.Numerals.{add-one}
use lib.Dec.{lit≤}
use lib.ListN.{length, take, drop, set, length-set, length-append, drop_of_length-le}
use lib.Seq.{take-suc-set, drop-set-lt}
use Rattle.rules.specs.declared.Entry.{Entry}
use Rattle.rules.specs.declared.Record.{Record}
use Rattle.rules.specs.declared.LookUp.{LookUp}
use Rattle.rules.specs.declared.Txn.{Txn}
use Rattle.rules.specs.State.{Model, with_entries, with_waits}
use Rattle.rules.specs.Holds.{oldest}
use Rattle.rules.specs.Records.{found}
use Rattle.rules.specs.Service.{Served, found_first, waits_first}
use Rattle.holds.specs.Hand.{hand_at, handed_at}
use Rattle.finish.specs.From.{oldest_row, serve_from, service_from}

-- a look-up's turn
module _ (k : ℕ) (ts : List Txn) (es : List Entry) (w : LookUp) (ws : List LookUp) where
  pub from_waits : oldest ts w (drop k es) ≡ none → serve_from k ts es (w ∷ ws) ≡ waits_first w (serve_from k ts es ws)
  unfolding serve_from
  from_waits e = rw (e, serve_from)

  pub from_finds : (x : Entry) → oldest ts w (drop k es) ≡ some x
      → serve_from k ts es (w ∷ ws) ≡ found_first w x (serve_from k ts (hand_at ts w x (oldest_row ts w k es) es) ws)
  unfolding serve_from
  from_finds x e = rw (e, serve_from)

-- those that wait on and the founds of the look-ups gone through, before what the rest gives
abbrev behind : List LookUp → List Record → Served → Served
behind ws rs s = record { entries = s.entries; waits = ws ++ s.waits; records = rs ++ s.records }

-- one turn more
found_behind : (ws : List LookUp) (rs : List Record) (w : LookUp) (e : Entry) (s : Served)
    → behind ws rs (found_first w e s) ≡ behind ws (rs ++ (found w e ∷ [])) s
found_behind ws rs w e s =
    ap (λ l. record { entries = s.entries; waits = ws ++ s.waits; records = l })
    (sym (append_assoc rs (found w e ∷ []) s.records))

waits_behind : (ws : List LookUp) (rs : List Record) (w : LookUp) (s : Served)
    → behind ws rs (waits_first w s) ≡ behind (ws ++ (w ∷ [])) rs s
waits_behind ws rs w s =
    ap (λ l. record { entries = s.entries; waits = l; records = rs ++ s.records })
    (sym (append_assoc ws (w ∷ []) s.waits))

-- of the look-ups of m₀ the first i are gone through, with the founds rs; the n that wait on stand in front
pub record Serving (k : ℕ) (m₀ m : Model) (i n : ℕ) (rs : List Record) : Type 0 where
  pub rest_same : m ≡ with_entries m.entries (with_waits m.waits m₀)
  pub size : length m.waits ≡ length m₀.waits
  pub so_far : serve_from k m₀.txns m₀.entries m₀.waits
      ≡ behind (take n m.waits) rs (serve_from k m.txns m.entries (drop i m.waits))
  pub low : n ≤ i
  pub few : length rs ≤ i

pub serving_none : (k : ℕ) (m : Model) → Serving k m m 0 0 []
serving_none k m = record { rest_same = refl; size = refl; so_far = refl; low = lit≤ tt; few = lit≤ tt }

module _ {k : ℕ} {m₀ m : Model} {i n : ℕ} {rs : List Record} (s : Serving k m₀ m i n rs) {w : LookUp}
    (next : drop i m.waits ≡ w ∷ drop (suc i) m.waits) where
  turn : serve_from k m₀.txns m₀.entries m₀.waits
      ≡ behind (take n m.waits) rs (serve_from k m.txns m.entries (w ∷ drop (suc i) m.waits))
  turn = s.so_far ∙ ap (λ ws. behind (take n m.waits) rs (serve_from k m.txns m.entries ws)) next

  -- the next look-up is answered found
  pub serving_found : {e : Entry} → oldest m.txns w (drop k m.entries) ≡ some e
      → Serving k m₀ (handed_at w e (oldest_row m.txns w k m.entries) m) (i + 1) n (rs ++ (found w e ∷ []))
  unfolding handed_at
  serving_found {e} p =
      record {
        rest_same =
            ap (with_entries (hand_at m.txns w e (oldest_row m.txns w k m.entries) m.entries)) s.rest_same;
        size = s.size;
        so_far =
            rw (add-one i)
            (turn
            ∙ ap (behind (take n m.waits) rs)
            (from_finds k m.txns m.entries w (drop (suc i) m.waits) e p)
            ∙ found_behind (take n m.waits) rs w e _);
        low = omega (arith, s.low);
        few = simp length-append (omega (arith, s.few));
      }

  -- it waits on
  pub serving_waits : oldest m.txns w (drop k m.entries) ≡ none → n < length m.waits
      → Serving k m₀ (with_waits (set m.waits n w) m) (i + 1) (n + 1) rs
  serving_waits p h =
      record {
        rest_same = ap (with_waits (set m.waits n w)) s.rest_same;
        size = length-set m.waits n w ∙ s.size;
        so_far =
            rw (
              add-one i,
              add-one n,
              take-suc-set m.waits n w h,
              drop-set-lt (suc i) m.waits n w
                  (omega (arith, s.low)),
            )
            (turn
            ∙ ap (behind (take n m.waits) rs) (from_waits k m.txns m.entries w (drop (suc i) m.waits) p)
            ∙ waits_behind (take n m.waits) rs w _);
        low = omega (arith, s.low);
        few = omega (arith, s.few);
      }

-- all are gone through
pub serving_done : {k : ℕ} {m₀ m : Model} {i n : ℕ} {rs : List Record} → Serving k m₀ m i n rs → length m₀.waits ≤ i
    → service_from k m₀ ≡ record { model = with_waits (take n m.waits) m; records = rs }
unfolding service_from serve_from
serving_done {k} {m₀} {m} {i} {n} {rs} s h =
    let all : serve_from k m₀.txns m₀.entries m₀.waits
    ≡ record { entries = m.entries; waits = take n m.waits; records = rs }
    = s.so_far
    ∙ ap (λ l. behind (take n m.waits) rs (serve_from k m.txns m.entries l))
    (drop_of_length-le m.waits {i = i} (omega (arith, s.size)))
    ∙ ap₂ (λ a b. record { entries = m.entries; waits = a; records = b }) (append-nil (take n m.waits))
    (append-nil rs) in
    ap (λ (r : Served). record { model = with_entries r.entries (with_waits r.waits m₀); records = r.records }) all
    ∙ ap (λ x. record { model = with_waits (take n m.waits) x; records = rs }) (sym s.rest_same)
