-- Service from a row on is the rules' service, where no entry before it is available to anyone who waits; and where
-- none
-- is at all, service does nothing.
use Prim.Native.Nat.{ℕ, suc, ◌+◌, ◌≤◌, ◌<◌}
use mathlib.Core.Bool.{Bool, true, false, not, cond}
use mathlib.Core.Logic.{◌⊎◌, inl, inr}
use mathlib.Core.Option.{Option, none, some}
use mathlib.Core.Path.{◌≡◌, refl, sym, ap, ap₂, ◌∙◌, subst, subst⁻¹}
use mathlib.Core.List.Memᴰ
use mathlib.Core.List.{List, [], ◌∷◌, ◌++◌, map, map-append, Memᴰ}
use native.Mathlib.Omega.{arith}
use native.Mathlib.Decide.{dec_lt}
use borrow.Author.Tests.{ne_eqb}
use lib.ListN.{length, get_or, take, drop, length-take, length-drop, take-append-drop, drop_of_length-le}
use lib.Seq.{take_all, drop-append_seam, get_or-drop}
use Rattle.rules.specs.declared.Entry.{Entry}
use Rattle.rules.specs.declared.LookUp.{LookUp}
use Rattle.rules.specs.declared.Txn.{Txn}
use Rattle.rules.specs.Lists.{All, filterb, findb}
use Rattle.rules.specs.State.{Model, with_entries, with_waits}
use Rattle.rules.specs.Holds.{available, oldest, some_available}
use Rattle.rules.specs.LookUp.{removes, is_entry, marked, hand_out}
use Rattle.rules.specs.Done.{Done, quiet}
use Rattle.rules.specs.Service.{Served, serve, service, found_first, waits_first}
use Rattle.rules.specs.Sound.{NoneFor}
use Rattle.rules.proofs.BoolLaws.{option_cases}
use Rattle.rules.proofs.ListLaws.{none≢some, any_none, all_false, find_some, filter-append, filter_pass}
use Rattle.rules.proofs.StepCases.{serve-none, serve_some}
use Rattle.tables.proofs.SearchLaws.{find_append-none}
use Rattle.holds.specs.Hand.{hand_at}
use Rattle.holds.proofs.HandLaws.{by_row}
use Rattle.sound.proofs.AscendingLaws.{ascend_across}
use Rattle.sound.proofs.OrderLaws.{Numbered, handed-numbered}
use Rattle.finish.specs.From.{ahead, oldest_row, serve_from, service_from}
use Rattle.finish.proofs.ServingLaws.{from_waits, from_finds}

abbrev as_done : Model → Served → Done
as_done m r = record { model = with_entries r.entries (with_waits r.waits m); records = r.records }

-- ---- nobody has an available entry
serve-idle : (ts : List Txn) (es : List Entry) (ws : List LookUp) → All (λ w. some_available ts w es ≡ false) ws
    → serve ts es ws ≡ record { entries = es; waits = ws; records = [] }
unfolding serve
serve-idle ts es [] h = refl
serve-idle ts es (w ∷ ws) h =
    serve-none ts es w ws (any_none (available ts w) es (h w (Memᴰ.head refl)))
    ∙ ap (waits_first w) (serve-idle ts es ws (λ v i. h v (Memᴰ.tail i)))

pub service-idle : (m : Model) → NoneFor m → service m ≡ quiet m
unfolding service
service-idle m h =
    ap (as_done m)
    (serve-idle m.txns m.entries m.waits h)

-- ---- no entry from the row on
from_idle : (k : ℕ) (ts : List Txn) (es : List Entry) (ws : List LookUp) → length es ≤ k
    → serve_from k ts es ws ≡ record { entries = es; waits = ws; records = [] }
unfolding serve_from
from_idle k ts es [] l = refl
from_idle k ts es (w ∷ ws) l =
    from_waits k ts es w ws (ap (oldest ts w) (drop_of_length-le es {i = k} l))
    ∙ ap (waits_first w) (from_idle k ts es ws l)

pub from_none : (k : ℕ) (m : Model) → length m.entries ≤ k → service_from k m ≡ quiet m
unfolding service_from
from_none k m l =
    ap (as_done m)
    (from_idle k m.txns m.entries m.waits l)

-- ---- the row of the oldest that is available has it
ahead_there : {A : Type 0} (q : A → Bool) (xs : List A) {x : A} → findb q xs ≡ some x
    → (ahead q xs < length xs) × (get_or xs (ahead q xs) x ≡ x)
ahead_there q [] e = absurd (none≢some e)
ahead_there {A} q (y ∷ ys) {x} e = go (q y) e (λ r. ahead_there q ys r)
  where
    go : (b : Bool) → cond b (some y) (findb q ys) ≡ some x
        → (findb q ys ≡ some x → (ahead q ys < length ys) × (get_or ys (ahead q ys) x ≡ x))
        → (cond b 0 (suc (ahead q ys)) < length (y ∷ ys)) × (get_or (y ∷ ys) (cond b 0 (suc (ahead q ys))) x ≡ x)
    go true r below = (omega arith, cc)
    go false r below = let p = below r in (omega (arith, p.0), p.1)

row_there : (ts : List Txn) (w : LookUp) (k : ℕ) (es : List Entry) {e : Entry} → oldest ts w (drop k es) ≡ some e
    → (oldest_row ts w k es < length es) × (get_or es (oldest_row ts w k es) e ≡ e)
row_there ts w k es {e} q =
    let p = ahead_there (available ts w) (drop k es) q in
    (omega (arith, p.0, length-drop k es), sym (get_or-drop k es (ahead (available ts w) (drop k es)) e) ∙ p.1)

-- so it is handed out as the rules do
handed_there : {n : ℕ} (ts : List Txn) (w : LookUp) (k : ℕ) (es : List Entry) {e : Entry} → Numbered n es
    → oldest ts w (drop k es) ≡ some e → hand_at ts w e (oldest_row ts w k es) es ≡ hand_out ts w e es
handed_there ts w k es {e} h q =
    let p = row_there ts w k es q in by_row ts w e es (oldest_row ts w k es) p.0 p.1 h.0

-- ---- the entries before the row are out of reach
-- an entry behind them is handed out: they stay
map-still : {A : Type 0} (g : A → A) (xs : List A) → All (λ x. g x ≡ x) xs → map g xs ≡ xs
map-still g [] h = refl
map-still {A} g (x ∷ xs) h =
    ap₂ {C = List A} (λ y ys. y ∷ ys) (h x (Memᴰ.head refl)) (map-still g xs (λ y i. h y (Memᴰ.tail i)))

hand_out_behind : (ts : List Txn) (w : LookUp) (e : Entry) (xs ys : List Entry) → All (λ x. is_entry e x ≡ false) xs
    → hand_out ts w e (xs ++ ys) ≡ xs ++ hand_out ts w e ys
unfolding hand_out
hand_out_behind ts w e xs ys h = go (removes w e)
  where
    mark : Entry → Entry
    mark x = cond (is_entry e x) (marked ts w x) x

    go : (b : Bool)
        → cond b (filterb (λ x. not (is_entry e x)) (xs ++ ys)) (map mark (xs ++ ys))
        ≡ xs ++ cond b (filterb (λ x. not (is_entry e x)) ys) (map mark ys)
    go true =
        filter-append (λ x. not (is_entry e x)) xs ys
        ∙ ap (λ l. l ++ filterb (λ x. not (is_entry e x)) ys)
        (filter_pass (λ x. not (is_entry e x)) xs (λ x i. ap not (h x i)))
    go false =
        map-append mark xs ys
        ∙ ap (λ l. l ++ map mark ys) (map-still mark xs (λ x i. ap (λ b. cond b (marked ts w x) x) (h x i)))

module _ (ts : List Txn) (xs : List Entry) where
  -- none of them has the number of one behind them
  others : {n : ℕ} {e : Entry} (ys : List Entry) → Numbered n (xs ++ ys) → Memᴰ e ys
      → All (λ x. is_entry e x ≡ false) xs
  others {n} {e} ys h i x j =
      ne_eqb x.id.0 e.id.0 (λ q. let l = ascend_across (λ (y : Entry). y.id.0) xs ys h.0 j i in omega
      arith)

  serve_behind : {n : ℕ} (ys : List Entry) (ws : List LookUp) → Numbered n (xs ++ ys)
      → All (λ w. All (λ e. available ts w e ≡ false) xs) ws
      → serve_from (length xs) ts (xs ++ ys) ws ≡ serve ts (xs ++ ys) ws
  unfolding serve_from serve
  serve_behind ys [] h u = refl
  serve_behind {n} ys (w ∷ ws) h u = go (option_cases (oldest ts w ys)) (λ zs r. serve_behind zs ws r later)
    where
      later : All (λ v. All (λ e. available ts v e ≡ false) xs) ws
      later v i = u v (Memᴰ.tail i)

      -- both look for it behind them
      here : {o : Option Entry} → oldest ts w ys ≡ o → oldest ts w (drop (length xs) (xs ++ ys)) ≡ o
      here q = ap (oldest ts w) (drop-append_seam xs ys) ∙ q

      there : {o : Option Entry} → oldest ts w ys ≡ o → oldest ts w (xs ++ ys) ≡ o
      there q =
          find_append-none (available ts w) xs ys
          (any_none (available ts w) xs (all_false (available ts w) xs (u w (Memᴰ.head refl)))) ∙ q

      go : (oldest ts w ys ≡ none) ⊎ ((e : Entry) × (oldest ts w ys ≡ some e))
          → ((zs : List Entry) → Numbered n (xs ++ zs)
          → serve_from (length xs) ts (xs ++ zs) ws ≡ serve ts (xs ++ zs) ws)
          → serve_from (length xs) ts (xs ++ ys) (w ∷ ws) ≡ serve ts (xs ++ ys) (w ∷ ws)
      go (inl q) below =
          from_waits (length xs) ts (xs ++ ys) w ws (here q)
          ∙ ap (waits_first w) (below ys h)
          ∙ sym (serve-none ts (xs ++ ys) w ws (there q))
      go (inr (e, q)) below =
          let apart = hand_out_behind ts w e xs ys (others ys h (find_some (available ts w) ys q).0) in
          let order = subst (Numbered n) apart (handed-numbered ts w e (xs ++ ys) h) in
          from_finds (length xs) ts (xs ++ ys) w ws e (here q)
          ∙ ap (λ es. found_first w e (serve_from (length xs) ts es ws))
          (handed_there ts w (length xs) (xs ++ ys) h (here q) ∙ apart)
          ∙ ap (found_first w e) (below (hand_out ts w e ys) order)
          ∙ ap (λ es. found_first w e (serve ts es ws)) (sym apart)
          ∙ sym (serve_some ts (xs ++ ys) w ws e (there q))

-- so of the entries before row k
module _ {n : ℕ} (k : ℕ) (m : Model) (h : Numbered n m.entries)
    (u : All (λ w. All (λ e. available m.txns w e ≡ false) (take k m.entries)) m.waits) where
  within : k ≤ length m.entries → service_from k m ≡ service m
  unfolding service_from service
  within l =
      ap (as_done m)
      (ap₂ (λ i es. serve_from i m.txns es m.waits) (omega (arith, length-take k m.entries)) (sym split)
      ∙ serve_behind m.txns (take k m.entries) (drop k m.entries) m.waits (subst⁻¹ (Numbered n) split h) u
      ∙ ap (λ es. serve m.txns es m.waits) split)
    where
      split : take k m.entries ++ drop k m.entries ≡ m.entries
      split = take-append-drop k m.entries

  behind : length m.entries ≤ k → service_from k m ≡ service m
  behind l =
      from_none k m l
      ∙ sym (service-idle m (λ w i. all_false (available m.txns w) m.entries
      (subst (All (λ e. available m.txns w e ≡ false)) (take_all k m.entries l) (u w i))))

  pub service_from_lem : service_from k m ≡ service m
  service_from_lem = go (dec_lt k (length m.entries))
    where
      go : Dec (k < length m.entries) → service_from k m ≡ service m
      go (yes l) = within (omega arith)
      go (no l) = behind (omega arith)

pub service-whole : {n : ℕ} (m : Model) → Numbered n m.entries → service_from 0 m ≡ service m
service-whole m h = service_from_lem 0 m h (λ w i e j. absurd (Memᴰ.not-nil j))

-- ---- a found for each look-up that waits no longer
from_length : (k : ℕ) (ts : List Txn) (ws : List LookUp) (es : List Entry)
    → length (serve_from k ts es ws).records + length (serve_from k ts es ws).waits ≡ length ws
unfolding serve_from
from_length k ts [] es = refl
from_length k ts (w ∷ ws) es = go (option_cases (oldest ts w (drop k es))) (from_length k ts ws)
  where
    go : (oldest ts w (drop k es) ≡ none) ⊎ ((e : Entry) × (oldest ts w (drop k es) ≡ some e))
        → ((xs : List Entry)
        → length (serve_from k ts xs ws).records + length (serve_from k ts xs ws).waits ≡ length ws)
        → length (serve_from k ts es (w ∷ ws)).records + length (serve_from k ts es (w ∷ ws)).waits
        ≡ length (w ∷ ws)
    go (inl q) below =
        ap (λ (r : Served). length r.records + length r.waits) (from_waits k ts es w ws q)
        ∙ omega (arith, below es)
    go (inr (e, q)) below =
        ap (λ (r : Served). length r.records + length r.waits) (from_finds k ts es w ws e q)
        ∙ omega (arith, below (hand_at ts w e (oldest_row ts w k es) es))

pub from_counts : (k : ℕ) (m : Model)
    → length (service_from k m).records + length (service_from k m).model.waits ≡ length m.waits
unfolding service_from
from_counts k m = from_length k m.txns m.waits m.entries
