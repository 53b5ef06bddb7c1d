-- What records and look-ups add to a party's figures, one after another; and what is still to come of a history.
use Rattle.std.proofs.Common.{◌≡◌, ℕ, suc, ◌+◌, ◌-◌, ◌*◌, ◌<◌, ◌≤◌, Bool, true, false, cond, not, ◌&&◌, ◌||◌, eqb, ltb}
use Rattle.std.proofs.Common.{leb, List, [], ◌∷◌, ◌++◌, length, take, set, sym, refl, ap, ◌∙◌, subst, ⊎_elim}
use Rattle.std.proofs.Common.{true≢false, add-one, arith, take_all, take-suc, ltb-false, ltb-true, le-ltb, lt-ltb}
use Rattle.std.proofs.Common.{eq-eqb, ne_eqb, eqb-true, le-leb, leb-true, Option, Some, None, get_or-set_same}
use Rattle.std.proofs.Common.{get_or-set_other}
use Rattle.std.specs.Int.{from_bool}
use mathlib.Core.Path.{subst⁻¹}
use borrow.Author.Tests.{eqb-false}
use Rattle.rules.specs.declared.Record.{Record}
use Rattle.rules.specs.Lists.{anyb, filterb}
use Rattle.rules.specs.Numbers.{max_party, kind_found, kind_waiting}
use Rattle.rules.specs.Numbers.{kind_refused}
use Rattle.rules.specs.Numbers.{record_size}
use Rattle.rules.specs.Frame.{decode, is_look_up}
use Rattle.rules.specs.Records.{plain, record_at}
use Rattle.rules.specs.Sound.{IsParty}
use Rattle.rules.specs.SerialRun.{Logged, was_refused}
use Rattle.rules.specs.Log.{records_of}
use Rattle.rules.proofs.BoolLaws.{bool_cases, and_left, and_right}
use Rattle.rules.proofs.ListLaws.{any_append, count, count-append, count_cons}
use Rattle.demands.specs.Answers.{closes}
use Rattle.demands.specs.WaitingList.{is_asked, number}
use Rattle.sittings.specs.declared.figures.Figures.{Figures}
use Rattle.sittings.specs.declared.waits.Wait.{Wait}
use Rattle.sittings.specs.Waits.{ticks, is_of, waits, waited, waits_of, asked_by, founds_of}
use Rattle.sittings.specs.Figures.{figures_for, plus, only, Gained}
use Rattle.sittings.specs.Watch.{wait_at, open_for, one, is_found_of, ended, heard_of, wait_after, asked_of, begun}
use Rattle.sittings.specs.Watch.{begins_if, gain_of, next_wait, pending, rest_of, left_of, Heard, Asked, Stand}
use Rattle.sittings.proofs.FigureLaws.{figures-same, figures-plus, plus_none, none-plus, gained-none}
use Rattle.sittings.proofs.FigureLaws.{gained-same, gained-then}

-- by cases of a test for equality
eqb_cases : (Q : Bool → Type 0) (i j : ℕ) → (i ≡ j → Q true) → ((i ≡ j → ⊥) → Q false) → Q (eqb i j)
eqb_cases Q i j f g =
    ⊎_elim (λ e. subst⁻¹ Q e (f (eqb-true i j e))) (λ e. subst⁻¹ Q e (g (eqb-false i j e))) (bool_cases (eqb i j))

-- a `bool` as a number
pub one_of : {n : ℕ} (b : Bool) → n ≡ from_bool b → n ≡ one b
one_of true e = e
one_of false e = e

-- ---- the waits, of which one is put
pub wait_put : (ws : List (Option Wait)) (p : ℕ) (w : Option Wait) → p < length ws → (q : ℕ)
    → wait_at (set ws p w) q ≡ cond (eqb p q) w (wait_at ws q)
wait_put ws p w h q =
    eqb_cases (λ b. wait_at (set ws p w) q ≡ cond b w (wait_at ws q)) p q
    (λ e. ap (wait_at (set ws p w)) (sym e) ∙ get_or-set_same ws p w None h)
    (λ n. get_or-set_other ws p q w None (λ e. n (sym e)))

-- ---- records, one list behind another: a wait is closed by the first, by those behind them, or by none
module _ (p : ℕ) (xs ys : List Record) where
  after-append : (w : Option Wait) → wait_after p w (xs ++ ys) ≡ wait_after p (wait_after p w xs) ys
  after-append None = refl
  after-append (Some w) =
      ap (λ b. cond b None (Some w)) (any_append (closes p w.txn.0) xs ys) ∙ go (anyb (closes p w.txn.0) xs)
    where
      go : (b : Bool)
          → cond (b || anyb (closes p w.txn.0) ys) None (Some w) ≡ wait_after p (cond b None (Some w)) ys
      go true = refl
      go false = refl

  ended-append : (clock : ℕ) (w : Option Wait)
      → ended p clock w (xs ++ ys) ≡ ended p clock w xs ++ ended p clock (wait_after p w xs) ys
  ended-append clock None = refl
  ended-append clock (Some w) =
      ap (λ b. cond b (t ∷ []) []) (any_append (closes p w.txn.0) xs ys) ∙ go (anyb (closes p w.txn.0) xs)
    where
      t : ℕ
      t = clock - w.since

      go : (b : Bool)
          → cond (b || anyb (closes p w.txn.0) ys) (t ∷ []) []
          ≡ cond b (t ∷ []) [] ++ ended p clock (cond b None (Some w)) ys
      go true = refl
      go false = refl

  heard-append : (clock : ℕ) (w : Option Wait)
      → heard_of p clock w (xs ++ ys) ≡ plus (heard_of p clock w xs) (heard_of p clock (wait_after p w xs) ys)
  heard-append clock w =
      figures-same refl (count-append (is_found_of p) xs ys) (ended-append clock w)
      ∙ sym (figures-plus 0 _ 0 _ (ended p clock w xs) (ended p clock (wait_after p w xs) ys))

-- one record, of the party
module _ (a : Record) {n : ℕ} (e : n ≡ one (eqb a.kind kind_found)) where
  pub own_found : n ≡ number (is_found_of a.party) (a ∷ [])
  own_found = e ∙ sym (rw (eq-eqb a.party a.party refl) (go (eqb a.kind kind_found)))
    where
      go : (b : Bool) → length (cond b (a ∷ []) []) ≡ one b
      go true = refl
      go false = refl

  -- it does not close the wait
  pub open_heard : (w : Wait) → closes a.party w.txn.0 a ≡ false → (clock : ℕ)
      → figures_for 0 n [] ≡ heard_of a.party clock (Some w) (a ∷ [])
  open_heard w h clock =
      figures-same refl own_found (sym (ap (λ b. cond (b || false) ((clock - w.since) ∷ []) []) h))

-- a record of another party, or of none, changes nothing
module _ (p : ℕ) (a : Record) (n : a.party ≡ p → ⊥) where
  not-closed : (txn : ℕ) → anyb (closes p txn) (a ∷ []) ≡ false
  not-closed txn = rw (ne_eqb a.party p n) refl

  pub other_left : (w : Option Wait) → wait_after p w (a ∷ []) ≡ w
  other_left None = refl
  other_left (Some w) = ap (λ b. cond b None (Some w)) (not-closed w.txn.0)

  pub other_heard : (clock : ℕ) (w : Option Wait) → heard_of p clock w (a ∷ []) ≡ figures_for 0 0 []
  other_heard clock w =
      figures-same refl (rw (ne_eqb a.party p n) refl) (go w)
    where
      go : (w : Option Wait) → ended p clock w (a ∷ []) ≡ []
      go None = refl
      go (Some w) = ap (λ b. cond b ((clock - w.since) ∷ []) []) (not-closed w.txn.0)

-- a record is heard by its party
pub heard-own : {clock : ℕ} {r r' : List ℕ} (ws : List (Option Wait)) (a : Record) {g : Figures} {v : Option Wait}
    → a.party < length ws → g ≡ heard_of a.party clock (wait_at ws a.party) (a ∷ [])
    → v ≡ wait_after a.party (wait_at ws a.party) (a ∷ []) → Gained r (only a.party g) r'
    → Heard clock r ws (a ∷ []) r' (set ws a.party v)
heard-own {clock} ws a {g} {v} l x y gained =
    record {
      gained = gained-same (λ p i. eqb_cases
          (λ b. cond b g (figures_for 0 0 []) ≡ heard_of p clock (wait_at ws p) (a ∷ [])) a.party p
          (λ q. x ∙ ap (λ k. heard_of k clock (wait_at ws k) (a ∷ [])) q)
          (λ n. sym (other_heard p a n clock (wait_at ws p)))) gained;
      left = λ p i. wait_put ws a.party v l p
          ∙ eqb_cases (λ b. cond b v (wait_at ws p) ≡ wait_after p (wait_at ws p) (a ∷ [])) a.party p
          (λ q. y ∙ ap (λ k. wait_after k (wait_at ws k) (a ∷ [])) q)
          (λ n. sym (other_left p a n (wait_at ws p)));
    }

-- one of no party by nobody
pub heard_nobody : {clock : ℕ} (r : List ℕ) (ws : List (Option Wait)) (a : Record) → (IsParty a.party → ⊥)
    → Heard clock r ws (a ∷ []) r ws
heard_nobody {clock} r ws a no-party =
    let other : (p : ℕ) → IsParty p → a.party ≡ p → ⊥ = λ p i e. no-party (subst⁻¹ IsParty e i) in
    record {
      gained = gained-same (λ p i. sym (other_heard p a (other p i) clock (wait_at ws p))) (gained-none r);
      left = λ p i. sym (other_left p a (other p i) (wait_at ws p));
    }

pub heard-none : (clock : ℕ) (r : List ℕ) (os : List (Option Wait)) → Heard clock r os [] r os
heard-none clock r os =
    record {
      gained = gained-same (λ p i. sym (heard_nothing p clock (wait_at os p))) (gained-none r);
      left = λ p i. sym (left_nothing p (wait_at os p));
    }
  where
    heard_nothing : (p clock : ℕ) (w : Option Wait) → heard_of p clock w [] ≡ figures_for 0 0 []
    heard_nothing p clock None = refl
    heard_nothing p clock (Some w) = refl

    left_nothing : (p : ℕ) (w : Option Wait) → wait_after p w [] ≡ w
    left_nothing p None = refl
    left_nothing p (Some w) = refl

pub heard-then : {clock : ℕ} {r r' r'' : List ℕ} {os os' os'' : List (Option Wait)} {xs ys : List Record}
    → Heard clock r os xs r' os'
    → Heard clock r' os' ys r'' os'' → Heard clock r os (xs ++ ys) r'' os''
heard-then {clock} {os = os} {xs = xs} {ys} h k =
    record {
      gained =
          gained-same (λ p i. ap (λ w. plus (heard_of p clock (wait_at os p) xs) (heard_of p clock w ys)) (h.left p i)
          ∙ sym (heard-append p xs ys clock (wait_at os p))) (gained-then h.gained k.gained);
      left = λ p i. k.left p i ∙ ap (λ w. wait_after p w ys) (h.left p i)
          ∙ sym (after-append p xs ys (wait_at os p));
    }

-- ---- a step's records in an area, one after another
pub stand-next : {area : List ℕ} {n : ℕ} {rs : List Record} (i : ℕ) → Stand area n rs → i < n
    → take (i + 1) rs ≡ take i rs ++ (record_at area (record_size * i) ∷ [])
stand-next {rs = rs} i s h =
    ap (λ k. take k rs) (add-one i) ∙ take-suc rs i (plain 0 0 0) (omega (arith, s.counts))
    ∙ ap (λ a. take i rs ++ (a ∷ [])) (sym (s.each i h))

pub stand-all : {area : List ℕ} {n : ℕ} {rs : List Record} (i : ℕ) → Stand area n rs → n ≤ i → take i rs ≡ rs
stand-all {rs = rs} i s h = take_all i rs (omega (arith, s.counts))

pub count_next : (q : Record → Bool) {area : List ℕ} {n : ℕ} {rs : List Record} (i : ℕ) → Stand area n rs → i < n
    → count q (take i rs) + one (q (record_at area (record_size * i))) ≡ count q (take (i + 1) rs)
count_next q {area} {rs = rs} i s h =
    let a = record_at area (record_size * i) in
    omega (
      arith,
      ap (count q) (stand-next i s h),
      count-append q (take i rs) (a ∷ []),
      count_cons q a [],
    )

pub count-all : (q : Record → Bool) {area : List ℕ} {n : ℕ} {rs : List Record} (i : ℕ) → Stand area n rs → n ≤ i
    → count q (take i rs) ≡ count q rs
count-all q i s h = ap (count q) (stand-all i s h)

pub heard-next : {clock : ℕ} {r r' r'' area : List ℕ} {os os' os'' : List (Option Wait)} {n : ℕ} {rs : List Record}
    (i : ℕ)
    → Stand area n rs → i < n → Heard clock r os (take i rs) r' os' → {a : Record} → a
    ≡ record_at area (record_size * i)
    → Heard clock r' os' (a ∷ []) r'' os'' → Heard clock r os (take (i + 1) rs) r'' os''
heard-next {clock} {r} {r'' = r''} {os = os} {os'' = os''} {rs = rs} i s h x e y =
    subst⁻¹ (λ qs. Heard clock r os qs r'' os'') (stand-next i s h ∙ ap (λ a. take i rs ++ (a ∷ [])) (sym e))
    (heard-then x y)

pub heard_all : {clock : ℕ} {r r' area : List ℕ} {os os' : List (Option Wait)} {n : ℕ} {rs : List Record} (i : ℕ)
    → Stand area n rs → n ≤ i
    → Heard clock r os (take i rs) r' os' → Heard clock r os rs r' os'
heard_all {clock} {r} {r'} {os = os} {os'} i s h x = subst (λ qs. Heard clock r os qs r' os') (stand-all i s h) x

-- some are of a kind, or none is
pub any-count : {A : Type 0} (q : A → Bool) (xs : List A) → anyb q xs ≡ not (eqb (count q xs) 0)
any-count q [] = refl
any-count {A} q (x ∷ xs) = go (q x) (any-count q xs)
  where
    go : (b : Bool) → anyb q xs ≡ not (eqb (count q xs) 0)
        → (b || anyb q xs) ≡ not (eqb (length (cond b (x ∷ filterb q xs) (filterb q xs))) 0)
    go true e = sym (ap not (ne_eqb (suc (length (filterb q xs))) 0 (λ z. omega arith)))
    go false e = e

-- whether the first record says that the frame was refused
pub refused_none : {area : List ℕ} {n : ℕ} (rs : List Record) → Stand area n rs → n ≡ 0 → true ≡ was_refused rs
unfolding was_refused
refused_none [] s e = refl
refused_none (a ∷ rs) s e = absurd (omega (arith, s.counts))

pub refused_first : {area : List ℕ} {n : ℕ} {own : Record} (rs : List Record) → Stand area n rs → (n ≡ 0 → ⊥)
    → own ≡ record_at area 0 → eqb own.kind kind_refused ≡ was_refused rs
unfolding was_refused
refused_first [] s d e = absurd (d s.counts)
refused_first {n = n} (a ∷ rs) s d e =
    let more : 0 < n = omega (arith, s.counts) in ap (λ (x : Record). eqb x.kind kind_refused) (e ∙ s.each 0 more)

-- ---- a frame's look-up
abbrev pub is_in : ℕ → Bool
is_in p = leb 1 p && leb p max_party

pub is_in_lem : (p : ℕ) → is_in p ≡ true → IsParty p
is_in_lem p e =
    record {
      first = leb-true 1 p (and_left (leb 1 p) (leb p max_party) e);
      last = leb-true p max_party (and_right (leb 1 p) (leb p max_party) e);
    }

pub is_out : (p : ℕ) → is_in p ≡ false → IsParty p → ⊥
is_out p e h = true≢false (sym (rw (le-leb 1 p h.first, le-leb p max_party h.last) refl) ∙ e)

abbrev since_in : ℕ → ℕ → Option Wait
since_in clock txn = Some (record { since = clock; txn = record { 0 = txn } })

module _ (l : Logged) {op party : ℕ} (is-op : op ≡ (decode l.frame).op)
    (is_party : party ≡ (decode l.frame).party) where
  -- a look-up: whether it is refused, and whether it waits
  pub asked_so : {clock k : ℕ} {r r' : List ℕ} {os os' : List (Option Wait)} {g : Figures} {b : Bool}
      → is_look_up op ≡ true
      → k ≡ one (not (was_refused l.records)) → g ≡ figures_for k 0 [] → Gained r (only party g) r'
      → anyb (λ (a : Record). eqb a.kind kind_waiting) l.records ≡ b
      → ((q : ℕ) → wait_at os' q ≡ cond (eqb party q && b) (begun clock l) (wait_at os q)) → Asked clock r os l r' os'
  unfolding waits
  asked_so {clock} {k} {os = os} {g = g} {b} t e x gained y left =
      record {
        gained = gained-same (λ p i. counts p) gained;
        left = λ p i. left p ∙ begins p;
      }
    where
      is_one : is_look_up (decode l.frame).op ≡ true
      is_one = ap is_look_up (sym is-op) ∙ t

      counts : (p : ℕ) → only party g p ≡ asked_of p l
      counts p = rw (x, e, is_party, is_one) (go (eqb (decode l.frame).party p))
        where
          go : (x : Bool) → cond x (figures_for (one (not (was_refused l.records))) 0 []) (figures_for 0 0 [])
              ≡ figures_for (one (x && (true && not (was_refused l.records)))) 0 []
          go true = refl
          go false = refl

      begins : (p : ℕ) → cond (eqb party p && b) (begun clock l) (wait_at os p) ≡ begins_if p clock l (wait_at os p)
      begins p = rw (is_party, is_one, y) refl

  -- answered waiting, or not: as the count of such records tells
  said : (n : ℕ) → n ≡ count (λ (a : Record). eqb a.kind kind_waiting) l.records
      → anyb (λ (a : Record). eqb a.kind kind_waiting) l.records ≡ not (eqb n 0)
  said n c = any-count (λ (a : Record). eqb a.kind kind_waiting) l.records ∙ ap (λ i. not (eqb i 0)) (sym c)

  pub asked-waits : {clock k n txn : ℕ} {r r' : List ℕ} (os : List (Option Wait)) {g : Figures} → party < length os
      → is_look_up op ≡ true
      → k ≡ one (not (was_refused l.records)) → g ≡ figures_for k 0 [] → Gained r (only party g) r'
      → n ≡ count (λ (a : Record). eqb a.kind kind_waiting) l.records → (n ≡ 0 → ⊥) → txn ≡ (decode l.frame).txn
      → Asked clock r os l r' (set os party (since_in clock txn))
  asked-waits {clock} {n = n} {txn} os long t e x gained c d z =
      asked_so {b = true} t e x gained (said n c ∙ ap not (ne_eqb n 0 d))
      (λ q. wait_put os party (since_in clock txn) long q ∙ go (eqb party q) q
      ∙ ap (λ i. cond (eqb party q && true) (since_in clock i) (wait_at os q)) z)
    where
      go : (b : Bool) (q : ℕ)
          → cond b (since_in clock txn) (wait_at os q) ≡ cond (b && true) (since_in clock txn) (wait_at os q)
      go true q = refl
      go false q = refl

  pub asked-answered : {clock k n : ℕ} {r r' : List ℕ} {g : Figures} (os : List (Option Wait)) → is_look_up op ≡ true
      → k ≡ one (not (was_refused l.records)) → g ≡ figures_for k 0 [] → Gained r (only party g) r'
      → n ≡ count (λ (a : Record). eqb a.kind kind_waiting) l.records → n ≡ 0 → Asked clock r os l r' os
  asked-answered {clock} {n = n} os t e x gained c d =
      asked_so {b = false} t e x gained (said n c ∙ ap not (eq-eqb n 0 d)) (λ q. go (eqb party q) q)
    where
      go : (b : Bool) (q : ℕ) → wait_at os q ≡ cond (b && false) (begun clock l) (wait_at os q)
      go true q = refl
      go false q = refl

  -- no look-up, or one of no party
  pub not-asked : (clock : ℕ) (r : List ℕ) (os : List (Option Wait)) → (is_look_up op && is_in party) ≡ false
      → Asked clock r os l r os
  unfolding waits
  not-asked clock r os e =
      record {
        gained = gained-same (λ p i. sym (figures-same (ap one (none p i (not (was_refused l.records)))) refl refl))
            (gained-none r);
        left = λ p i. sym (ap (λ b. cond b (begun clock l) (wait_at os p)) (none p i _));
      }
    where
      out : IsParty party → is_look_up op ≡ false
      out h = go (is_look_up op) (rw (le-leb 1 party h.first, le-leb party max_party h.last) at e)
        where
          go : (x : Bool) → (x && (true && true)) ≡ false → x ≡ false
          go true z = z
          go false z = refl

      none : (p : ℕ) → IsParty p → (b : Bool)
          → (eqb (decode l.frame).party p && (is_look_up (decode l.frame).op && b)) ≡ false
      none p i b =
          eqb_cases (λ x. (x && (is_look_up (decode l.frame).op && b)) ≡ false) (decode l.frame).party p
          (λ q. ap (λ x. x && b) (ap is_look_up (sym is-op) ∙ out (subst⁻¹ IsParty (is_party ∙ q) i)))
          (λ _. refl)

-- ---- the waits that are open end
pub left_open : (clock p : ℕ) (os : List (Option Wait)) {r r' : List ℕ} {w : Wait} {g : Figures} → wait_at os p ≡ Some w
    → g ≡ figures_for 0 0 ((clock - w.since) ∷ []) → Gained r (only p g) r'
    → Gained r (only p (left_of clock (wait_at os p))) r'
left_open clock p os e x = gained-same (λ q i. ap (λ k. only p k q) (x ∙ ap (left_of clock) (sym e)))

pub left_shut : (clock p : ℕ) (os : List (Option Wait)) (r : List ℕ) → wait_at os p ≡ None
    → Gained r (only p (left_of clock (wait_at os p))) r
left_shut clock p os r e =
    gained-same (λ q i. go (eqb p q) ∙ ap (λ k. only p k q) (ap (left_of clock) (sym e))) (gained-none r)
  where
    go : (x : Bool) → figures_for 0 0 [] ≡ cond x (figures_for 0 0 []) (figures_for 0 0 [])
    go true = refl
    go false = refl

-- those of the parties before one
module _ (clock : ℕ) (os : List (Option Wait)) where
  abbrev pub ended_to : ℕ → ℕ → Figures
  ended_to n p = cond (ltb p n) (left_of clock (wait_at os p)) (figures_for 0 0 [])

  pub ended-none : (r : List ℕ) → Gained r (ended_to 1) r
  ended-none r =
      gained-same (λ p i. ap (λ b. cond b (left_of clock (wait_at os p)) (figures_for 0 0 []))
      (sym (le-ltb p 1 i.first))) (gained-none r)

  pub ended-next : {r r' r'' : List ℕ} (n : ℕ) → Gained r (ended_to n) r'
      → Gained r' (only n (left_of clock (wait_at os n))) r'' → Gained r (ended_to (n + 1)) r''
  ended-next n x y =
      gained-same (λ p i. eqb_cases
      (λ b. plus (ended_to n p) (cond b (left_of clock (wait_at os n)) (figures_for 0 0 [])) ≡ ended_to (n + 1) p)
      n p (same p) (other p)) (gained-then x y)
    where
      same : (p : ℕ) → n ≡ p → plus (ended_to n p) (left_of clock (wait_at os n)) ≡ ended_to (n + 1) p
      same p e =
          rw (le-ltb p n (omega arith), lt-ltb p (n + 1) (omega arith))
          (none-plus (left_of clock (wait_at os n)) ∙ ap (λ k. left_of clock (wait_at os k)) e)

      other : (p : ℕ) → (n ≡ p → ⊥) → plus (ended_to n p) (figures_for 0 0 []) ≡ ended_to (n + 1) p
      other p d =
          plus_none (ended_to n p)
          ∙ ap (λ b. cond b (left_of clock (wait_at os p)) (figures_for 0 0 []))
          (⊎_elim (λ t. t ∙ sym (lt-ltb p (n + 1) (let l = ltb-true p n t in omega arith)))
          (λ t. t ∙ sym (le-ltb p (n + 1) (let l = ltb-false p n t in omega (arith, d)))) (bool_cases (ltb p n)))

  pub ended-all : {r r' : List ℕ} (n : ℕ) → max_party < n → Gained r (ended_to n) r'
      → Gained r (λ p. left_of clock (wait_at os p)) r'
  ended-all n h =
      gained-same (λ p i. ap (λ b. cond b (left_of clock (wait_at os p)) (figures_for 0 0 []))
      (lt-ltb p n (let l = i.last in omega arith)))

-- ---- what is still to come
pub rest_none : (p clock : ℕ) (w : Option Wait) → rest_of p clock w [] ≡ left_of clock w
unfolding asked_by founds_of waits_of waited records_of
rest_none p clock w =
    figures-same refl refl (go w)
  where
    go : (w : Option Wait) → pending p clock w [] ++ [] ≡ open_for clock w
    go None = refl
    go (Some w) = let e : clock - w.since + 0 ≡ clock - w.since = omega arith in ap (λ n. n ∷ []) e

-- a frame, and what comes behind it: where a party that waits begins no other wait
module _ (p clock : ℕ) (l : Logged) (later : List Logged) where
  abbrev after : ℕ
  after = clock + ticks l

  abbrev begins : Bool
  begins = is_of p l && waits l

  waits_split : (w : Option Wait) → ((u : Wait) → w ≡ Some u → u.since ≤ clock)
      → ((u : Wait) → w ≡ Some u → begins ≡ false)
      → pending p clock w (l ∷ later) ++ waits_of p (l ∷ later)
      ≡ (ended p after w l.records ++ [])
      ++ (pending p after (next_wait p after w l) later ++ waits_of p later)
  unfolding waits_of waited
  waits_split None s o =
      go begins
    where
      go : (n : Bool) → cond n (waited p (decode l.frame).txn later ∷ waits_of p later) (waits_of p later)
          ≡ pending p after (cond n (begun after l) None) later ++ waits_of p later
      go true =
          let e : waited p (decode l.frame).txn later ≡ after - after + waited p (decode l.frame).txn later =
          omega arith in
          ap (λ k. k ∷ waits_of p later) e
      go false = refl
  waits_split (Some w) s o =
      go (anyb (closes p w.txn.0) l.records) begins (s w refl) (o w refl)
    where
      go : (x n : Bool) → w.since ≤ clock → n ≡ false
          → (clock - w.since + (ticks l + cond x 0 (waited p w.txn.0 later)))
          ∷ cond n (waited p (decode l.frame).txn later ∷ waits_of p later) (waits_of p later)
          ≡ (cond x ((after - w.since) ∷ []) [] ++ [])
          ++ (pending p after (cond n (begun after l) (cond x None (Some w))) later ++ waits_of p later)
      go x true h e = absurd (true≢false e)
      go true false h e =
          let k : clock - w.since + (ticks l + 0) ≡ after - w.since = omega arith in
          ap (λ i. i ∷ waits_of p later) k
      go false false h e =
          let k : clock - w.since + (ticks l + waited p w.txn.0 later) ≡ after - w.since + waited p w.txn.0 later =
          omega arith in
          ap (λ i. i ∷ waits_of p later) k

  pub rest_more : (w : Option Wait) → ((u : Wait) → w ≡ Some u → u.since ≤ clock)
      → ((u : Wait) → w ≡ Some u → begins ≡ false)
      → rest_of p clock w (l ∷ later) ≡ plus (gain_of p after w l) (rest_of p after (next_wait p after w l) later)
  unfolding asked_by founds_of records_of
  rest_more w s o =
      figures-same asked founds (waits_split w s o)
      ∙ sym (ap (λ x. plus x (rest_of p after (next_wait p after w l) later))
      (figures-plus 0 _ _ 0 (ended p after w l.records) [])
      ∙ figures-plus _ _ _ _ _ _)
    where
      asked : asked_by p (l ∷ later) ≡ 0 + one (is_of p l && is_asked l) + asked_by p later
      asked = omega (arith, count_cons (λ k. is_of p k && is_asked k) l later)

      founds : founds_of p (l ∷ later) ≡ length (filterb (is_found_of p) l.records) + 0 + founds_of p later
      founds = omega (arith, count-append (is_found_of p) l.records (records_of later))
