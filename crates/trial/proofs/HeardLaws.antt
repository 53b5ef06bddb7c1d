-- What a pane hears: the rules' pane and the code's, and what is counted of it.
use Prim.Native.Nat.{ℕ, suc, ◌+◌, ◌*◌, ◌≤◌, ◌<◌}
use Rattle.std.specs.Int.{from_bool}
use Rattle.std.proofs.Common.{below_more}
use mathlib.Core.Bool.{Bool, true, false, cond, ◌&&◌}
use mathlib.Core.Logic.{⊎_elim}
use mathlib.Core.Path.{◌≡◌, refl, sym, ap, ap₂, ◌∙◌}
use mathlib.Core.List.{List, [], ◌∷◌, ◌++◌, map}
use native.Mathlib.Omega.{arith}
use borrow.Author.Tests.{eq-eqb, ne_eqb, eqb-true, eqb-false}
use lib.Dec.{eqb}
use lib.ListN.{length, set}
use lib.Seq.{get_or-set_same, get_or-set_other}
use Rattle.rules.specs.declared.Record.{Record}
use Rattle.rules.specs.Records.{record_at}
use Rattle.rules.specs.Numbers.{record_size, kind_nothing, kind_committed, kind_exception}
use Rattle.rules.proofs.BoolLaws.{bool_cases}
use Rattle.rules.proofs.ListLaws.{count, count_cons}
use Rattle.trial.specs.declared.Pane.{Pane}
use Rattle.trial.specs.declared.Progress.{Progress}
use Rattle.trial.specs.Setup.{pane_count, pane_at}
use Rattle.trial.specs.Panes.{hears}
use Rattle.trial.specs.Trial.{Trier, in_stage, hears_all}
use Rattle.trial.specs.Progress.{fresh, at, total, Room, heard_by, heard_as, follows, records_at, held_by, Each}
use Rattle.trial.specs.Trying.{in_words, trier_at}
use Rattle.trial.proofs.WordLaws.{in_record, hears-same}

-- a pane as the code knows it
abbrev pub in_trier : Trier → Trier
in_trier x = in_stage (in_words x.stage) x

pub heard-same : (rs : List Record) (x : Trier) → in_trier (hears_all rs x) ≡ hears_all (map in_record rs) (in_trier x)
unfolding hears_all in_record
heard-same [] x = refl
heard-same (a ∷ later) x =
    heard-same later (one (eqb a.party x.party))
    ∙ ap (hears_all (map in_record later)) (same (eqb a.party x.party))
  where
    one : Bool → Trier
    one b = cond b (in_stage (hears x.pane a x.stage) x) x

    same : (b : Bool)
        → in_trier (one b)
        ≡ cond b (in_stage (hears x.pane (in_record a) (in_words x.stage)) (in_trier x)) (in_trier x)
    same true = ap (λ s. in_stage s x) (hears-same x.pane a x.stage)
    same false = refl

pub heard-trier : (ws : List ℕ) (rs : List Record) (i : ℕ) (x : Progress)
    → hears_all rs (trier_at ws i x) ≡ trier_at ws i (follows ws rs i x)
unfolding hears_all follows heard_as heard_by
heard-trier ws [] i x = refl
heard-trier ws (a ∷ later) i x =
    ap (hears_all later) (one (eqb a.party (suc i))) ∙ heard-trier ws later i (heard_as ws a i x)
  where
    one : (b : Bool)
        → cond b (in_stage (hears (pane_at ws i) a x.stage) (trier_at ws i x)) (trier_at ws i x)
        ≡ trier_at ws i (cond b (heard_by (pane_at ws i) a x) x)
    one true = refl
    one false = refl

-- one record more
pub follows_more : (ws : List ℕ) (rs : List Record) (a : Record) (i : ℕ) (x : Progress)
    → follows ws (rs ++ (a ∷ [])) i x ≡ heard_as ws a i (follows ws rs i x)
unfolding follows
follows_more ws [] a i x = refl
follows_more ws (b ∷ rs) a i x = follows_more ws rs a i (heard_as ws b i x)

-- each record adds at most one to each count
pub heard-total : (ws : List ℕ) (a : Record) (i : ℕ) (x : Progress) → total (heard_as ws a i x) ≤ total x + 3
unfolding heard_as heard_by
heard-total ws a i x =
    go (eqb a.party (suc i)) (eqb a.kind kind_committed) (eqb a.kind kind_exception) (eqb a.kind kind_nothing)
  where
    one : (b : Bool) → cond b 1 0 ≤ 1
    one true = omega arith
    one false = omega arith

    go : (b c e n : Bool)
        → total (cond b (record {
          stage = hears (pane_at ws i) a x.stage;
          commits = x.commits + cond c 1 0;
          exceptions = x.exceptions + cond e 1 0;
          nothings = x.nothings + cond n 1 0;
        }) x)
        ≤ total x + 3
    go true c e n = omega (arith, one c, one e, one n)
    go false c e n = omega arith

-- a count `get` to which each record to the pane adds one if it is of a kind
module _ (get : Progress → ℕ) (kind : ℕ)
    (adds : (p : Pane) (a : Record) (x : Progress) → get (heard_by p a x) ≡ get x + cond (eqb a.kind kind) 1 0)
  where
    abbrev counts : ℕ → Record → Bool
    counts i a = eqb a.kind kind && eqb a.party (suc i)

    adds_one : (ws : List ℕ) (a : Record) (i : ℕ) (x : Progress)
        → get (heard_as ws a i x) ≡ get x + cond (counts i a) 1 0
    unfolding heard_as
    adds_one ws a i x = go (eqb a.party (suc i)) (eqb a.kind kind) (adds (pane_at ws i) a x)
      where
        go : (b k : Bool) → get (heard_by (pane_at ws i) a x) ≡ get x + cond k 1 0
            → get (cond b (heard_by (pane_at ws i) a x) x) ≡ get x + cond (k && b) 1 0
        go true true e = e
        go true false e = e
        go false true e = omega arith
        go false false e = omega arith

    pub follows-adds : (ws : List ℕ) (rs : List Record) (i : ℕ) (x : Progress)
        → get (follows ws (map in_record rs) i x) ≡ get x + count (counts i) rs
    unfolding follows in_record
    follows-adds ws [] i x = omega arith
    follows-adds ws (a ∷ rs) i x =
        omega (
          arith,
          follows-adds ws rs i (heard_as ws (in_record a) i x),
          adds_one ws (in_record a) i x,
          count_cons (counts i) a rs,
        )

-- a record to another
heard-not : (ws : List ℕ) (a : Record) (i : ℕ) (x : Progress) → (a.party ≡ suc i → ⊥) → heard_as ws a i x ≡ x
unfolding heard_as
heard-not ws a i x h = rw (ne_eqb a.party (suc i) h)

-- nobody is told
pub each_same : {ws : List ℕ} (a : Record) {xs : List Progress}
    → ((i : ℕ) → i < pane_count ws → a.party ≡ suc i → ⊥) → Each ws (heard_as ws a) xs xs
each_same {ws} a {xs} h = record { each = λ i l. sym (heard-not ws a i (at xs i) (h i l)) }

-- the pane at k is told
pub each_set : {ws : List ℕ} (a : Record) {xs : List Progress} {y : Progress} (k : ℕ) → k < length xs
    → a.party ≡ suc k → y ≡ heard_by (pane_at ws k) a (at xs k) → Each ws (heard_as ws a) xs (set xs k y)
unfolding heard_as
each_set {ws} a {xs} {y} k l p e =
    record { each = λ i h. ⊎_elim (λ b. go i (eqb-true i k b)) (λ b. other i (eqb-false i k b)) (bool_cases (eqb i k)) }
  where
    go : (i : ℕ) → i ≡ k → at (set xs k y) i ≡ heard_as ws a i (at xs i)
    go i q =
        ap (λ j. at (set xs k y) j) q
        ∙ get_or-set_same xs k y fresh l
        ∙ e
        ∙ sym (ap (λ b. cond b (heard_by (pane_at ws k) a (at xs k)) (at xs k)) (eq-eqb a.party (suc k) p))
        ∙ ap (λ j. heard_as ws a j (at xs j)) (sym q)

    other : (i : ℕ) → (i ≡ k → ⊥) → at (set xs k y) i ≡ heard_as ws a i (at xs i)
    other i q =
        get_or-set_other xs k i y fresh q ∙ sym (heard-not ws a i (at xs i) (λ r. q (omega (arith, p, r))))

-- one record more of those in front of an area
pub each_more : {ws : List ℕ} (area : List ℕ) (i : ℕ) {xs ys zs : List Progress} (a : Record)
    → Each ws (follows ws (records_at area i)) xs ys → a ≡ record_at area (record_size * i)
    → Each ws (heard_as ws a) ys zs → Each ws (follows ws (records_at area (i + 1))) xs zs
each_more {ws} area i {xs} {ys} {zs} a before e one = record { each = go }
  where
    go : (j : ℕ) → j < pane_count ws → at zs j ≡ follows ws (records_at area (i + 1)) j (at xs j)
    go j h =
        let more : i + 1 ≡ suc i = omega arith in
        one.each j h
        ∙ ap₂ (λ b x. heard_as ws b j x) e (before.each j h)
        ∙ sym (follows_more ws (records_at area i) (record_at area (record_size * i)) j (at xs j))
        ∙ ap (λ n. follows ws (records_at area n) j (at xs j)) (sym more)

-- room for one record less
pub room-less : {ws : List ℕ} (a : Record) {ys zs : List Progress} (m n : ℕ) → Each ws (heard_as ws a) ys zs
    → Room ws n ys → m + 1 ≤ n → Room ws m zs
room-less {ws} a {ys} m n one room h i l =
    omega (arith, ap total (one.each i l), heard-total ws a i (at ys i), room i l, h)

-- a `bool` as a number
pub one_of : {n : ℕ} (b : Bool) → n ≡ from_bool b → n ≡ cond b 1 0
one_of true e = e
one_of false e = e

-- one pane more is held
pub held_more : (xs ys : List Progress) {y : Progress} (k : ℕ) → k < length ys → y ≡ held_by (at ys k)
    → ((i : ℕ) → i < k → at ys i ≡ held_by (at xs i)) × ((i : ℕ) → k ≤ i → at ys i ≡ at xs i)
    → ((i : ℕ) → i < k + 1 → at (set ys k y) i ≡ held_by (at xs i))
    × ((i : ℕ) → k + 1 ≤ i → at (set ys k y) i ≡ at xs i)
held_more xs ys {y} k l e h = (
  below_more _ _ (λ i b. get_or-set_other ys k i y fresh (λ q. omega arith) ∙ h.0 i b)
      (get_or-set_same ys k y fresh l ∙ e ∙ ap held_by (h.1 k (omega arith))),
  λ i b. get_or-set_other ys k i y fresh (λ q. omega arith) ∙ h.1 i (omega arith),
)
