-- A look-up's own part, by what the search of the entries finds.
use Prim.Native.Nat.{ℕ}
use mathlib.Core.Bool.{true, false}
use mathlib.Core.Option.{none, some}
use mathlib.Core.Path.{◌≡◌, sym, ap, subst}
use mathlib.Core.List.{List, [], ◌∷◌, ◌++◌}
use Rattle.rules.specs.declared.Entry.{Entry}
use Rattle.rules.specs.declared.LookUp.{LookUp}
use Rattle.rules.specs.declared.Record.{Record}
use Rattle.rules.specs.State.{Model, with_waits}
use Rattle.rules.specs.Frame.{Frame}
use Rattle.rules.specs.Holds.{oldest}
use Rattle.rules.specs.Done.{Carried}
use Rattle.rules.specs.LookUp.{look_up_of, gives_nothing, answer_found, answer_nothing, answer_waiting, answer, look_up}
use Rattle.rules.specs.Records.{found, nothing, waiting}
use Rattle.rules.specs.Words.{view}
use Rattle.step.specs.Carries.{Carries}

-- the same, said of an equal own part
pub carries_as : {c c' : Carried} (ws' : List ℕ) (r : Record) → c ≡ c' → Carries c ws' r → Carries c' ws' r
carries_as ws' r q h = subst (λ d. Carries d ws' r) q h

-- ---- with no entry available
module _ (ws ws' : List ℕ) (w : LookUp) (timeout : ℕ) {r : Record} where
  pub gets_nothing : gives_nothing (view ws) w timeout ≡ true → ws' ≡ ws → r ≡ nothing w
      → Carries (answer (view ws) w timeout none) ws' r
  unfolding answer answer_nothing
  gets_nothing g s e = rw g (record { model = ap view s; own = e })

  pub waits_on : gives_nothing (view ws) w timeout ≡ false
      → view ws' ≡ with_waits ((view ws).waits ++ (w ∷ [])) (view ws) → r ≡ waiting w
      → Carries (answer (view ws) w timeout none) ws' r
  unfolding answer answer_waiting
  waits_on g v e = rw g (record { model = v; own = e })

-- ---- by what is found
module _ (ws ws' : List ℕ) (f : Frame) (w : LookUp) (q : w ≡ look_up_of (view ws) f) where
  abbrev m : Model
  m = view ws

  pub none_found : {r : Record} → oldest m.txns w m.entries ≡ none
      → Carries (answer m w f.lease_or_timeout none) ws' r → Carries (look_up m f) ws' r
  unfolding look_up
  none_found {r} n h = carries_as ws' r (rw (sym q, n)) h

  pub one_found : {e : Entry} {r : Record} → oldest m.txns w m.entries ≡ some e
      → view ws' ≡ (answer_found m w e).model
      → r ≡ found w e → Carries (look_up m f) ws' r
  unfolding look_up answer answer_found
  one_found n v e = record { model = rw (sym q, n) v; own = rw (sym q, n) e }
