-- A run of a tray's frames, as far as it has come.
use Prim.Native.Nat.{ℕ, suc, ◌+◌, ◌-◌, ◌*◌, ◌≤◌, ◌<◌}
use mathlib.Core.Bool.{cond}
use mathlib.Core.Path.{◌≡◌, refl, sym, ap, ◌∙◌}
use mathlib.Core.List.{List, [], ◌∷◌, ◌++◌, append_assoc, append-nil}
use native.Mathlib.Omega.{arith}
use borrow.Author.Tests.{le-ltb, lt-ltb}
use lib.ListN.{length, length-append}
use Rattle.rules.specs.declared.Record.{Record}
use Rattle.rules.specs.Numbers.{record_size, step_area, area_refused}
use Rattle.rules.specs.State.{Model, empty}
use Rattle.rules.specs.Step.{step}
use Rattle.rules.specs.Tray.{TrayOutcome, stopped, run_frames}

-- frames done and records written before what follows
pub before : ℕ → List Record → TrayOutcome → TrayOutcome
before k rs o = record { frames = k + o.frames; records = rs ++ o.records; number = o.number }

outcome : {j k n : ℕ} {rs qs : List Record} → j ≡ k → rs ≡ qs
    → ◌≡◌ {A = TrayOutcome}
    (record { frames = j; records = rs; number = n }) (record { frames = k; records = qs; number = n })
outcome {j} {k} {n} {rs} {qs} e q =
    ap (λ (x : ℕ). record { frames = x; records = rs; number = n }) e
    ∙ ap (λ (x : List Record). record { frames = k; records = x; number = n }) q

-- the frames fs have been done with an area of `size` bytes: the space is m, and the records rs stand in the area
pub record Ran (fs : List (List ℕ)) (size : ℕ) (m : Model) (rs : List Record) : Type 0 where
  pub run : (gs : List (List ℕ)) → run_frames empty size (fs ++ gs)
      ≡ before (length fs) rs (run_frames m (size - record_size * length rs) gs)

pub ran_none : (size : ℕ) → Ran [] size empty []
unfolding before
ran_none size =
    record {
      run = λ gs.
          let e : size ≡ size - record_size * length {A = Record} [] = omega arith in
          ap (λ n. run_frames empty n gs) e ∙ outcome (omega arith) refl;
    }

-- one frame more
pub ran_more : (fs : List (List ℕ)) (size : ℕ) (m : Model) (rs : List Record) (f : List ℕ)
    → Ran fs size m rs → record_size * length rs + step_area ≤ size
    → Ran (fs ++ (f ∷ [])) size
    (step m f (size - record_size * length rs)).model (rs ++ (step m f (size - record_size * length rs)).records)
unfolding run_frames before
ran_more fs size m rs f r h =
    record { run = λ gs. ap (run_frames empty size) (append_assoc fs (f ∷ []) gs) ∙ r.run (f ∷ gs) ∙ one gs }
  where
    one : (gs : List (List ℕ))
        → before (length fs) rs (run_frames m (size - record_size * length rs) (f ∷ gs))
        ≡ before (length (fs ++ (f ∷ []))) (rs ++ (step m f (size - record_size * length rs)).records)
        (run_frames (step m f (size - record_size * length rs)).model
        (size - record_size * length (rs ++ (step m f (size - record_size * length rs)).records)) gs)
    one gs =
        let o = step m f (size - record_size * length rs) in
        let left = size - record_size * length rs in
        let q = run_frames o.model (left - record_size * length o.records) gs in
        let done : TrayOutcome =
        record { frames = suc q.frames; records = o.records ++ q.records; number = q.number } in
        let n : size - record_size * length (rs ++ o.records) ≡ left - record_size * length o.records =
        omega (arith, length-append rs o.records) in
        ap (λ b. before (length fs) rs (cond b (stopped area_refused) done)) (le-ltb left step_area (omega arith))
        ∙ outcome (omega (arith, length-append fs (f ∷ []))) (sym (append_assoc rs o.records _))
        ∙ ap (λ k. before (length (fs ++ (f ∷ []))) (rs ++ o.records) (run_frames o.model k gs)) (sym n)

-- all frames are done
pub ran_all : (fs : List (List ℕ)) (size : ℕ) (m : Model) (rs : List Record) → Ran fs size m rs
    → run_frames empty size fs ≡ record { frames = length fs; records = rs; number = 0 }
unfolding run_frames before
ran_all fs size m rs r =
    ap (run_frames empty size) (sym (append-nil fs)) ∙ r.run [] ∙ outcome (omega arith) (append-nil rs)

stops : (m : Model) (size : ℕ) (g : List ℕ) (gs : List (List ℕ)) → size < step_area
    → run_frames m size (g ∷ gs) ≡ stopped area_refused
unfolding run_frames
stops m size g gs h = rw (lt-ltb size step_area h)

-- it stops with 1 before a frame for which under 700 bytes are left
pub ran_stops : (fs gs : List (List ℕ)) (g : List ℕ) (size : ℕ) (m : Model) (rs : List Record) → Ran fs size m rs
    → size < record_size * length rs + step_area
    → run_frames empty size (fs ++ (g ∷ gs)) ≡ record { frames = length fs; records = rs; number = area_refused }
unfolding run_frames before
ran_stops fs gs g size m rs r h =
    r.run (g ∷ gs)
    ∙ ap (before (length fs) rs) (stops m (size - record_size * length rs) g gs (omega arith))
    ∙ outcome (omega arith) (append-nil rs)
