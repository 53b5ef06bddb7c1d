-- A space whose every step from a sound state is one that the rules give: its histories are runs of the rules, and the
-- states that frames make are sound.
use mathlib.Core.Path.{◌≡◌, refl, sym, ap, ap₂, ◌∙◌, subst⁻¹}
use mathlib.Core.List.{List, ◌∷◌, map}
use lib.ListN.{length}
use Rattle.rules.specs.declared.Record.{Record}
use Rattle.rules.specs.State.{Model, empty}
use Rattle.rules.specs.Records.{area_after}
use Rattle.rules.specs.Step.{step}
use Rattle.rules.specs.Sound.{Sound}
use Rattle.rules.specs.Allowed.{Answered}
use Rattle.rules.specs.SerialRun.{Logged}
use Rattle.demands.specs.Machine.{Handed, Input, input_of, Machine, the_space, answered_by, the_rules}
use Rattle.demands.specs.History.{History, begun, handed, handed_of, Made, inputs_of}
use Rattle.sound.proofs.SoundProof.{sound_empty, sound-step}
use Rattle.demands.proofs.Runs.{runs, made_keep}
use Rattle.demands.proofs.JudgedProof.{number_is, refused-model}

-- a step that the rules give
pub record ByRule (S : Machine) (s : S.State) (h : Handed) (t : S.State) (a : Answered) : Type 0 where
  pub space : S.view t ≡ (step (S.view s) h.frame (length h.area)).model
  pub records : a.records ≡ (step (S.view s) h.frame (length h.area)).records
  pub count : a.count ≡ length a.records
  pub number : a.number ≡ (step (S.view s) h.frame (length h.area)).number
  pub bytes : a.area ≡ area_after a.records h.area
  pub unchanged : (a.number ≡ 0 → ⊥) → t ≡ s

pub record Follows (S : Machine) : Type 0 where
  pub starts : (s : S.State) → S.Empty s → S.view s ≡ empty
  pub steps : (s : S.State) (h : Handed) (t : S.State) (a : Answered) → Sound (S.view s) → S.Steps s h t a
      → ByRule S s h t a

-- the space that is built, and the rules themselves
pub space-follows : Follows the_space
space-follows =
    record {
      starts = λ s e. e;
      steps = λ s h t a sound p.
          record {
            space = p.space (λ _. sound);
            records = p.records (λ _. sound);
            count = p.count;
            number = p.number;
            bytes = p.bytes;
            unchanged = p.unchanged;
          };
    }

pub rules_follow : Follows the_rules
unfolding answered_by
rules_follow =
    record {
      starts = λ s e. e;
      steps = λ s h t a _ p.
          let o = step s h.frame (length h.area) in
          let number : a.number ≡ o.number = ap (λ (x : Answered). x.number) p.answered in
          let records : a.records ≡ o.records = ap (λ (x : Answered). x.records) p.answered in
          record {
            space = p.space;
            records = records;
            count = ap (λ (x : Answered). x.count) p.answered ∙ ap length (sym records);
            number = number;
            bytes =
                ap (λ (x : Answered). x.area) p.answered
                ∙ ap (λ (rs : List Record). area_after rs h.area) (sym records);
            unchanged = λ n.
                p.space ∙ refused-model s h.frame (length h.area)
                (λ e. n (number ∙ number_is s h.frame (length h.area) ∙ e));
          };
    }

-- a run from the model m with this log, to the model n
pub record RunTo (m : Model) (is : List Input) (log : List Logged) (n : Model) : Type 0 where
  pub model : n ≡ (runs m is).model
  pub log_is : log ≡ (runs m is).log

module _ (S : Machine) (f : Follows S) where
  pub run_to : {s t : S.State} {log : List Logged} (m : Model) → S.view s ≡ m → Sound m → (r : History S s log t)
      → RunTo m (map input_of (handed_of r)) log (S.view t)
  unfolding runs handed_of
  run_to m e sound (begun s) = record { model = e; log_is = refl }
  run_to m e sound (handed {s} {t} {u} {log} h a p rest) =
      let q = f.steps s h t a (subst⁻¹ Sound e sound) p in
      let o = step m h.frame (length h.area) in
      let r =
      run_to o.model (q.space ∙ ap (λ n. (step n h.frame (length h.area)).model) e)
      (sound-step m h.frame (length h.area) sound) rest in
      record {
        model = r.model;
        log_is =
            ap₂ {C = List Logged} (λ (rs : List Record) l. record { frame = h.frame; records = rs } ∷ l)
            (q.records ∙ ap (λ n. (step n h.frame (length h.area)).records) e) r.log_is;
      }

  -- a state that frames made is a run from the empty model
  pub run_of : {t : S.State} {log : List Logged} (r : Made S log t) → RunTo empty (inputs_of r) log (S.view t)
  run_of r = run_to empty (f.starts r.0 r.1) sound_empty r.2

  -- and it is sound
  pub made-sound : {t : S.State} {log : List Logged} → Made S log t → Sound (S.view t)
  made-sound r =
      subst⁻¹ Sound (run_of r).model
      (made_keep Sound (λ i m s. sound-step m i.frame i.area s) sound_empty (inputs_of r))
