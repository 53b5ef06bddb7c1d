-- Same frames and area lengths: same replies, and the same tables in the space.
use Prim.Native.Nat.{ℕ}
use mathlib.Core.Path.{◌≡◌, refl, sym, ap, ap₂, ◌∙◌}
use mathlib.Core.List.{List, [], ◌∷◌, map}
use native.Mathlib.Omega.{arith}
use lib.ListN.{length}
use Rattle.rules.specs.State.{Model, empty}
use Rattle.rules.specs.Records.{answer_bytes}
use Rattle.rules.specs.Step.{Outcome, step}
use Rattle.rules.specs.SerialRun.{Logged}
use Rattle.demands.specs.Machine.{Handed, Input, input_of, Machine, answered_by, the_space}
use Rattle.demands.specs.History.{logged, History, begun, handed, handed_of, answers_of}
use Rattle.demands.specs.Determined.{ruled, Determined}
use Rattle.demands.specs.Fixed.{Reply, reply_of, Fixed}
use Rattle.rules.proofs.AreaLaws.{area-front}
use Rattle.demands.proofs.Runs.{made}
use Rattle.demands.proofs.ByRule.{space-follows, run_of}
use Rattle.demands.proofs.DeterminedProof.{every_history}

-- the reply to an outcome does not depend on what stands in the area
outcome_reply : Outcome → Reply
outcome_reply o =
    record {
      records = o.records;
      count = length o.records;
      number = o.number;
      bytes = answer_bytes o.records;
    }

reply_is : (o : Outcome) (area : List ℕ) → reply_of (answered_by o area) ≡ outcome_reply o
unfolding answered_by outcome_reply
reply_is o area =
    ap (λ (bytes : List ℕ).
    record { records = o.records; count = length o.records; number = o.number; bytes = bytes })
    (area-front o.records area)

same-replies : (m : Model) (hs ks : List Handed) → map input_of hs ≡ map input_of ks
    → map reply_of (ruled m hs) ≡ map reply_of (ruled m ks)
unfolding ruled
same-replies m [] [] q = refl
same-replies m [] (k ∷ ks) q = absurd (let z : ◌≡◌ {A = ℕ} 0 1 = cc in omega arith)
same-replies m (h ∷ hs) [] q = absurd (let z : ◌≡◌ {A = ℕ} 0 1 = cc in omega arith)
same-replies m (h ∷ hs) (k ∷ ks) q =
    let outcome : Input → Outcome = λ i. step m i.frame i.area in
    let one : input_of h ≡ input_of k = cc in
    let others : map input_of hs ≡ map input_of ks = cc in
    ap₂ {C = List Reply} (λ r l. r ∷ l)
    (reply_is (outcome (input_of h)) h.area ∙ ap (λ i. outcome_reply (outcome i)) one
    ∙ sym (reply_is (outcome (input_of k)) k.area))
    (same-replies (outcome (input_of h)).model hs ks others
    ∙ ap (λ i. map reply_of (ruled (outcome i).model ks)) one)

-- a log is what was handed in and what was replied
log_from : List Input → List Reply → List Logged
log_from [] rs = []
log_from (i ∷ is) [] = []
log_from (i ∷ is) (r ∷ rs) = record { frame = i.frame; records = r.records } ∷ log_from is rs

log_is : (S : Machine) {s t : S.State} {log : List Logged} (r : History S s log t)
    → log ≡ log_from (map input_of (handed_of r)) (map reply_of (answers_of r))
unfolding log_from handed_of answers_of
log_is S (begun s) = refl
log_is S (handed h a p rest) = ap {B = List Logged} (λ l. logged h a ∷ l) (log_is S rest)

pub every_reply : Fixed
unfolding Determined
every_reply =
    record {
      replies = λ S R d1 d2 e1 e2 log log' t u one other q.
          let same =
          ap (map reply_of) (every_history S d1 d2 log t one) ∙ same-replies empty _ _ q
          ∙ sym (ap (map reply_of) (every_history R e1 e2 log' u other)) in
          (same, log_is S one.2 ∙ ap₂ log_from q same ∙ sym (log_is R other.2));
      tables = λ log log' t u one other q.
          (run_of the_space space-follows one).model ∙ ap made q ∙ sym (run_of the_space space-follows other).model;
      trays = λ tray area n k bytes bytes' one other. (
        one.returns ∙ sym other.returns,
        one.leaves ∙ sym other.leaves,
      );
    }
