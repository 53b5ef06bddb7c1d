-- What follows for any space that meets demands 1 and 2: it holds of the rules, and its tables and theirs are twins.
use mathlib.Core.Bool.{Bool, true, false, cond}
use mathlib.Core.Logic.{inl, inr, ⊎_elim}
use mathlib.Core.Path.{◌≡◌, sym, ap, ap₂, ◌∙◌, subst, subst⁻¹}
use mathlib.Core.List.{List, [], ◌∷◌, ◌++◌, map, Memᴰ}
use Rattle.rules.specs.declared.Record.{Record}
use Rattle.rules.specs.declared.LookUp.{LookUp}
use Rattle.rules.specs.State.{Model, with_waits}
use Rattle.rules.specs.Time.{reached}
use Rattle.rules.specs.Frame.{Frame, decode, is_look_up}
use Rattle.rules.specs.Records.{found, nothing, waiting}
use Rattle.rules.specs.LookUp.{look_up_of, asked}
use Rattle.rules.specs.Sound.{OneEach}
use Rattle.demands.specs.Machine.{the_rules}
use Rattle.demands.specs.Said.{Oldest}
use Rattle.demands.specs.Answers.{FirstOf, AnsweredNow, Permitted}
use Rattle.demands.specs.Consequences.{ConsequencesFollow}
use Rattle.demands.proofs.Twins.{Twins, some_same, asks-same, gives_same, oldest_back, available_in}
use Rattle.demands.proofs.Twins.{conflicts_in, found-same}
use Rattle.demands.proofs.DeterminedProof.{rules_follow_on, made_snoc, twins, goes_on, determined-run, beside}

-- the same first record
first_of-same : {a b : Record} {rs : List Record} → a ≡ b → FirstOf a rs → FirstOf b rs
first_of-same q (ws, is) = (ws, is ∙ ap (λ (r : Record). r ∷ map nothing ws) q)

answered_twins : (f : Frame) {m n u o : Model} {rs : List Record} → Twins m n → Twins u o
    → AnsweredNow n (look_up_of n f) f.lease_or_timeout rs o → AnsweredNow m (look_up_of m f) f.lease_or_timeout rs u
answered_twins f {m} {n} {u} {o} {rs} t t' a =
    let w = look_up_of m f in
    let asks = asks-same f t in
    record {
      found_case = λ q.
          let x = a.found_case (sym (some_same f t) ∙ q) in
          let e = t.entries.back x.0 x.1.stored in
          let o : Oldest n.txns w n.entries x.0 =
          subst⁻¹ (λ v. Oldest n.txns v n.entries x.0) asks x.1 in (
            e.0,
            oldest_back t.peers t.entries w e.2 e.1 o,
            first_of-same (ap (λ v. found v x.0) (sym asks) ∙ sym (found-same w e.2)) x.2,
          );
      nothing_case = λ q g.
          first_of-same (ap nothing (sym asks)) (a.nothing_case (sym (some_same f t) ∙ q) (sym (gives_same f t) ∙ g));
      waiting_case = λ q g.
          let r = a.waiting_case (sym (some_same f t) ∙ q) (sym (gives_same f t) ∙ g) in (
            first_of-same (ap waiting (sym asks)) r.0,
            subst⁻¹ (λ (v : LookUp). Memᴰ v u.waits) asks
                (subst⁻¹ (λ (k : Model). Memᴰ (look_up_of n f) k.waits) t'.same r.1),
          );
    }

permitted_twins : {m n : Model} {w : LookUp} → Twins m n → Permitted n w → Permitted m w
permitted_twins {m} {n} {w} t p =
    record {
      none_available = available_in t.peers t.entries w ∙ p.none_available;
      in_vain =
          ⊎_elim (λ r. inl (ap (λ (k : Model). reached k.clock w.deadline) t.same ∙ r))
          (λ r. inr (r.0, conflicts_in t.peers t.entries w ∙ r.1)) p.in_vain;
    }

asked-same : (f : Frame) {m n : Model} → Twins m n → (asked m f).waits ≡ (asked n f).waits
unfolding asked
asked-same f {m} {n} t = go (is_look_up f.op)
  where
    waits : m.waits ≡ n.waits
    waits = ap (λ k. k.waits) t.same

    go : (b : Bool)
        → (cond b (with_waits (m.waits ++ (look_up_of m f ∷ [])) m) m).waits
        ≡ (cond b (with_waits (n.waits ++ (look_up_of n f ∷ [])) n) n).waits
    go true = ap₂ (λ (ws : List LookUp) (w : LookUp). ws ++ (w ∷ [])) waits (asks-same f t)
    go false = waits

pub every_consequence : ConsequencesFollow
unfolding ConsequencesFollow
every_consequence S d1 d2 =
    record {
      found_exactly = λ log t u h a made p z l.
          let b = beside S d1 d2 made p in
          answered_twins (decode h.frame) b.here b.there
          (rules_follow_on.found_exactly log b.before b.after h a b.run b.steps (sym b.carried ∙ z) l);
      nothing_only = λ log t u h a made p z w i j.
          let b = beside S d1 d2 made p in
          permitted_twins b.there
          (rules_follow_on.nothing_only log b.before b.after h a b.run b.steps (sym b.carried ∙ z) w
          (subst (λ (ws : List LookUp). Memᴰ w ws) (asked-same (decode h.frame) b.here) i) j);
      in_time = λ log t u h a made p later v rest z l d.
          let b = beside S d1 d2 made p in
          let r = goes_on S d1 d2 (made_snoc S made p) (made_snoc the_rules b.run b.steps) rest in
          rules_follow_on.in_time log b.before b.after h a b.run b.steps later r.0 r.1
          (sym b.carried ∙ z) l d;
      settled = λ log t made.
          let d = determined-run S d1 d2 made in
          let k = twins S d1 d2 made d.1 in
          let s = rules_follow_on.settled log d.0 d.1 in
          let among : (w : LookUp) → Memᴰ w (S.view t).waits → Memᴰ w d.0.waits =
          λ w i. subst (λ (x : Model). Memᴰ w x.waits) k.same i in
          record {
            none_available = λ w i. available_in k.peers k.entries w ∙ s.none_available w (among w i);
            not_reached = λ w i.
                ap (λ (x : Model). reached x.clock w.deadline) k.same ∙ s.not_reached w (among w i);
            not_in_vain = λ w i e. conflicts_in k.peers k.entries w ∙ s.not_in_vain w (among w i) e;
          };
      one_each = λ log t made.
          let d = determined-run S d1 d2 made in subst⁻¹ OneEach (twins S d1 d2 made d.1).same
          (rules_follow_on.one_each log d.0 d.1);
      few = λ log t u h a made p.
          let b = beside S d1 d2 made p in rules_follow_on.few log b.before b.after h a b.run b.steps;
    }
