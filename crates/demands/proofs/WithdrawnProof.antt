-- The row of 6 lets one frame through, and no other.
use Prim.Native.Nat.{ℕ}
use mathlib.Core.Bool.{Bool, true, false, not, cond, ◌&&◌, and-false}
use mathlib.Core.Logic.{⊎_elim}
use mathlib.Core.Path.{◌≡◌, refl, sym, ap, ap₂, ◌∙◌, subst⁻¹}
use mathlib.Core.List.{List, ◌∷◌, ◌++◌, Memᴰ}
use borrow.Author.Tests.{eqb-true, eqb-false, eq-eqb, not-true}
use lib.Dec.{eqb}
use Rattle.rules.specs.declared.LookUp.{LookUp}
use Rattle.rules.specs.declared.Txn.{Txn}
use Rattle.rules.specs.Lists.{first_row}
use Rattle.rules.specs.Numbers.{op_abort, waiting_refused}
use Rattle.rules.specs.State.{Model}
use Rattle.rules.specs.Frame.{Frame, layout_of, decode, is_abort}
use Rattle.rules.specs.Holds.{live_txn}
use Rattle.rules.specs.Refusals.{withdraws, party_waits, not_live, not_own, no_lease, too_late, entries_full, txns_full}
use Rattle.rules.specs.Refusals.{registrations_full, no_number, no_entry, not_writer, not_free, refusal}
use Rattle.rules.specs.Step.{carried_out, accepted, refused_with, step}
use Rattle.rules.specs.Sound.{LiveOf, TxnsOk, Consistent}
use Rattle.rules.proofs.ListLaws.{mem_any, all_false, none_mem, any_find, find_some}
use Rattle.rules.proofs.BoolLaws.{bool_cases, and_left, and_right}
use Rattle.rules.proofs.RefusalLaws.{first-append, first-without}
use Rattle.sound.proofs.EachLaws.{same-party}
use Rattle.demands.proofs.ByEvents.{consistent}
use Rattle.demands.proofs.ByRule.{rules_follow, run_of}
use Rattle.demands.specs.Machine.{the_rules}
use Rattle.demands.specs.History.{inputs_of}
use Rattle.demands.specs.Withdrawn.{waited_before, ahead_of6, behind6, refusal_before, step_before, Withdrawn}

-- an abort of a live transaction of the party is let pass by the rows behind 6
none_for : (m : Model) (f : Frame) → f.op ≡ op_abort → eqb f.txn 0 ≡ false → {n : ℕ} → TxnsOk n m.txns
    → LiveOf f.txn f.party m.txns → first_row (behind6 m f) ≡ 0
unfolding no_entry not_writer not_free not_live not_own no_lease too_late entries_full txns_full registrations_full
    no_number
    layout_of live_txn
none_for m f o z ok live =
    let mine : Txn → Bool = λ x. eqb x.id.0 f.txn in
    let any = mem_any mine live.1 (eq-eqb live.0.id.0 f.txn live.2) in
    let x = any_find mine m.txns any in
    let found = find_some mine m.txns x.1 in
    let one = ok.unique x.0 live.0 found.0 live.1
    (eqb-true x.0.id.0 f.txn found.1 ∙ sym live.2) in
    let own = eq-eqb x.0.party f.party (ap (λ (t : Txn). t.party) one ∙ live.3) in
    rw (o, z, any, x.1, own)

-- the number that the table gives, where the row of 6 says b
abbrev numbered : Model → List ℕ → ℕ → Bool → ℕ
numbered m bs area b = first_row (ahead_of6 bs area ++ ((b, waiting_refused) ∷ behind6 m (decode bs)))

module _ (m : Model) (bs : List ℕ) (area : ℕ) where
  abbrev f : Frame
  f = decode bs

  abbrev ahead : ℕ
  ahead = first_row (ahead_of6 bs area)

  -- by the rows ahead of it, and then by itself
  by_parts : (b : Bool) → numbered m bs area b
      ≡ cond (eqb ahead 0) (cond b waiting_refused (first_row (behind6 m f))) ahead
  by_parts b = first-append (ahead_of6 bs area) ((b, waiting_refused) ∷ behind6 m f) refl

  now_is : refusal m bs area ≡ numbered m bs area (party_waits m f)
  unfolding refusal
  now_is = refl

  before_is : refusal_before m bs area ≡ numbered m bs area (waited_before m f)
  unfolding refusal_before
  before_is = refl

  -- what bars now barred before
  barred_too : waited_before m f ≡ false → party_waits m f ≡ false
  unfolding party_waits
  barred_too e =
      all_false (λ (w : LookUp). eqb w.party f.party && not (withdraws f w)) m.waits
      (λ w i. ap (λ b. b && not (withdraws f w)) (none_mem (λ (v : LookUp). eqb v.party f.party) e i))

  -- where 6 was given, no row ahead of it applies
  passed : refusal_before m bs area ≡ waiting_refused → eqb ahead 0 ≡ true
  passed e =
      ⊎_elim (λ z. z)
      (λ z. let six = cond (waited_before m f) waiting_refused (first_row (behind6 m f)) in
      absurd (eqb-false ahead waiting_refused (first-without waiting_refused (ahead_of6 bs area) refl refl)
      (sym (before_is ∙ by_parts (waited_before m f) ∙ ap (λ b. cond b six ahead) z) ∙ e)))
      (bool_cases (eqb ahead 0))

  same_number : (refusal_before m bs area ≡ waiting_refused → ⊥) → refusal_before m bs area ≡ refusal m bs area
  same_number h =
      before_is ∙ by_parts (waited_before m f)
      ∙ ⊎_elim (λ z. rw z (⊎_elim (λ b. absurd (h (before_is ∙ by_parts (waited_before m f)
      ∙ ap₂ (λ x y. cond x (cond y waiting_refused (first_row (behind6 m f))) ahead) z b)))
      (λ b. ap (λ y. cond y waiting_refused (first_row (behind6 m f))) (b ∙ sym (barred_too b)))
      (bool_cases (waited_before m f)))) (λ z. rw z) (bool_cases (eqb ahead 0))
      ∙ sym (now_is ∙ by_parts (party_waits m f))

  same_step : (refusal_before m bs area ≡ waiting_refused → ⊥) → step_before m bs area ≡ step m bs area
  unfolding step_before step
  same_step h = ap (λ n. cond (eqb n 0) (accepted (carried_out m f)) (refused_with m bs n)) (same_number h)

  -- where 6 was given: by its row alone, now
  by_six : refusal_before m bs area ≡ waiting_refused
      → refusal m bs area ≡ cond (party_waits m f) waiting_refused (first_row (behind6 m f))
  by_six e = now_is ∙ by_parts (party_waits m f) ∙ rw (passed e)

  six_remains : (w : LookUp) → Memᴰ w m.waits → w.party ≡ f.party → withdraws f w ≡ false
      → refusal_before m bs area ≡ waiting_refused → refusal m bs area ≡ waiting_refused
  unfolding party_waits
  six_remains w i q d e =
      by_six e
      ∙ ap (λ b. cond b waiting_refused (first_row (behind6 m f)))
      (mem_any (λ (v : LookUp). eqb v.party f.party && not (withdraws f v)) i
      (ap₂ (λ x y. x && not y) (eq-eqb w.party f.party q) d))

  module _ (s : Consistent m) (w : LookUp) (i : Memᴰ w m.waits) (q : w.party ≡ f.party)
      (d : withdraws f w ≡ true) where
    aborts : is_abort f.op ≡ true
    aborts = and_left _ (not (eqb f.txn 0)) (and_left _ (eqb w.txn.0 f.txn) d)

    named : eqb f.txn 0 ≡ false
    named = not-true _ (and_right (is_abort f.op) _ (and_left _ (eqb w.txn.0 f.txn) d))

    inside : w.txn.0 ≡ f.txn
    inside = eqb-true w.txn.0 f.txn (and_right (is_abort f.op && not (eqb f.txn 0)) _ d)

    -- it waits in a live transaction of its party
    live : LiveOf f.txn f.party m.txns
    live =
        ⊎_elim (λ z. absurd (eqb-false f.txn 0 named (sym inside ∙ z)))
        (λ x. (x.0, x.1, x.2 ∙ inside, x.3 ∙ q)) (s.owned w i)

    not_barred : party_waits m f ≡ false
    unfolding party_waits
    not_barred =
        all_false (λ (v : LookUp). eqb v.party f.party && not (withdraws f v)) m.waits
        (λ v j. ⊎_elim (λ t. let e = same-party s.each j i (eqb-true v.party f.party t ∙ sym q) in
        ap (λ b. eqb v.party f.party && not b) (ap (withdraws f) e ∙ d) ∙ and-false (eqb v.party f.party))
        (λ t. ap (λ b. b && not (withdraws f v)) t) (bool_cases (eqb v.party f.party)))

    none_behind : first_row (behind6 m f) ≡ 0
    none_behind = none_for m f (eqb-true f.op op_abort aborts) named s.txns_ok live

    is_carried : refusal_before m bs area ≡ waiting_refused → refusal m bs area ≡ 0
    is_carried e =
        by_six e ∙ ap (λ b. cond b waiting_refused (first_row (behind6 m f))) not_barred ∙ none_behind

pub escape_is_carried_out : Withdrawn
escape_is_carried_out =
    record {
      same = same_step;
      remains = six_remains;
      carried = λ log m r bs area w i q d e.
          let run = run_of the_rules rules_follow r in
          is_carried m bs area (subst⁻¹ Consistent run.model (consistent (inputs_of r))) w i q d e;
    }
