-- What is allowed of a step where registrations hear of what it makes public.
use Prim.Native.Nat.{ℕ, ◌*◌, ◌≤◌, ◌<◌}
use mathlib.Core.Path.{◌≡◌, refl, sym, ap, ap₂, ◌∙◌, subst, subst⁻¹}
use mathlib.Core.List.{List, [], ◌∷◌, map}
use native.Mathlib.Omega.{arith}
use lib.ListN.{length, take}
use Rattle.rules.specs.declared.Mark.{Mark}
use Rattle.rules.specs.declared.Record.{Record}
use Rattle.rules.specs.declared.Request.TheVariants.{Write, Commit}
use Rattle.std.specs.Prelude.{Ok}
use Rattle.rules.specs.declared.TxnId.{TxnId}
use Rattle.rules.specs.declared.WriteRequest.{WriteRequest}
use Rattle.rules.specs.Done.{ending_with}
use Rattle.rules.specs.Frame.{layout_of}
use Rattle.rules.specs.Notify.{made_public, heard_of}
use Rattle.rules.specs.Numbers.{step_area, record_size}
use Rattle.rules.specs.Records.{committed}
use Rattle.rules.specs.Requests.{frame_of, space_refusal, Decodes}
use Rattle.rules.specs.Sound.{Sound}
use Rattle.rules.specs.State.{Model, Bounded, with_registrations}
use Rattle.rules.specs.Step.{own_part, write_frame, commit_frame}
use Rattle.rules.specs.Template.{mark_of}
use Rattle.rules.specs.Transactions.{commit}
use Rattle.rules.specs.Words.{view}
use Rattle.rules.specs.Write.{stored, write}
use Rattle.rules.specs.Allowed.{Stepped}
use Rattle.rules.proofs.RefusalLaws.{clear}
use Rattle.rules.proofs.ViewLaws.{view-bounded}
use Rattle.sound.proofs.Events.{Admitted}
use Rattle.sound.proofs.EventsProof.{admitted}
use Rattle.holds.specs.Registry.{heard_once, heard_by, match_count, own_matching}
use Rattle.holds.specs.Sweep.{SameBefore}
use Rattle.holds.proofs.RegistryLaws.{heard_by_lem}
use Rattle.finish.specs.Bells.{rung_by, heard_for, rung_for, served_and_rung}
use Rattle.finish.specs.Does.{Adds, Does}
use Rattle.step.specs.Carries.{Carries}
use Rattle.finish.specs.Ending.{Service, Both, finished_by}
use Rattle.finish.specs.From.{service_from}
use Rattle.finish.proofs.BellLaws.{rung_for_lem, heard-fits, commit-heard, commit-rung, write-heard, write-rung}
use Rattle.finish.proofs.FinishLaws.{service-ends, both-registrations}
use Rattle.step.proofs.KindLaws.{write-serves, commit-ends}
use Rattle.step.proofs.SteppedLaws.{bells, asked, asked-frame, ends_same, stepped-sound, stepped-rung}

-- a transaction that commits has a number
live : (ws bs area : List ℕ) {party : ℕ} {id : TxnId} → step_area ≤ length area → Decodes bs (Ok (Commit party id))
    → space_refusal (view ws) (frame_of (Commit party id)) ≡ 0 → Sound (view ws) → 0 < id.0
unfolding layout_of
live ws bs area h d e s =
    let x =
    (subst⁻¹ (λ g. Admitted g (view ws)) (asked-frame d)
    (admitted (view ws) bs (length area) (clear (view ws) bs (length area)
    (asked (view ws) bs (length area) h d ∙ e)) s.lasting)).ends refl in
    omega (arith, s.consistent.txns_ok.above x.0 x.1, x.2)

-- service and bells of a write, by the rules
rung-write : (m : Model) (w : WriteRequest) (k : ℕ) → w.txn.0 ≡ 0 → (w.lease ≡ 0 → ⊥) → Sound m
    → served_and_rung (match_count (mark_of w.blanks w.fields)) k (write m (frame_of (Write w))).model
    ≡ ending_with (bells m (frame_of (Write w))) (service_from k (write_frame m (frame_of (Write w))).model)
unfolding served_and_rung write
rung-write m w k out lasts s =
    ap₂ ending_with (write-rung m s w out lasts) (ap (service_from k) (write-heard m s w out lasts))

module _ {ws bs area ws' area' : List ℕ} {returned : ℕ} (h : step_area ≤ length area) where
  -- ---- a write outside transactions, with a lease
  module _ {w : WriteRequest} (d : Decodes bs (Ok (Write w))) (e : space_refusal (view ws) (frame_of (Write w)) ≡ 0)
      (out : w.txn.0 ≡ 0) (lasts : w.lease ≡ 0 → ⊥) where
    pub stepped-written : {ws₁ a₁ : List ℕ} {own : Record} {n : ℕ} {fields : Mark} (k : ℕ)
        → Carries (write (view ws) (frame_of (Write w))) ws₁ own × SameBefore k (view ws) (view ws₁)
        → Adds (own ∷ []) area a₁ 0 n → fields ≡ mark_of w.blanks w.fields
        → Does (served_and_rung (match_count fields) k (view ws₁)) ws' a₁ area' n returned
        → Stepped ws bs area ws' returned area'
    unfolding own_part write_frame write stored heard_of
    stepped-written {ws₁} {fields = fields} k c a q f =
        let g = frame_of (Write w) in
        let m = view ws in
        let n = (write m g).model in
        stepped-sound h d (served_and_rung (match_count fields) k (view ws₁)) e (λ _. c.0.own) a
        (λ s.
        let own = (own_part m g).model in
        let fit : Bounded own =
        heard-fits (made_public m g) n (subst Bounded c.0.model (view-bounded ws₁)) in
        let same : SameBefore k m own = subst (SameBefore k m) c.0.model c.1 in
        ap₂ (λ p o. served_and_rung (match_count p) k o) q c.0.model
        ∙ rung-write m w k out lasts s
        ∙ ap (ending_with (bells m g))
        (sym (service-ends k own)
        ∙ ends_same m (length area) (asked m bs (length area) h d ∙ e) d s k Service (write-serves w out) same fit)) f

  -- ---- a commit
  module _ {party : ℕ} {id : TxnId} (d : Decodes bs (Ok (Commit party id)))
      (e : space_refusal (view ws) (frame_of (Commit party id)) ≡ 0) where
    pub stepped-committed : (ws₁ ws₂ cs : List ℕ) {a₁ a₂ : List ℕ} {own : Record} {n j : ℕ} (k : ℕ)
        → take (length (view ws).registrations) cs
        ≡ map (own_matching id.0 (view ws).entries) (view ws).registrations
        → (view ws₁ ≡ commit id.0 (view ws)) × (own ≡ committed (frame_of (Commit party id)))
        × SameBefore k (view ws) (view ws₁)
        → view ws₂ ≡ with_registrations (heard_by (view ws₁).next_entry cs (view ws₁).registrations) (view ws₁)
        → Adds (own ∷ []) area a₁ 0 n → record_size * n ≤ length a₁
        → Does (finished_by Both k (view ws₂)) ws' a₁ a₂ n j
        → Adds (rung_by cs (view ws').registrations) a₂ area' j returned → Stepped ws bs area ws' returned area'
    unfolding own_part commit_frame commit
    stepped-committed ws₁ ws₂ cs k counted c heard a room f b =
        let m = view ws in
        let g = frame_of (Commit party id) in
        let o = commit id.0 m in
        let v = own_matching id.0 m.entries in
        let now : view ws₂ ≡ heard_for v o =
        heard
        ∙ ap (λ (x : Model). with_registrations (heard_by x.next_entry cs x.registrations) x) c.0
        ∙ ap (λ gs. with_registrations gs o) (heard_by_lem o.next_entry v cs m.registrations counted) in
        let left : (view ws').registrations ≡ (heard_for v o).registrations =
        ap (λ (x : Model). x.registrations) f.model
        ∙ both-registrations k (view ws₂)
        ∙ ap (λ (x : Model). x.registrations) now in
        let rings : rung_by cs (view ws').registrations ≡ rung_for v o =
        ap (rung_by cs) left ∙ rung_for_lem v (λ r. heard_once o.next_entry (v r) r) cs m.registrations counted in
        stepped-rung h d k e (
          λ s. record { model = now ∙ commit-heard m s party id (live ws bs area h d e s); own = c.1 },
          ap (λ (x : Model). take k x.entries) heard ∙ c.2,
        ) a Both
        (commit-ends party id) room f b (λ s. rings ∙ commit-rung m s party id (live ws bs area h d e s))
