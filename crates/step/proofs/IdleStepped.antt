-- What is allowed of a step where hints cut it short.
use Prim.Native.Nat.{ℕ, ◌+◌, ◌≤◌, ◌<◌}
use mathlib.Core.Bool.{true, false, not, ◌&&◌}
use mathlib.Core.Path.{◌≡◌, refl, sym, ap, ap₂, ◌∙◌, subst, subst⁻¹}
use mathlib.Core.List.{List, [], ◌∷◌, Memᴰ}
use native.Mathlib.Omega.{arith}
use lib.ListN.{length}
use Rattle.rules.specs.declared.Record.{Record}
use Rattle.rules.specs.declared.Request.{Request}
use Rattle.rules.specs.declared.Request.TheVariants.{Commit, Abort, Tick}
use Rattle.std.specs.Prelude.{Ok}
use Rattle.rules.specs.declared.Txn.{Txn}
use Rattle.rules.specs.declared.TxnId.{TxnId}
use Rattle.rules.specs.Numbers.{step_area, forever}
use Rattle.rules.specs.State.{Model}
use Rattle.rules.specs.Frame.{layout_of, ends_txn, is_tick}
use Rattle.rules.specs.Done.{quiet}
use Rattle.rules.specs.Lists.{filterb}
use Rattle.rules.specs.Notify.{made_public, heard_of, ringing}
use Rattle.rules.specs.Records.{committed, aborted, ticked}
use Rattle.rules.specs.Requests.{frame_of, space_refusal, Decodes}
use Rattle.rules.specs.Step.{own_part, finish, commit_frame, abort_frame}
use Rattle.rules.specs.Tick.{tick}
use Rattle.rules.specs.Transactions.{is_private_to, is_taken_by, commit, abort}
use Rattle.rules.specs.Sound.{Sound, Lasting, LiveOf}
use Rattle.rules.specs.Words.{view}
use Rattle.rules.specs.Allowed.{Stepped}
use Rattle.rules.proofs.NotifyLaws.{commit_public, none-rung, rings-none}
use Rattle.rules.proofs.RefusalLaws.{clear}
use Rattle.sound.proofs.Events.{Admitted}
use Rattle.sound.proofs.EventsProof.{admitted}
use Rattle.hints.specs.declared.known.Hints.{Hints}
use Rattle.hints.specs.Hints.{Idle, Reliable}
use Rattle.finish.specs.Does.{Adds}
use Rattle.finish.specs.Ending.{ended, advanced}
use Rattle.finish.proofs.AddsLaws.{does-nothing}
use Rattle.finish.proofs.BellLaws.{heard-none}
use Rattle.step.proofs.IdleEnds.{none_end, tick-idle, commit-idle, public_idle, abort-idle, end-idle}
use Rattle.step.proofs.SteppedLaws.{Silent, asked, asked-frame, stepped_silent}

module _ (ws area : List ℕ) {hs : Hints} (h : step_area ≤ length area) (r : Reliable hs (view ws)) where
  -- ---- a tick before anything ends
  pub stepped-tick : {bs ws₁ a₁ : List ℕ} {own : Record} {n : ℕ} → Decodes bs (Ok Tick)
      → space_refusal (view ws) (frame_of Tick) ≡ 0
      → (view ws₁ ≡ advanced (view ws)) × (own ≡ ticked) → (view ws₁).clock < hs.least → Adds (own ∷ []) area a₁ 0 n
      → Stepped ws bs area ws₁ n a₁
  unfolding own_part tick
  stepped-tick {ws₁ = ws₁} d e c l a =
      let l' : (view ws).clock + 1 < hs.least = subst (λ (o : Model). o.clock < hs.least) c.0 l in
      let stay = none_end (view ws) hs.least ((view ws).clock + 1) r.ends l' in
      stepped_silent h d (quiet (view ws₁)) e (λ _. c.1) a
      (λ s. ap quiet c.0
      ∙ sym (tick-idle (view ws) hs.least ((view ws).clock + 1) r.ends l' (frame_of Tick) s)
      ∙ ap (finish (frame_of Tick)) (sym stay))
      (λ _. none-rung _ _ refl refl) (does-nothing _ _ _)

  -- ---- a transaction that has done nothing ends
  module _ {bs : List ℕ} {q : Request} (d : Decodes bs (Ok q)) (e : space_refusal (view ws) (frame_of q) ≡ 0) where
    live_of : Lasting (view ws) → ends_txn (frame_of q).op ≡ true
        → LiveOf (frame_of q).txn (frame_of q).party (view ws).txns
    live_of lasts t =
        (subst⁻¹ (λ f. Admitted f (view ws)) (asked-frame d)
        (admitted (view ws) bs (length area) (clear (view ws) bs (length area)
        (asked (view ws) bs (length area) h d ∙ e)) lasts)).ends t

    -- it is live, and what the hints say of it is so
    idle_of : ends_txn (frame_of q).op ≡ true → (hs.acted < (frame_of q).txn) × (hs.acted < forever) → Sound (view ws)
        → (x : Txn) × Memᴰ x (view ws).txns × (x.id.0 ≡ (frame_of q).txn) × Idle (view ws) x
    idle_of t l s =
        let x = live_of s.lasting t in (x.0, x.1, x.2, r.idle l.1 x.0 x.1 (omega (arith, l.0, x.2)))

    -- where its end, by the rules, is no more than that, and the frame is no tick
    stepped-ended : {ws₁ a₁ : List ℕ} {own : Record} {n : ℕ} → ends_txn (frame_of q).op ≡ true
        → is_tick (frame_of q).op ≡ false
        → ((x : Txn) → Memᴰ x (view ws).txns → x.id.0 ≡ (frame_of q).txn → Idle (view ws) x → Sound (view ws)
        → ((own_part (view ws) (frame_of q)).model ≡ ended x.id.0 (view ws)) × Silent (view ws) (frame_of q))
        → (hs.acted < (frame_of q).txn) × (hs.acted < forever) → view ws₁ ≡ ended (frame_of q).txn (view ws)
        → own ≡ (own_part (view ws) (frame_of q)).own → Adds (own ∷ []) area a₁ 0 n → Stepped ws bs area ws₁ n a₁
    stepped-ended {ws₁} t z ends l v w a =
        stepped_silent h d (quiet (view ws₁)) e (λ _. w) a
        (λ s. let x = idle_of t l s in
        let own_is = (ends x.0 x.1 x.2 x.3 s).0 in
        ap quiet (v ∙ ap (λ u. ended u (view ws)) (sym x.2))
        ∙ sym (end-idle (view ws) s x.0 x.1 x.3 (frame_of q) z)
        ∙ ap (finish (frame_of q)) (sym own_is))
        (λ s. let x = idle_of t l s in (ends x.0 x.1 x.2 x.3 s).1) (does-nothing _ _ _)

  module _ {bs ws₁ a₁ : List ℕ} {own : Record} {n party : ℕ} {id : TxnId}
      (l : (hs.acted < id.0) × (hs.acted < forever)) (v : view ws₁ ≡ ended id.0 (view ws)) where
    pub stepped-commit : Decodes bs (Ok (Commit party id)) → space_refusal (view ws) (frame_of (Commit party id)) ≡ 0
        → own ≡ committed (frame_of (Commit party id)) → Adds (own ∷ []) area a₁ 0 n → Stepped ws bs area ws₁ n a₁
    unfolding own_part commit_frame layout_of
    stepped-commit d e w a =
        stepped-ended d e refl refl
        (λ x i q idle s.
        let m = view ws in
        let f = frame_of (Commit party id) in
        let none : made_public m f ≡ [] =
        commit_public m f refl
        ∙ ap (λ u. filterb (λ y. is_private_to u y && not (is_taken_by u y)) m.entries) (sym q)
        ∙ public_idle m s x i idle in (
          ap₂ (λ es u. heard_of es (commit u m)) none (sym q) ∙ heard-none (commit x.id.0 m)
              ∙ commit-idle m s x i idle,
          ap (λ es. ringing es m.registrations) none ∙ rings-none m.registrations,
        )) l v w a

    pub stepped-abort : Decodes bs (Ok (Abort party id)) → space_refusal (view ws) (frame_of (Abort party id)) ≡ 0
        → own ≡ aborted (frame_of (Abort party id)) → Adds (own ∷ []) area a₁ 0 n → Stepped ws bs area ws₁ n a₁
    unfolding own_part abort_frame layout_of
    stepped-abort d e w a =
        stepped-ended d e refl refl
        (λ x i q idle s.
        (ap (λ u. abort u (view ws)) (sym q) ∙ abort-idle (view ws) s x i idle, none-rung (view ws) _ refl refl)) l v
        w a
