-- Hints follow each kind of frame, so that they stay reliable.
use Prim.Native.Nat.{ℕ, ◌≤◌}
use mathlib.Core.Bool.{false, true≢false}
use mathlib.Core.Path.{◌≡◌, refl, sym, ◌∙◌, subst, subst⁻¹}
use mathlib.Core.List.{List}
use native.Mathlib.Omega.{arith}
use lib.ListN.{length}
use Rattle.rules.specs.declared.EntryId.{EntryId}
use Rattle.rules.specs.declared.FindRequest.{FindRequest}
use Rattle.rules.specs.declared.NotifyRequest.{NotifyRequest}
use Rattle.rules.specs.declared.WriteRequest.{WriteRequest}
use Rattle.rules.specs.declared.Request.{Request}
use Rattle.rules.specs.declared.Request.TheVariants.{Write, Find, Create, Notify}
use Rattle.std.specs.Prelude.{Ok}
use Rattle.rules.specs.Time.{until}
use Rattle.rules.specs.State.{Model}
use Rattle.rules.specs.Frame.{Frame, decode, is_write, is_look_up, is_create, is_renew, is_notify}
use Rattle.rules.specs.Requests.{frame_of, renew_of, Decodes}
use Rattle.rules.specs.Words.{view}
use Rattle.rules.specs.Allowed.{Stepped}
use Rattle.rules.proofs.BoolLaws.{or_left}
use Rattle.sound.proofs.Becomes.{ends_entry}
use Rattle.hints.specs.declared.known.Hints.{Hints}
use Rattle.hints.specs.Hints.{NotBefore, Weaker, Knows, Reliable}
use Rattle.hints.proofs.HintLaws.{weaker-same, weaker-then, sooner_still}
use Rattle.hints.proofs.ReliableLaws.{Follows, reliable-step}
use Rattle.step.specs.Carries.{StaysReliable}
use Rattle.rules.proofs.LookUpKinds.{kind_cases}
use Rattle.step.proofs.SteppedLaws.{asked-frame}

-- a frame that is carried out, or refused
pub stays-reliable : {ws bs area ws' area' : List ℕ} {hs hs' : Hints} {returned : ℕ} {q : Request} → Decodes bs (Ok q)
    → Stepped ws bs area ws' returned area' → Reliable hs (view ws) → Follows (frame_of q) (view ws) (view ws') hs hs'
    → StaysReliable ws ws' hs'
stays-reliable {ws} {bs} {area} {ws'} {hs = hs} {hs'} d st r k s =
    let e = st.allowed.space (λ _. s) in
    subst⁻¹ (Reliable hs') e
    (reliable-step (view ws) bs (length area) s r
    (subst (λ n. Follows (decode bs) (view ws) n hs hs') e
    (subst (λ f. Follows f (view ws) (view ws') hs hs') (asked-frame d) k)))

module _ {m n : Model} {hs hs' : Hints} where
  -- a lease that is noted, and then a transaction
  pub follows-write : {hs₁ : Hints} (w : WriteRequest) {clock : ℕ} → clock ≡ m.clock
      → Weaker hs hs₁ × ((w.lease ≡ 0 → ⊥) → NotBefore hs₁.least (until clock w.lease))
      → Weaker hs₁ hs' × (w.txn.0 ≤ hs'.acted) → Follows (frame_of (Write w)) m n hs hs'
  follows-write {hs₁} w q a b =
      record {
        weaker = weaker-then a.0 b.0;
        acts = record { writes = λ _. b.1; looks = λ _. b.1 };
        entry = λ _ z. sooner_still _ b.0.falls (subst (λ c. NotBefore hs₁.least (until c w.lease)) q
            (a.1 z));
        txn = λ t. absurd (true≢false (sym t));
        registration = λ t. absurd (true≢false (sym t));
        wait = λ t. absurd (true≢false (sym t));
      }

  -- a transaction that is noted, and then who waits last
  pub follows_find : {hs₁ : Hints} (l : FindRequest) → Weaker hs hs₁ × (l.txn.0 ≤ hs₁.acted) → Weaker hs₁ hs'
      × Knows hs' n.waits
      → Follows (frame_of (Find l)) m n hs hs'
  follows_find l a b =
      let in-txn : l.txn.0 ≤ hs'.acted = omega (arith, a.1, b.0.grows) in
      record {
        weaker = weaker-then a.0 b.0;
        acts = record { writes = λ _. in-txn; looks = λ _. in-txn };
        entry = λ t. absurd (true≢false (sym t ∙ no_entry));
        txn = λ t. absurd (true≢false (sym t ∙ no_create));
        registration = λ t. absurd (true≢false (sym t ∙ no_notify));
        wait = λ _. b.1;
      }
    where
      no_entry : ends_entry (frame_of (Find l)).op ≡ false
      no_entry = kind_cases (λ op. ends_entry op ≡ false) l.takes l.if_exists refl refl refl refl

      no_notify : is_notify (frame_of (Find l)).op ≡ false
      no_notify = kind_cases (λ op. is_notify op ≡ false) l.takes l.if_exists refl refl refl refl

      no_create : is_create (frame_of (Find l)).op ≡ false
      no_create = kind_cases (λ op. is_create op ≡ false) l.takes l.if_exists refl refl refl refl

  pub follows-renew : (party : ℕ) (id : EntryId) (lease : ℕ) {clock : ℕ} → clock ≡ m.clock
      → Weaker hs hs' × ((lease ≡ 0 → ⊥) → NotBefore hs'.least (until clock lease))
      → Follows (frame_of (renew_of party id lease)) m n hs hs'
  follows-renew party id lease q a =
      record {
        weaker = a.0;
        acts = record { writes = λ t. absurd (true≢false (sym t)); looks = λ t. absurd (true≢false (sym t)) };
        entry = λ _ z. subst (λ c. NotBefore hs'.least (until c lease)) q (a.1 z);
        txn = λ t. absurd (true≢false (sym t));
        registration = λ t. absurd (true≢false (sym t));
        wait = λ t. absurd (true≢false (sym t));
      }

  pub follows-create : (party lease : ℕ) {clock : ℕ} → clock ≡ m.clock
      → Weaker hs hs' × NotBefore hs'.least (until clock lease) → Follows (frame_of (Create party lease)) m n hs hs'
  follows-create party lease q a =
      record {
        weaker = a.0;
        acts = record { writes = λ t. absurd (true≢false (sym t)); looks = λ t. absurd (true≢false (sym t)) };
        entry = λ t. absurd (true≢false (sym t));
        txn = λ _. subst (λ c. NotBefore hs'.least (until c lease)) q a.1;
        registration = λ t. absurd (true≢false (sym t));
        wait = λ t. absurd (true≢false (sym t));
      }

  pub follows-notify : (r : NotifyRequest) {clock : ℕ} → clock ≡ m.clock
      → Weaker hs hs' × NotBefore hs'.least (until clock r.lease) → Follows (frame_of (Notify r)) m n hs hs'
  follows-notify r q a =
      record {
        weaker = a.0;
        acts = record { writes = λ t. absurd (true≢false (sym t)); looks = λ t. absurd (true≢false (sym t)) };
        entry = λ t. absurd (true≢false (sym t));
        txn = λ t. absurd (true≢false (sym t));
        registration = λ _. subst (λ c. NotBefore hs'.least (until c r.lease)) q a.1;
        wait = λ t. absurd (true≢false (sym t));
      }

-- nothing is new
pub follows_same : (f : Frame) {m n : Model} {hs : Hints} → ends_entry f.op ≡ false → is_look_up f.op ≡ false
    → is_create f.op ≡ false → is_notify f.op ≡ false → Follows f m n hs hs
follows_same f w l c g =
    record {
      weaker = weaker-same;
      acts = record {
        writes = λ t. absurd (true≢false (sym t ∙ or_left (is_write f.op) (is_renew f.op) w));
        looks = λ t. absurd (true≢false (sym t ∙ l));
      };
      entry = λ t. absurd (true≢false (sym t ∙ w));
      txn = λ t. absurd (true≢false (sym t ∙ c));
      registration = λ t. absurd (true≢false (sym t ∙ g));
      wait = λ t. absurd (true≢false (sym t ∙ l));
    }
