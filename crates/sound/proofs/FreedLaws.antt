-- What a frame's own part sets free, on a sound space: after a write, a commit or an abort no entry that was there
-- before
-- is available, as it was, to anyone who waits; and after a tick that ends no transaction none is at all.
use Prim.Native.Nat.{ℕ}
use mathlib.Core.Bool.{Bool, true, false, not, cond, true≢false}
use mathlib.Core.Option.{Option, some}
use mathlib.Core.Path.{◌≡◌, refl, sym, ap, ◌∙◌}
use mathlib.Core.List.{List, [], ◌∷◌, Memᴰ}
use borrow.Author.Tests.{eqb-true, eqb-false, ne_eqb, not-true}
use lib.Dec.{eqb}
use Rattle.rules.specs.declared.Entry.{Entry}
use Rattle.rules.specs.declared.LookUp.{LookUp}
use Rattle.rules.specs.declared.Txn.{Txn}
use Rattle.rules.specs.Lists.{All, filterb}
use Rattle.rules.specs.Time.{reached}
use Rattle.rules.specs.State.{Model, with_clock}
use Rattle.rules.specs.Holds.{live_txn, available}
use Rattle.rules.specs.Frame.{Frame, is_operation, is_tick, serves}
use Rattle.rules.specs.Done.{Carried}
use Rattle.rules.specs.Write.{stored, write}
use Rattle.rules.specs.Transactions.{without_txn, commit, abort}
use Rattle.rules.specs.Tick.{drop_ended}
use Rattle.rules.specs.Step.{write_frame, own_part, commit_frame, abort_frame}
use Rattle.rules.specs.Notify.{heard_of}
use Rattle.rules.specs.Sound.{NoneFor, Sound}
use Rattle.rules.proofs.ListLaws.{none_mem, all_false, mem_filter}
use Rattle.rules.proofs.LayoutLaws.{renew-serves, notify-serves, look_up-serves, create-serves, commit-not-abort}
use Rattle.rules.proofs.LayoutLaws.{commit-ends}
use Rattle.rules.proofs.StepCases.{own_cases}
use Rattle.sound.proofs.OrderLaws.{InOrder, stored-order, freed_numbered}
use Rattle.sound.proofs.Events.{Admitted}
use Rattle.sound.proofs.Consistent.{not_inside}
use Rattle.sound.proofs.SoundProof.{available-same}

-- a transaction that ends changes nothing for a look-up outside it
pub live-without : (t u : ℕ) → (u ≡ t → ⊥) → (ts : List Txn) → live_txn u (without_txn t ts) ≡ live_txn u ts
unfolding live_txn without_txn
live-without t u d [] = refl
live-without t u d (x ∷ ts) = go (eqb x.id.0 t) refl (live-without t u d ts)
  where
    go : (b : Bool) → eqb x.id.0 t ≡ b → live_txn u (without_txn t ts) ≡ live_txn u ts
        → live_txn u (cond (not b) (x ∷ without_txn t ts) (without_txn t ts))
        ≡ cond (eqb x.id.0 u) (some x) (live_txn u ts)
    go true e below =
        below ∙ sym (ap {B = Option Txn} (λ b. cond b (some x) (live_txn u ts))
        (ne_eqb x.id.0 u (λ q. d (sym q ∙ eqb-true x.id.0 t e))))
    go false e below = ap {B = Option Txn} (λ r. cond (eqb x.id.0 u) (some x) r) below

-- what was there before is out of reach, as it was
pub record OutOfReach (m n : Model) : Type 0 where
  pub order : InOrder n
  pub unreached : All (λ w. All (λ e. available n.txns w e ≡ false) m.entries) n.waits

module _ (m : Model) (f : Frame) (s : Sound m) (a : Admitted f m) where
  in_order : InOrder m
  in_order = (s.consistent.ordered.entries, s.consistent.below)

  none : (w : LookUp) → Memᴰ w m.waits → All (λ e. available m.txns w e ≡ false) m.entries
  none w i e j = none_mem (available m.txns w) (s.none_for w i) j

  -- also to who waits outside a transaction that ends
  outside : (t : ℕ) (w : LookUp) → Memᴰ w m.waits → (w.txn.0 ≡ t → ⊥)
      → All (λ e. available (without_txn t m.txns) w e ≡ false) m.entries
  outside t w i d e j =
      available-same (without_txn t m.txns) m.txns w (live-without t w.txn.0 d m.txns) e ∙ none w i e j

  pub own_freed : is_operation f.op ≡ true → is_tick f.op ≡ false → serves f ≡ true
      → OutOfReach m (own_part m f).model
  unfolding write_frame write stored heard_of commit_frame commit abort_frame abort
  own_freed o k v =
      own_cases (λ (d : Carried). OutOfReach m d.model) m f o
      (λ t. record { order = stored-order m f in_order; unreached = none })
      (λ t. absurd (true≢false (sym v ∙ look_up-serves f t)))
      (λ t. absurd (true≢false (sym v ∙ create-serves f t)))
      (λ t. record {
        order = freed_numbered m.txns f.txn _ m.entries in_order;
        unreached = λ w i. outside f.txn w i
            (not_inside s.consistent a (commit-not-abort f.op t) (a.ends (commit-ends f.op t)) w i);
      })
      (λ t. record {
        order = freed_numbered m.txns f.txn _ m.entries in_order;
        unreached = λ w i.
            let r = mem_filter (λ (x : LookUp). not (eqb x.txn.0 f.txn)) m.waits i in
            outside f.txn w r.0 (eqb-false w.txn.0 f.txn (not-true _ r.1));
      })
      (λ t. absurd (true≢false (sym v ∙ renew-serves f t)))
      (λ t. absurd (true≢false (sym v ∙ notify-serves f t)))
      (λ t. absurd (true≢false (sym t ∙ k)))

-- the clock advances, and what ends is removed
pub none_expired : (m : Model) (clock : ℕ) → Sound m → NoneFor (drop_ended (with_clock clock m))
unfolding drop_ended
none_expired m clock s w i =
    all_false (available m.txns w) (filterb (λ e. not (reached clock e.end)) m.entries)
    (λ e j. none_mem (available m.txns w) (s.none_for w i)
    (mem_filter (λ (x : Entry). not (reached clock x.end)) m.entries j).0)
