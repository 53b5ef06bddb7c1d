-- How the frames of each kind end.
use Prim.Native.Nat.{ℕ}
use mathlib.Core.Bool.{Bool, false, not, ◌&&◌, ◌||◌, or-false}
use mathlib.Core.Path.{◌≡◌, refl, sym, ap, ◌∙◌}
use borrow.Author.Tests.{eq-eqb, ne_eqb}
use lib.Dec.{eqb}
use Rattle.rules.specs.declared.FindRequest.{FindRequest}
use Rattle.rules.specs.declared.EntryId.{EntryId}
use Rattle.rules.specs.declared.TxnId.{TxnId}
use Rattle.rules.specs.declared.NotifyRequest.{NotifyRequest}
use Rattle.rules.specs.declared.WriteRequest.{WriteRequest}
use Rattle.rules.specs.declared.Request.TheVariants.{Write, Find, Create, Commit, Abort, Notify, Tick}
use Rattle.rules.specs.Frame.{layout_of, serves, is_tick, is_take, ends_txn}
use Rattle.rules.specs.Requests.{frame_of, renew_of}
use Rattle.rules.proofs.LayoutLaws.{look_up-serves}
use Rattle.rules.proofs.LookUpKinds.{kind_cases, looks_up, kind_back}
use Rattle.finish.specs.Ending.{Ending, Quiet, Service, Both, in_tick, served, closing, EndsAs}

-- how it ends: of those who wait, only a take inside a transaction can leave one without a conflict
pub find_ends : (l : FindRequest) (e : Ending) → in_tick e ≡ false → served e ≡ false
    → closing e ≡ (l.takes && not (eqb l.txn.0 0)) → EndsAs (frame_of (Find l)) e
unfolding serves layout_of
find_ends l e t s c =
    record {
      tick = kind_cases (λ op. is_tick op ≡ false) l.takes l.if_exists refl refl refl refl ∙ sym t;
      service = look_up-serves (frame_of (Find l)) (looks_up l.takes l.if_exists) ∙ sym s;
      closes =
          kind_cases (λ op. (is_take op && inside || ends_txn op || is_tick op) ≡ (is_take op && inside)) l.takes
          l.if_exists refl none_more refl none_more
          ∙ ap (λ b. b && inside) (kind_back l.takes l.if_exists).0
          ∙ sym c;
    }
  where
    inside : Bool
    inside = not (eqb l.txn.0 0)

    none_more : (inside || false || false) ≡ inside
    none_more = ap (λ b. b || false) (or-false inside) ∙ or-false inside

-- how the other kinds end
pub write-serves : (w : WriteRequest) → w.txn.0 ≡ 0 → EndsAs (frame_of (Write w)) Service
unfolding serves layout_of
write-serves w e = record { tick = refl; service = rw (eq-eqb _ 0 e); closes = refl }

pub write-quiet : (w : WriteRequest) → (w.txn.0 ≡ 0 → ⊥) → EndsAs (frame_of (Write w)) Quiet
unfolding serves layout_of
write-quiet w e = record { tick = refl; service = rw (ne_eqb _ 0 e); closes = refl }

pub create-quiet : (party lease : ℕ) → EndsAs (frame_of (Create party lease)) Quiet
unfolding serves layout_of
create-quiet party lease = record { tick = refl; service = refl; closes = refl }

pub commit-ends : (party : ℕ) (id : TxnId) → EndsAs (frame_of (Commit party id)) Both
unfolding serves layout_of
commit-ends party id = record { tick = refl; service = refl; closes = refl }

pub abort-ends : (party : ℕ) (id : TxnId) → EndsAs (frame_of (Abort party id)) Both
unfolding serves layout_of
abort-ends party id = record { tick = refl; service = refl; closes = refl }

pub renew-quiet : (party : ℕ) (id : EntryId) (lease : ℕ) → EndsAs (frame_of (renew_of party id lease)) Quiet
unfolding serves layout_of
renew-quiet party id lease = record { tick = refl; service = refl; closes = refl }

pub notify-quiet : (r : NotifyRequest) → EndsAs (frame_of (Notify r)) Quiet
unfolding serves layout_of
notify-quiet r = record { tick = refl; service = refl; closes = refl }

pub tick-ends : EndsAs (frame_of Tick) Ending.Tick
unfolding serves layout_of
tick-ends = record { tick = refl; service = refl; closes = refl }
