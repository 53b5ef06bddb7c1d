-- How long a pane holds: by induction on the ticks; and the table of holds, computed.
use Prim.Native.Nat.{ℕ, zero, suc, ◌-◌}
use mathlib.Core.Bool.{true, false, cond}
use mathlib.Core.Logic.{⊎_elim}
use mathlib.Core.Path.{◌≡◌, refl, sym, ap, ◌∙◌}
use Rattle.std.proofs.Common.{None}
use native.Mathlib.Omega.{arith}
use borrow.Author.Tests.{eq-eqb, ne_eqb, leb-true, leb-false}
use lib.Dec.{eqb, leb}
use Rattle.rules.specs.declared.TxnId.{TxnId}
use Rattle.rules.specs.Frame.{frame_bytes}
use Rattle.rules.proofs.BoolLaws.{bool_cases}
use Rattle.rules.proofs.Computed.{all_rules}
use Rattle.trial.specs.declared.Pane.{Pane}
use Rattle.trial.specs.declared.Stage.TheVariants.{Holds}
use Rattle.trial.specs.Setup.{places, pane_at, starting_frame}
use Rattle.trial.specs.Panes.{sends, hears, ticked}
use Rattle.trial.specs.Trial.{hears_all, send, turns, tick, round, rounds, send_all, triers}
use Rattle.trial.specs.Holds.{after_ticks, after, writes_in, HoldTable}

-- each tick is one less to go
left : (t : TxnId) (hold n : ℕ) → after_ticks n (Holds t hold) ≡ Holds t (hold - n)
unfolding after_ticks ticked
left t hold zero = ap (Holds t) (omega arith)
left t hold (suc n) = ap ticked (left t hold n) ∙ ap (Holds t) (omega arith)

none_left : (hold n : ℕ) → eqb (hold - n) 0 ≡ leb hold n
none_left hold n = ⊎_elim yes not_yet (bool_cases (leb hold n))
  where
    yes : leb hold n ≡ true → eqb (hold - n) 0 ≡ leb hold n
    yes e = eq-eqb (hold - n) 0 (omega (arith, leb-true hold n e)) ∙ sym e

    not_yet : leb hold n ≡ false → eqb (hold - n) 0 ≡ leb hold n
    not_yet e = ne_eqb (hold - n) 0 (λ z. omega (arith, z, leb-false hold n e)) ∙ sym e

every : (p : Pane) (party : ℕ) (t : TxnId) (hold n : ℕ)
    → sends p party (after_ticks n (Holds t hold)) ≡ cond (leb hold n) (sends p party (Holds t 0)) None
unfolding sends
every p party t hold n =
    ap (sends p party) (left t hold n) ∙ ap (λ b. cond b (sends p party (Holds t 0)) None) (none_left hold n)

-- what a trial is computed by
unfoldable pub all_trials : Unit {0}
unfolding all_rules frame_bytes places pane_at starting_frame sends hears ticked hears_all send turns tick round rounds
    send_all triers
all_trials = tt

pub hold_table : HoldTable
unfolding all_trials after writes_in
hold_table = record { every_hold = every; by_own_frame = refl; by_others_frame = refl; by_tick = refl }
