-- The plan of what is read.
use Prim.Native.Nat.{ℕ, ◌+◌, ◌≤◌, ◌<◌}
use mathlib.Core.Bool.{true≢false}
use mathlib.Core.Path.{◌≡◌, sym, ap, ◌∙◌, subst}
use mathlib.Core.List.{List, []}
use native.Mathlib.Omega.{arith}
use lib.ListN.{length, get_or, take, length-append}
use lib.Seq.{take-length}
use Rattle.rules.specs.Lists.{distinct, joined}
use Rattle.order.specs.declared.action.Action.{Action}
use Rattle.order.specs.declared.plan.Step.{Step}
use Rattle.order.specs.Export.{written}
use Rattle.order.specs.Reading.{ExportRead, NoExport}
use Rattle.order.specs.Plan.{written_in, Resolved, WrittenTwice, Planned, Unplanned}
use Rattle.order.proofs.ArrayLaws.{joined_next}
use Rattle.order.proofs.TxnLaws.{same_words}

pub not_read : {words : List ℕ} → NoExport words → Unplanned words
not_read none ts e a = none ts e (record { transactions = a.transactions; actions = a.actions })

module _ {words : List ℕ} {n : ℕ} {actions : List Action} {starts : List ℕ}
    (e : ExportRead words n actions starts) where
  count : get_or starts n 0 ≡ length (joined e.ts)
  count =
      e.holds.begins n (omega (arith, e.as_many))
      ∙ ap (λ (k : ℕ). length (joined (take k e.ts))) e.as_many
      ∙ ap (λ (ts : List (List Action)). length (joined ts)) (take-length e.ts)

  acts_are : take (get_or starts n 0) actions ≡ joined e.ts
  acts_are = ap (λ m. take m actions) count ∙ e.holds.are

  pub ordered : (p : ℕ) → p < n → get_or starts p 0 ≤ get_or starts (p + 1) 0
  ordered p h =
      omega (
        arith,
        e.holds.begins p (omega (arith, e.as_many)),
        e.holds.begins (p + 1) (omega (arith, e.as_many)),
        ap length (joined_next e.ts p (omega (arith, e.as_many))),
        length-append (joined (take p e.ts)) (get_or e.ts p []),
      )

  pub twice : WrittenTwice (take (get_or starts n 0) actions) → Unplanned words
  unfolding written
  twice w ts e' a =
      let same = same_words e.ts ts (sym e.stand_for ∙ e') in
      true≢false (sym a.written_once ∙ ap (λ l. distinct (written l)) (sym same)
      ∙ ap (λ l. distinct (written_in l)) (sym acts_are) ∙ w)

  pub is_planned : {steps : List Step} → Resolved (take (get_or starts n 0) actions) steps
      → Planned words n steps starts
  unfolding written
  is_planned {steps} r =
      record {
        ts = e.ts;
        as_many = e.as_many;
        stand_for = e.stand_for;
        accepted = record {
          transactions = e.few.transactions;
          actions = e.few.actions;
          written_once = here.once;
        };
        plan = record { few = omega (arith, count, e.holds.within n); are = here.are; begins = e.holds.begins };
      }
    where
      here : Resolved (joined e.ts) steps
      here = subst (λ acts. Resolved acts steps) acts_are r
