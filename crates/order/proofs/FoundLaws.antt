-- The order that is found is the first that succeeds.
use Prim.Native.Nat.{ℕ, ◌*◌, ◌≤◌, ◌<◌}
use mathlib.Core.Bool.{true, false}
use mathlib.Core.Path.{◌≡◌, refl, sym, ap, ◌∙◌, subst, subst⁻¹}
use mathlib.Core.List.{List, ◌++◌}
use native.Mathlib.Omega.{arith}
use lib.ListN.{length, take, drop, replicate, length-map, get_or-replicate}
use Rattle.rules.specs.Numbers.{order_refused}
use Rattle.rules.specs.SerialRun.{start}
use Rattle.rules.specs.Lists.{joined}
use Rattle.order.specs.declared.action.Action.{Action}
use Rattle.order.specs.declared.plan.Step.{Step}
use Rattle.order.specs.Orders.{IsOrder, succeeds}
use Rattle.order.specs.Found.{HandedIn, OrderFound, found, none_found, refused}
use Rattle.order.specs.Reading.{slots, max_txns}
use Rattle.order.specs.Plan.{numbers_of, Planned, Unplanned}
use Rattle.order.specs.Search.{OrderOf, FirstGoes, NoneGoes, goes}
use Rattle.order.proofs.PlanLaws.{no_flags}
use Rattle.order.proofs.RunLaws.{goes_is}
use Rattle.order.proofs.TxnLaws.{same_words}

-- orders of all transactions
order_of : (ts : List (List Action)) → length ts ≤ max_txns → {qs : List ℕ} → IsOrder ts qs
    → OrderOf (length ts) 0 (replicate max_txns true) qs
order_of ts few o =
    record {
      as_many = omega (arith, o.as_many);
      positions = λ q i. let h = o.positions q i in (h, get_or-replicate max_txns q true false (omega arith));
      once = o.once;
    }

is_order : (ts : List (List Action)) {qs : List ℕ} → OrderOf (length ts) 0 (replicate max_txns true) qs → IsOrder ts qs
is_order ts o = record { as_many = omega (arith, o.as_many); positions = λ q i. (o.positions q i).0; once = o.once }

module _ {words : List ℕ} {n : ℕ} {steps : List Step} {starts : List ℕ} (p : Planned words n steps starts) where
  -- an order goes through exactly where it succeeds
  goes_there : (qs : List ℕ) → IsOrder p.ts qs → goes steps starts qs (replicate slots false) ≡ succeeds p.ts qs
  unfolding succeeds
  goes_there qs o =
      goes_is p.ts steps starts p.plan qs o.positions (replicate slots false) start
      (no_flags (numbers_of (joined p.ts)) (omega (
        arith,
        p.plan.few,
        length-map (joined p.ts) (λ (a : Action).
            a.number),
      ))) refl

  its_order : {qs : List ℕ} → IsOrder p.ts qs → OrderOf n 0 (replicate max_txns true) qs
  its_order {qs} o =
      subst⁻¹ (λ m. OrderOf m 0 (replicate max_txns true) qs) p.as_many (order_of p.ts p.accepted.transactions o)

  module _ {order : List ℕ} where
    -- there is no room for the positions
    pub no_room : length order < n → OrderFound words order (65536 * order_refused) order
    no_room short =
        refused (λ ts i. let same = ap length (same_words p.ts ts (sym p.stand_for ∙ i.stand_for)) in
        omega (arith, i.fits, p.as_many))

    handed : n ≤ length order → HandedIn words order p.ts
    handed fits = record { stand_for = p.stand_for; accepted = p.accepted; fits = omega (arith, p.as_many) }

    pub first_found : {positions : List ℕ} → n ≤ length order
        → FirstGoes steps starts n 0 (replicate max_txns true) (replicate slots false) positions
        → OrderFound words order 1 (take n positions ++ drop n order)
    first_found {positions} fits f =
        subst⁻¹ (λ l. OrderFound words order 1 (l ++ drop n order)) f.stands
        (subst⁻¹ (λ m. OrderFound words order 1 (f.ps ++ drop m order)) p.as_many
        (found p.ts (handed fits) f.ps (record {
          order = its;
          good = sym (goes_there f.ps its) ∙ f.good;
          first = λ qs q b. sym (goes_there qs q) ∙ f.first qs (its_order q) b;
        })))
      where
        its : IsOrder p.ts f.ps
        its = is_order p.ts (subst (λ m. OrderOf m 0 (replicate max_txns true) f.ps) p.as_many f.is_order)

    pub none_there : n ≤ length order
        → NoneGoes steps starts n 0 (replicate max_txns true) (replicate slots false) → OrderFound words order 0 order
    none_there fits none = none_found p.ts (handed fits) (λ qs q. sym (goes_there qs q) ∙ none qs (its_order q))

-- nothing of the kind is handed in
pub not_planned : {words order : List ℕ} → Unplanned words → OrderFound words order (65536 * order_refused) order
not_planned none = refused (λ ts i. none ts i.stand_for i.accepted)
