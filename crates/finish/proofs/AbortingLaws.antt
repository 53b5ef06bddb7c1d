-- The transactions that end now, aborted one by one.
use Prim.Native.Nat.{◌<◌}
use mathlib.Core.Bool.{Bool}
use mathlib.Core.Option.{none, some}
use mathlib.Core.Path.{◌≡◌, sym, ap, ◌∙◌}
use lib.ListN.{length}
use Rattle.rules.specs.declared.Txn.{Txn}
use Rattle.rules.specs.Lists.{findb}
use Rattle.rules.specs.State.{Model}
use Rattle.rules.specs.Tick.{ended_txns, abort_all}
use Rattle.rules.specs.Time.{reached}
use Rattle.rules.specs.Transactions.{abort}
use Rattle.rules.proofs.ListLaws.{find_some, any-filter, none_any}
use Rattle.rules.proofs.AbortLaws.{abort-first, abort_fewer}
use Rattle.tables.proofs.SearchLaws.{find_head}

-- what is left to abort gives what the rules give
pub record Aborting (m₀ m : Model) : Type 0 where
  pub rest : abort_all (ended_txns m) m ≡ abort_all (ended_txns m₀) m₀

module _ {m₀ m : Model} (h : Aborting m₀ m) where
  pub aborting_more : {t : Txn} {m' : Model} → findb (λ x. reached m.clock x.end) m.txns ≡ some t
      → m' ≡ abort t.id.0 m → Aborting m₀ m' × (length m'.txns < length m.txns)
  unfolding ended_txns
  aborting_more {t} e q =
      let r = find_head (λ x. reached m.clock x.end) m.txns e in (
        record { rest = ap (λ x. abort_all (ended_txns x) x) q ∙ sym (abort-first m t r.0 r.1) ∙ h.rest },
        rw q (abort_fewer m t (find_some (λ x. reached m.clock x.end) m.txns e).0),
      )

  pub aborting_done : findb (λ x. reached m.clock x.end) m.txns ≡ none → m ≡ abort_all (ended_txns m₀) m₀
  unfolding ended_txns abort_all
  aborting_done e =
      let due : Txn → Bool = λ x. reached m.clock x.end in
      ap (λ l. abort_all l m) (sym (any-filter due m.txns (none_any due m.txns e))) ∙ h.rest
