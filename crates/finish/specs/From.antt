-- Service that looks at the entries from a row on, and at no other, and hands out by the row: for a row before which no
-- entry is available to anyone who waits, and where numbers stand once, it is the rules' service (`FromLaws`).
use Rattle.std.specs.Prelude.{ℕ, suc, ◌+◌, Bool, cond, List, [], ◌∷◌, drop}
use Rattle.std.proofs.Math.Option.{none, some}
use Rattle.rules.specs.declared.Entry.{Entry}
use Rattle.rules.specs.declared.LookUp.{LookUp}
use Rattle.rules.specs.declared.Txn.{Txn}
use Rattle.rules.specs.State.{Model, with_entries, with_waits}
use Rattle.rules.specs.Holds.{available, oldest}
use Rattle.rules.specs.Done.{Done}
use Rattle.rules.specs.Service.{Served, found_first, waits_first}
use Rattle.holds.specs.Hand.{hand_at}

-- how many of a list stand before the first that passes a test
abbrev pub ahead : {A : Type 0} → (A → Bool) → List A → ℕ
ahead q [] = 0
ahead q (x ∷ xs) = cond (q x) 0 (suc (ahead q xs))

-- the row of the oldest that is available, of those from row k on
abbrev pub oldest_row : List Txn → LookUp → ℕ → List Entry → ℕ
oldest_row ts w k es = k + ahead (available ts w) (drop k es)

unfoldable pub serve_from : ℕ → List Txn → List Entry → List LookUp → Served
serve_from k ts es [] = record { entries = es; waits = []; records = [] }
serve_from k ts es (w ∷ ws) =
    elim (oldest ts w (drop k es)) [
      | some e ↦ found_first w e (serve_from k ts (hand_at ts w e (oldest_row ts w k es) es) ws)
      | none ↦ waits_first w (serve_from k ts es ws)
    ]

unfoldable pub service_from : ℕ → Model → Done
service_from k m =
    let r = serve_from k m.txns m.entries m.waits in
    record { model = with_entries r.entries (with_waits r.waits m); records = r.records }
