use Rattle.std.proofs.Common.{◌≡◌, Bool, sym, subst, eqb, rules, tests}
use Rattle.std.proofs.lemmas.Iterator.Consumers.{YieldsList-from_first}
use Rattle.std.proofs.lemmas.Iterator.Search.{find_from_yields_List}
use Rattle.rules.specs.declared.Txn.{Txn}
use Rattle.rules.specs.Holds.{live_txn}
use Rattle.rules.specs.Words.{view}
use Rattle.tables.specs.Table.{left}
use Rattle.tables.specs.Tables.{txn_table}
use Rattle.words.proofs.IterLaws.{found}
use Rattle.available.specs.Live.{live_of}
use Rattle.available.proofs.ReaderLaws.{LowSlot, live-low, low-slot}
use Rattle.available.proofs.live.find_txn.Goals as goal

pub returns : goal.returns
unfolding live_txn
returns c =
    let ws = c.args.space.now in
    let has_id : Txn → Bool = λ t. eqb t.id.0 c.args.id.0 in
    let f =
    find_from_yields_List has_id c.find.new.self _ c.find.result c.find.ensures.ran
    (YieldsList-from_first (λ x. x) (λ s. left txn_table s.space.now s.at s.end) {s = c.rows.result} _ c.rows.ensures)
    (λ x b q k. search (rules, tests)) in
    let live : live_of c.find.result ≡ live_txn c.args.id.0 (view ws).txns = found has_id c.find.result _ f in
    record { live = live; low = low-slot _ (subst LowSlot (sym live) (live-low c.args.id.0 ws)) }
