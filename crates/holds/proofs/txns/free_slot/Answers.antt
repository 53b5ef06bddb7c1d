use Rattle.std.proofs.Common.{◌∙◌, ap, refl, rules, tests}
use Rattle.std.proofs.iter.runs.Sources.{ranges}
use Rattle.std.proofs.lemmas.Iterator.{YieldsList-from_range}
use Rattle.std.proofs.lemmas.Iterator.Search.{find_from_yields_List}
use Rattle.std.specs.List.{range_with_len}
use Rattle.rules.specs.Transactions.{free_slot, or_zero}
use Rattle.rules.specs.Words.{view}
use Rattle.words.proofs.IterLaws.{found}
use Rattle.holds.proofs.SlotLaws.{unused, or_zero_found}
use Rattle.holds.proofs.txns.free_slot.Goals as goal

pub returns : goal.returns
unfolding free_slot
returns c =
    let test = unused (view c.args.space.now).txns in
    let r = c.find.result in (
      c.unwrap_or.ensures ∙ or_zero_found r
          ∙ ap or_zero (found test r (range_with_len 0 8)
          (find_from_yields_List test c.find.new.self _ r c.find.ensures.ran
          (YieldsList-from_range 0 8 8 refl refl)
          (λ x b q k. let same = c.used_slots-used.ensures x in search (rules, tests)))),
      search (rules, ranges),
    )
