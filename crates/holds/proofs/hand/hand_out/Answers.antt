use Rattle.std.proofs.Common.{◌≡◌, sym, ap, ◌∙◌, false, rules, tests}
use lib.ListN.{set}
use Rattle.rules.specs.declared.TxnId.{TxnId}
use Rattle.rules.specs.LookUp.{removes}
use Rattle.rules.specs.State.{with_entries}
use Rattle.rules.specs.Words.{view, row, entries_at, entry_width}
use Rattle.tables.proofs.Tables.{entry_in}
use Rattle.holds.specs.Sweep.{marked_at}
use Rattle.holds.proofs.HandLaws.{handed_removed, handed-marked, handed_unmarked, marked-fits}
use Rattle.holds.proofs.hand.hand_out.Goals as goal

pub returns-then-eq : goal.returns-then-eq
unfolding removes
returns-then-eq c =
    let a = c.args in (
      c.remove_row.ensures.0 ∙ handed_removed a.w a.e a.row (view a.space.now) (search (rules, tests)),
      c.remove_row.ensures.1,
    )

pub set_row-requires : goal.set_row-requires
set_row-requires c =
    let a = c.args in (
      c.requires.0,
      rw (c.mark.ensures, c.requires.1)
          (marked-fits a.w.takes c.of-holder.result.id _ (row entries_at entry_width a.space.now a.row)),
    )

pub returns-then-takes-2 : goal.returns-then-takes-2
unfolding removes
returns-then-takes-2 c =
    let a = c.args in
    let m = view a.space.now in
    let h = c.of-holder in
    let t : removes a.w a.e ≡ false = search (rules, tests) in
    let marked = c.mark.ensures ∙ ap (λ (t : TxnId). marked_at a.w.takes t h.result.slot a.e) h.ensures.0 in (
      c.set_row.ensures.0
          ∙ ap (λ x. with_entries (set m.entries a.row x) m) marked
          ∙ handed-marked a.space.now a.w _ h.ensures.1 a.e t a.row,
      c.set_row.ensures.1,
    )

pub returns-else-holder-ne-NO_SLOT : goal.returns-else-holder-ne-NO_SLOT
unfolding removes
returns-else-holder-ne-NO_SLOT c =
    let a = c.args in
    let h = c.of-holder in
    let t : removes a.w a.e ≡ false = search (rules, tests) in (
      handed_unmarked a.space.now a.w h.result.slot h.ensures.1 a.e t a.row
          (entry_in a.space.now a.row a.e c.requires.0 ∙ sym c.requires.1) (search rules) (search rules),
      c.told-space,
    )
