use Rattle.std.proofs.Common.{◌≡◌, sym, ap, ◌∙◌, arith, true, false}
use Rattle.tables.proofs.SearchLaws.{search_start, search_found, search_none}
use Rattle.tables.proofs.Tables.{entries-read}
use Rattle.available.proofs.FindLaws.{search_on, search_past}
use Rattle.available.proofs.find.first_passing.Goals as goal

pub loop-i-init : goal.loop-i-init
loop-i-init g c = (
  c.requires,
  λ q only computes. search_on c.args.w.mask c.args.w.fields q only search_start
      (c.next_row-i.ensures.1 _ _ c.asked_of-asked.ensures),
)

pub returns-then-passes : goal.returns-then-passes
returns-then-passes g c q only computes =
    let is = c.row_at-e.ensures in
    let test : q c.row_at-e.result ≡ true = sym (computes _ _ c.passes.ensures) ∙ c.if-passes.true in (
      sym (search_found (entries-read c.args.space.now) (c.loop-i.invariant.1 q only computes) (omega arith) is test),
      (omega (arith, c.row_count-n.ensures.0), is),
    )

pub loop-i-preserved : goal.loop-i-preserved
loop-i-preserved g c = (
  c.requires,
  λ q only computes.
      let test : q c.row_at-e.result ≡ false = sym (computes _ _ c.passes.ensures) ∙ c.if-passes.false in
      search_past c.args.w.mask c.args.w.fields q only (c.loop-i.invariant.1 q only computes)
      (ap q (sym c.row_at-e.ensures) ∙ test)
      (c.next_row-i-in-loop-i.ensures.1 _ _ c.asked_of-asked.ensures),
)

pub returns : goal.returns
returns g c q only computes = (
  sym (search_none (entries-read c.args.space.now) (c.loop-i.invariant.1 q only computes) (omega arith)),
  tt,
)
