use Rattle.std.proofs.Common.{◌≡◌, length, arith, refl}
use mathlib.Core.Path.{ap, ◌∙◌, subst⁻¹}
use lib.ListN.{take}
use Rattle.rules.specs.declared.Registration.{Registration}
use Rattle.rules.specs.State.{with_registrations}
use Rattle.rules.specs.Words.{view}
use Rattle.tables.proofs.Tables.{length-registrations}
use Rattle.tables.specs.Rows.{FitsWord}
use Rattle.holds.specs.Registry.{heard_once, heard_by}
use Rattle.holds.proofs.RegistryLaws.{heard_all, heard-count, heard-row, end-registered}
use Rattle.holds.proofs.registry.hear.Goals as goal

pub loop-i-init : goal.loop-i-init
unfolding heard_by
loop-i-init c = refl

pub set_row-requires : goal.set_row-requires
set_row-requires c = (
  omega (arith, heard-count _ _ c.args.counts.now c.loop-i.i c.loop-i.invariant, c.row_count-i-end.ensures.0),
  subst⁻¹ (λ (x : Registration). FitsWord x.end) (c.hear_once.ensures ∙ ap (heard_once _ _) c.row_at-g.ensures)
      (end-registered _ _),
)

pub loop-i-preserved : goal.loop-i-preserved
loop-i-preserved c =
    let n = c.row_count-i-end.ensures.0 in
    heard-row _ _ _ _ c.loop-i.invariant _ c.next_number-limit.ensures (omega (arith, n))
    (omega (arith, c.told-counts, n)) c.row_at-g.ensures c.hear_once.ensures c.set_row.ensures.0

pub returns : goal.returns
returns c =
    let ws = c.args.space.now in
    let cs = c.args.counts.now in
    let all : c.loop-i.i ≡ length (view ws).registrations =
    omega (arith, length-registrations ws, c.loop-i-test.false, c.row_count-i-end.ensures.0) in
    c.loop-i.invariant
    ∙ ap (λ gs. with_registrations gs (view ws))
    (ap (λ k. heard_by (view ws).next_entry (take k cs) (view ws).registrations) all
    ∙ heard_all _ cs (view ws).registrations)
