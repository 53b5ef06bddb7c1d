use Rattle.std.proofs.Common.{◌≡◌, ℕ, ap, ◌∙◌, arith}
use mathlib.Core.Path.{ap₂}
use Rattle.rules.specs.declared.Registration.{Registration}
use Rattle.rules.specs.Done.{ending_with}
use Rattle.rules.specs.State.{Model, with_registrations}
use Rattle.rules.specs.Words.{view}
use Rattle.holds.specs.Registry.{match_count, heard_once}
use Rattle.holds.proofs.RegistryLaws.{heard_by_lem}
use Rattle.finish.specs.Bells.{rung_by, heard_for, rung_for, served_and_rung}
use Rattle.finish.specs.From.{service_from}
use Rattle.finish.proofs.AddsLaws.{adds-length, does_as, does-ending}
use Rattle.finish.proofs.BellLaws.{rung_for_lem}
use Rattle.finish.proofs.FinishLaws.{few-served}
use Rattle.finish.proofs.bells.serve_and_ring.Goals as goal

pub put_bells-requires : goal.put_bells-requires
put_bells-requires c =
    let d = c.serve-served.ensures in
    let few = few-served c.hear.new.space c.args.from in
    omega (
      arith,
      c.requires,
      d.adds.counts,
      few,
      adds-length d.adds (omega (arith, c.requires, d.adds.counts, few)),
    )

pub returns : goal.returns
unfolding served_and_rung service_from
returns c =
    let ws = c.args.space.now in
    let cs = c.count_written-counts.result in
    let v : Registration → ℕ = match_count c.args.fields in
    let n = (view ws).next_entry in
    let told = c.count_written-counts.ensures in
    let d = c.serve-served.ensures in
    let now : view c.hear.new.space ≡ heard_for v (view ws) =
    c.hear.ensures
    ∙ ap (λ gs. with_registrations gs (view ws)) (heard_by_lem n v cs (view ws).registrations told) in
    let left : (view c.serve-served.new.space).registrations ≡ (heard_for v (view ws)).registrations =
    ap (λ (m : Model). m.registrations) d.model
    ∙ ap (λ (m : Model). m.registrations) now in
    let bells : rung_by cs (view c.serve-served.new.space).registrations ≡ rung_for v (view ws) =
    ap (rung_by cs) left ∙ rung_for_lem v (λ g. heard_once n (v g) g) cs (view ws).registrations told in
    does_as (ap₂ ending_with bells (ap (service_from c.args.from) now))
    (does-ending (omega (arith, c.requires)) d c.put_bells.ensures)
