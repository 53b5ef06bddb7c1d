use mathlib.Core.Path.{refl, sym}
use native.Mathlib.Omega.{arith}
use Rattle.rules.specs.Records.{committed}
use Rattle.rules.specs.Words.{view}
use Rattle.rules.proofs.ViewLaws.{view-bounded}
use Rattle.finish.proofs.AddsLaws.{adds-length}
use Rattle.step.proofs.BellStepped.{stepped-committed}
use Rattle.finish.proofs.FinishLaws.{both-few}
use Rattle.step.proofs.IdleStepped.{stepped-commit}
use Rattle.rules.specs.Requests.{frame_of}
use Rattle.rules.specs.declared.Request.TheVariants.{Commit}
use Rattle.step.proofs.FollowLaws.{stays-reliable, follows_same}
use Rattle.step.proofs.take.take_commit.Goals as goal

pub returns-then-is_idle : goal.returns-then-is_idle
unfolding committed
returns-then-is_idle c bs d =
    let a = c.args in
    let st =
    stepped-commit a.space.now a.answers.now c.requires.0 c.requires.1
    (c.is_idle.ensures c.if-is_idle.true) c.end_idle-answer.ensures.0 d
    (sym c.in_ok-check_commit.ensures) c.end_idle-answer.ensures.1 c.add_record.ensures in
    (st, stays-reliable d st c.requires.1 (follows_same (frame_of (Commit a.party a.id)) refl refl refl refl))

pub put_bells-requires : goal.put_bells-requires
put_bells-requires c =
    let ws = c.hear.new.space in
    let a = c.add_record-count.ensures in
    let few = both-few c.commit-own.result.from (view ws) in
    let d = c.serve_and_close-closed.ensures in
    let long = adds-length a (omega (arith, c.requires.0, a.counts)) in
    omega (
      arith,
      c.requires.0,
      a.counts,
      long,
      d.adds.counts,
      few,
      (view-bounded ws).waits_fit,
      adds-length d.adds
          (omega (arith, c.requires.0, a.counts, long, d.adds.counts, few, (view-bounded ws).waits_fit)),
    )

pub returns : goal.returns
returns c bs d =
    let a = c.args in
    let st =
    stepped-committed c.requires.0 d (sym c.in_ok-check_commit.ensures)
    _ _ c.count_committed-counts.result c.commit-own.result.from c.count_committed-counts.ensures
    c.commit-own.ensures c.hear.ensures
    c.add_record-count.ensures
    (omega (
      arith,
      c.requires.0,
      c.add_record-count.ensures.counts,
      adds-length c.add_record-count.ensures (omega (arith, c.requires.0, c.add_record-count.ensures.counts)),
    ))
    c.serve_and_close-closed.ensures c.put_bells.ensures in
    (st, stays-reliable d st c.requires.1 (follows_same (frame_of (Commit a.party a.id)) refl refl refl refl))
