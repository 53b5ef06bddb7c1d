use Rattle.std.proofs.Common.{◌≡◌, ◌+◌, ℕ, [], ◌∷◌, refl, arith, ◌∙◌, ap, sym, subst}
use Rattle.sittings.specs.declared.watch.Watch.{Watch}
use Rattle.sittings.specs.Figures.{figures_for, only, Gained}
use Rattle.sittings.specs.Watch.{wait_at, left_of}
use Rattle.sittings.proofs.WatchLaws.{left_open, left_shut, ended_to, ended-none, ended-next, ended-all}
use Rattle.sittings.proofs.watch.Watch.end_waits.Goals as goal
use Rattle.sittings.proofs.watch.Watch.end_waits.Goals.{in-Some, in_default}

pub loop-party-init : goal.loop-party-init
loop-party-init c = (ended-none _ _ _, refl, refl)

-- one party's wait more is ended
Ended : Watch → ℕ → Watch → Type 0
Ended b party w = Gained b.report (ended_to b.clock b.waits party) w.report × (w.waits ≡ b.waits) × (w.clock ≡ b.clock)

next : (b v w : Watch) (party : ℕ) → Ended b party v → w.waits ≡ v.waits → w.clock ≡ v.clock
    → Gained v.report (only party (left_of v.clock (wait_at v.waits party))) w.report → Ended b (party + 1) w
unfolding Ended
next b v w party e p q g = (ended-next b.clock b.waits party e.0 (rw (e.1, e.2) at g), p ∙ e.1, q ∙ e.2)

pub loop-party-preserved : goal.loop-party-preserved
unfolding Ended
loop-party-preserved c =
    let l = c.loop-party in
    let b = c.args.self.now in
    elim c.match-self-party.branch [
      | in-Some w ↦ subst (Ended b (l.party + 1)) (sym w.self-is)
          (next b l.self _ l.party l.invariant refl refl
          (left_open l.self.clock l.party l.self.waits w.in-Some.is
          (w.of_wait-more.ensures ∙ ap (λ n. figures_for 0 0 (n ∷ [])) w.ticks.ensures) w.add_figures.ensures))
      | in_default w ↦ subst (Ended b (l.party + 1)) (sym w.self-is)
          (next b l.self _ l.party l.invariant refl refl
          (left_shut l.self.clock l.party l.self.waits _ w.in_default.is))
    ]

pub returns : goal.returns
returns c = ended-all _ _ c.loop-party.party (omega arith) c.loop-party.invariant.0
