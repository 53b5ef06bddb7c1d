use Rattle.std.proofs.Common.{◌+◌, ◌*◌, ◌++◌, ap, ap₂, ◌∙◌, drop, arith}
use Rattle.rules.specs.Lists.{joined}
use Rattle.rules.specs.Words.{up_to}
use Rattle.trial.specs.Setup.{rounds_in, pane_count, starting_count, starting_frames}
use Rattle.trial.specs.Trial.{rounds, send_all, trial}
use Rattle.trial.specs.Progress.{at, counts_at}
use Rattle.trial.proofs.TryingLaws.{first_round, trying-begun, underway-first, along, underway_on, goes_then, goes_as}
use Rattle.trial.proofs.TryingLaws.{counts_are}
use Rattle.trial.proofs.rounds.count_trial.Goals as goal

pub write_starting-requires : goal.write_starting-requires
write_starting-requires c = underway-first c.new-trial.ensures (omega (arith, c.new-trial.result.setup.starting))

pub run_rounds-requires : goal.run_rounds-requires
run_rounds-requires c =
    let new = c.new-trial.result in
    let go = c.write_starting.ensures in
    let n = starting_count new.setup.words.now in
    let more = 5 * rounds_in c.write_starting.new.self.setup.words.now in
    underway_on n more
    (underway-first {n = n + more} c.new-trial.ensures
    (omega (arith, new.setup.starting, c.write_starting.new.self.setup.rounds)))
    go (omega arith)

pub returns : goal.returns
unfolding trial
returns c =
    let ws = c.args.setup.now.words.now in
    let old = c.args.counts.now in
    let b = c.new-trial.ensures in
    let starting = c.write_starting.ensures in
    let ran = c.run_rounds.ensures in
    let n = starting_count c.new-trial.result.setup.words.now in
    let m = 5 * rounds_in c.write_starting.new.self.setup.words.now in
    let all = goes_as (n + m)
    (λ r. ap₂ (λ x y. rounds (rounds_in x) (send_all (starting_frames y) r)) (starting.setup ∙ b.setup) b.setup)
    (goes_then n m (n + m) starting ran (omega arith)) in
    c.put_counts.ensures
    ∙ ap (λ k. joined (up_to (λ i. counts_at (at c.run_rounds.new.self.panes i)) k) ++ drop (3 * k) old)
    c.pane_count.ensures
    ∙ ap (λ l. l ++ drop (3 * pane_count ws) old)
    (counts_are (along b.setup (all.trying 0 (first_round ws) (trying-begun b))))
