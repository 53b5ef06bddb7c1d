use Rattle.std.proofs.Common.{◌≡◌, ◌+◌, sym, ap, ◌∙◌, arith}
use Rattle.trial.specs.Setup.{starting_count, starting_frame}
use Rattle.trial.specs.Trial.{send, send_all}
use Rattle.rules.specs.Words.{up_to}
use Rattle.trial.proofs.UpToMore.{as_up_to}
use Rattle.trial.proofs.TryingLaws.{underway_on, goes_none, goes_then, goes_as}
use Rattle.trial.proofs.TurnLaws.{sends_more}
use Rattle.trial.proofs.rounds.Trial.write_starting.Goals as goal

pub loop-j-init : goal.loop-j-init
unfolding send_all
loop-j-init c = goes_none 0

pub send-requires : goal.send-requires
send-requires c =
    let l = c.loop-j in
    underway_on l.j 1 c.requires l.invariant (omega (arith, c.starting_count-count.ensures))

pub loop-j-preserved : goal.loop-j-preserved
loop-j-preserved c =
    let l = c.loop-j in
    let frames = starting_frame c.args.self.now.setup.words.now in
    let frame = c.starting_write-q.ensures ∙ ap (λ ws. starting_frame ws l.j) l.invariant.setup in
    goes_as (l.j + 1) (λ r. ap (λ bs. send bs (send_all (up_to frames l.j) r)) frame ∙ sym (sends_more frames l.j r))
    (goes_then l.j 1 (l.j + 1) l.invariant c.send.ensures (omega arith))

pub returns : goal.returns
returns c =
    let l = c.loop-j in
    let ws = c.args.self.now.setup.words.now in
    let done : l.j ≡ starting_count ws = omega (arith, c.starting_count-count.ensures) in
    goes_as (starting_count ws) (λ r. ap (λ l. send_all l r) (sym (as_up_to (starting_frame ws) (starting_count ws))))
    (rw done at l.invariant)
