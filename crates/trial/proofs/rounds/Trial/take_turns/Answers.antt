use Rattle.std.proofs.Common.{◌≡◌, ℕ, ◌+◌, Bool, true, false, is_some, sym, ap, ◌∙◌, subst, arith}
use Rattle.rules.specs.Words.{up_to}
use Rattle.trial.specs.declared.rounds.Trial.{Trial}
use Rattle.trial.specs.Setup.{pane_count}
use Rattle.trial.specs.Trial.{Round, next_of, sends_now, turns}
use Rattle.trial.specs.Progress.{next_at}
use Rattle.trial.specs.Trying.{Goes}
use Rattle.trial.proofs.TryingLaws.{trying_more, underway_on, goes_none, goes_then, goes_as}
use Rattle.trial.proofs.TurnLaws.{ready_are, turns_more}
use Rattle.trial.proofs.rounds.Trial.take_turns.Goals as goal
use Rattle.trial.proofs.rounds.Trial.take_turns.Goals.{then-is_some, else-is_some}

pub loop-i-init : goal.loop-i-init
unfolding turns
loop-i-init c = goes_none 0

pub turn-requires : goal.turn-requires
turn-requires c =
    let l = c.loop-i in
    let count = c.pane_count-count.ensures in
    let same = ap pane_count l.invariant.setup in (
      underway_on l.i 1 c.requires l.invariant (omega (arith, count, c.args.self.now.setup.few)),
      omega (arith, count, same),
    )

-- those that are ready in a trial
ready : Trial → ℕ → Bool
ready b j = is_some (next_at b.setup.words.now b.panes j)

-- one turn more: taken, or not
Turned : Trial → ℕ → Trial → Type 0
Turned b i t = Goes i (turns (up_to (ready b) i) 0) b t

taken : (b t t' : Trial) (i : ℕ) → Turned b i t → ready b i ≡ true
    → Goes 1 (λ r. sends_now true (next_of r.panes i) r) t t' → Turned b (i + 1) t'
unfolding Turned
taken b t t' i h e g =
    let now : Round → Round = turns (up_to (ready b) i) 0 in
    goes_as (i + 1)
    (λ r. ap (λ x. sends_now x (next_of (now r).panes i) (now r)) (sym e) ∙ sym (turns_more (ready b) i r))
    (goes_then i 1 (i + 1) h g (omega arith))

not_taken : (b t : Trial) (i : ℕ) → Turned b i t → ready b i ≡ false → Turned b (i + 1) t
unfolding Turned
not_taken b t i h e =
    let now : Round → Round = turns (up_to (ready b) i) 0 in
    goes_as (i + 1)
    (λ r. ap (λ x. sends_now x (next_of (now r).panes i) (now r)) (sym e) ∙ sym (turns_more (ready b) i r))
    (goes_then i 0 (i + 1) h (goes_none 0) (omega arith))

pub loop-i-preserved : goal.loop-i-preserved
unfolding Turned ready
loop-i-preserved c =
    let l = c.loop-i in
    let b = c.args.self.now in
    let is = ap (λ ws. is_some (next_at ws b.panes l.i)) (sym l.invariant.setup) ∙ ap is_some (sym c.next_at.ensures) in
    elim c.if-is_some.branch [
      | then-is_some w ↦ subst (Turned b (l.i + 1)) (sym w.self-is)
          (taken b l.self _ l.i l.invariant (is ∙ sym c.is_some.ensures ∙ w.if-is_some.true) w.turn.ensures)
      | else-is_some w ↦ subst (Turned b (l.i + 1)) (sym w.self-is)
          (not_taken b l.self l.i l.invariant (is ∙ sym c.is_some.ensures ∙ w.if-is_some.false))
    ]

pub returns : goal.returns
returns c =
    let l = c.loop-i in
    let b = c.args.self.now in
    let done : l.i ≡ pane_count b.setup.words.now = omega (arith, c.pane_count-count.ensures) in
    let who : ℕ → Bool = λ j. is_some (next_at b.setup.words.now b.panes j) in
    record {
      setup = l.invariant.setup;
      trying = λ k r t.
          let all = ap (λ n. turns (up_to who n) 0 r) done ∙ ap (λ bs. turns bs 0 r) (sym (ready_are t)) in
          trying_more (rw all at (l.invariant.trying k r t)) (omega (arith, done, c.args.self.now.setup.few));
    }
