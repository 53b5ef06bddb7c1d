use mathlib.Core.Path.{ap, ◌∙◌}
use Rattle.rules.specs.declared.Request.TheVariants.{Notify}
use Rattle.rules.specs.Notify.{notify}
use Rattle.rules.specs.Records.{notified}
use Rattle.rules.specs.Requests.{frame_of}
use Rattle.rules.specs.Words.{view}
use Rattle.step.proofs.PassedLaws.{notify_in_time, notify-room, notify-number}
use Rattle.step.proofs.own.notify.Goals as goal

pub register-id-requires : goal.register-id-requires
register-id-requires c =
    let a = c.args in
    let m = view a.space.now in
    let p = c.requires in
    record { in_time = notify_in_time m a.q p; room = notify-room m a.q p; number = notify-number m a.q p }

pub returns : goal.returns
unfolding notify
returns c =
    let r = c.register-id in
    let q = c.args.q in
    record {
      model = r.ensures.made;
      own = c.notified_record.ensures ∙ ap (notified (frame_of (Notify q))) r.ensures.numbered;
    }
