use mathlib.Core.Path.{ap, ◌∙◌}
use Rattle.rules.specs.Tick.{drop_ended, lapsed}
use Rattle.finish.proofs.tick.lapse.Goals as goal

pub returns : goal.returns
unfolding lapsed
returns c =
    record {
      model = c.drop_ended.ensures ∙ ap drop_ended c.abort_ended.ensures;
      adds = c.put_exceptions-done.ensures;
    }
