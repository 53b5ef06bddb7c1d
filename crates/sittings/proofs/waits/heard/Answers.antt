use Rattle.std.proofs.Common.{sym, ap, refl, ◌∙◌, [], ◌∷◌}
use Rattle.sittings.specs.Watch.{heard_of}
use Rattle.sittings.proofs.FigureLaws.{no_wait, figures-same}
use Rattle.sittings.proofs.WatchLaws.{one_of, own_found, open_heard}
use Rattle.sittings.proofs.waits.heard.Goals as goal
use Rattle.sittings.proofs.waits.heard.Goals.{in_default-via-in-Some+else-is_closed_by, in_default-via-in_default}

pub returns-in_default-clause-figures : goal.returns-in_default-clause-figures
returns-in_default-clause-figures c =
    let d = c.default.ensures in
    let a = c.args in
    no_wait d.1.1.0 d.1.1.1.0 d.1.1.1.1
    ∙ figures-same d.0 refl refl
    ∙ elim c.in_default.branch [
      | in_default-via-in-Some+else-is_closed_by w ↦
          open_heard a.a (one_of _ c.from-founds.ensures) w.in-Some.open
          (sym w.is_closed_by.ensures ∙ w.if-is_closed_by.false) a.clock
          ∙ ap (λ v. heard_of a.a.party a.clock v (a.a ∷ [])) (sym w.in-Some.is)
      | in_default-via-in_default w ↦ figures-same refl (own_found a.a (one_of _ c.from-founds.ensures)) refl
          ∙ ap (λ v. heard_of a.a.party a.clock v (a.a ∷ [])) (sym w.in_default.is)
    ]
