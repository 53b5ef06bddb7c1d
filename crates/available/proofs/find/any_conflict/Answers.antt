use Rattle.std.proofs.Common.{◌≡◌, ◌∙◌, sym, Bool, rules}
use Rattle.std.specs.Prelude.{Option, Some, None, is_some}
use Rattle.rules.specs.declared.Entry.{Entry}
use Rattle.rules.specs.Holds.{conflicts}
use Rattle.rules.specs.Lists.{findb, anyb}
use Rattle.rules.proofs.ListLaws.{some_any, none_any}
use Rattle.rules.specs.Words.{view}
use Rattle.available.specs.Find.{match_of}
use Rattle.available.proofs.FindLaws.{only_conflicting}
use Rattle.available.proofs.find.any_conflict.Goals as goal

any_found : (q : Entry → Bool) (xs : _) (r : Option (Entry × _)) → match_of r ≡ findb q xs → is_some r ≡ anyb q xs
any_found q xs (Some m) e = sym (some_any q xs (sym e))
any_found q xs None e = sym (none_any q xs (sym e))

pub returns : goal.returns
returns c =
    let m = view c.args.space.now in
    let f =
    c.first_passing.ensures (conflicts m.txns c.args.w) (only_conflicting m.txns c.args.w) (λ e r p. search rules) in
    c.is_some.ensures ∙ any_found (conflicts m.txns c.args.w) m.entries c.first_passing.result f.0
