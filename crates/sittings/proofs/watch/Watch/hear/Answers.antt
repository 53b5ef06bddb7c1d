use Rattle.std.proofs.Common.{sym, ◌∙◌, arith}
use Rattle.sittings.proofs.WatchLaws.{heard-own, heard_nobody, is_in_lem, is_out}
use Rattle.sittings.proofs.watch.Watch.hear.Goals as goal

pub returns-then-is_party-clause-heard : goal.returns-then-is_party-clause-heard
returns-then-is_party-clause-heard c =
    let party = is_in_lem c.args.a.party (sym c.is_party.ensures ∙ c.if-is_party.true) in
    heard-own c.args.self.now.waits c.args.a (omega (arith, party.last)) c.heard-left.ensures.figures
    c.heard-left.ensures.left c.add_figures.ensures

pub returns-else-is_party-clause-heard : goal.returns-else-is_party-clause-heard
returns-else-is_party-clause-heard c =
    heard_nobody _ _ c.args.a (is_out c.args.a.party (sym c.is_party.ensures ∙ c.if-is_party.false))
