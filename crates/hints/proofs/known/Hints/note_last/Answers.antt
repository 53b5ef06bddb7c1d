use Rattle.std.proofs.Common.{◌≡◌, sym, ap, ◌∙◌, subst, arith}
use Rattle.rules.specs.declared.LookUp.{LookUp}
use Rattle.tables.specs.Rows.{wait_row}
use Rattle.tables.proofs.Tables.{waits-read}
use Rattle.hints.specs.Hints.{NotBefore, Flagged}
use Rattle.hints.proofs.HintLaws.{weaker-same, weaker-then, word-not_before, row_last}
use Rattle.hints.proofs.known.Hints.note_last.Goals as goal

pub returns-in_default : goal.returns-in_default
returns-in_default c = (
  weaker-same,
  λ vs w e.
      let r = row_last (waits-read c.args.space.now) vs w e in
      absurd (c.in_default.ensures (omega (arith, r.0, c.row_count.ensures.0))),
)

pub returns : goal.returns
returns c =
    let f = c.flag_party.ensures in
    let l = c.lower.ensures in
    let hs = c.flag_party.new.self in (
      weaker-then l.0 f.0,
      λ vs w e.
          let r = row_last (waits-read c.args.space.now) vs w e in
          let same : c.row_at-w.result ≡ w =
          c.row_at-w.ensures
          ∙ ap (wait_row c.args.space.now) (omega (arith, c.in-Some.ensures.1, c.row_count.ensures.0))
          ∙ sym r.1 in
          subst (λ (v : LookUp). NotBefore hs.least v.deadline × Flagged hs v) same
          (word-not_before _ (omega (arith, f.2, l.1, c.from.ensures)), f.1),
    )
