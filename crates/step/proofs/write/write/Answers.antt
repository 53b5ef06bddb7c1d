-- `step::write::write`: the new entry has the next number, which is used up; it is stored unless its lease is 0.
use Rattle.std.proofs.Common.{◌<◌, ◌≡◌, ◌+◌, ◌++◌, [], ◌∷◌, length, take, ap, ◌∙◌, arith}
use mathlib.Core.Path.{ap₂}
use borrow.Author.Tests.{eq-eqb, ne_eqb}
use lib.Seq.{take-append-le}
use Rattle.rules.specs.declared.Entry.{Entry}
use Rattle.rules.specs.declared.Record.{Record}
use Rattle.rules.specs.Frame.{Frame}
use Rattle.rules.specs.Records.{written}
use Rattle.rules.specs.State.{Model, with_entries, with_next_entry}
use Rattle.rules.specs.Numbers.{max_entries}
use Rattle.rules.specs.Words.{view}
use Rattle.rules.specs.Write.{new_entry, stored, write}
use Rattle.tables.proofs.Tables.{length-entries}
use Rattle.step.proofs.PassedLaws.{write_in_time, write-room, write-number}
use Rattle.step.proofs.write.write.Goals as goal

-- its number is the next
numbered : (m : Model) (f : Frame) (e : Entry) → e ≡ new_entry m f → e.id.0 ≡ m.next_entry
unfolding new_entry
numbered m f e is = ap (λ (x : Entry). x.id.0) is

-- the record's
told : (m : Model) (f : Frame) (e : Entry) (r : Record) → e ≡ new_entry m f → r ≡ written f e.id.0
    → r ≡ written f m.next_entry
told m f e r is says = says ∙ ap (written f) (numbered m f e is)

-- and is used up
counted : (m n : Model) (f : Frame) (e : Entry) → e ≡ new_entry m f → n ≡ with_next_entry (e.id.0 + 1) m
    → n ≡ with_next_entry (m.next_entry + 1) m
counted m n f e is set = set ∙ ap (λ k. with_next_entry (k + 1) m) (numbered m f e is)

pub new_entry-e-requires : goal.new_entry-e-requires
new_entry-e-requires c = write_in_time (view c.args.space.now) c.args.w c.requires

pub overflow_add-e : goal.overflow_add-e
overflow_add-e c =
    let low = write-number (view c.args.space.now) c.args.w c.requires in
    record { fits = omega (arith, numbered _ _ _ c.new_entry-e.ensures.0, low) }

pub returns-then-w-ne0 : goal.returns-then-w-ne0
unfolding write stored
returns-then-w-ne0 c =
    let ws = c.args.space.now in
    let n = c.row_count-from in
    let e = c.new_entry-e in
    let added : Model → Entry → Model = λ x e. with_entries (x.entries ++ (e ∷ [])) x in
    let next = counted _ _ _ _ e.ensures.0 c.set_next_number.ensures in
    let free = write-room (view ws) c.args.w c.requires c.if-w-ne0.true in
    let room : length (view c.set_next_number.new.space).entries < max_entries =
    omega (arith, free, ap (λ (m : Model). length m.entries) next) in
    let model = c.add_row.ensures room ∙ ap₂ added next e.ensures.0 in (
      record {
        model = rw (ne_eqb _ _ c.if-w-ne0.true) model;
        own = told _ _ _ _ e.ensures.0 c.written_record-answer.ensures;
      },
      ap (λ (m : Model). take n.result m.entries) model
          ∙ take-append-le n.result (view ws).entries _ (omega (arith, n.ensures.0, length-entries ws)),
    )

pub returns-else-w-ne0 : goal.returns-else-w-ne0
unfolding write stored
returns-else-w-ne0 c =
    let model = counted _ _ _ _ c.new_entry-e.ensures.0 c.set_next_number.ensures in (
      record {
        model = rw (eq-eqb _ _ c.if-w-ne0.false) model;
        own = told _ _ _ _ c.new_entry-e.ensures.0 c.written_record-answer.ensures;
      },
      ap (λ (m : Model). take c.row_count-from.result m.entries) model,
    )
