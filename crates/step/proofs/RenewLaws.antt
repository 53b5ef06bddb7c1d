-- What is judged of a renewal, in the order of the table, and what it does, by the row of its entry.
use Prim.Native.Nat.{ℕ, ◌+◌, ◌<◌}
use mathlib.Core.Bool.{true, false, not, cond, or-false}
use mathlib.Core.Option.{Option, none, some}
use mathlib.Core.Path.{◌≡◌, refl, sym, ap, ◌∙◌}
use mathlib.Core.List.{[], ◌∷◌}
use borrow.Author.Tests.{eqb-true, ne_eqb, ltb-false}
use lib.Dec.{eqb, ltb}
use lib.ListN.{length, get_or}
use Rattle.rules.specs.declared.Entry.{Entry}
use Rattle.rules.specs.declared.EntryId.{EntryId}
use Rattle.rules.specs.Numbers.{forever, last_clock, waiting_refused, no_entry_refused, clock_refused}
use Rattle.rules.specs.Numbers.{not_writer_refused}
use Rattle.rules.specs.Numbers.{held_refused}
use Rattle.rules.specs.State.{Model}
use Rattle.rules.specs.Frame.{layout_of}
use Rattle.rules.specs.Renew.{has_number, stored_entry, renew}
use Rattle.rules.specs.Refusals.{no_entry, not_writer, not_free, party_waits, not_live, not_own, no_lease, too_late}
use Rattle.rules.specs.Refusals.{entries_full, txns_full, registrations_full, no_number, is_free}
use Rattle.rules.specs.Requests.{frame_of, renew_of, space_refusal}
use Rattle.rules.specs.Sound.{Sound}
use Rattle.rules.proofs.BoolLaws.{and_false_right}
use Rattle.rules.proofs.ListLaws.{find_some}
use Rattle.rules.proofs.RefusalLaws.{none_applies}
use Rattle.words.specs.Ends.{InTime}
use Rattle.holds.specs.Renew.{renewed_at}
use Rattle.holds.proofs.RenewLaws.{by_row}
use Rattle.judge.specs.Judge.{party_waiting, late, entry_refusal}

module _ (m : Model) (party : ℕ) (id : EntryId) (lease : ℕ) where
  -- 6; else 18, if no stored entry has the number; else by that entry
  abbrev by_entry : Option Entry → ℕ
  by_entry none = no_entry_refused
  by_entry (some e) = entry_refusal party e m.clock lease

  judged_so : (o : Option Entry) → stored_entry id.0 m.entries ≡ o
      → space_refusal m (frame_of (renew_of party id lease))
      ≡ cond (party_waiting party 0 m.waits) waiting_refused (by_entry o)
  unfolding space_refusal no_entry not_writer not_free party_waits not_live not_own no_lease too_late entries_full
      txns_full
      registrations_full no_number layout_of entry_refusal
  judged_so none e = rw e
  judged_so (some x) e = rw (e, or-false (late m.clock lease))

  pub renew-waits : party_waiting party 0 m.waits ≡ true
      → waiting_refused ≡ space_refusal m (frame_of (renew_of party id lease))
  renew-waits t =
      sym (judged_so (stored_entry id.0 m.entries) refl
      ∙ ap (λ b. cond b waiting_refused (by_entry (stored_entry id.0 m.entries))) t)

  module _ (f : party_waiting party 0 m.waits ≡ false) where
    pub renew-none : stored_entry id.0 m.entries ≡ none
        → no_entry_refused ≡ space_refusal m (frame_of (renew_of party id lease))
    renew-none e = sym (judged_so none e ∙ ap (λ b. cond b waiting_refused no_entry_refused) f)

    pub renew_some : (e : Entry) → stored_entry id.0 m.entries ≡ some e
        → entry_refusal party e m.clock lease ≡ space_refusal m (frame_of (renew_of party id lease))
    renew_some x e =
        sym (judged_so (some x) e ∙ ap (λ b. cond b waiting_refused (entry_refusal party x m.clock lease)) f)

-- what it lets pass ends in time
pub renew_in_time : (party : ℕ) (e : Entry) (clock lease : ℕ) → entry_refusal party e clock lease ≡ 0
    → InTime clock lease
unfolding entry_refusal
renew_in_time party e clock lease q h =
    let late-not = none_applies
    ((not (eqb e.writer party), not_writer_refused)
    ∷ (not (is_free (some e)), held_refused)
    ∷ (late clock lease, clock_refused)
    ∷ []) refl q 2 in
    ltb-false last_clock (clock + lease)
    (and_false_right (not (eqb lease forever)) (ltb last_clock (clock + lease)) (ap not (ne_eqb lease forever h))
    late-not)

-- what is done by the row is what the rules do, where no two entries have a number
pub renew-row : (m : Model) (party : ℕ) (id : EntryId) (lease : ℕ) (e : Entry) (i : ℕ) → Sound m
    → stored_entry id.0 m.entries ≡ some e → i < length m.entries → get_or m.entries i e ≡ e
    → renewed_at lease e i m ≡ (renew m (frame_of (renew_of party id lease))).model
unfolding stored_entry
renew-row m party id lease e i s q l g =
    by_row m (frame_of (renew_of party id lease)) e i l g s.consistent.ordered.entries
    (eqb-true e.id.0 id.0 (find_some (has_number id.0) m.entries q).1)
