-- Create and write keep the agreement.
use Prim.Native.Nat.{ℕ, ◌+◌}
use mathlib.Core.Bool.{true, false, true≢false}
use mathlib.Core.Logic.{◌⊎◌, inl, inr, ⊎_elim}
use mathlib.Core.Path.{◌≡◌, refl, sym, ap, ◌∙◌}
use mathlib.Core.List.Memᴰ
use mathlib.Core.List.{List, [], ◌∷◌, ◌++◌, Memᴰ}
use native.Mathlib.Omega.{arith}
use borrow.Author.Tests.{ne_eqb}
use Rattle.rules.specs.Template.{mark_of}
use Rattle.rules.specs.declared.Entry.{Entry}
use Rattle.rules.specs.declared.Txn.{Txn}
use Rattle.rules.specs.Lists.{anyb, All}
use Rattle.rules.specs.Time.{reached}
use Rattle.rules.specs.State.{Model}
use Rattle.rules.specs.Frame.{Frame, is_create}
use Rattle.rules.specs.Write.{new_entry, stored}
use Rattle.rules.specs.Transactions.{create}
use Rattle.rules.specs.SerialRun.{Kept, Operation, adds, kept_of}
use Rattle.rules.specs.Sound.{Live, Consistent}
use Rattle.rules.proofs.ListLaws.{all_false}
use Rattle.rules.proofs.TimeLaws.{until_now}
use Rattle.rules.proofs.ReaderLaws.{bit_of_zero}
use Rattle.demands.specs.Told.{takes_number}
use Rattle.sound.proofs.AllLaws.{all_none, all_snoc, all_gone}
use Rattle.sound.proofs.HoldLaws.{eqb_cases, not_so}
use Rattle.sound.proofs.Events.{Admitted}
use Rattle.sound.proofs.Becomes.{new_txn}
use Rattle.sound.proofs.Consistent.{ok-below, slot_free}
use Rattle.demands.proofs.SerialRunOps.{after, after_all, Can, mentions_it, mentions, can_keep}
use Rattle.demands.proofs.SerialRunAgree.{fits, Stored, Same, Ties, AgreeIn, takes_mentions, fits_unfound}
use Rattle.demands.proofs.SerialRunAgree.{ties_more, Performs}

module _ {m : Model} (f : Frame) {ks : List Kept} {lists : ℕ → List Operation} (s : Consistent m)
    (a : AgreeIn m ks lists)
  where
    -- nobody has found the new number
    unfound : (u : ℕ) → All (λ o. mentions_it m.next_entry o ≡ false) (lists u)
    unfound u o i = not_so _ (λ r. let l = a.known u o i m.next_entry r in omega arith)

    unmentioned : (u : ℕ) → mentions (lists u) m.next_entry ≡ false
    unmentioned u = all_false (mentions_it m.next_entry) (lists u) (unfound u)

    abbrev pub added : Operation
    added = adds (kept_of (new_entry m f))

    abbrev grown : List Entry
    grown = (stored m f).entries

    grown_all : (Q : Entry → Type 0) → All Q m.entries → Q (new_entry m f) → All Q grown
    unfolding stored
    grown_all Q h n = eqb_cases (All Q) f.lease_or_timeout 0 (λ _. h) (λ _. all_snoc m.entries h n)

    stays : (e : Entry) → Memᴰ e m.entries → Memᴰ e grown
    unfolding stored
    stays e i = eqb_cases (λ (l : List Entry). Memᴰ e l) f.lease_or_timeout 0 (λ _. i) (λ _. Memᴰ.append_left _ i)

    -- lease 0 is over as it starts
    new_stored : (reached m.clock (kept_of (new_entry m f)).end ≡ true)
        ⊎ Stored grown f.txn (kept_of (new_entry m f))
    unfolding stored new_entry
    new_stored =
        eqb_cases (λ (l : List Entry). (reached m.clock (kept_of (new_entry m f)).end ≡ true) ⊎ Stored l f.txn
        (kept_of (new_entry m f))) f.lease_or_timeout 0 (λ q. inl (rw q (until_now m.clock)))
        (λ _. inr (new_entry m f, Memᴰ.append_right m.entries (Memᴰ.head refl), refl, refl))

    pub performs_write : (f.txn ≡ 0) ⊎ Live f.txn m.txns
        → Performs m.clock m.entries grown m.txns m.next_entry (m.next_entry + 1) ks lists f.txn added
    unfolding new_entry
    performs_write l =
        record {
          inside = l;
          same_other = λ u ls d h.
              record {
                kept-stored = λ k i. ⊎_elim inl (λ r. inr (old k r)) (h.kept-stored k i);
                stored-kept =
                    grown_all (λ e. e.private_to.0 ≡ u → Memᴰ (kept_of e) ls) h.stored-kept
                    (λ q. absurd (d (sym q)));
              };
          same-own = λ ls h.
              record {
                kept-stored = all_snoc ls (λ k i. ⊎_elim inl (λ r. inr (old k r)) (h.kept-stored k i)) new_stored;
                stored-kept = grown_all (λ e. e.private_to.0 ≡ f.txn → Memᴰ (kept_of e) (after added ls))
                    (λ e i q. Memᴰ.append_left _ (h.stored-kept e i q))
                    (λ _. Memᴰ.append_right ls (Memᴰ.head refl));
              };
          ties_other = λ x i d. grown_all (Ties x (lists x.id.0)) (a.ties x i)
              (record {
                held = λ _. takes_mentions m.next_entry (lists x.id.0) (unmentioned x.id.0)
                    ∙ sym (ne_eqb 0 x.id.0 (λ z. let b = s.txns_ok.above x i in omega arith));
                holds = λ r. absurd (true≢false (sym r ∙ unmentioned x.id.0));
                reads = λ b. absurd (true≢false (sym b ∙ bit_of_zero x.slot));
                fitting = λ o j. fits_unfound m.next_entry (mark_of f.mask f.fields) o (unfound x.id.0 o j);
              });
          ties_own =
              λ x i q. grown_all (Ties x (lists x.id.0 ++ (added ∷ [])))
              (λ e j. ties_more added refl (a.ties x i e j))
              (record {
                held = λ z. absurd (let b = s.txns_ok.above x i in omega arith);
                holds = λ _. inl (sym q);
                reads = λ b. absurd (true≢false (sym b ∙ bit_of_zero x.slot));
                fitting =
                    all_snoc (lists x.id.0)
                    (λ o j. fits_unfound m.next_entry (mark_of f.mask f.fields) o (unfound x.id.0 o j)) refl;
              });
          can_other =
              λ x i d. can_keep (lists x.id.0) ks (after added ks) (λ k j _. Memᴰ.append_left _ j) (a.can x i);
          can_own = λ x i q. tt;
          takes-apart = λ x i d n r. absurd (true≢false (sym r));
          finds-apart = λ y j d n r. refl;
          later = omega arith;
          found = λ n r. absurd (true≢false (sym r));
        }
      where
        old : {u : ℕ} (k : Kept) → Stored m.entries u k → Stored grown u k
        old k r = (r.0, stays r.0 r.1, r.2, r.3)

    -- a new transaction has an empty list and holds nothing
    pub agree_create : is_create f.op ≡ true → Admitted f m → AgreeIn (create m f).model ks lists
    unfolding create
    agree_create t b =
        record {
          set = a.set;
          own =
              all_snoc {Q = λ x. Same m.clock m.entries x.id.0 (after_all (lists x.id.0) [])} m.txns
              a.own
              (rw unlisted (record {
                kept-stored = all_none (λ k. (reached m.clock k.end ≡ true) ⊎ Stored m.entries m.next_txn k);
                stored-kept = λ e i q. absurd (let l = ok-below s (s.held e i).owner in omega arith);
              }));
          ties = all_snoc {Q = λ x. All (Ties x (lists x.id.0)) m.entries} m.txns a.ties
              (rw unlisted (λ e i.
              record {
                held =
                    λ _. sym (ne_eqb e.taken_by.0 m.next_txn
                    (λ r. let l = ok-below s (s.held e i).taker in omega arith));
                holds = λ r. absurd (true≢false (sym r));
                reads =
                    λ r. let y = (s.held e i).readers (new_txn m f).slot r in absurd
                    (slot_free m.txns (b.slot-left t) y.0 y.1 y.2);
                fitting = all_none (λ o. fits e.id.0 e.fields o ≡ true);
              }));
          can = all_snoc {Q = λ x. Can (lists x.id.0) ks} m.txns a.can (rw unlisted tt);
          apart = λ x y i j d n r.
              ⊎_elim (λ k. ⊎_elim (λ l. a.apart x y k l d n r)
              (λ l. absurd (true≢false (sym r ∙ ap (anyb (takes_number n)) (newcomer y l))))
              (Memᴰ.append_cases m.txns j))
              (λ k. ap (λ os. mentions os n) (newcomer x k)) (Memᴰ.append_cases m.txns i);
          known = a.known;
          live = λ u o i. let x = a.live u o i in (x.0, Memᴰ.append_left _ x.1, x.2);
        }
      where
        unlisted : lists m.next_txn ≡ []
        unlisted =
            all_gone (lists m.next_txn) (λ o i. let l = ok-below s (inr (a.live m.next_txn o i)) in omega arith)

        newcomer : (x : Txn) → Memᴰ x (new_txn m f ∷ []) → lists x.id.0 ≡ []
        newcomer x k = ap (λ (y : Txn). lists y.id.0) (Memᴰ.eq_of_singleton k) ∙ unlisted
