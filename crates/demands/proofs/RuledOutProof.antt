-- Each wrong space fails the demand named for it, by a concrete history.
use Prim.Native.Nat.{ℕ, ◌<◌}
use mathlib.Core.Bool.{Bool, true, not, ◌&&◌, true≢false}
use mathlib.Core.Path.{◌≡◌, refl, sym, ap}
use mathlib.Core.List.Memᴰ
use mathlib.Core.List.{List, [], ◌∷◌, ◌++◌, map}
use native.Mathlib.Omega.{arith}
use borrow.Author.Tests.{ltb-true, leb-false, not-true}
use lib.Dec.{eqb, leb, ltb}
use lib.ListN.{length, replicate, get_or}
use Rattle.rules.specs.declared.Entry.{Entry}
use Rattle.rules.specs.declared.Record.{Record}
use Rattle.rules.specs.declared.until.Until.TheVariants.{Tick}
use Rattle.rules.specs.Lists.{anyb}
use Rattle.rules.specs.State.{Model, empty}
use Rattle.rules.specs.Frame.{decode, four_bytes}
use Rattle.rules.specs.Records.{no_fields}
use Rattle.rules.specs.Time.{reached}
use Rattle.rules.specs.Refusals.{refusal}
use Rattle.rules.specs.Step.{step, carried_out}
use Rattle.rules.specs.Allowed.{Answered}
use Rattle.rules.specs.Template.{mark_of}
use Rattle.rules.specs.SerialRun.{Logged, Kept, same_fields, is_kept, failed, taking, carry_out, carry_out_all, perform}
use Rattle.rules.specs.SerialRun.{list_of, thrown_away, last_takes, advanced, follow, follow_all, was_refused}
use Rattle.rules.specs.SerialRun.{note_look_up}
use Rattle.rules.specs.SerialRun.{follow_log, serial_run, left, committed_in, Serial, renewing}
use Rattle.rules.specs.Sound.{Ascending}
use Rattle.rules.proofs.ListLaws.{none_mem}
use Rattle.rules.proofs.BoolLaws.{and_left, and_right}
use Rattle.demands.specs.Machine.{Handed, Stepper, StepsBy, answered_by, space_of}
use Rattle.demands.specs.History.{History, begun, handed, Made}
use Rattle.demands.specs.Registry.{published, registers, registers_all, notes, keep_registry, registry_of}
use Rattle.demands.specs.Book.{writer_of, enters, enters_all, arrives, keep_book, book_of}
use Rattle.demands.specs.Told.{Told, reads_number, who_takes, who_reads, committed_told, private_told, told}
use Rattle.demands.specs.Demands.{Demand1, Demand2, Demand3}
use Rattle.demands.specs.Frames.{E, write_by, read_by, take_by, read_if_exists_by, create_by, commit_by, abort_by}
use Rattle.demands.specs.Frames.{F, a_tick, write_blank, read_arc, renew_by, notify_by}
use Rattle.demands.specs.RuledOut.{says_nothing, says_waiting, refuses_all, same_record, stores_nothing}
use Rattle.demands.specs.RuledOut.{first_frame_only, one_more, loses_commit, puts_back_late, own_read_bars}
use Rattle.demands.specs.RuledOut.{nothing_first}
use Rattle.demands.specs.RuledOut.{shows_private, ignores_writes, writes_twice, ticks_at_writes, never_expires}
use Rattle.demands.specs.RuledOut.{last_exception_first, last_served_first, serves_ended, newest_first, waits_in_vain}
use Rattle.demands.specs.RuledOut.{gives_up_first, by_party, nothings_by_party, newest_in_service, takes_long_commits}
use Rattle.demands.specs.RuledOut.{stops_at_twelve, arcs_match_blanks, arcs_go_round}
use Rattle.demands.specs.RuledOut.{rings_put_backs, rings_for_each, rings_first, starts_over, rings_on}
use Rattle.demands.specs.RuledOut.{renews_from_the_write, renews_held, renews_anothers, leaves_lease0, forgets_writer}
use Rattle.demands.specs.RuledOut.{matches_blanks, loses_blanks, leaves_byte3, takes_filled_blanks, refuses_blanks}
use Rattle.demands.specs.RuledOut.{gives14, keeps_withdrawn, withdrawn_gets_nothing, aborts_any, RuledOut}
use Rattle.sound.proofs.AllLaws.{all_none, all_cons, all_map}
use Rattle.sound.proofs.OrderLaws.{Numbered}
use Rattle.demands.proofs.SaidProof.{said_given}
use Rattle.rules.proofs.Computed.{all_rules}

-- the frames of a history are handed in with areas of 700 bytes
abbrev hand_in : List ℕ → Handed
hand_in f = record { frame = f; area = replicate 700 0 }

-- what a space makes of a list of frames, and its log
unfoldable pub last_of : Stepper → Model → List (List ℕ) → Model
last_of does m [] = m
last_of does m (f ∷ fs) = last_of does (does m f 700).model fs

unfoldable pub log_of : Stepper → Model → List (List ℕ) → List Logged
log_of does m [] = []
log_of does m (f ∷ fs) =
    let rest = log_of does (does m f 700).model fs in
    record { frame = f; records = (does m f 700).records } ∷ rest

-- the answer to a frame
abbrev answer_to : Stepper → Model → List ℕ → Answered
answer_to does m f = answered_by (does m f 700) (replicate 700 0)

one-step : (does : Stepper) (m : Model) (f : List ℕ)
    → StepsBy does m (hand_in f) (does m f 700).model (answer_to does m f)
one-step does m f = record { space = refl; answered = refl }

played : (does : Stepper) (m : Model) (fs : List (List ℕ))
    → History (space_of does) m (log_of does m fs) (last_of does m fs)
unfolding last_of log_of answered_by
played does m [] = begun m
played does m (f ∷ fs) =
    handed (hand_in f) (answer_to does m f) (one-step does m f) (played does (does m f 700).model fs)

pub from_empty : (does : Stepper) (fs : List (List ℕ)) → Made (space_of does) (log_of does empty fs)
    (last_of does empty fs)
from_empty does fs = (empty, refl, played does empty fs)

-- the serial run, and what it tells, computed
unfoldable all_told : Unit {0}
unfolding same_fields is_kept failed taking carry_out carry_out_all perform list_of thrown_away last_takes advanced
    follow
    follow_all was_refused note_look_up renewing follow_log serial_run left committed_in reads_number who_takes
    who_reads
    committed_told
    private_told told
all_told = tt

-- E, written with lease 9 at clock 0
abbrev a_kept : Kept
a_kept = record { number = 1; fields = mark_of 0 E; end = Tick 9 }

-- a record's kind, party, entry number or blanks, by its place
abbrev kind_at : ℕ → List Record → ℕ
kind_at k rs = get_or (map (λ (r : Record). r.kind) rs) k 0

abbrev party_at : ℕ → List Record → ℕ
party_at k rs = get_or (map (λ (r : Record). r.party) rs) k 0

abbrev entry_at : ℕ → List Record → ℕ
entry_at k rs = get_or (map (λ (r : Record). r.entry.0) rs) k 0

abbrev side_at : ℕ → List Record → ℕ
side_at k rs = get_or (map (λ (r : Record). r.fields.side) rs) k 0

abbrev blanks_at : ℕ → List Record → ℕ
blanks_at k rs = get_or (map (λ (r : Record). r.fields.blanks) rs) k 0

-- whether entries stand by number, below the next
unfoldable orderedb : ℕ → List Entry → Bool
orderedb n [] = true
orderedb n (e ∷ es) = ltb e.id.0 n && (not (anyb (λ x. leb x.id.0 e.id.0) es) && orderedb n es)

ordered : (n : ℕ) (es : List Entry) → orderedb n es ≡ true → Numbered n es
unfolding orderedb Ascending
ordered n [] t = (tt, all_none (λ e. e.id.0 < n))
ordered n (e ∷ es) t =
    let above : Entry → Bool = λ x. leb x.id.0 e.id.0 in
    let others = and_right (ltb e.id.0 n) (not (anyb above es) && orderedb n es) t in
    let rest = ordered n es (and_right (not (anyb above es)) (orderedb n es) others) in
    let below = ltb-true e.id.0 n (and_left (ltb e.id.0 n) (not (anyb above es) && orderedb n es) t) in
    let ahead = not-true (anyb above es) (and_left (not (anyb above es)) (orderedb n es) others) in (
      (
        all_map (λ k. e.id.0 < k) (λ (x : Entry). x.id.0) es
            (λ x i. leb-false x.id.0 e.id.0 (none_mem above ahead i)),
        rest.0,
      ),
      all_cons below rest.1,
    )

-- what a frame after some frames says, the rules say: so nothing in it can differ from theirs
module _ (does : Stepper) (d : Demand2 (space_of does)) (fs : List (List ℕ)) (f : List ℕ) where
  abbrev before : Model
  before = last_of does empty fs

  by_said : refusal before f 700 ≡ 0 → orderedb before.next_entry before.entries ≡ true → (tells : List Record → ℕ)
      → (tells (carried_out before (decode f)).records ≡ tells (does before f 700).records → ⊥)
      → ⊥
  unfolding answered_by
  by_said n e tells differs =
      differs (ap tells (said_given
      (d.said (log_of does empty fs) before (does before f 700).model (hand_in f) (answer_to does before f)
      (from_empty does fs) (one-step does before f) n) (ordered _ _ e)))

-- a frame after some frames has the number that the rules give
by_judged : (does : Stepper) → Demand1 (space_of does) → (fs : List (List ℕ)) (f : List ℕ)
    → (does (last_of does empty fs) f 700).number ≡ refusal (last_of does empty fs) f 700
unfolding answered_by
by_judged does d fs f =
    let before = last_of does empty fs in
    (d.judged (log_of does empty fs) before (does before f 700).model (hand_in f) (answer_to does before f)
    (from_empty does fs) (one-step does before f)).first_row

abbrev parties : List ℕ
parties = 1 ∷ 2 ∷ 3 ∷ 4 ∷ 5 ∷ 6 ∷ 7 ∷ 8 ∷ 9 ∷ 10 ∷ 11 ∷ 12 ∷ 13 ∷ 14 ∷ 15 ∷ 16 ∷ []

-- demand 3 of what some frames make
by_serial : (does : Stepper) → Demand3 (space_of does) → (fs : List (List ℕ))
    → Serial (serial_run (log_of does empty fs)) (last_of does empty fs)
unfolding Demand3
by_serial does d fs = d (log_of does empty fs) (last_of does empty fs) (from_empty does fs)

pub each-ruled_out : RuledOut
unfolding all_rules all_told last_of log_of answered_by orderedb says_nothing says_waiting refuses_all same_record
    stores_nothing first_frame_only loses_commit puts_back_late own_read_bars nothing_first shows_private ignores_writes
    writes_twice ticks_at_writes never_expires last_exception_first last_served_first serves_ended newest_first
    newest_in_service
    takes_long_commits gives14 keeps_withdrawn withdrawn_gets_nothing aborts_any waits_in_vain gives_up_first
    nothings_by_party
    matches_blanks loses_blanks leaves_byte3 takes_filled_blanks refuses_blanks
    renews_from_the_write renews_held renews_anothers leaves_lease0 forgets_writer writer_of by_party enters enters_all
    arrives
    keep_book book_of rings_put_backs rings_for_each rings_first starts_over rings_on published registers registers_all
    notes
    keep_registry registry_of stops_at_twelve arcs_match_blanks arcs_go_round
each-ruled_out =
    record {
      says_nothing_lem = λ d.
          by_said says_nothing d (write_by 1 0 9 E ∷ []) (read_by 2 0 0 7) refl refl (kind_at 0)
          (λ (q : 2 ≡ 3). omega arith);
      says_waiting_lem = λ d.
          by_said says_waiting d (write_by 1 0 9 E ∷ []) (read_by 2 0 0 7) refl refl (kind_at 0)
          (λ (q : 2 ≡ 4). omega arith);
      refuses_all_lem = λ d. by_said refuses_all d [] (read_by 2 0 0 7) refl refl (kind_at 0)
          (λ (q : 3 ≡ 15). omega arith);
      same_record_lem = λ d. by_said same_record d [] (read_by 2 0 0 7) refl refl (kind_at 0)
          (λ (q : 3 ≡ 9). omega arith);
      -- what is written is told, and not stored
      stores_nothing_lem = λ d.
          let fs = write_by 1 0 9 E ∷ [] in
          let x : Told = record { kept = a_kept; private_to = 0; takers = []; readers = [] } in
          let s =
          d.told (log_of stores_nothing empty fs) (last_of stores_nothing empty fs) (from_empty stores_nothing fs) in
          Memᴰ.not-nil (s.told_stored x (Memᴰ.head refl)).1;
      first_frame_only_lem = λ d.
          by_said first_frame_only d (write_by 1 0 9 E ∷ []) (read_by 2 0 0 7) refl refl (kind_at 0)
          (λ (q : 2 ≡ 15). omega arith);
      invented_count_lem = λ d.
          let b = answer_to step empty a_tick in
          let q : ◌≡◌ {A = ℕ} 2 1 =
          d.counted [] empty (step empty a_tick 700).model (hand_in a_tick) (one_more b)
          (empty, refl, begun empty) (b, one-step step empty a_tick, refl) in
          omega arith;
      -- what is committed is left in the serial run, and not in the space
      loses_commit_lem = λ d.
          let s = by_serial loses_commit d (create_by 1 9 ∷ write_by 1 1 9 E ∷ commit_by 1 1 ∷ []) in
          Memᴰ.not-nil ((s.same a_kept).0 (Memᴰ.head refl));
      -- an entry past its lease is committed in the space again, and dropped in the serial run
      puts_back_late_lem = λ d.
          let s =
          by_serial puts_back_late d (write_by 1 0 1 E ∷ create_by 1 9 ∷ take_by 1 1 0 7 ∷ a_tick ∷ abort_by 1 1 ∷ [])
          in
          Memᴰ.not-nil ((s.same (record { number = 1; fields = mark_of 0 E; end = Tick 1 })).1
          (Memᴰ.head refl));
      own_read_bars_lem = λ d.
          by_said own_read_bars d (write_by 1 0 9 E ∷ create_by 1 9 ∷ read_by 1 1 0 7 ∷ []) (take_by 1 1 0 7) refl refl
          (kind_at 0) (λ (q : 2 ≡ 3). omega arith);
      -- party 2's take is given nothing in the tick that gives the entry back
      nothing_first_lem = λ d.
          by_said nothing_first d (write_by 1 0 9 E ∷ create_by 1 1 ∷ take_by 1 1 0 7 ∷ take_by 2 0 1 7 ∷ []) a_tick
          refl
          refl (kind_at 2) (λ (q : 2 ≡ 3). omega arith);
      -- the found stands before the commit of what it finds: the serial run fails
      shows_private_lem = λ d.
          true≢false (sym (by_serial shows_private d
          (take_by 2 0 9 7 ∷ create_by 1 9 ∷ write_by 1 1 9 E ∷ [])).succeeds);
      ignores_writes_lem = λ d.
          by_said ignores_writes d [] (write_by 1 0 9 E) refl refl length (λ (q : 1 ≡ 0). omega arith);
      writes_twice_lem = λ d. by_said writes_twice d [] (write_by 1 0 9 E) refl refl length
          (λ (q : 1 ≡ 2). omega arith);
      ticks_at_writes_lem = λ d.
          by_said ticks_at_writes d [] (write_by 1 0 9 E) refl refl length (λ (q : 1 ≡ 2). omega arith);
      -- the transaction's exception is missing
      never_expires_lem = λ d.
          by_said never_expires d (create_by 1 1 ∷ []) a_tick refl refl length (λ (q : 2 ≡ 1). omega arith);
      last_exception_first_lem = λ d.
          by_said last_exception_first d (create_by 1 1 ∷ create_by 2 1 ∷ []) a_tick refl refl (party_at 1)
          (λ (q : 1 ≡ 2). omega arith);
      last_served_first_lem = λ d.
          by_said last_served_first d (take_by 2 0 9 7 ∷ take_by 3 0 9 7 ∷ []) (write_by 1 0 9 E) refl refl (party_at 1)
          (λ (q : 2 ≡ 3). omega arith);
      -- E is given back in the tick of its end, and found
      serves_ended_lem = λ d.
          by_said serves_ended d (write_by 1 0 1 E ∷ create_by 1 1 ∷ take_by 1 1 0 7 ∷ take_by 2 0 9 7 ∷ []) a_tick refl
          refl length (λ (q : 2 ≡ 3). omega arith);
      -- of two entries the second is handed out
      newest_first_lem = λ d.
          by_said newest_first d (write_by 1 0 9 E ∷ write_by 1 0 9 E ∷ []) (read_by 2 0 0 7) refl refl (entry_at 0)
          (λ (q : 1 ≡ 2). omega arith);
      newest_in_service_lem = λ d.
          by_said newest_in_service d (take_by 2 0 9 7 ∷ create_by 1 9 ∷ write_by 1 1 9 E ∷ write_by 1 1 9 E ∷ [])
          (commit_by 1 1) refl refl (entry_at 1) (λ (q : 1 ≡ 2). omega arith);
      -- refused with 7 where its length is wrong
      takes_long_commits_lem = λ d.
          let q : ◌≡◌ {A = ℕ} 7 3 = by_judged takes_long_commits d [] (commit_by 1 1 ++ four_bytes 0) in omega arith;
      -- sixteen wait; a look-up of one of them is refused with 6
      gives_14 = λ d.
          let q : ◌≡◌ {A = ℕ} 14 6 = by_judged gives14 d (map (λ p. take_by p 0 9 7) parties) (take_by 1 0 9 7) in
          omega arith;
      -- the book has nobody waiting after the abort
      keeps_withdrawn_lem = λ d.
          let fs = create_by 1 9 ∷ take_by 1 1 9 7 ∷ abort_by 1 1 ∷ [] in
          let b =
          d.booked (log_of keeps_withdrawn empty fs) (last_of keeps_withdrawn empty fs) (from_empty keeps_withdrawn fs)
          in
          let q : ◌≡◌ {A = ℕ} 0 1 = ap length b.waiting in omega arith;
      withdrawn_gets_nothing_lem = λ d.
          by_said withdrawn_gets_nothing d (create_by 1 9 ∷ take_by 1 1 9 7 ∷ []) (abort_by 1 1) refl refl length
          (λ (q : 1 ≡ 2). omega arith);
      -- party 1 waits in transaction 1, and aborts transaction 2
      aborts_any_lem = λ d.
          let q : ◌≡◌ {A = ℕ} 0 6 =
          by_judged aborts_any d (create_by 1 9 ∷ create_by 1 9 ∷ take_by 1 1 9 7 ∷ []) (abort_by 1 2) in omega arith;
      -- the entry that party 2 asks for is taken by the transaction that wrote it: no point in waiting on
      waits_in_vain_lem = λ d.
          by_said waits_in_vain d (create_by 1 9 ∷ write_by 1 1 9 E ∷ read_if_exists_by 2 0 9 7 ∷ []) (take_by 1 1 0 7)
          refl
          refl length (λ (q : 2 ≡ 1). omega arith);
      -- it is committed: found, where it would be given up before service
      gives_up_first_lem = λ d.
          by_said gives_up_first d (create_by 1 9 ∷ write_by 1 1 9 E ∷ read_if_exists_by 2 0 9 7 ∷ []) (commit_by 1 1)
          refl
          refl (kind_at 1) (λ (q : 2 ≡ 3). omega arith);
      -- party 3 asked before party 2
      nothings_by_party_lem = λ d.
          by_said nothings_by_party d
          (create_by 1 9 ∷ write_by 1 1 9 E ∷ read_if_exists_by 3 0 9 7 ∷ read_if_exists_by 2 0 9 7 ∷ []) (abort_by 1 1)
          refl refl (party_at 1) (λ (q : 3 ≡ 2). omega arith);
      -- a mark without a kind is found by kind 0
      matches_blanks_lem = λ d.
          by_said matches_blanks d (write_blank 1 0 9 1 no_fields ∷ []) (read_by 2 0 0 0) refl refl (kind_at 0)
          (λ (q : 3 ≡ 2). omega arith);
      -- the plain set has it without a place, the space with place 0
      loses_blanks_lem = λ d.
          let fs = create_by 1 9 ∷ write_blank 1 1 9 8 (F 7 1 40 0) ∷ commit_by 1 1 ∷ [] in
          let k : Kept = record { number = 1; fields = mark_of 8 (F 7 1 40 0); end = Tick 9 } in
          let m = ((by_serial loses_blanks d fs).same k).0 (Memᴰ.head refl) in
          true≢false (none_mem (λ x. eqb x.fields.blanks 8) refl m);
      leaves_byte_3 = λ d.
          by_said leaves_byte3 d (write_blank 1 0 9 8 (F 7 1 40 0) ∷ []) (read_by 2 0 0 7) refl refl (blanks_at 0)
          (λ (q : 8 ≡ 0). omega arith);
      takes_filled_blanks_lem = λ d.
          let q : ◌≡◌ {A = ℕ} 0 4 = by_judged takes_filled_blanks d [] (write_blank 1 0 9 1 E) in omega arith;
      refuses_blanks_lem = λ d.
          let q : ◌≡◌ {A = ℕ} 4 0 = by_judged refuses_blanks d [] (write_blank 1 0 9 8 (F 7 1 40 0)) in omega arith;
      -- E, written with lease 9 at clock 0, and renewed by 5: it ends at 5, and not at 14
      renews_from_the_write_lem = λ d.
          let s = by_serial renews_from_the_write d (write_by 1 0 9 E ∷ renew_by 1 1 5 ∷ []) in
          let k : Kept = record { number = 1; fields = mark_of 0 E; end = Tick 5 } in
          true≢false (none_mem (λ x. reached 13 x.end) refl ((s.same k).0 (Memᴰ.head refl)));
      renews_held_lem = λ d.
          let q : ◌≡◌ {A = ℕ} 0 20 =
          by_judged renews_held d (write_by 1 0 9 E ∷ create_by 2 9 ∷ read_by 2 1 0 7 ∷ []) (renew_by 1 1 5) in omega
          arith;
      renews_anothers_lem = λ d.
          let q : ◌≡◌ {A = ℕ} 0 19 = by_judged renews_anothers d (write_by 1 0 9 E ∷ []) (renew_by 2 1 5) in omega
          arith;
      -- what is told ends now, and is stored
      leaves_lease_0 = λ d.
          let fs = write_by 1 0 9 E ∷ renew_by 1 1 0 ∷ [] in
          let s = d.told (log_of leaves_lease0 empty fs) (last_of leaves_lease0 empty fs) (from_empty leaves_lease0 fs)
          in
          Memᴰ.not-nil (s.stored_told _ (Memᴰ.head refl)).1;
      forgets_writer_lem = λ d.
          let fs = create_by 1 9 ∷ write_by 1 1 9 E ∷ commit_by 1 1 ∷ [] in
          let b =
          d.booked (log_of forgets_writer empty fs) (last_of forgets_writer empty fs) (from_empty forgets_writer fs) in
          let q : ◌≡◌ {A = ℕ} 0 1 = b.writers _ (Memᴰ.head refl) in omega arith;
      -- what transaction 1 had taken is available again: no entry is made public
      rings_put_backs_lem = λ d.
          by_said rings_put_backs d (write_by 1 0 9 E ∷ notify_by 2 9 7 ∷ create_by 1 9 ∷ take_by 1 1 0 7 ∷ [])
          (abort_by 1 1)
          refl refl length (λ (q : 1 ≡ 2). omega arith);
      rings_for_each_lem = λ d.
          by_said rings_for_each d (notify_by 2 9 7 ∷ create_by 1 9 ∷ write_by 1 1 9 E ∷ write_by 1 1 9 E ∷ [])
          (commit_by 1 1) refl refl length (λ (q : 2 ≡ 3). omega arith);
      rings_first_lem = λ d.
          by_said rings_first d (notify_by 2 9 7 ∷ take_by 3 0 9 7 ∷ []) (write_by 1 0 9 E) refl refl (kind_at 1)
          (λ (q : 2 ≡ 11). omega arith);
      -- the second bell says 2 in all
      starts_over_lem = λ d.
          by_said starts_over d (notify_by 2 9 7 ∷ write_by 1 0 9 E ∷ []) (write_by 1 0 9 E) refl refl (side_at 1)
          (λ (q : 2 ≡ 1). omega arith);
      -- nobody is registered any more
      rings_on_lem = λ d.
          let fs = notify_by 2 1 7 ∷ a_tick ∷ [] in
          let b = d.registered (log_of rings_on empty fs) (last_of rings_on empty fs) (from_empty rings_on fs) in
          let q : ◌≡◌ {A = ℕ} 1 0 = ap length b.live in omega arith;
      -- a mark at 12:20, looked for from 11:40 on
      stops_at_twelve_lem = λ d.
          by_said stops_at_twelve d (write_by 1 0 9 (F 7 1 40 20) ∷ []) (read_arc 2 0 0 700 40) refl refl (kind_at 0)
          (λ (q : 2 ≡ 3). omega arith);
      -- a mark without a place, and one off the face, looked for at 12:00
      arcs_match_blanks_lem = λ d.
          by_said arcs_match_blanks d (write_blank 1 0 9 8 (F 7 1 40 0) ∷ []) (read_arc 2 0 0 0 0) refl refl (kind_at 0)
          (λ (q : 3 ≡ 2). omega arith);
      arcs_go_round_lem = λ d.
          by_said arcs_go_round d (write_by 1 0 9 (F 7 1 40 720) ∷ []) (read_arc 2 0 0 0 0) refl refl (kind_at 0)
          (λ (q : 3 ≡ 2). omega arith);
      answers_none = λ d. (d.answers [] empty (empty, refl, begun empty) (hand_in a_tick)).2;
    }
