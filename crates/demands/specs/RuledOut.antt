-- What the demands rule out: a small wrong space for each of document 01's Contracts c, for each mistake that students
-- make, for silence, order and time, for the newest mark first, for frames of another length, for number 14, for
-- aborts out of a wait, for waits in vain, for blanks, for renewals, for bells and for arcs; and the statement that the
-- demand named for it fails.
-- (`Determined` says that no wrong space is left.)
use Rattle.std.specs.Prelude.{ℕ, suc, ◌+◌, ◌%◌, Bool, true, not, cond, ◌&&◌, ◌||◌, ◌≡◌, eqb, leb, length, take}
use mathlib.Core.List.{List, [], ◌∷◌, ◌++◌, map, foldr, reverse}
use Rattle.rules.specs.declared.Entry.{Entry}
use Rattle.rules.specs.declared.LookUp.{LookUp}
use Rattle.rules.specs.declared.Record.{Record}
use Rattle.rules.specs.declared.Registration.{Registration}
use Rattle.rules.specs.declared.until.Until.{Until}
use Rattle.rules.specs.declared.until.Until.TheVariants.{Tick, Forever}
use Rattle.rules.specs.Numbers.{not_writer_refused, held_refused, max_waits, op_create, op_commit, operation_refused}
use Rattle.rules.specs.Numbers.{form_refused, waiting_refused, places}
use Rattle.rules.specs.Lists.{filterb, findb, joined}
use Rattle.rules.specs.Time.{until, reached}
use Rattle.rules.specs.State.{Model, with_entries, with_waits, with_clock, with_next_entry, with_registrations}
use Rattle.rules.specs.Places.{start_of}
use Rattle.rules.specs.Template.{asks_arc, matches, four_fields, mark_of, bare}
use Rattle.rules.specs.Holds.{visible, available, oldest}
use Rattle.rules.specs.Frame.{Frame, byte_at, decode, frame_length, is_write, is_look_up, is_commit, is_abort, is_tick}
use Rattle.rules.specs.Frame.{is_renew}
use Rattle.rules.specs.Frame.{entry_named, serves}
use Rattle.rules.specs.Records.{written, found, nothing, committed, aborted, exception, ticked, renewed}
use Rattle.rules.specs.Renew.{has_number, ending_at, renewed_to}
use Rattle.rules.specs.Notify.{made_public, with_total, ringing}
use Rattle.rules.specs.Done.{Carried, Done, after, ending_with, quiet}
use Rattle.rules.specs.LookUp.{look_up_of, hand_out, answer, answer_nothing, answer_waiting}
use Rattle.rules.specs.Transactions.{abort, is_taken_by}
use Rattle.rules.specs.Service.{serve, service}
use Rattle.rules.specs.Tick.{ended_txns, abort_all, drop_ended}
use Rattle.rules.specs.Closing.{is_over, close_waits}
use Rattle.rules.specs.Refusals.{bad_blanks, refusal}
use Rattle.rules.specs.Write.{new_entry, stored}
use Rattle.rules.specs.Step.{own_part, finish, carried_out, accepted, refused_with, step}
use Rattle.rules.specs.Allowed.{Answered}
use Rattle.demands.specs.Machine.{Machine, Stepper, StepsBy, space_of, the_rules}
use Rattle.demands.specs.Demands.{Demand1, Demand2, Demand3}

-- a space that judges as the rules do, and carries some frames out in another way
abbrev pub carrying : (Frame → Bool) → (Model → Frame → Done) → Stepper
carrying some wrongly m bs area =
    let f = decode bs in
    let n = refusal m bs area in
    cond (eqb n 0) (accepted (cond (some f) (wrongly m f) (carried_out m f))) (refused_with m bs n)

abbrev pub look_ups : Frame → Bool
look_ups f = is_look_up f.op

-- a frame's own part, and who waits in vain from then on
abbrev pub alone : Carried → Done
alone c = after c.own (close_waits c.model)

-- one step's part, and then another
abbrev pub then : (Model → Done) → (Model → Done) → Model → Done
then first second m =
    let a = first m in
    let b = second a.model in
    record { model = b.model; records = a.records ++ b.records }

-- service, and then the nothings
abbrev pub ending : Model → Done
ending = then service close_waits

-- Contracts c, in its order

-- says nothing, or waiting, while an entry is available
unfoldable pub says_nothing : Stepper
says_nothing = carrying look_ups (λ m f. alone (answer_nothing m (look_up_of m f)))

unfoldable pub says_waiting : Stepper
says_waiting = carrying look_ups (λ m f. alone (answer_waiting m (look_up_of m f)))

-- refuses every frame
unfoldable pub refuses_all : Stepper
refuses_all m bs area = refused_with m bs operation_refused

-- prints the same record always
unfoldable pub same_record : Stepper
same_record m bs area = record { model = (step m bs area).model; records = ticked ∷ []; number = 0 }

-- stores nothing: a write is answered, and its number used up, and no more
unfoldable pub stores_nothing : Stepper
stores_nothing =
    carrying (λ f. is_write f.op)
    (λ m f. alone (record { model = with_next_entry (m.next_entry + 1) m; own = written f m.next_entry }))

-- works on the first frame only: once a number has been given out, every frame is refused
unfoldable pub first_frame_only : Stepper
first_frame_only m bs area =
    cond (eqb m.next_entry 1 && eqb m.next_txn 1) (step m bs area) (refused_with m bs operation_refused)

-- returns an invented record count: one more than the records written
abbrev pub one_more : Answered → Answered
one_more a = record { records = a.records; count = suc a.count; number = a.number; area = a.area }

abbrev pub invented_count : Machine
invented_count =
    record {
      State = Model;
      view = λ m. m;
      Empty = the_rules.Empty;
      Steps = λ m h n a. (b : Answered) × StepsBy step m h n b × (a ≡ one_more b);
    }

-- honours a commit and loses it: the record says committed, the private entries go
unfoldable pub loses_commit : Stepper
loses_commit = carrying (λ f. is_commit f.op) (λ m f. after (committed f) (ending (abort f.txn m)))

-- Mistakes that students make

-- a tick whose last three parts are others than the rules'
abbrev pub tick_with : (Model → Model) → (Model → Done) → Model → Done
tick_with drops closes m =
    let later = with_clock (m.clock + 1) m in
    let ended = ended_txns later in
    let last = closes (drops (abort_all ended later)) in
    record { model = last.model; records = ticked ∷ map exception ended ++ last.records }

-- puts an entry back on abort after its lease ended: what is take-held is not dropped when its lease ends
abbrev pub drop_free : Model → Model
drop_free m = with_entries (filterb (λ e. not (reached m.clock e.end) || not (is_taken_by 0 e)) m.entries) m

unfoldable pub puts_back_late : Stepper
puts_back_late =
    carrying (λ f. is_tick f.op) (λ m f. tick_with drop_free ending m)

-- lets a transaction's own read bar its own take
abbrev pub unread_by_any : LookUp → Entry → Bool
unread_by_any w e =
    matches w.mask w.fields e.fields && visible w.txn.0 e && not (w.takes && not (eqb e.readers 0))

unfoldable pub own_read_bars : Stepper
own_read_bars =
    carrying look_ups
    (λ m f. let w = look_up_of m f in
    alone (answer m w f.lease_or_timeout (findb (unread_by_any w) m.entries)))

-- gives nothing before service in the tick of the deadline
unfoldable pub nothing_first : Stepper
nothing_first = carrying (λ f. is_tick f.op) (λ m f. tick_with drop_ended (then close_waits service) m)

-- shows another's private entry to a waiting look-up: the first that waits is handed what is written inside a
-- transaction
abbrev pub shown : Entry → Model → List LookUp → Done
shown e m [] = quiet m
shown e m (w ∷ ws) =
    record { model = with_waits ws (with_entries (hand_out m.txns w e m.entries) m); records = found w e ∷ [] }

unfoldable pub shows_private : Stepper
shows_private =
    carrying (λ f. is_write f.op && not (eqb f.txn 0))
    (λ m f. after (written f m.next_entry)
    (then (λ n. shown (new_entry m f) n n.waits) close_waits (stored m f)))

-- Silence, order and time

-- ignores writes: number 0, no record, nothing stored
unfoldable pub ignores_writes : Stepper
ignores_writes = carrying (λ f. is_write f.op) (λ m f. quiet m)

-- stores each entry twice, with two records
unfoldable pub writes_twice : Stepper
writes_twice =
    carrying (λ f. is_write f.op)
    (λ m f. after (written f m.next_entry) (carried_out (stored m f) f))

-- ticks at each write, with all that a tick does
unfoldable pub ticks_at_writes : Stepper
ticks_at_writes =
    carrying (λ f. is_write f.op)
    (λ m f. then (λ n. carried_out n f) (tick_with drop_ended ending) m)

-- lets no transaction expire
unfoldable pub never_expires : Stepper
never_expires =
    carrying (λ f. is_tick f.op)
    (λ m f. after ticked (ending (drop_ended (with_clock (m.clock + 1) m))))

-- gives the exceptions of a tick in another order than by number
unfoldable pub last_exception_first : Stepper
last_exception_first =
    carrying (λ f. is_tick f.op)
    (λ m f. let later = with_clock (m.clock + 1) m in
    let ended = reverse (ended_txns later) in
    let last = ending (drop_ended (abort_all ended later)) in
    record { model = last.model; records = ticked ∷ map exception ended ++ last.records })

-- serves the last that arrived first
abbrev pub last_served : Model → Done
last_served m =
    let r = serve m.txns m.entries (reverse m.waits) in
    record { model = with_entries r.entries (with_waits (reverse r.waits) m); records = r.records }

unfoldable pub last_served_first : Stepper
last_served_first =
    carrying (λ f. is_write f.op)
    (λ m f. after (written f m.next_entry) (then last_served close_waits (stored m f)))

-- serves before it removes the entries that end now
unfoldable pub serves_ended : Stepper
serves_ended =
    carrying (λ f. is_tick f.op)
    (λ m f. tick_with (λ n. n) (then service (then (λ n. quiet (drop_ended n)) close_waits)) m)

-- "Oldest mark first"

-- hands out the newest available entry at once
unfoldable pub newest_first : Stepper
newest_first =
    carrying look_ups
    (λ m f. let w = look_up_of m f in
    alone (answer m w f.lease_or_timeout (oldest m.txns w (reverse m.entries))))

-- hands out the newest in service, the oldest at once
abbrev pub newest_served : Model → Done
newest_served m =
    let r = serve m.txns (reverse m.entries) m.waits in
    record { model = with_entries (reverse r.entries) (with_waits r.waits m); records = r.records }

unfoldable pub newest_in_service : Stepper
newest_in_service =
    carrying serves
    (λ m f. let c = own_part m f in
    let last = then newest_served close_waits in
    cond (is_tick f.op) (tick_with drop_ended last m) (after c.own (last c.model)))

-- "Every frame is judged as before" (document 02, T-06)

-- takes a commit that is as long as a create, by its front
unfoldable pub takes_long_commits : Stepper
takes_long_commits m bs area =
    cond (is_commit (byte_at bs 0) && eqb (length bs) (frame_length op_create))
    (step m (take (frame_length op_commit) bs) area) (step m bs area)

-- "14 is never given out again" (document 02, T-04)

-- still gives 14, where 16 wait and one of them asks again
unfoldable pub gives14 : Stepper
gives14 m bs area =
    let o = step m bs area in
    cond (eqb o.number waiting_refused && leb max_waits (length m.waits)) (refused_with m bs 14) o

-- "Abort out of a wait" (document 02, T-01)

-- a withdrawn look-up waits on, to be served later
unfoldable pub keeps_withdrawn : Stepper
keeps_withdrawn =
    carrying (λ f. is_abort f.op)
    (λ m f. after (aborted f) (ending (with_waits m.waits (abort f.txn m))))

-- it gets nothing besides the abort's own record
unfoldable pub withdrawn_gets_nothing : Stepper
withdrawn_gets_nothing =
    carrying (λ f. is_abort f.op)
    (λ m f. let gone = filterb (λ w. eqb w.txn.0 f.txn) m.waits in
    let served = ending (abort f.txn m) in
    after (aborted f) (record { model = served.model; records = served.records ++ map nothing gone }))

-- an abort is let through for another transaction than the one waited in
unfoldable pub aborts_any : Stepper
aborts_any m bs area =
    let f = decode bs in
    cond (is_abort f.op && eqb (refusal m bs area) waiting_refused) (accepted (carried_out m f)) (step m bs area)

-- "No point in waiting on" (document 02, T-07)

-- a step whose nothings are others than the rules'
abbrev pub closing_by : (Model → Done) → Stepper
closing_by closes =
    carrying (λ f. true)
    (λ m f. let c = own_part m f in
    let last = cond (serves f) (then service closes) closes in
    cond (is_tick f.op) (tick_with drop_ended last m) (after c.own (last c.model)))

-- the old rule: waits on to its deadline
unfoldable pub waits_in_vain : Stepper
waits_in_vain =
    closing_by
    (λ m. record {
      model = with_waits (filterb (λ w. not (reached m.clock w.deadline)) m.waits) m;
      records = map nothing (filterb (λ w. reached m.clock w.deadline) m.waits);
    })

-- gives up a look-up before service has looked for it
unfoldable pub gives_up_first : Stepper
gives_up_first =
    carrying (λ f. serves f && not (is_tick f.op))
    (λ m f. let c = own_part m f in after c.own (then close_waits service c.model))

-- gives the nothings by party, not in order of arrival
unfoldable pub by_party : LookUp → List LookUp → List LookUp
by_party w [] = w ∷ []
by_party w (v ∷ vs) = cond (leb w.party v.party) (w ∷ v ∷ vs) (v ∷ by_party w vs)

unfoldable pub nothings_by_party : Stepper
nothings_by_party =
    closing_by
    (λ m. record {
      model = (close_waits m).model;
      records = map nothing (foldr by_party [] (filterb (is_over m) m.waits));
    })

-- "Marks without a place" (document 02, T-08)

-- an entry, and a record, as if no field were blank
abbrev pub unblanked : Entry → Entry
unblanked e =
    record {
      id = e.id;
      fields = mark_of 0 (bare e.fields);
      end = e.end;
      private_to = e.private_to;
      taken_by = e.taken_by;
      readers = e.readers;
      writer = e.writer;
    }

abbrev pub byte_threeless : Record → Record
byte_threeless r =
    record {
      kind = r.kind;
      party = r.party;
      refusal = r.refusal;
      txn = r.txn;
      entry = r.entry;
      fields = mark_of 0 (bare r.fields);
    }

-- a blank is matched as 0
unfoldable pub matches_blanks : Stepper
matches_blanks =
    carrying look_ups
    (λ m f. let w = look_up_of m f in
    alone (answer m w f.lease_or_timeout (findb (λ e. available m.txns w (unblanked e)) m.entries)))

-- what was private to a transaction has no blanks any more when it is committed
unfoldable pub loses_blanks : Stepper
loses_blanks =
    carrying (λ f. is_commit f.op)
    (λ m f. let committing : Entry → Entry = λ e. cond (eqb e.private_to.0 f.txn) (unblanked e) e in
    carried_out (with_entries (map committing m.entries) m) f)

-- leaves byte 3 of a found 0
unfoldable pub leaves_byte3 : Stepper
leaves_byte3 m bs area =
    let o = step m bs area in record { model = o.model; records = map byte_threeless o.records; number = o.number }

-- takes a write whose blank field is not 0
unfoldable pub takes_filled_blanks : Stepper
takes_filled_blanks m bs area =
    let f = decode bs in
    cond (is_write f.op && bad_blanks f.mask f.fields && eqb (refusal m bs area) form_refused)
    (accepted (carried_out m f)) (step m bs area)

-- still refuses every mask of a write but 0
unfoldable pub refuses_blanks : Stepper
refuses_blanks m bs area =
    let f = decode bs in
    cond (is_write f.op && not (eqb f.mask 0) && eqb (refusal m bs area) 0) (refused_with m bs form_refused)
    (step m bs area)

-- "Renewing a mark" (document 02, T-05)

abbrev pub renewals : Frame → Bool
renewals f = is_renew f.op

-- counts from the write: the lease is added to the end that the entry has
abbrev pub longer : ℕ → Until → Until
longer lease (Tick n) = until n lease
longer lease Forever = Forever

unfoldable pub renews_from_the_write : Stepper
renews_from_the_write =
    carrying renewals
    (λ m f. let on : Entry → Entry = λ e.
    cond (has_number (entry_named f) e) (ending_at (longer f.lease_or_timeout e.end) e) e in
    alone (record { model = with_entries (map on m.entries) m; own = renewed f }))

-- renews though a row of the table bars it
abbrev pub letting : ℕ → Stepper
letting n m bs area =
    let f = decode bs in
    cond (renewals f && eqb (refusal m bs area) n) (accepted (carried_out m f)) (step m bs area)

-- a held entry, or another party's
unfoldable pub renews_held : Stepper
renews_held m bs area = letting held_refused m bs area

unfoldable pub renews_anothers : Stepper
renews_anothers m bs area = letting not_writer_refused m bs area

-- leaves an entry with lease 0 to the next tick
unfoldable pub leaves_lease0 : Stepper
leaves_lease0 =
    carrying renewals
    (λ m f. let end = until m.clock f.lease_or_timeout in
    alone (record { model = with_entries (renewed_to (entry_named f) end m.entries) m; own = renewed f }))

-- forgets at a commit who wrote what
unfoldable pub forgets_writer : Stepper
forgets_writer =
    carrying (λ f. is_commit f.op)
    (λ m f. let by : Entry → Entry = λ e.
    record {
      id = e.id;
      fields = e.fields;
      end = e.end;
      private_to = e.private_to;
      taken_by = e.taken_by;
      readers = e.readers;
      writer = 0;
    } in
    carried_out (with_entries (map by m.entries) m) f)

-- "Bell for new images" (document 02, T-03)

-- rings for a put-back: for what an aborted transaction had taken
unfoldable pub rings_put_backs : Stepper
rings_put_backs =
    carrying (λ f. is_abort f.op)
    (λ m f. ending_with (ringing (filterb (is_taken_by f.txn) m.entries) m.registrations) (carried_out m f))

-- a write or commit that rings in another way
abbrev pub ringing_with : (List Entry → List Registration → Done → List Record) → Stepper
ringing_with rings =
    carrying (λ f. is_write f.op || is_commit f.op)
    (λ m f. let c = own_part m f in
    let d = finish f c.model in
    record { model = d.model; records = c.own ∷ rings (made_public m f) m.registrations d })

-- one record for each entry instead of one for each registration
unfoldable pub rings_for_each : Stepper
rings_for_each = ringing_with (λ es gs d. d.records ++ joined (map (λ e. ringing (e ∷ []) gs) es))

-- ahead of the founds
unfoldable pub rings_first : Stepper
rings_first = ringing_with (λ es gs d. ringing es gs ++ d.records)

-- the total starts at 0 again in each step
unfoldable pub starts_over : Stepper
starts_over = ringing_with (λ es gs d. d.records ++ ringing es (map (with_total 0) gs))

-- a registration outlives its lease
unfoldable pub rings_on : Stepper
rings_on =
    carrying (λ f. is_tick f.op)
    (λ m f. let d = carried_out m f in
    record { model = with_registrations m.registrations d.model; records = d.records })

-- answers no frame at all
abbrev pub mute : Machine
mute = record { State = Model; view = λ m. m; Empty = the_rules.Empty; Steps = λ m h n a. ⊥ }

-- "Positions on the clock face" (document 02, T-09)

-- a look-up finds the first entry that passes a test
abbrev finding : (Model → LookUp → Entry → Bool) → Stepper
finding passes =
    carrying look_ups
    (λ m f. let w = look_up_of m f in alone (answer m w f.lease_or_timeout (findb (passes m w) m.entries)))

-- an arc does not cross 12:00
unfoldable pub stops_at_twelve : Stepper
stops_at_twelve =
    finding (λ m w e. available m.txns w e && leb (start_of w.fields.place) e.fields.place)

-- it matches a blank
unfoldable pub arcs_match_blanks : Stepper
arcs_match_blanks = finding (λ m w e. available m.txns w (cond (asks_arc w.mask) (unblanked e) e))

-- it matches a place of 720 and more, by its remainder
abbrev pub turned : Entry → Entry
turned e =
    record {
      id = e.id;
      fields = mark_of e.fields.blanks
          (four_fields e.fields.kind e.fields.side e.fields.image (e.fields.place % places));
      end = e.end;
      private_to = e.private_to;
      taken_by = e.taken_by;
      readers = e.readers;
      writer = e.writer;
    }

unfoldable pub arcs_go_round : Stepper
arcs_go_round = finding (λ m w e. available m.txns w (cond (asks_arc w.mask) (turned e) e))

-- Each of them fails the demand named for it.
pub record RuledOut : Type 0 where
  pub says_nothing_lem : Demand2 (space_of says_nothing) → ⊥
  pub says_waiting_lem : Demand2 (space_of says_waiting) → ⊥
  pub refuses_all_lem : Demand2 (space_of refuses_all) → ⊥
  pub same_record_lem : Demand2 (space_of same_record) → ⊥
  pub stores_nothing_lem : Demand2 (space_of stores_nothing) → ⊥
  pub first_frame_only_lem : Demand2 (space_of first_frame_only) → ⊥
  pub invented_count_lem : Demand2 invented_count → ⊥
  pub loses_commit_lem : Demand3 (space_of loses_commit) → ⊥
  pub puts_back_late_lem : Demand3 (space_of puts_back_late) → ⊥
  pub own_read_bars_lem : Demand2 (space_of own_read_bars) → ⊥
  pub nothing_first_lem : Demand2 (space_of nothing_first) → ⊥
  pub shows_private_lem : Demand3 (space_of shows_private) → ⊥
  pub ignores_writes_lem : Demand2 (space_of ignores_writes) → ⊥
  pub writes_twice_lem : Demand2 (space_of writes_twice) → ⊥
  pub ticks_at_writes_lem : Demand2 (space_of ticks_at_writes) → ⊥
  pub never_expires_lem : Demand2 (space_of never_expires) → ⊥
  pub last_exception_first_lem : Demand2 (space_of last_exception_first) → ⊥
  pub last_served_first_lem : Demand2 (space_of last_served_first) → ⊥
  pub serves_ended_lem : Demand2 (space_of serves_ended) → ⊥
  pub newest_first_lem : Demand2 (space_of newest_first) → ⊥
  pub newest_in_service_lem : Demand2 (space_of newest_in_service) → ⊥
  pub takes_long_commits_lem : Demand1 (space_of takes_long_commits) → ⊥
  pub gives_14 : Demand1 (space_of gives14) → ⊥
  pub keeps_withdrawn_lem : Demand2 (space_of keeps_withdrawn) → ⊥
  pub withdrawn_gets_nothing_lem : Demand2 (space_of withdrawn_gets_nothing) → ⊥
  pub aborts_any_lem : Demand1 (space_of aborts_any) → ⊥
  pub waits_in_vain_lem : Demand2 (space_of waits_in_vain) → ⊥
  pub gives_up_first_lem : Demand2 (space_of gives_up_first) → ⊥
  pub nothings_by_party_lem : Demand2 (space_of nothings_by_party) → ⊥
  pub matches_blanks_lem : Demand2 (space_of matches_blanks) → ⊥
  pub loses_blanks_lem : Demand3 (space_of loses_blanks) → ⊥
  pub leaves_byte_3 : Demand2 (space_of leaves_byte3) → ⊥
  pub takes_filled_blanks_lem : Demand1 (space_of takes_filled_blanks) → ⊥
  pub refuses_blanks_lem : Demand1 (space_of refuses_blanks) → ⊥
  pub renews_from_the_write_lem : Demand3 (space_of renews_from_the_write) → ⊥
  pub renews_held_lem : Demand1 (space_of renews_held) → ⊥
  pub renews_anothers_lem : Demand1 (space_of renews_anothers) → ⊥
  pub leaves_lease_0 : Demand2 (space_of leaves_lease0) → ⊥
  pub forgets_writer_lem : Demand2 (space_of forgets_writer) → ⊥
  pub rings_put_backs_lem : Demand2 (space_of rings_put_backs) → ⊥
  pub rings_for_each_lem : Demand2 (space_of rings_for_each) → ⊥
  pub rings_first_lem : Demand2 (space_of rings_first) → ⊥
  pub starts_over_lem : Demand2 (space_of starts_over) → ⊥
  pub rings_on_lem : Demand2 (space_of rings_on) → ⊥
  pub stops_at_twelve_lem : Demand2 (space_of stops_at_twelve) → ⊥
  pub arcs_match_blanks_lem : Demand2 (space_of arcs_match_blanks) → ⊥
  pub arcs_go_round_lem : Demand2 (space_of arcs_go_round) → ⊥
  pub answers_none : Demand1 mute → ⊥
