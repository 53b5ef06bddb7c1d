-- All rules at once: whoever unfolds `all_rules` has the rules computed.
use Rattle.rules.specs.Time.{until, reached}
use Rattle.rules.specs.Places.{in_arc}
use Rattle.rules.specs.Template.{bit, asked_equal, matches}
use Rattle.rules.specs.Holds.{live_txn, add_reader, drop_reader, read_by_other, visible, available, conflicts}
use Rattle.rules.specs.Frame.{number_at, decode, layout_of, frame_length, serves}
use Rattle.rules.specs.Records.{written, found, nothing, waiting, created, committed, aborted, exception, ticked}
use Rattle.rules.specs.Records.{renewed, notified, rung, refused}
use Rattle.rules.specs.LookUp.{look_up_of, removes, with_hold, marked, hand_out, gives_nothing, answer_found}
use Rattle.rules.specs.LookUp.{answer_nothing, answer_waiting, answer, look_up}
use Rattle.rules.specs.Transactions.{free_slot, create, released, without_txn, commit, abort}
use Rattle.rules.specs.Renew.{stored_entry, renew_entries, renew}
use Rattle.rules.specs.Service.{serve, service}
use Rattle.rules.specs.Notify.{new_registration, notify, made_public, matching, hearing, heard_of, ringing}
use Rattle.rules.specs.Tick.{ended_txns, abort_all, drop_ended, lapsed, unregistered, tick}
use Rattle.rules.specs.Closing.{is_over, close_waits}
use Rattle.rules.specs.Refusals.{no_operation, wrong_length, malformed, wrong_party, wrong_arc, party_waits, not_live}
use Rattle.rules.specs.Refusals.{not_own, no_lease, no_entry, not_writer, not_free, too_late, entries_full, txns_full}
use Rattle.rules.specs.Refusals.{registrations_full, no_number, refusal}
use Rattle.rules.specs.Write.{new_entry, stored, write}
use Rattle.rules.specs.Step.{own_part, finish, write_frame, commit_frame, abort_frame, carried_out, refused_with}
use Rattle.rules.specs.Step.{accepted, step}
use Rattle.rules.specs.Tray.{pairs_of, pairs, bad_tray, bad_pairs, tray_refusal, frame_at, run_frames, run_pairs}
use Rattle.rules.specs.Tray.{run_tray, host_number}

unfoldable pub all_rules : Unit {0}
unfolding until reached bit asked_equal in_arc matches live_txn add_reader drop_reader read_by_other visible available
    conflicts number_at decode layout_of frame_length serves written found nothing waiting created committed aborted
    exception ticked refused look_up_of removes with_hold marked hand_out gives_nothing answer_found answer_nothing
    answer_waiting answer look_up free_slot create released without_txn commit abort serve service ended_txns abort_all
    drop_ended lapsed is_over close_waits tick no_operation wrong_length malformed wrong_party wrong_arc party_waits
    not_live
    not_own no_lease too_late entries_full txns_full no_number refusal new_entry stored write own_part finish
    commit_frame
    abort_frame carried_out refused_with accepted step renewed stored_entry renew_entries renew no_entry not_writer
    not_free
    notified rung new_registration notify made_public matching hearing heard_of ringing unregistered registrations_full
    write_frame
all_rules = tt

-- and the trays'
unfoldable pub all-trays : Unit {0}
unfolding all_rules pairs_of pairs bad_tray bad_pairs tray_refusal frame_at run_frames run_pairs run_tray host_number
all-trays = tt
