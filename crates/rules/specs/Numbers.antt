-- Every number that document 01 gives a meaning to, named once.
use Rattle.std.specs.Prelude.{ℕ}

-- "FOREVER is 4294967295"
abbrev pub forever : ℕ
forever = 4294967295

-- the last value of the clock, and the last end that is not FOREVER
abbrev pub last_clock : ℕ
last_clock = 4294967294

-- "At most 64 entries are stored", "At most 8 transactions live and 16 look-ups wait"; "Eight may live": registrations
-- (document 02, T-03)
abbrev pub max_entries : ℕ
max_entries = 64

abbrev pub max_txns : ℕ
max_txns = 8

abbrev pub max_waits : ℕ
max_waits = 16

abbrev pub max_registrations : ℕ
max_registrations = 8

-- "0 to 719": the places of a clock face (document 02, T-09)
abbrev pub places : ℕ
places = 720

-- "28 bytes", "A step writes at most 25 records (700 bytes)"
abbrev pub record_size : ℕ
record_size = 28

abbrev pub step_records : ℕ
step_records = 25

abbrev pub step_area : ℕ
step_area = 700

-- "tray under 4 or over 65,536 bytes, over 2,000 frames"
abbrev pub max_tray : ℕ
max_tray = 65536

abbrev pub max_frames : ℕ
max_frames = 2000

-- parties 1 to 16
abbrev pub max_party : ℕ
max_party = 16

-- Operations: byte 0 of a frame

abbrev pub op_write : ℕ
op_write = 1

abbrev pub op_read : ℕ
op_read = 2

abbrev pub op_take : ℕ
op_take = 3

abbrev pub op_read_if_exists : ℕ
op_read_if_exists = 4

abbrev pub op_take_if_exists : ℕ
op_take_if_exists = 5

abbrev pub op_create : ℕ
op_create = 6

abbrev pub op_commit : ℕ
op_commit = 7

abbrev pub op_abort : ℕ
op_abort = 8

abbrev pub op_tick : ℕ
op_tick = 9

abbrev pub op_notify : ℕ
op_notify = 10

abbrev pub op_renew : ℕ
op_renew = 11

-- Kinds: byte 0 of an answer record

abbrev pub kind_written : ℕ
kind_written = 1

abbrev pub kind_found : ℕ
kind_found = 2

abbrev pub kind_nothing : ℕ
kind_nothing = 3

abbrev pub kind_waiting : ℕ
kind_waiting = 4

abbrev pub kind_created : ℕ
kind_created = 5

abbrev pub kind_committed : ℕ
kind_committed = 6

abbrev pub kind_aborted : ℕ
kind_aborted = 7

abbrev pub kind_exception : ℕ
kind_exception = 8

abbrev pub kind_ticked : ℕ
kind_ticked = 9

abbrev pub kind_notified : ℕ
kind_notified = 10

abbrev pub kind_rung : ℕ
kind_rung = 11

abbrev pub kind_renewed : ℕ
kind_renewed = 12

abbrev pub kind_refused : ℕ
kind_refused = 15

-- Refusals of a frame

-- answers area under 700 bytes
abbrev pub area_refused : ℕ
area_refused = 1

-- empty frame, or operation not 1-11
abbrev pub operation_refused : ℕ
operation_refused = 2

-- length not the operation's
abbrev pub length_refused : ℕ
length_refused = 3

-- byte 3, mask, template, or create or notify naming a transaction
abbrev pub form_refused : ℕ
form_refused = 4

-- party not 1-16, or not 0 for tick
abbrev pub party_refused : ℕ
party_refused = 5

-- the party has a waiting look-up
abbrev pub waiting_refused : ℕ
waiting_refused = 6

-- the transaction is not live
abbrev pub not_live_refused : ℕ
not_live_refused = 7

-- it is another party's
abbrev pub not_own_refused : ℕ
not_own_refused = 8

-- create or notify with lease 0
abbrev pub lease_refused : ℕ
lease_refused = 9

-- an end above the last clock, or tick at it
abbrev pub clock_refused : ℕ
clock_refused = 10

-- 64 entries stored
abbrev pub entries_refused : ℕ
entries_refused = 11

-- 8 transactions live
abbrev pub txns_refused : ℕ
txns_refused = 12

-- no next number
abbrev pub number_refused : ℕ
number_refused = 13

-- 8 registrations live (document 02, T-03)
abbrev pub registrations_refused : ℕ
registrations_refused = 17

-- of a renewal (document 02, T-05): no stored entry has that number
abbrev pub no_entry_refused : ℕ
no_entry_refused = 18

-- another party wrote it
abbrev pub not_writer_refused : ℕ
not_writer_refused = 19

-- it is private or held
abbrev pub held_refused : ℕ
held_refused = 20

-- a start, a length, a position to convert or mirror exceeds 719, or an hour or minute is out of range (document 02,
-- T-09)
abbrev pub place_refused : ℕ
place_refused = 21

-- Refusals of a tray. (14 is never given out: document 02, T-04.)

-- its size, its count of frames, or too short for its pairs
abbrev pub tray_refused : ℕ
tray_refused = 15

-- a pair out of order or past the tray
abbrev pub pairs_refused : ℕ
pairs_refused = 16

-- Refusals of what is no frame and no tray

-- more than 6 transactions, more than 8 actions, or a number written twice is handed in (document 02, T-12)
abbrev pub order_refused : ℕ
order_refused = 22

-- of a trial (document 02, T-13): panes are not 1-4, or starting entries exceed 8
abbrev pub panes_refused : ℕ
panes_refused = 23

-- rounds exceed 1,000
abbrev pub rounds_refused : ℕ
rounds_refused = 24

-- more than 64 trays are handed in (document 02, T-14)
abbrev pub sittings_refused : ℕ
sittings_refused = 25
