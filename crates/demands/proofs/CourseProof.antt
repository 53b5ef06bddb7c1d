-- The course's examples: the starred ones, the others, a frame for each refusal, the students' mistakes, and the oldest
-- mark first.
use Prim.Native.Nat.{ℕ, ◌+◌, ◌*◌}
use mathlib.Core.Path.{◌≡◌, refl}
use mathlib.Core.Bool.{true, false}
use mathlib.Core.List.{List, [], ◌∷◌, ◌++◌, map}
use lib.ListN.{take, drop}
use Rattle.rules.specs.declared.LookUp.{LookUp}
use Rattle.rules.specs.declared.Record.{Record}
use Rattle.rules.specs.declared.until.Until.TheVariants.{Forever}
use Rattle.rules.specs.Numbers.{op_read, op_notify, forever}
use Rattle.rules.specs.State.{Model, empty, with_waits, with_clock, with_next_entry, with_next_txn}
use Rattle.rules.specs.State.{with_next_registration}
use Rattle.rules.specs.Frame.{byte_at, four_bytes}
use Rattle.rules.specs.Records.{no_fields, record_bytes}
use Rattle.rules.specs.Step.{step}
use Rattle.rules.specs.Tray.{run_tray, host_number}
use Rattle.rules.specs.Print.{digits, line, record_line, done_line, printed}
use Rattle.demands.specs.Frames.{write_blank, FoundBlank, renew_by, Renewed, notify_by, Notified, Rung, F, E}
use Rattle.demands.specs.Frames.{long, write_by, read_by, read_arc, take_by, create_by, commit_by, abort_by}
use Rattle.demands.specs.Frames.{a_tick, times}
use Rattle.demands.specs.Frames.{Written, Found, Nothing, Created, Committed, Aborted, Exception, Ticked, Refused}
use Rattle.demands.specs.Course.{answers_from, answers, Starred}
use Rattle.rules.proofs.Computed.{all_rules, all-trays}

pub starred : Starred
unfolding all_rules answers answers_from
starred =
    record { c1 = refl; c2 = refl; c3 = refl; c4 = refl; c5 = refl; c6 = refl; c7 = refl; c8 = refl }

-- the answers to the frames behind the first n
abbrev later : ℕ → List (List ℕ) → List (List Record)
later n fs = drop n (answers fs)

-- 64 stored: write gives 11, with lease 0 it is written; after one take outside transactions, written
c9 : later 64 (times 64 (write_by 1 0 9 E)
    ++ (write_by 1 0 9 E ∷ write_by 1 0 0 E ∷ take_by 1 0 0 7 ∷ write_by 1 0 9 E ∷ []))
    ≡ (Refused 1 11 ∷ []) ∷ (Written 1 0 65 ∷ []) ∷ (Found 1 0 1 E ∷ []) ∷ (Written 1 0 66 ∷ []) ∷ []
unfolding all_rules answers answers_from
c9 = refl

-- 27-byte write: 3; 28: taken up
c10 : answers (take 27 (write_by 1 0 9 E) ∷ write_by 1 0 9 E ∷ []) ≡ (Refused 1 3 ∷ []) ∷ (Written 1 0 1 ∷ [])
    ∷ []
unfolding all_rules answers answers_from
c10 = refl

-- second commit: 7. Another's commit: 8
c11_12 : answers (create_by 1 9 ∷ commit_by 2 1 ∷ commit_by 1 1 ∷ commit_by 1 1 ∷ [])
    ≡ (Created 1 1 ∷ []) ∷ (Refused 2 8 ∷ []) ∷ (Committed 1 1 ∷ []) ∷ (Refused 1 7 ∷ []) ∷ []
unfolding all_rules answers answers_from
c11_12 = refl

-- lease 4294967294 at clock 0 is taken up, at clock 1 gives 10
c13 : answers (write_by 1 0 4294967294 E ∷ a_tick ∷ write_by 1 0 4294967294 E ∷ write_by 1 0 forever E ∷ [])
    ≡ (Written 1 0 1 ∷ []) ∷ (Ticked ∷ []) ∷ (Refused 1 10 ∷ []) ∷ (Written 1 0 2 ∷ []) ∷ []
unfolding all_rules answers answers_from
c13 = refl

-- the sample tray
sample : List ℕ
sample =
    four_bytes 3
    ++ four_bytes 28 ++ four_bytes 28 ++ four_bytes 56 ++ four_bytes 28 ++ four_bytes 84 ++ four_bytes 4
    ++ write_by 1 0 5 E ++ take_by 2 0 0 7 ++ a_tick

-- the host's number and the records of a tray, with an answers area of a length
unfoldable pub tray_answers : List ℕ → ℕ → ℕ × List Record
tray_answers tray area = let o = run_tray tray area in (host_number o, o.records)

sample_run : tray_answers sample 65536 ≡ (3 + 65536 * 3, Written 1 0 1 ∷ Found 2 0 1 E ∷ Ticked ∷ [])
unfolding all-trays sample tray_answers
sample_run = refl

-- it stops with 1 before a frame for which under 700 bytes are left
sample_short : tray_answers sample 755 ≡ (2 + 65536 * 2 + 4294967296, Written 1 0 1 ∷ Found 2 0 1 E ∷ [])
unfolding all-trays sample tray_answers
sample_short = refl

-- and what the program prints of it, as ASCII: "1 1 0 0 1 0 0 0 0", "2 2 0 0 1 7 1 40 9", "9 0 0 0 0 0 0 0 0", "done 3
-- 3 0"
sample_printed : printed (run_tray sample 65536)
    ≡ (49 ∷ 32 ∷ 49 ∷ 32 ∷ 48 ∷ 32 ∷ 48 ∷ 32 ∷ 49 ∷ 32 ∷ 48 ∷ 32 ∷ 48 ∷ 32 ∷ 48 ∷ 32 ∷ 48 ∷ 10 ∷ [])
    ++ (50 ∷ 32 ∷ 50 ∷ 32 ∷ 48 ∷ 32 ∷ 48 ∷ 32 ∷ 49 ∷ 32 ∷ 55 ∷ 32 ∷ 49 ∷ 32 ∷ 52 ∷ 48 ∷ 32 ∷ 57 ∷ 10 ∷ [])
    ++ (57 ∷ 32 ∷ 48 ∷ 32 ∷ 48 ∷ 32 ∷ 48 ∷ 32 ∷ 48 ∷ 32 ∷ 48 ∷ 32 ∷ 48 ∷ 32 ∷ 48 ∷ 32 ∷ 48 ∷ 10 ∷ [])
    ++ (100 ∷ 111 ∷ 110 ∷ 101 ∷ 32 ∷ 51 ∷ 32 ∷ 51 ∷ 32 ∷ 48 ∷ 10 ∷ [])
unfolding all-trays sample digits line record_line done_line printed
sample_printed = refl

-- the records and the number that one frame gets, in any model, with an answers area of a length
unfoldable pub one_answer : Model → List ℕ → ℕ → List Record × ℕ
one_answer m f area = let o = step m f area in (o.records, o.number)

-- a model, a frame and the number that it is refused with
abbrev Case : Type 0
Case = Model × List ℕ × ℕ

abbrev RefusedWith : List Case → Type 0
RefusedWith cases = map (λ (c : Case). one_answer c.0 c.1 700) cases
    ≡ map (λ (c : Case). (Refused (byte_at c.1 1) c.2 ∷ [], c.2)) cases

-- frames, the answers to those behind the first n, and the number that the last is refused with
abbrev Story : Type 0
Story = ℕ × List (List ℕ) × ℕ × ℕ

abbrev EndsWith : List Story → Type 0
EndsWith stories = map (λ (s : Story). later s.0 s.1) stories
    ≡ map (λ (s : Story). (Refused s.2 s.3 ∷ []) ∷ []) stories

-- a tray, the length of its area, and the number that it is refused with
abbrev TraysRefused : List (List ℕ × ℕ × ℕ) → Type 0
TraysRefused cases = map (λ (c : List ℕ × ℕ × ℕ). tray_answers c.0 c.1) cases
    ≡ map (λ (c : List ℕ × ℕ × ℕ). (4294967296 * c.2, [])) cases

-- a waiting look-up of party 1
abbrev a_wait : LookUp
a_wait =
    record {
      party = 1;
      takes = true;
      if_exists = false;
      mask = 0;
      fields = no_fields;
      txn = record { 0 = 0 };
      deadline = Forever;
    }

abbrev one-waits : Model
one-waits = with_waits (a_wait ∷ []) empty

-- a frame for each refusal; with 1 there is no record
refused_1 : map (λ f. one_answer empty f 699) (write_by 1 0 9 E ∷ [] ∷ []) ≡ ([], 1) ∷ ([], 1) ∷ []
unfolding all_rules one_answer
refused_1 = refl

refusals : RefusedWith
    ((empty, [], 2)
    ∷ (empty, 0 ∷ 5 ∷ [], 2)
    ∷ (empty, 10 ∷ 5 ∷ [], 3)
    ∷ (empty, 12 ∷ 5 ∷ [], 2)
    ∷ (empty, take 11 (renew_by 1 1 9), 3)
    ∷ (empty, 9 ∷ 0 ∷ 0 ∷ [], 3)
    -- byte 3, a mask above 15, bit 4 with bit 3, bits above, a blank that is not 0, a template's field without its bit,
    -- a transaction in a create
    ∷ (empty, 9 ∷ 0 ∷ 0 ∷ 1 ∷ [], 4)
    ∷ (empty, long 2 1 0 9 24 no_fields, 4)
    ∷ (empty, long 2 1 0 9 32 no_fields, 4)
    ∷ (empty, long 2 1 0 9 17 (F 7 0 1 0), 4)
    ∷ (empty, write_blank 1 0 0 16 no_fields, 4)
    ∷ (empty, write_blank 1 0 9 1 E, 4)
    ∷ (empty, long 2 1 0 9 1 E, 4)
    ∷ (empty, (6 ∷ 1 ∷ 0 ∷ 0 ∷ []) ++ four_bytes 1 ++ four_bytes 9, 4)
    ∷ (empty, long op_notify 1 1 9 1 (F 7 0 0 0), 4)
    ∷ (empty, long op_notify 1 0 9 1 E, 4)
    ∷ (empty, create_by 0 9, 5)
    ∷ (empty, create_by 17 9, 5)
    ∷ (empty, 9 ∷ 1 ∷ 0 ∷ 0 ∷ [], 5)
    -- an arc that starts off the face, or is too long
    ∷ (empty, read_arc 1 0 9 720 0, 21)
    ∷ (empty, read_arc 1 0 9 0 720, 21)
    ∷ (empty, read_arc 17 0 9 720 0, 5)
    ∷ (one-waits, read_arc 1 0 9 0 720, 21)
    ∷ (one-waits, read_arc 1 0 9 719 719, 6)
    ∷ (one-waits, create_by 1 9, 6)
    ∷ (one-waits, renew_by 1 1 9, 6)
    ∷ (one-waits, notify_by 1 9 7, 6)
    ∷ (with_clock 4294967294 empty, renew_by 1 1 9, 18)
    ∷ (empty, write_by 1 1 9 E, 7)
    ∷ (empty, commit_by 1 0, 7)
    ∷ (empty, create_by 1 0, 9)
    ∷ (empty, notify_by 1 0 7, 9)
    ∷ (with_clock 1 empty, notify_by 1 4294967294 7, 10)
    ∷ (with_clock 1 empty, read_by 1 0 4294967294 7, 10)
    ∷ (with_clock 4294967294 empty, a_tick, 10)
    ∷ (with_next_entry 4294967295 empty, write_by 1 0 0 E, 13)
    ∷ (with_next_txn 4294967295 empty, create_by 1 9, 13)
    ∷ (with_next_registration 4294967295 empty, notify_by 1 9 7, 13)
    -- two faults: the first is given
    ∷ (empty, 12 ∷ [], 2)
    ∷ (empty, 9 ∷ 0 ∷ 0 ∷ 1 ∷ 0 ∷ [], 3)
    ∷ (empty, 9 ∷ 1 ∷ 1 ∷ 0 ∷ [], 4)
    ∷ (empty, commit_by 0 1, 5)
    ∷ (one-waits, commit_by 1 1, 6)
    ∷ (with_clock 1 empty, write_by 1 1 4294967294 E, 7)
    ∷ (with_clock 1 (with_next_entry 4294967295 empty), write_by 1 0 4294967294 E, 10)
    ∷ [])
unfolding all_rules one_answer
refusals = refl

refused-last : EndsWith
    ((1, create_by 1 9 ∷ write_by 2 1 9 E ∷ [], 2, 8)
    ∷ (8, times 9 (create_by 1 9), 1, 12)
    ∷ (8, times 9 (notify_by 1 9 7), 1, 17)
    -- two faults
    ∷ (2, create_by 1 9 ∷ a_tick ∷ write_by 2 1 4294967294 E ∷ [], 2, 8)
    ∷ (8, times 8 (create_by 1 9) ++ (create_by 1 0 ∷ []), 1, 9)
    ∷ (9, times 8 (create_by 1 9) ++ (a_tick ∷ create_by 1 4294967294 ∷ []), 1, 10)
    ∷ [])
unfolding all_rules answers answers_from
refused-last = refl

refused-trays : TraysRefused
    ((0 ∷ 0 ∷ 0 ∷ [], 65536, 15)
    ∷ (four_bytes 2001, 65536, 15)
    ∷ (four_bytes 1 ++ four_bytes 12, 65536, 15)
    ∷ (four_bytes 1 ++ four_bytes 11 ++ four_bytes 1, 65536, 16)
    ∷ (four_bytes 2 ++ four_bytes 20 ++ four_bytes 4 ++ four_bytes 23 ++ four_bytes 1 ++ a_tick, 65536, 16)
    ∷ (four_bytes 1 ++ four_bytes 12 ++ four_bytes 5 ++ a_tick, 65536, 16)
    -- two faults; 15 and 16 come before any area is looked at
    ∷ (four_bytes 1 ++ four_bytes 0, 65536, 15)
    ∷ ([], 0, 15)
    ∷ (four_bytes 1 ++ four_bytes 11 ++ four_bytes 1, 0, 16)
    ∷ [])
unfolding all-trays tray_answers
refused-trays = refl

-- the mistakes that students make, as histories that the rules answer rightly
pub record Mistakes : Type 0 where
  -- an entry is not put back on abort after its lease ended
  pub put_back : later 4 (write_by 1 0 1 E ∷ create_by 1 9 ∷ take_by 1 1 0 7 ∷ a_tick ∷ abort_by 1 1
      ∷ read_by 2 0 0 7 ∷ [])
      ≡ (Aborted 1 1 ∷ []) ∷ (Nothing 2 0 ∷ []) ∷ []
  -- a transaction's own read does not bar its own take
  pub own_read : later 3 (write_by 1 0 9 E ∷ create_by 1 9 ∷ read_by 1 1 0 7 ∷ take_by 1 1 0 7 ∷ [])
      ≡ (Found 1 1 1 E ∷ []) ∷ []
  -- service comes before nothing in the tick of the deadline: T1's abort by that tick serves the take
  pub nothing-last : later 4 (write_by 1 0 9 E ∷ create_by 1 1 ∷ take_by 1 1 0 7 ∷ take_by 2 0 1 7 ∷ a_tick ∷ [])
      ≡ (Ticked ∷ Exception 1 1 ∷ Found 2 0 1 E ∷ []) ∷ []
  -- another's private entry is not shown to a waiting look-up
  pub private : later 1 (take_by 2 0 9 7 ∷ create_by 1 9 ∷ write_by 1 1 9 E ∷ write_by 3 0 9 (F 8 0 0 0) ∷ [])
      ≡ (Created 1 1 ∷ []) ∷ (Written 1 1 1 ∷ []) ∷ (Written 3 0 2 ∷ []) ∷ []

mistakes : Mistakes
unfolding all_rules answers answers_from
mistakes = record { put_back = refl; own_read = refl; nothing-last = refl; private = refl }

-- "Oldest mark first": E is written three times, as the entries 1, 2 and 3
pub record OldestFirst : Type 0 where
  -- at once: a read and a take find 1, then 2 is the oldest; T1 takes it, so another finds 3, and 2 when T1 has aborted
  pub at_once : later 3 (times 3 (write_by 1 0 9 E)
      ++ (read_by 2 0 0 7 ∷ take_by 2 0 0 7 ∷ create_by 1 9 ∷ take_by 1 1 0 7 ∷ read_by 2 0 0 7 ∷ abort_by 1 1
      ∷ read_by 2 0 0 7 ∷ []))
      ≡ (Found 2 0 1 E ∷ []) ∷ (Found 2 0 1 E ∷ []) ∷ (Created 1 1 ∷ []) ∷ (Found 1 1 2 E ∷ [])
      ∷ (Found 2 0 3 E ∷ []) ∷ (Aborted 1 1 ∷ []) ∷ (Found 2 0 2 E ∷ []) ∷ []
  -- in service: T1's three entries are committed; the takes of 3 and then of 2, by arrival, get 1 and 2
  pub served : later 6 (take_by 3 0 9 7 ∷ take_by 2 0 9 7 ∷ create_by 1 9 ∷ times 3 (write_by 1 1 9 E)
      ++ (commit_by 1 1 ∷ read_by 4 0 0 7 ∷ []))
      ≡ (Committed 1 1 ∷ Found 3 0 1 E ∷ Found 2 0 2 E ∷ []) ∷ (Found 4 0 3 E ∷ []) ∷ []

oldest-first : OldestFirst
unfolding all_rules answers answers_from
oldest-first = record { at_once = refl; served = refl }

-- "Marks without a place": a finding whose place is blank, and one at place 0
pub record Blanks : Type 0 where
  -- a template without a place matches both; place 0 matches the one that has it
  pub null_rule : later 2 (write_blank 1 0 9 8 (F 7 1 40 0) ∷ write_by 1 0 9 (F 7 1 40 0) ∷ read_by 2 0 0 7
      ∷ long op_read 2 0 0 8 no_fields ∷ [])
      ≡ (FoundBlank 2 0 1 8 (F 7 1 40 0) ∷ []) ∷ (Found 2 0 2 (F 7 1 40 0) ∷ []) ∷ []
  -- blanks go through a commit, and through a take that is put back
  pub kept : later 4 (take_by 2 0 9 7 ∷ create_by 1 9 ∷ write_blank 1 1 9 14 (F 7 0 0 0)
      ∷ write_blank 1 1 9 14 (F 7 0 0 0) ∷ commit_by 1 1 ∷ create_by 1 9 ∷ take_by 1 2 0 7 ∷ abort_by 1 2
      ∷ read_by 2 0 0 7 ∷ [])
      ≡ (Committed 1 1 ∷ FoundBlank 2 0 1 14 (F 7 0 0 0) ∷ []) ∷ (Created 1 2 ∷ [])
      ∷ (FoundBlank 1 2 2 14 (F 7 0 0 0) ∷ []) ∷ (Aborted 1 2 ∷ []) ∷ (FoundBlank 2 0 2 14 (F 7 0 0 0) ∷ []) ∷ []

blanks : Blanks
unfolding all_rules answers answers_from
blanks = record { null_rule = refl; kept = refl }

-- "Renewing a mark"
pub record Renewing : Type 0 where
  -- E, which would end at 2, is renewed by 3 at clock 1: found at 3, gone at 4
  pub from_now : later 3 (write_by 1 0 2 E ∷ a_tick ∷ renew_by 1 1 3 ∷ a_tick ∷ a_tick ∷ read_by 2 0 0 7 ∷ a_tick
      ∷ read_by 2 0 0 7 ∷ [])
      ≡ (Ticked ∷ []) ∷ (Ticked ∷ []) ∷ (Found 2 0 1 E ∷ []) ∷ (Ticked ∷ []) ∷ (Nothing 2 0 ∷ []) ∷ []
  -- lease 0 removes it in this step; then no stored entry has that number
  pub removes : later 1 (write_by 1 0 9 E ∷ renew_by 1 1 0 ∷ read_by 2 0 0 7 ∷ renew_by 1 1 9 ∷ [])
      ≡ (Renewed 1 1 ∷ []) ∷ (Nothing 2 0 ∷ []) ∷ (Refused 1 18 ∷ []) ∷ []
  -- by its writer alone, and while nobody holds it; a hold of the party's own bars it too
  pub barred : later 1 (write_by 1 0 9 E ∷ renew_by 2 1 5 ∷ create_by 1 9 ∷ read_by 1 1 0 7 ∷ renew_by 1 1 5
      ∷ commit_by 1 1 ∷ renew_by 1 1 5 ∷ [])
      ≡ (Refused 2 19 ∷ []) ∷ (Created 1 1 ∷ []) ∷ (Found 1 1 1 E ∷ []) ∷ (Refused 1 20 ∷ []) ∷ (Committed 1 1 ∷ [])
      ∷ (Renewed 1 1 ∷ []) ∷ []

renewing : Renewing
unfolding all_rules answers answers_from
renewing = record { from_now = refl; removes = refl; barred = refl }

-- "Bell for new images": 2 is registered for E's kind
pub record Bells : Type 0 where
  -- each write rings once, with the total so far; one with lease 0 does not, nor does another kind
  pub writes : later 1 (notify_by 2 9 7 ∷ write_by 1 0 9 E ∷ write_by 1 0 0 E ∷ write_by 1 0 9 (F 8 0 0 0)
      ∷ write_by 1 0 9 E ∷ [])
      ≡ (Written 1 0 1 ∷ Rung 2 1 1 1 ∷ []) ∷ (Written 1 0 2 ∷ []) ∷ (Written 1 0 3 ∷ [])
      ∷ (Written 1 0 4 ∷ Rung 2 1 1 2 ∷ []) ∷ []
  -- a commit rings once for its two, after the found of the take that service gives one of them; for what the
  -- transaction took again it does not
  pub commits : later 6 (notify_by 2 9 7 ∷ take_by 3 0 9 7 ∷ create_by 1 9 ∷ times 3 (write_by 1 1 9 E)
      ++ (take_by 1 1 0 7 ∷ commit_by 1 1 ∷ []))
      ≡ (Found 1 1 1 E ∷ []) ∷ (Committed 1 1 ∷ Found 3 0 2 E ∷ Rung 2 1 2 2 ∷ []) ∷ []
  -- a put-back does not ring; two registrations ring by number; at the end of its lease one rings no more
  pub put_back : later 2 (write_by 1 0 9 E ∷ create_by 1 9 ∷ notify_by 2 1 7 ∷ notify_by 3 9 7 ∷ take_by 1 1 0 7
      ∷ abort_by 1 1 ∷ write_by 1 0 9 E ∷ a_tick ∷ write_by 1 0 9 E ∷ [])
      ≡ (Notified 2 1 ∷ []) ∷ (Notified 3 2 ∷ []) ∷ (Found 1 1 1 E ∷ []) ∷ (Aborted 1 1 ∷ [])
      ∷ (Written 1 0 2 ∷ Rung 2 1 1 1 ∷ Rung 3 2 1 1 ∷ []) ∷ (Ticked ∷ []) ∷ (Written 1 0 3 ∷ Rung 3 2 1 2 ∷ []) ∷ []

bells : Bells
unfolding all_rules answers answers_from
bells = record { writes = refl; commits = refl; put_back = refl }

-- the bytes of a record
found-bytes : record_bytes (FoundBlank 2 0 1 1 (F 0 1 40 258))
    ≡ 2 ∷ 2 ∷ 0 ∷ 1 ∷ 0 ∷ 0 ∷ 0 ∷ 0 ∷ 1 ∷ 0 ∷ 0 ∷ 0 ∷ 0 ∷ 0 ∷ 0 ∷ 0 ∷ 1 ∷ 0 ∷ 0 ∷ 0 ∷ 40 ∷ 0 ∷ 0 ∷ 0 ∷ 2 ∷ 1 ∷ 0 ∷ 0
    ∷ []
unfolding record_bytes
found-bytes = refl
