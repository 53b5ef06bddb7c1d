-- Numbers as four bytes tell them: records are read back so, and a pane that knows its transaction so sends the same
-- frames, and hears the same.
use Prim.Native.Nat.{ℕ, ◌*◌, ◌/◌, ◌%◌, ◌<◌}
use mathlib.Core.Bool.{Bool, true, false, cond, ◌||◌}
use mathlib.Core.Path.{◌≡◌, refl, sym, ap, ap₂, ◌∙◌, subst⁻¹}
use mathlib.Core.List.{List, [], ◌∷◌, ◌++◌, map}
use Rattle.std.proofs.Common.{Option, Some, None, is_some}
use native.Mathlib.Omega.{arith}
use lib.Dec.{eqb}
use lib.ListN.{length, get_or, length-map, get_or-map}
use Rattle.rules.specs.declared.Fields.{Fields}
use Rattle.rules.specs.declared.Record.{Record}
use Rattle.rules.specs.declared.TxnId.{TxnId}
use Rattle.rules.specs.declared.Request.{Request}
use Rattle.rules.specs.declared.Request.TheVariants.{Write}
use Rattle.rules.specs.Numbers.{record_size, kind_written, kind_found, kind_nothing, kind_waiting, kind_created}
use Rattle.rules.specs.Numbers.{kind_committed, kind_aborted, kind_exception, kind_refused}
use Rattle.rules.specs.Template.{four_fields, mark_of}
use Rattle.rules.specs.Frame.{frame_bytes}
use Rattle.rules.specs.Records.{record_bytes, record_at, answer_bytes, plain}
use Rattle.rules.specs.Requests.{frame}
use Rattle.rules.specs.Fits.{RecordFits}
use Rattle.rules.specs.Words.{up_to}
use Rattle.rules.proofs.ReadBack.{answer_back}
use Rattle.tables.proofs.UpToLaws.{up_to_ext}
use Rattle.trial.specs.declared.Pane.{Pane}
use Rattle.trial.specs.declared.Stage.{Stage}
use Rattle.trial.specs.declared.Stage.TheVariants.{Creates, Takes, Waits, Holds, Commits, Aborts}
use Rattle.trial.specs.Panes.{sends, hears, refused_in, ticked}
use Rattle.trial.specs.Trial.{Round, send, sends_now}
use Rattle.trial.specs.Progress.{records_at}
use Rattle.trial.specs.Trying.{as_word, word_id, in_words}
use Rattle.trial.proofs.UpToMore.{up_to_list}

-- the same four bytes
first_byte : (n : ℕ) → as_word n % 256 ≡ n % 256
first_byte n = omega arith

second_byte : (n : ℕ) → as_word n / 256 % 256 ≡ n / 256 % 256
second_byte n = omega arith

third_byte : (n : ℕ) → as_word n / 65536 % 256 ≡ n / 65536 % 256
third_byte n = omega arith

fourth_byte : (n : ℕ) → as_word n / 16777216 % 256 ≡ n / 16777216 % 256
fourth_byte n = omega arith

-- ---- records
unfoldable pub in_record : Record → Record
in_record a =
    record {
      kind = a.kind;
      party = a.party;
      refusal = a.refusal;
      txn = word_id a.txn;
      entry = record { 0 = as_word a.entry.0 };
      fields =
          mark_of a.fields.blanks
          (four_fields (as_word a.fields.kind) (as_word a.fields.side) (as_word a.fields.image)
          (as_word a.fields.place));
    }

in_bytes : (a : Record) → record_bytes (in_record a) ≡ record_bytes a
unfolding record_bytes in_record
in_bytes a = simp (first_byte, second_byte, third_byte, fourth_byte)

in_fits : (a : Record) → RecordFits (in_record a)
unfolding in_record
in_fits a =
    record {
      txn = omega arith;
      entry = omega arith;
      fields = record { kind = omega arith; side = omega arith; image = omega arith; place = omega arith };
    }

all-bytes : (rs : List Record) → answer_bytes (map in_record rs) ≡ answer_bytes rs
unfolding answer_bytes
all-bytes [] = refl
all-bytes (a ∷ rs) = ap₂ (λ x y. x ++ y) (in_bytes a) (all-bytes rs)

-- the records of a step, read back from the area
pub records_back : (rs : List Record) (rest : List ℕ) → records_at (answer_bytes rs ++ rest) (length rs)
    ≡ map in_record rs
records_back rs rest =
    up_to_ext (λ i. record_at (answer_bytes rs ++ rest) (record_size * i)) (λ i. get_or ys i d) (length rs) each
    ∙ ap (up_to (λ i. get_or ys i d)) (sym (length-map rs in_record))
    ∙ up_to_list ys d
  where
    ys : List Record
    ys = map in_record rs

    d : Record
    d = in_record (plain 0 0 0)

    each : (i : ℕ) → i < length rs → record_at (answer_bytes rs ++ rest) (record_size * i) ≡ get_or ys i d
    each i h =
        ap (λ bs. record_at (bs ++ rest) (record_size * i)) (sym (all-bytes rs))
        ∙ answer_back ys rest i d (omega (arith, length-map rs in_record, h))
        (subst⁻¹ RecordFits (get_or-map in_record rs i (plain 0 0 0)) (in_fits (get_or rs i (plain 0 0 0))))

-- ---- panes
same-frame : (op party mask t l : ℕ) (x : Fields)
    → frame_bytes (frame op party mask (as_word t) l x) ≡ frame_bytes (frame op party mask t l x)
unfolding frame_bytes
same-frame op party mask t l x = rw (first_byte t, second_byte t, third_byte t, fourth_byte t)

-- what it sends
pub sends-same : (p : Pane) (party : ℕ) (s : Stage) (ready : Bool) (r : Round)
    → sends_now ready (sends p party (in_words s)) r ≡ sends_now ready (sends p party s) r
unfolding sends in_words
sends-same p party s false r = refl
sends-same p party Creates true r = refl
sends-same p party (Takes t) true r = ap (λ bs. send bs r) (same-frame _ _ _ t.0 _ _)
sends-same p party (Waits t) true r = refl
sends-same p party (Holds t n) true r = go (eqb n 0)
  where
    writes : TxnId → Option Request
    writes u =
        Some
        (Write
        (record { txn = u; party = party; blanks = 0; lease = p.lease; fields = four_fields p.written 0 0 0 }))

    go : (b : Bool) → sends_now true (cond b (writes (word_id t)) None) r ≡ sends_now true (cond b (writes t) None) r
    go true = ap (λ bs. send bs r) (same-frame _ _ _ t.0 _ _)
    go false = refl
sends-same p party (Commits t) true r = ap (λ bs. send bs r) (same-frame _ _ _ t.0 _ _)
sends-same p party (Aborts t) true r = ap (λ bs. send bs r) (same-frame _ _ _ t.0 _ _)

pub ready-same : (p : Pane) (party : ℕ) (s : Stage) → is_some (sends p party (in_words s)) ≡ is_some (sends p party s)
unfolding sends in_words
ready-same p party Creates = refl
ready-same p party (Takes t) = refl
ready-same p party (Waits t) = refl
ready-same p party (Holds t n) = go (eqb n 0) _ _
  where
    go : (b : Bool) (x y : Request) → is_some (cond b (Some x) None) ≡ is_some (cond b (Some y) None)
    go true x y = refl
    go false x y = refl
ready-same p party (Commits t) = refl
ready-same p party (Aborts t) = refl

-- what it hears
refused-same : (s : Stage) → in_words (refused_in s) ≡ refused_in (in_words s)
unfolding in_words
refused-same Creates = refl
refused-same (Takes t) = refl
refused-same (Waits t) = refl
refused-same (Holds t n) = refl
refused-same (Commits t) = refl
refused-same (Aborts t) = refl

pub hears-same : (p : Pane) (a : Record) (s : Stage) → in_words (hears p a s) ≡ hears p (in_record a) (in_words s)
unfolding hears in_words in_record
hears-same p a s =
    go (eqb a.kind kind_created) (eqb a.kind kind_waiting) (eqb a.kind kind_found) (eqb a.kind kind_nothing)
    (eqb a.kind kind_written)
    (eqb a.kind kind_committed || eqb a.kind kind_aborted || eqb a.kind kind_exception)
    (eqb a.kind kind_refused)
  where
    heard : TxnId → Stage → Bool → Bool → Bool → Bool → Bool → Bool → Bool → Stage
    heard t s x1 x2 x3 x4 x5 x6 x7 =
        cond x1 (Takes t) (cond x2 (Waits t) (cond x3 (Holds t p.hold) (cond x4 (Aborts t)
        (cond x5 (Commits t) (cond x6 Creates (cond x7 (refused_in s) s))))))

    go : (x1 x2 x3 x4 x5 x6 x7 : Bool)
        → in_words (heard a.txn s x1 x2 x3 x4 x5 x6 x7) ≡ heard (word_id a.txn) (in_words s) x1 x2 x3 x4 x5 x6 x7
    go true x2 x3 x4 x5 x6 x7 = refl
    go false true x3 x4 x5 x6 x7 = refl
    go false false true x4 x5 x6 x7 = refl
    go false false false true x5 x6 x7 = refl
    go false false false false true x6 x7 = refl
    go false false false false false true x7 = refl
    go false false false false false false true = refused-same s
    go false false false false false false false = refl

pub ticked-same : (s : Stage) → in_words (ticked s) ≡ ticked (in_words s)
unfolding ticked in_words
ticked-same Creates = refl
ticked-same (Takes t) = refl
ticked-same (Waits t) = refl
ticked-same (Holds t n) = refl
ticked-same (Commits t) = refl
ticked-same (Aborts t) = refl
