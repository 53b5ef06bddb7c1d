-- What is written as bytes is read back: records, and frames.
use Prim.Native.Nat.{ℕ, zero, suc, ◌+◌, ◌*◌, ◌≤◌, ◌<◌}
use mathlib.Core.Bool.{true}
use mathlib.Core.Path.{◌≡◌, refl, sym, ap, ap₂, ◌∙◌}
use mathlib.Core.List.{List, [], ◌∷◌, ◌++◌, append_assoc}
use native.Mathlib.Omega.{arith}
use native.Mathlib.Nat.{add_assoc}
use lib.ListN.{length, get_or, length-take}
use lib.Seq.{get_or-append-add}
use Rattle.rules.specs.declared.Fields.{Fields}
use Rattle.rules.specs.declared.Record.{Record}
use Rattle.rules.specs.declared.Request.{Request}
use Rattle.rules.specs.declared.Request.TheVariants.{Write, Find, Create, Commit, Abort, Renew, Notify, Tick}
use Rattle.rules.specs.Frame.{Frame, number_at, fields_at, four_bytes, layout_of, frame_length, decode, frame_bytes}
use Rattle.rules.specs.Frame.{is_operation}
use Rattle.rules.specs.Numbers.{record_size}
use Rattle.rules.specs.Records.{record_bytes, record_at, answer_bytes}
use Rattle.rules.specs.Requests.{frame_of}
use Rattle.rules.specs.Fits.{FieldsFit, RecordFits, FrameFits, InItsBytes}
use Rattle.rules.proofs.OperationLaws.{length_cases, find_op}
use Rattle.rules.proofs.NumberLaws.{word_is}

pub record_length : (r : Record) → length (record_bytes r) ≡ record_size
unfolding record_bytes
record_length r = refl

fields_back : (x : Fields) → FieldsFit x
    → fields_at (four_bytes x.kind ++ four_bytes x.side ++ four_bytes x.image ++ four_bytes x.place) 0 ≡ x
unfolding number_at
fields_back x h =
    rw (sym (word_is _ h.kind), sym (word_is _ h.side), sym (word_is _ h.image), sym (word_is _ h.place))

-- a record, whatever stands behind its bytes
pub record_back : (r : Record) (rest : List ℕ) → RecordFits r → record_at (record_bytes r ++ rest) 0 ≡ r
unfolding record_at record_bytes number_at
record_back r rest h =
    let x = h.fields in
    rw (
      sym (word_is _ h.txn),
      sym (word_is _ h.entry),
      sym (word_is _ x.kind),
      sym (word_is _ x.side),
      sym (word_is _ x.image),
      sym (word_is _ x.place),
    )

-- so that it is told by its bytes
pub record_told : (r s : Record) → RecordFits r → RecordFits s → record_bytes r ≡ record_bytes s → r ≡ s
record_told r s h k e = sym (record_back r [] h) ∙ ap (λ bs. record_at (bs ++ []) 0) e ∙ record_back s [] k

-- whatever stands before them
pub number_behind : (xs bs : List ℕ) (i : ℕ) → number_at (xs ++ bs) (length xs + i) ≡ number_at bs i
unfolding number_at
number_behind xs bs i = simp (add_assoc, get_or-append-add)

pub fields_behind : (xs bs : List ℕ) (i : ℕ) → fields_at (xs ++ bs) (length xs + i) ≡ fields_at bs i
fields_behind xs bs i = simp (add_assoc, number_behind)

pub record_behind : (xs bs : List ℕ) (i : ℕ) → record_at (xs ++ bs) (length xs + i) ≡ record_at bs i
unfolding record_at
record_behind xs bs i = simp (add_assoc, get_or-append-add, number_behind)

-- and each of several
pub answer_back : (rs : List Record) (rest : List ℕ) (i : ℕ) (d : Record) → i < length rs → RecordFits (get_or rs i d)
    → record_at (answer_bytes rs ++ rest) (record_size * i) ≡ get_or rs i d
unfolding answer_bytes
answer_back [] rest i d h f = absurd (omega arith)
answer_back (r ∷ rs) rest zero d h f =
    ap (λ bs. record_at bs 0) (append_assoc (record_bytes r) (answer_bytes rs) rest)
    ∙ record_back r (answer_bytes rs ++ rest) f
answer_back (r ∷ rs) rest (suc i) d h f =
    ap₂ record_at (append_assoc (record_bytes r) (answer_bytes rs) rest) (omega (arith, record_length r))
    ∙ record_behind (record_bytes r) (answer_bytes rs ++ rest) (record_size * i)
    ∙ answer_back rs rest i d (omega arith) f

-- a frame has as many bytes as its operation
pub frame-length : (f : Frame) → is_operation f.op ≡ true → length (frame_bytes f) ≡ frame_length f.op
unfolding frame_bytes
frame-length f is =
    let few = length_cases (λ n. n ≤ 28) f.op is (omega arith) (omega arith) (omega arith) (omega arith) in
    simp length-take (omega arith)

-- and is read back from them
pub frame_back : (f : Frame) → FrameFits f → InItsBytes f → decode (frame_bytes f) ≡ f
unfolding decode frame_bytes number_at
frame_back f h b =
    let txn = sym (word_is _ h.txn) in
    let lease = sym (word_is _ h.lease_or_timeout) in
    length_cases
    (λ n. frame_length f.op ≡ n → decode (frame_bytes f) ≡ f)
    f.op
    b.operation
    (λ e.
    rw e (same (sym (b.txn (omega arith))) (sym (b.lease_or_timeout (omega arith))) (sym (b.fields (omega arith)))))
    (λ e. rw e (same txn (sym (b.lease_or_timeout (omega arith))) (sym (b.fields (omega arith)))))
    (λ e. rw e (same txn lease (sym (b.fields (omega arith)))))
    (λ e. rw e (same txn lease (fields_back f.fields h.fields)))
    refl
  where
    same : {t l : ℕ} {x : Fields} → t ≡ f.txn → l ≡ f.lease_or_timeout → x ≡ f.fields
        → record {
          op = f.op;
          party = f.party;
          mask = f.mask;
          byte3 = f.byte3;
          txn = t;
          lease_or_timeout = l;
          fields = x;
        }
        ≡ f
    same p q r = rw (p, q, r)

-- one that has all 28
whole : (f : Frame) → is_operation f.op ≡ true → frame_length f.op ≡ 28 → InItsBytes f
whole f is e =
    let all : frame_length f.op ≤ 12 → ⊥ = λ l. omega arith in
    record {
      operation = is;
      txn = λ l. absurd (all (omega arith));
      lease_or_timeout = λ l. absurd (all (omega arith));
      fields = λ l. absurd (all l);
    }

-- the frame of every request
request_in : (q : Request) → InItsBytes (frame_of q)
unfolding frame_length layout_of
request_in (Write w) = whole (frame_of (Write w)) refl refl
request_in (Find l) = let o = find_op l.takes l.if_exists in whole (frame_of (Find l)) o.0 o.1
request_in (Create party lease) =
    record { operation = refl; txn = λ l. refl; lease_or_timeout = λ l. absurd (omega arith); fields = λ l. refl }
request_in (Commit party txn) =
    record { operation = refl; txn = λ l. absurd (omega arith); lease_or_timeout = λ l. refl; fields = λ l. refl }
request_in (Abort party txn) =
    record { operation = refl; txn = λ l. absurd (omega arith); lease_or_timeout = λ l. refl; fields = λ l. refl }
request_in (Renew r) =
    record {
      operation = refl;
      txn = λ l. absurd (omega arith);
      lease_or_timeout = λ l. absurd (omega arith);
      fields = λ l. refl;
    }
request_in (Notify n) = whole (frame_of (Notify n)) refl refl
request_in Tick = record { operation = refl; txn = λ l. refl; lease_or_timeout = λ l. refl; fields = λ l. refl }

pub request_back : (q : Request) → FrameFits (frame_of q) → decode (frame_bytes (frame_of q)) ≡ frame_of q
request_back q h = frame_back (frame_of q) h (request_in q)
