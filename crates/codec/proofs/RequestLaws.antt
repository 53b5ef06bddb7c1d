-- What the decoder answers: the refusal, or the request that a frame in order stands for.
use Prim.Native.Nat.{ℕ, ◌≤◌, ◌<◌}
use Rattle.std.specs.Prelude.{Result, Ok, Err}
use Rattle.std.specs.Result.{IsErrAnd}
use Rattle.std.proofs.lemmas.Result.{err_from_is_err_and}
use mathlib.Core.Bool.{true, false, not, ◌&&◌, ◌||◌, or-true}
use mathlib.Core.Option.{some}
use mathlib.Core.Path.{◌≡◌, refl, sym, ap, ◌∙◌}
use mathlib.Core.List.{List}
use native.Mathlib.Omega.{arith}
use lib.Dec.{eqb, ltb}
use lib.ListN.{length}
use borrow.Author.Tests.{le-leb, eq-eqb, ne_eqb, eqb-true, not-false}
use Rattle.std.proofs.lemmas.Bool.Decides.{nat_tests}
use Rattle.rules.specs.Numbers.{op_write, op_read, op_take_if_exists, op_create, op_commit, op_abort, op_tick}
use Rattle.rules.specs.Numbers.{op_notify, op_renew}
use Rattle.rules.specs.declared.Request.{Request}
use Rattle.rules.specs.declared.Request.TheVariants.{Write, Find, Create, Commit, Abort, Notify, Tick}
use Rattle.rules.specs.declared.refusal.Refusal.{Refusal}
use Rattle.rules.specs.declared.refusal.Refusal.TheVariants.{Operation, Length}
use Rattle.rules.specs.Frame.{Frame, decode, byte_at, number_at, fields_at, layout_of, frame_length, has_template}
use Rattle.rules.specs.Frame.{names_no_txn}
use Rattle.rules.specs.Frame.{has_blanks, is_operation, is_take, is_if_exists}
use Rattle.rules.specs.Refusals.{form_rows, no_operation, wrong_length, highest, bad_template, bad_blanks, malformed}
use Rattle.rules.specs.Refusals.{wrong_party}
use Rattle.rules.specs.Requests.{plain_frame, frame_of, renew_of, number, form_refusal, Decodes}
use Rattle.rules.proofs.BoolLaws.{or_left, or_right, and_false_right}
use Rattle.rules.proofs.LayoutLaws.{look_up-op}
use Rattle.rules.proofs.RefusalLaws.{number_not_zero, test_at, none_applies}
use Rattle.codec.proofs.FormLaws.{number_past, fields_past, other_length}

pub refused : (bs : List ℕ) (r : Refusal) → number r ≡ form_refusal bs → Decodes bs (Err r)
refused bs r e =
    record { number = e; frame = rw (ne_eqb (form_refusal bs) 0 (λ z. number_not_zero r (e ∙ z))) }

-- by what a check found, which `?` hands on
pub handed_on : (bs : List ℕ) (e : Refusal) {r : Result Request Refusal} → IsErrAnd r (λ x. x ≡ e)
    → number e ≡ form_refusal bs
    → Decodes bs r
handed_on bs e {r} h q =
    let p = err_from_is_err_and r h in
    rw p.1 (refused bs p.0 (ap number p.2 ∙ q))

-- by 3, for an operation whose frames have a length
pub wrong_length_lem : (bs : List ℕ) (op : ℕ) → (op ≡ byte_at bs 0) × (is_operation op ≡ true) → (e : Refusal)
    → {r : Result Request Refusal} → IsErrAnd r (λ x. x ≡ e) → (e ≡ Length) × (length bs ≡ frame_length op → ⊥)
    → Decodes bs r
wrong_length_lem bs op is e h p = handed_on bs e h (ap number p.0 ∙ sym (other_length bs op is p.1))

-- it has no operation
pub no_operation_lem : (bs : List ℕ) → is_operation (byte_at bs 0) ≡ false → Decodes bs (Err Operation)
unfolding form_refusal no_operation decode
no_operation_lem bs o = refused bs Operation (rw (o, or-true))

-- 0 is none, and what is above 11
pub below : (op : ℕ) → op < op_write → is_operation op ≡ false
unfolding layout_of
below op h = grind (arith, nat_tests)

pub above : (op : ℕ) → op_renew < op → is_operation op ≡ false
unfolding layout_of
above op h = grind (arith, nat_tests)

-- a frame that 4 lets pass
record Formed (f : Frame) : Type 0 where
  byte3 : f.byte3 ≡ 0
  mask : has_template f.op ≡ false → has_blanks f.op ≡ false → f.mask ≡ 0
  txn : names_no_txn f.op ≡ true → f.txn ≡ 0

zero_of : (n : ℕ) → not (eqb n 0) ≡ false → n ≡ 0
zero_of n e = eqb-true n 0 (not-false (eqb n 0) e)

of_form : (f : Frame) → malformed f ≡ false → Formed f
unfolding malformed
of_form f e =
    let filled = not (eqb f.byte3 0) in
    let high = ltb (highest f.op) f.mask in
    let masked = not (has_template f.op || has_blanks f.op) && not (eqb f.mask 0) in
    let bad = has_template f.op && bad_template f.mask f.fields in
    let blank = has_blanks f.op && bad_blanks f.mask f.fields in
    let named = names_no_txn f.op && not (eqb f.txn 0) in
    let rest = or_left (filled || high || masked || bad || blank) named e in
    let front = or_left (filled || high || masked) bad (or_left (filled || high || masked || bad) blank rest) in
    record {
      byte3 = zero_of f.byte3 (or_left filled high (or_left (filled || high) masked front));
      mask = λ t b.
          let neither : not (has_template f.op || has_blanks f.op) ≡ true = rw (t, b) in
          zero_of f.mask (and_false_right _ _ neither (or_right (filled || high) masked front));
      txn = λ o. zero_of f.txn (and_false_right _ _ o (or_right (filled || high || masked || bad || blank) named e));
    }

module _ (bs : List ℕ) (clear : form_refusal bs ≡ 0) where
  asks : (q : Request) → decode bs ≡ frame_of q → Decodes bs (Ok q)
  asks q e = record { number = sym clear; frame = rw (eq-eqb (form_refusal bs) 0 clear) (ap some (sym e)) }

  -- none of the rows 2 to 5 and 21 applies: their number, counted from 2
  row : (k : ℕ) → test_at (form_rows bs (decode bs)) k ≡ false
  unfolding form_refusal
  row = none_applies (form_rows bs (decode bs)) refl clear

  size : length bs ≡ frame_length (byte_at bs 0)
  unfolding wrong_length decode
  size = eqb-true (length bs) (frame_length (byte_at bs 0)) (not-false _ (row 1))

  formed : Formed (decode bs)
  formed = of_form (decode bs) (row 2)

  pub write-asks : byte_at bs 0 ≡ op_write
      → Decodes bs (Ok (Write (record {
        party = byte_at bs 1;
        blanks = byte_at bs 2;
        txn = record { 0 = number_at bs 4 };
        lease = number_at bs 8;
        fields = fields_at bs 12;
      })))
  unfolding decode layout_of
  write-asks e = asks _ (rw (formed.byte3, e))

  pub find_asks : (op : ℕ) → op ≡ byte_at bs 0 → op_read ≤ op → op ≤ op_take_if_exists
      → Decodes bs (Ok (Find (record {
        party = byte_at bs 1;
        takes = is_take op;
        if_exists = is_if_exists op;
        mask = byte_at bs 2;
        txn = record { 0 = number_at bs 4 };
        timeout = number_at bs 8;
        fields = fields_at bs 12;
      })))
  unfolding decode
  find_asks op e l h =
      let kind = look_up-op op (rw (le-leb op_read op l, le-leb op op_take_if_exists h)) in
      asks _ (rw (formed.byte3, kind, e))

  -- a frame without mask and fields
  plain : (op : ℕ) → byte_at bs 0 ≡ op → has_template op ≡ false → has_blanks op ≡ false → frame_length op ≤ 12
      → decode bs ≡ plain_frame op (byte_at bs 1) (number_at bs 4) (number_at bs 8)
  unfolding decode
  plain op e t b h =
      let few = fields_past bs 12 (omega (arith, ap frame_length e, size)) in
      rw (formed.byte3, formed.mask (ap has_template e ∙ t) (ap has_blanks e ∙ b), few, e)

  -- nothing stands behind the bytes of an operation
  past : (op i : ℕ) → byte_at bs 0 ≡ op → frame_length op ≤ i → number_at bs i ≡ 0
  past op i e h = number_past bs i (omega (arith, ap frame_length e, size))

  pub create-asks : byte_at bs 0 ≡ op_create → Decodes bs (Ok (Create (byte_at bs 1) (number_at bs 8)))
  unfolding frame_length layout_of decode
  create-asks e = asks _ (plain op_create e refl refl (omega arith) ∙ rw (formed.txn (rw e)))

  pub commit-asks : byte_at bs 0 ≡ op_commit → Decodes bs (Ok (Commit (byte_at bs 1) (record { 0 = number_at bs 4 })))
  unfolding frame_length layout_of
  commit-asks e = asks _ (plain op_commit e refl refl (omega arith) ∙ rw (past op_commit 8 e (omega arith)))

  pub abort-asks : byte_at bs 0 ≡ op_abort → Decodes bs (Ok (Abort (byte_at bs 1) (record { 0 = number_at bs 4 })))
  unfolding frame_length layout_of
  abort-asks e = asks _ (plain op_abort e refl refl (omega arith) ∙ rw (past op_abort 8 e (omega arith)))

  pub renew-asks : byte_at bs 0 ≡ op_renew
      → Decodes bs (Ok (renew_of (byte_at bs 1) (record { 0 = number_at bs 4 }) (number_at bs 8)))
  unfolding frame_length layout_of
  renew-asks e = asks _ (plain op_renew e refl refl (omega arith))

  pub notify-asks : byte_at bs 0 ≡ op_notify
      → Decodes bs (Ok (Notify (record {
        party = byte_at bs 1;
        mask = byte_at bs 2;
        lease = number_at bs 8;
        fields = fields_at bs 12;
      })))
  unfolding decode layout_of
  notify-asks e = asks _ (rw (formed.byte3, formed.txn (rw e), e))

  pub tick-asks : byte_at bs 0 ≡ op_tick → Decodes bs (Ok Tick)
  unfolding frame_length layout_of wrong_party decode
  tick-asks e =
      let party = zero_of (byte_at bs 1) (rw e at (row 3)) in
      let txn = past op_tick 4 e (omega arith) in
      let lease = past op_tick 8 e (omega arith) in
      asks _ (plain op_tick e refl refl (omega arith) ∙ rw (party, txn, lease))
