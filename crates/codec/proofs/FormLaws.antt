-- Bytes past the end; the form of a frame, operation by operation.
use Prim.Native.Nat.{ℕ, ◌+◌, ◌-◌, ◌≤◌}
use mathlib.Core.Bool.{Bool, true, false, cond, not, ◌&&◌, ◌||◌, or-false, or_assoc, true≢false}
use mathlib.Core.Path.{◌≡◌, refl, sym, ap, ap₂, ◌∙◌}
use mathlib.Core.Logic.{⊎_elim}
use mathlib.Core.List.{List, [], ◌∷◌, ◌++◌, append-nil}
use native.Mathlib.Omega.{arith}
use lib.Dec.{eqb, ltb}
use lib.ListN.{length}
use borrow.Author.Tests.{le-leb, eq-eqb, ne_eqb, eqb-true, eqb-false}
use Rattle.std.proofs.lemmas.Bool.Decides.{nat_tests}
use Rattle.rules.specs.Numbers.{op_write, op_read, op_take_if_exists, op_create, op_commit, op_abort, op_notify}
use Rattle.rules.specs.Numbers.{length_refused}
use Rattle.rules.specs.Numbers.{form_refused, party_refused, place_refused}
use Rattle.rules.specs.Frame.{Frame, frame_length, decode, byte_at, number_at, fields_at, is_operation, Layout}
use Rattle.rules.specs.Frame.{layout_of}
use Rattle.rules.specs.Frame.{has_template, has_blanks, names_no_txn}
use Rattle.rules.specs.Records.{no_fields}
use Rattle.rules.specs.Refusals.{no_operation, wrong_length, bad_template, bad_blanks, bad_arc, malformed, wrong_party}
use Rattle.rules.specs.Refusals.{wrong_arc}
use Rattle.rules.specs.Requests.{form_refusal}
use Rattle.rules.proofs.ReadBack.{number_behind, fields_behind}
use Rattle.rules.proofs.BoolLaws.{bool_cases}
use Rattle.rules.proofs.LayoutLaws.{look_up-layout, write_form}
use Rattle.codec.specs.Head.{no_party, head_refusal, template_refusal}

-- ---- past the end all is 0: what reads from a place on reads of no bytes there
past : {A : Type 0} (read : List ℕ → ℕ → A)
    → ((xs bs : List ℕ) (i : ℕ) → read (xs ++ bs) (length xs + i) ≡ read bs i)
    → (bs : List ℕ) (i : ℕ) → length bs ≤ i → read bs i ≡ read [] (i - length bs)
past read behind bs i h = ap₂ read (sym (append-nil bs)) (omega arith) ∙ behind bs [] (i - length bs)

pub number_past : (bs : List ℕ) (i : ℕ) → length bs ≤ i → number_at bs i ≡ 0
unfolding number_at
number_past = past number_at number_behind

pub fields_past : (bs : List ℕ) (i : ℕ) → length bs ≤ i → fields_at bs i ≡ no_fields
unfolding number_at
fields_past = past fields_at fields_behind

-- ---- operations
-- an abort is laid out as a commit
ending-layout : (op : ℕ) → op_commit ≤ op → op ≤ op_abort → layout_of op ≡ layout_of op_commit
unfolding layout_of
ending-layout op l h =
    ⊎_elim (λ e. ap layout_of (eqb-true op op_commit e))
    (λ e. let abort : op ≡ op_abort = omega (arith, eqb-false op op_commit e) in ap layout_of abort)
    (bool_cases (eqb op op_commit))

pub looks_up : (op : ℕ) → op_read ≤ op → op ≤ op_take_if_exists → is_operation op ≡ true
unfolding layout_of
looks_up op l h = grind (arith, nat_tests)

pub ends-one : (op : ℕ) → op_commit ≤ op → op ≤ op_abort → is_operation op ≡ true
unfolding layout_of
ends-one op l h = grind (arith, nat_tests)

-- ---- refusal 4: with a template, with blanks, with a transaction that must be 0, and with none of these
module _ (f : Frame) where
  pub find_form : op_read ≤ f.op → f.op ≤ op_take_if_exists
      → malformed f ≡ (not (eqb f.byte3 0) || ltb 23 f.mask || bad_template f.mask f.fields)
  unfolding malformed layout_of
  find_form l h = rw (look_up-layout f.op (rw (le-leb _ _ l, le-leb _ _ h))) (simp or-false)

  -- a mask that is 0 is not above 15
  no_mask : (not (eqb f.byte3 0) || ltb 15 f.mask || not (eqb f.mask 0))
      ≡ (not (eqb f.byte3 0) || not (eqb f.mask 0))
  no_mask = grind (arith, nat_tests)

  pub notify_form : f.op ≡ op_notify
      → malformed f
      ≡ (not (eqb f.byte3 0) || ltb 23 f.mask || bad_template f.mask f.fields || not (eqb f.txn 0))
  unfolding malformed layout_of
  notify_form e = rw e (simp or-false)

  pub plain_form : has_template f.op ≡ false → has_blanks f.op ≡ false → names_no_txn f.op ≡ false
      → malformed f ≡ (not (eqb f.byte3 0) || not (eqb f.mask 0))
  unfolding malformed
  plain_form t b o = rw (t, b, o) (simp or-false no_mask)

-- ---- the first of 3 to 5 and 21 that applies to a frame with an operation
pub form_is : (bs : List ℕ) (op : ℕ) → (op ≡ byte_at bs 0) × (is_operation op ≡ true)
    → {long form party : Bool} → eqb (length bs) (frame_length op) ≡ long → malformed (decode bs) ≡ form
    → wrong_party (decode bs) ≡ party → {arc : Bool} → wrong_arc (decode bs) ≡ arc
    → form_refusal bs
    ≡ cond (not long) length_refused (cond form form_refused (cond party party_refused (cond arc place_refused 0)))
unfolding form_refusal wrong_length no_operation decode layout_of
form_is [] op p a b c x = absurd (true≢false (sym p.1 ∙ ap is_operation p.0))
form_is (x ∷ bs) op p a b c y =
    rw (
      ne_eqb (length (x ∷ bs)) 0 (λ z. omega arith),
      ap is_operation (sym p.0) ∙ p.1,
      ap (λ n. eqb (length (x ∷ bs)) (frame_length n)) (sym p.0) ∙ a,
      b,
      c,
      y,
    )

-- look-ups are as long as a read, and an abort as a commit
pub find_length : (op : ℕ) → op_read ≤ op → op ≤ op_take_if_exists → frame_length op ≡ frame_length op_read
unfolding frame_length layout_of
find_length op l h = grind (arith, nat_tests)

pub ending-length : (op : ℕ) → op_commit ≤ op → op ≤ op_abort → frame_length op ≡ frame_length op_commit
unfolding frame_length layout_of
ending-length op l h = grind (arith, nat_tests)

-- so where it has another length, or the length of its operation
module _ (bs : List ℕ) (op : ℕ) (is : (op ≡ byte_at bs 0) × (is_operation op ≡ true)) where
  pub other_length : (length bs ≡ frame_length op → ⊥) → form_refusal bs ≡ length_refused
  other_length h = form_is bs op is (ne_eqb (length bs) (frame_length op) h) refl refl refl

  right-length : (bad : Bool) → has_template op ≡ false → length bs ≡ frame_length op
      → malformed (decode bs) ≡ (not (eqb (byte_at bs 3) 0) || bad) → form_refusal bs ≡ head_refusal bs op bad
  unfolding wrong_party wrong_arc decode
  right-length bad t h form = form_is bs op is {party = no_party op (byte_at bs 1)}
      (eq-eqb (length bs) (frame_length op) h) form (rw is.0)
      (ap (λ b. b && bad_arc (byte_at bs 2) (fields_at bs 12).place) (ap has_template (sym is.0) ∙ t))

  template_head : (bad : Bool) → has_template op ≡ true → length bs ≡ frame_length op
      → malformed (decode bs)
      ≡ (not (eqb (byte_at bs 3) 0) || (ltb 23 (byte_at bs 2) || bad_template (byte_at bs 2) (fields_at bs 12) || bad))
      → form_refusal bs ≡ template_refusal bs op (fields_at bs 12) bad
  unfolding wrong_party wrong_arc decode
  template_head bad t h form =
      form_is bs op is {party = no_party op (byte_at bs 1)} (eq-eqb (length bs) (frame_length op) h) form (rw is.0)
      {arc = bad_arc (byte_at bs 2) (fields_at bs 12).place}
      (ap (λ b. b && bad_arc (byte_at bs 2) (fields_at bs 12).place) (ap has_template (sym is.0) ∙ t))
      ∙ last
      (not (eqb (byte_at bs 3) 0) || (ltb 23 (byte_at bs 2) || bad_template (byte_at bs 2) (fields_at bs 12) || bad))
      (no_party op (byte_at bs 1)) (bad_arc (byte_at bs 2) (fields_at bs 12).place)
    where
      last : (f p a : Bool)
          → cond f form_refused (cond p party_refused (cond a place_refused 0))
          ≡ cond (eqb (cond f form_refused (cond p party_refused 0)) 0) (cond a place_refused 0)
          (cond f form_refused (cond p party_refused 0))
      last f p a = grind (arith, nat_tests)

  pub find_head : op_read ≤ op → op ≤ op_take_if_exists → length bs ≡ frame_length op
      → form_refusal bs ≡ template_refusal bs op (fields_at bs 12) false
  unfolding decode layout_of
  find_head l m h =
      let mask = byte_at bs 2 in
      let bad = bad_template mask (fields_at bs 12) in
      template_head false (ap (λ (y : Layout). y.template) (look_up-layout op (rw (le-leb _ _ l, le-leb _ _ m)))) h
      (find_form (decode bs) (omega (arith, is.0)) (omega (arith, is.0))
      ∙ or_assoc (not (eqb (byte_at bs 3) 0)) (ltb 23 mask) bad
      ∙ ap (λ b. not (eqb (byte_at bs 3) 0) || b) (sym (or-false (ltb 23 mask || bad))))

  pub create_head : op ≡ op_create → length bs ≡ frame_length op
      → form_refusal bs ≡ head_refusal bs op (not (eqb (byte_at bs 2) 0) || not (eqb (number_at bs 4) 0))
  unfolding form_refusal wrong_length no_operation malformed wrong_party wrong_arc decode frame_length layout_of
  create_head e h = grind (arith, nat_tests)

  pub notify_head : op ≡ op_notify → length bs ≡ frame_length op
      → form_refusal bs ≡ template_refusal bs op (fields_at bs 12) (not (eqb (number_at bs 4) 0))
  unfolding decode layout_of
  notify_head e h =
      let filled = not (eqb (byte_at bs 3) 0) in
      let high = ltb 23 (byte_at bs 2) in
      let bad = bad_template (byte_at bs 2) (fields_at bs 12) in
      template_head _ (ap has_template e) h (notify_form (decode bs) (sym is.0 ∙ e)
      ∙ ap (λ b. b || not (eqb (number_at bs 4) 0)) (or_assoc filled high bad)
      ∙ or_assoc filled (high || bad) (not (eqb (number_at bs 4) 0)))

  pub write_head : op ≡ op_write → length bs ≡ frame_length op
      → form_refusal bs ≡ head_refusal bs op (ltb 15 (byte_at bs 2) || bad_blanks (byte_at bs 2) (fields_at bs 12))
  unfolding decode layout_of
  write_head e h =
      right-length _ (ap has_template e) h (write_form (decode bs) (sym is.0 ∙ e)
      ∙ or_assoc (not (eqb (byte_at bs 3) 0)) (ltb 15 (byte_at bs 2)) (bad_blanks (byte_at bs 2) (fields_at bs 12)))

  pub plain_head : has_template op ≡ false → has_blanks op ≡ false → names_no_txn op ≡ false → length bs
      ≡ frame_length op
      → form_refusal bs ≡ head_refusal bs op (not (eqb (byte_at bs 2) 0))
  unfolding decode
  plain_head t b o h =
      right-length _ t h (plain_form (decode bs) (ap has_template (sym is.0) ∙ t) (ap has_blanks (sym is.0) ∙ b)
      (ap names_no_txn (sym is.0) ∙ o))

  pub ending_head : op_commit ≤ op → op ≤ op_abort → length bs ≡ frame_length op
      → form_refusal bs ≡ head_refusal bs op (not (eqb (byte_at bs 2) 0))
  unfolding layout_of
  ending_head l m =
      plain_head (ap (λ (y : Layout). y.template) (ending-layout op l m))
      (ap (λ (y : Layout). y.blanks) (ending-layout op l m)) (ap (λ (y : Layout). y.outside) (ending-layout op l m))
