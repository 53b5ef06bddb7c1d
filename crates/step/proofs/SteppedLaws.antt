-- What is allowed of a step, by the refusal that applies.
use Prim.Native.Nat.{ℕ, ◌+◌, ◌*◌, ◌≤◌, ◌<◌}
use mathlib.Core.Bool.{Bool, true, false, cond}
use mathlib.Core.Option.{none, some}
use mathlib.Core.Path.{◌≡◌, refl, sym, ap, ap₂, ◌∙◌, subst, subst⁻¹}
use mathlib.Core.List.{List, [], ◌∷◌, ◌++◌, append-nil}
use native.Mathlib.Omega.{arith}
use borrow.Author.Tests.{ne_eqb, lt-ltb, le-ltb}
use lib.Dec.{eqb, ltb}
use lib.ListN.{length}
use Rattle.rules.specs.declared.Record.{Record}
use Rattle.rules.specs.declared.Request.{Request}
use Rattle.std.specs.Prelude.{Result, Ok, Err, IsErrAnd}
use Rattle.std.proofs.lemmas.Result.{err_from_is_err_and}
use Rattle.rules.specs.declared.refusal.Refusal.{Refusal}
use Rattle.rules.specs.Numbers.{step_area, record_size, area_refused}
use Rattle.rules.specs.State.{Model, Bounded}
use Rattle.rules.specs.Frame.{Frame, decode, is_operation}
use Rattle.rules.specs.Done.{Done, ending_with}
use Rattle.rules.specs.Notify.{made_public, ringing}
use Rattle.rules.specs.Records.{refused, answer_bytes, area_after}
use Rattle.rules.specs.Refusals.{wrong_party, form_rows, admission_rows, room_rows, refusal}
use Rattle.rules.specs.Requests.{frame_of, number, form_refusal, space_refusal, Decodes}
use Rattle.rules.specs.Step.{Outcome, step, own_part, finish, carried_out, refused_with, accepted}
use Rattle.rules.specs.Sound.{Sound}
use Rattle.rules.specs.Words.{view}
use Rattle.rules.specs.Allowed.{Stepped}
use Rattle.rules.proofs.ListLaws.{none≢some}
use Rattle.rules.proofs.BoolLaws.{cond_cases}
use Rattle.rules.proofs.RefusalLaws.{clear, is_one, none_applies, refusal_parts, form_not-area, space-not-area}
use Rattle.rules.proofs.SoundLaws.{room-left}
use Rattle.rules.proofs.ViewLaws.{view-bounded}
use Rattle.sound.proofs.Events.{Admitted}
use Rattle.sound.proofs.EventsProof.{admitted}
use Rattle.holds.specs.Sweep.{SameBefore}
use Rattle.finish.specs.Does.{Adds, Does}
use Rattle.hints.specs.declared.known.Hints.{Hints}
use Rattle.step.specs.Carries.{Carries, Unchanged, Taken, FrameTaken}
use Rattle.judge.specs.Judge.{ReadyFor}
use Rattle.finish.specs.Ending.{Ending, EndsAs, Quiet, finished_by}
use Rattle.finish.proofs.AddsLaws.{adds_then, does-ending, does-nothing, does_as}
use Rattle.finish.proofs.FinishLaws.{finish-same, quiet-ends}

-- ---- which refusal applies
pub asked-frame : {bs : List ℕ} {q : Request} → Decodes bs (Ok q) → frame_of q ≡ decode bs
asked-frame {bs} d = same (d.frame ∙ ap (λ n. cond (eqb n 0) (some (decode bs)) none) (sym d.number))
  where
    same : {f g : Frame} → some f ≡ some g → f ≡ g
    same e = cc

module _ (m : Model) (bs : List ℕ) (area : ℕ) where
  -- where the area is long enough
  abbrev judged : ℕ
  judged = cond (eqb (form_refusal bs) 0) (space_refusal m (decode bs)) (form_refusal bs)

  judged_by : (b : Bool) → ltb area step_area ≡ b → refusal m bs area ≡ cond b area_refused judged
  judged_by b e = refusal_parts m bs area ∙ ap (λ c. cond c area_refused judged) e

  module _ (h : step_area ≤ area) where
    is_judged : refusal m bs area ≡ judged
    is_judged = judged_by false (le-ltb area step_area h)

    not_short : eqb (refusal m bs area) area_refused ≡ false
    not_short =
        ap (λ k. eqb k area_refused) is_judged
        ∙ cond_cases (λ k. eqb k area_refused ≡ false) (eqb (form_refusal bs) 0) (λ e. space-not-area m (decode bs))
        (λ e. form_not-area bs)

    -- the decoder refuses
    pub form_refused : {r : Refusal} → Decodes bs (Err r) → refusal m bs area ≡ number r
    form_refused d =
        is_judged ∙ ap (λ b. cond b (space_refusal m (decode bs)) (form_refusal bs)) not_zero ∙ sym d.number
      where
        go : (b : Bool) → none ≡ cond b (some (decode bs)) none → b ≡ false
        go true e = absurd (none≢some e)
        go false e = refl

        not_zero : eqb (form_refusal bs) 0 ≡ false
        not_zero = go (eqb (form_refusal bs) 0) d.frame

    -- it does not: the request is judged against the space, by the rows behind 5
    module _ {q : Request} (d : Decodes bs (Ok q)) where
      pub asked : refusal m bs area ≡ space_refusal m (frame_of q)
      asked =
          is_judged
          ∙ ap (λ n. cond (eqb n 0) (space_refusal m (decode bs)) n) (sym d.number)
          ∙ ap (space_refusal m) (sym (asked-frame d))

-- on a sound space all is there for it, if it is a look-up
pub ready_for : {bs : List ℕ} {q : Request} (m : Model) → Decodes bs (Ok q) → space_refusal m (frame_of q) ≡ 0
    → Sound m
    → ReadyFor m (frame_of q)
unfolding form_refusal space_refusal
ready_for {bs} {q} m d e s l =
    let f = frame_of q in
    record {
      room =
          room-left m f l
          (ap wrong_party (asked-frame d) ∙ none_applies (form_rows bs (decode bs)) refl (sym d.number) 3)
          (none_applies (admission_rows m f ++ room_rows m f) refl e 0) s;
      numbered = s.consistent.ordered.entries;
    }

-- and it ends as the rules say
pub ends_same : {bs : List ℕ} {q : Request} (m : Model) (area : ℕ) → refusal m bs area ≡ 0 → Decodes bs (Ok q)
    → Sound m
    → (k : ℕ) (x : Ending) → EndsAs (frame_of q) x → let own = (own_part m (frame_of q)).model in
    SameBefore k m own → Bounded own → finished_by x k own ≡ finish (frame_of q) own
ends_same {bs} {q} m area e d s k x y same b =
    let c = clear m bs area e in
    let f = asked-frame d in
    finish-same (frame_of q) m s (subst⁻¹ (λ g. Admitted g m) f (admitted m bs area c s.lasting))
    (ap (λ (g : Frame). is_operation g.op) f ∙ is_one bs c.operation) k x y same b

module _ (ws bs area : List ℕ) (h : step_area ≤ length area) {q : Request} (d : Decodes bs (Ok q))
    (e : space_refusal (view ws) (frame_of q) ≡ 0) (s : Sound (view ws)) (ws₁ : List ℕ) where
  abbrev own : Model
  own = (own_part (view ws) (frame_of q)).model

  finished_same : (k : ℕ) (x : Ending) → EndsAs (frame_of q) x → SameBefore k (view ws) (view ws₁) → view ws₁ ≡ own
      → finished_by x k (view ws₁) ≡ finish (frame_of q) own
  finished_same k x y same o =
      ap (finished_by x k) o
      ∙ ends_same (view ws) (length area) (asked (view ws) bs (length area) h d ∙ e) d s k x y
      (subst (SameBefore k (view ws)) o same) (subst Bounded o (view-bounded ws₁))

-- ---- what is allowed
-- the bells of a frame, and that it has none
abbrev pub bells : Model → Frame → List Record
bells m f = ringing (made_public m f) m.registrations

abbrev pub Silent : Model → Frame → Type 0
Silent m f = bells m f ≡ []

ends-none : (d : Done) → ending_with [] d ≡ d
ends-none d = ap (λ rs. record { model = d.model; records = rs }) (append-nil d.records)

-- a step's outcome, where the number n is given
abbrev outcome : List ℕ → List ℕ → ℕ → Outcome
outcome ws bs n = cond (eqb n 0) (accepted (carried_out (view ws) (decode bs))) (refused_with (view ws) bs n)

by : (ws bs area : List ℕ) {n : ℕ} → refusal (view ws) bs (length area) ≡ n
    → step (view ws) bs (length area) ≡ outcome ws bs n
unfolding step
by ws bs area e = ap (outcome ws bs) e

refused_by : (ws bs area : List ℕ) {n : ℕ} → refusal (view ws) bs (length area) ≡ n → (n ≡ 0 → ⊥)
    → step (view ws) bs (length area) ≡ refused_with (view ws) bs n
refused_by ws bs area {n} e z =
    by ws bs area e
    ∙ ap (λ b. cond b (accepted (carried_out (view ws) (decode bs))) (refused_with (view ws) bs n)) (ne_eqb n 0 z)

module _ {ws bs area ws' area' : List ℕ} {returned : ℕ} where
  -- what the rules give, of a refused frame
  gives : (o : Outcome) → step (view ws) bs (length area) ≡ o → view ws' ≡ o.model
      → area' ≡ area_after o.records area → returned ≡ length o.records + 65536 * o.number
      → ((o.number ≡ 0 → ⊥) → ws' ≡ ws) → Stepped ws bs area ws' returned area'
  gives o e v b r u =
      record {
        answered = record { records = o.records; count = length o.records; number = o.number; area = area' };
        allowed =
            record {
              space = λ _. v ∙ sym (ap (λ (x : Outcome). x.model) e);
              records = λ _. sym (ap (λ (x : Outcome). x.records) e);
              count = refl;
              number = sym (ap (λ (x : Outcome). x.number) e);
              bytes = b;
              unchanged = u;
            };
        returns = r;
        leaves = refl;
      }

  -- the area is too short for a record
  pub stepped_short : length area < step_area → ws' ≡ ws → area' ≡ area → returned ≡ 65536 * area_refused
      → Stepped ws bs area ws' returned area'
  unfolding refused_with area_after answer_bytes
  stepped_short h s a r =
      let short = judged_by (view ws) bs (length area) true (lt-ltb (length area) step_area h) in
      gives (refused_with (view ws) bs area_refused) (refused_by ws bs area short (λ z. omega arith)) (ap view s) a r
      (λ k. s)

  module _ (h : step_area ≤ length area) where
    -- one refused record
    pub stepped-refused : {n : ℕ} → refusal (view ws) bs (length area) ≡ n → (n ≡ 0 → ⊥) → ws' ≡ ws
        → (returned ≡ 1 + 65536 * n) × Adds (refused bs n ∷ []) area area' 0 1 → Stepped ws bs area ws' returned area'
    unfolding refused_with
    stepped-refused {n} e z s a =
        let y = ap (λ k. eqb k area_refused) (sym e) ∙ not_short (view ws) bs (length area) h in
        gives (record { model = view ws; records = refused bs n ∷ []; number = n })
        (refused_by ws bs area e z
        ∙ ap (λ b. record { model = view ws; records = cond b [] (refused bs n ∷ []); number = n }) y)
        (ap view s) a.1.bytes a.0 (λ k. s)

    module _ {q : Request} (d' : Decodes bs (Ok q)) where
      -- carried out: the frame's own record, then what it ends with, which is the rules' finish on a sound space, and
      -- the bells
      pub stepped-sound : {a₁ : List ℕ} {own : Record} {n : ℕ} (d : Done) → space_refusal (view ws) (frame_of q) ≡ 0
          → (Sound (view ws) → own ≡ (own_part (view ws) (frame_of q)).own) → Adds (own ∷ []) area a₁ 0 n
          → (Sound (view ws) → d ≡ ending_with (bells (view ws) (frame_of q))
          (finish (frame_of q) (own_part (view ws) (frame_of q)).model))
          → Does d ws' a₁ area' n returned → Stepped ws bs area ws' returned area'
      unfolding carried_out accepted
      stepped-sound {own = own} d e o a ends f =
          let all = adds_then (omega arith) a f.adds in
          let zero = asked (view ws) bs (length area) h d' ∙ e in
          let same = by ws bs area zero ∙ ap (λ g. accepted (carried_out (view ws) g)) (sym (asked-frame d')) in
          record {
            answered = record { records = own ∷ d.records; count = returned; number = 0; area = area' };
            allowed =
                record {
                  space = λ s.
                      f.model
                      ∙ ap (λ (b : Done). b.model) (ends (s refl))
                      ∙ sym (ap (λ (x : Outcome). x.model) same);
                  records = λ s.
                      ap₂ (λ r (b : Done). r ∷ b.records) (o (s refl)) (ends (s refl))
                      ∙ sym (ap (λ (x : Outcome). x.records) same);
                  count = omega (arith, all.counts);
                  number = sym (ap (λ (x : Outcome). x.number) same);
                  bytes = all.bytes;
                  unchanged = λ z. absurd (z refl);
                };
            returns = omega arith;
            leaves = refl;
          }

      -- where nobody hears of anything
      pub stepped_silent : {a₁ : List ℕ} {own : Record} {n : ℕ} (d : Done) → space_refusal (view ws) (frame_of q) ≡ 0
          → (Sound (view ws) → own ≡ (own_part (view ws) (frame_of q)).own) → Adds (own ∷ []) area a₁ 0 n
          → (Sound (view ws) → d ≡ finish (frame_of q) (own_part (view ws) (frame_of q)).model)
          → (Sound (view ws) → Silent (view ws) (frame_of q)) → Does d ws' a₁ area' n returned
          → Stepped ws bs area ws' returned area'
      stepped_silent d e o a ends silent f =
          stepped-sound d e o a
          (λ s. let last = finish (frame_of q) (own_part (view ws) (frame_of q)).model in
          ends s ∙ sym (ap (λ rs. ending_with rs last) (silent s) ∙ ends-none last)) f

      -- where the code goes by the frame's kind, and service from a row on; with the bells behind
      module _ {ws₁ a₁ : List ℕ} {own : Record} {n : ℕ} (k : ℕ) (e : space_refusal (view ws) (frame_of q) ≡ 0)
          (c : (Sound (view ws) → Carries (own_part (view ws) (frame_of q)) ws₁ own)
          × SameBefore k (view ws) (view ws₁))
          (a : Adds (own ∷ []) area a₁ 0 n) (x : Ending) (y : EndsAs (frame_of q) x) where
        pub stepped-done : (Sound (view ws) → Silent (view ws) (frame_of q))
            → Does (finished_by x k (view ws₁)) ws' a₁ area' n returned → Stepped ws bs area ws' returned area'
        stepped-done silent f =
            stepped_silent (finished_by x k (view ws₁)) e (λ s. (c.0 s).own) a
            (λ s. finished_same ws bs area h d' e s ws₁ k x y c.1 (c.0 s).model) silent f

        pub stepped-rung : {a₂ : List ℕ} {j : ℕ} {rs : List Record} → record_size * n ≤ length a₁
            → Does (finished_by x k (view ws₁)) ws' a₁ a₂ n j → Adds rs a₂ area' j returned
            → (Sound (view ws) → rs ≡ bells (view ws) (frame_of q)) → Stepped ws bs area ws' returned area'
        stepped-rung {rs = rs} room f b rung =
            stepped-sound (ending_with rs (finished_by x k (view ws₁))) e (λ s. (c.0 s).own) a
            (λ s. ap₂ ending_with (rung s) (finished_same ws bs area h d' e s ws₁ k x y c.1 (c.0 s).model))
            (does-ending room f b)

-- and where nothing follows its own record
module _ {ws bs area ws₁ a₁ : List ℕ} {own : Record} {n : ℕ} (h : step_area ≤ length area) {q : Request}
    (d : Decodes bs (Ok q)) where
  pub stepped_quiet : space_refusal (view ws) (frame_of q) ≡ 0
      → (Sound (view ws) → Carries (own_part (view ws) (frame_of q)) ws₁ own) → SameBefore 0 (view ws) (view ws₁)
      → Adds (own ∷ []) area a₁ 0 n → EndsAs (frame_of q) Quiet → (Sound (view ws) → Silent (view ws) (frame_of q))
      → Stepped ws bs area ws₁ n a₁
  stepped_quiet e c same a y silent =
      stepped-done h d 0 e (c, same) a _ y silent
      (does_as (sym (quiet-ends 0 (view ws₁) (view-bounded ws₁).entries_fit)) (does-nothing _ _ _))

-- a refusal that is handed on
module _ {ws area ws' area' : List ℕ} {hs : Hints} (u : Unchanged ws area ws' area' hs) where
  pub refused_on : (e : Refusal) (q : Request) (r : Result ℕ Refusal) → IsErrAnd r (λ y. y ≡ e)
      → number e ≡ space_refusal (view ws) (frame_of q) → Taken ws q area r ws' area' hs
  refused_on e q r i n =
      let p = err_from_is_err_and r i in
      subst (λ x. Taken ws q area x ws' area' hs) (sym p.1) (ap number p.2 ∙ n, u)

  pub frame_refused : (e : Refusal) (bs : List ℕ) (r : Result ℕ Refusal) → IsErrAnd r (λ y. y ≡ e)
      → refusal (view ws) bs (length area) ≡ number e → FrameTaken ws bs area r ws' area' hs
  frame_refused e bs r i n =
      let p = err_from_is_err_and r i in
      subst (λ x. FrameTaken ws bs area x ws' area' hs) (sym p.1) (n ∙ ap number (sym p.2), u)

-- a frame that asks for q, once q is taken up
module _ (ws bs area ws' area' : List ℕ) (hs : Hints) {q : Request} (h : step_area ≤ length area)
    (d : Decodes bs (Ok q)) where
  pub taken_up : (r : Result ℕ Refusal) → Taken ws q area r ws' area' hs → FrameTaken ws bs area r ws' area' hs
  taken_up (Ok n) t = t bs d
  taken_up (Err e) t = (asked (view ws) bs (length area) h d ∙ sym t.0, t.1)
