-- What a frame ends with, part by part.
use Prim.Native.Nat.{ℕ, ◌+◌, ◌*◌, ◌≤◌, ◌-◌}
use mathlib.Core.Bool.{Bool, true, false, not, cond}
use mathlib.Core.Logic.{⊎_elim}
use mathlib.Core.Path.{◌≡◌, refl, sym, ap, ap₂, ◌∙◌, subst, subst⁻¹, subst₂}
use mathlib.Core.List.Memᴰ
use mathlib.Core.List.{List, ◌++◌, Memᴰ, [], ◌∷◌, append-nil}
use native.Mathlib.Omega.{arith}
use lib.ListN.{length, length-map, length-append, take, drop, take-append-drop}
use borrow.Author.Tests.{eqb-true}
use lib.Dec.{eqb}
use Rattle.rules.specs.declared.LookUp.{LookUp}
use Rattle.rules.specs.Lists.{filterb}
use Rattle.rules.specs.Numbers.{record_size, max_txns, max_waits, max_entries, op_tick}
use Rattle.rules.specs.State.{Model, with_waits, Bounded}
use Rattle.rules.specs.Done.{Done, quiet, Carried}
use Rattle.rules.specs.Frame.{Frame, is_tick, serves, is_operation}
use Rattle.rules.specs.Records.{nothing, exception}
use Rattle.rules.specs.Step.{finish, own_part}
use Rattle.rules.specs.Closing.{is_over, close_waits, ends_conflicts}
use Rattle.rules.specs.Sound.{Ahead, NoneFor, Sound}
use Rattle.rules.specs.Service.{service}
use Rattle.rules.specs.Tick.{lapsed, tick, ended_txns, abort_all, drop_ended, unregistered}
use Rattle.rules.specs.Words.{view}
use Rattle.rules.proofs.BoolLaws.{bool_cases, cond_cases}
use Rattle.rules.proofs.Growth.{exceptions, lapsed_paid}
use Rattle.rules.proofs.ListLaws.{filter_pass, length-filter, count_mem}
use Rattle.rules.proofs.SoundLaws.{service-ahead, none_existing, own-ahead}
use Rattle.rules.proofs.ViewLaws.{view-bounded}
use Rattle.finish.specs.Ending.{Ending, Quiet, Nothings, Service, Both, Tick, in_tick, served, closing, EndsAs}
use Rattle.finish.specs.Ending.{ended_by, some_if_exists, closed_in_vain, closed_by, finished_by, first_free}
use Rattle.finish.specs.Does.{Does}
use Rattle.finish.proofs.AddsLaws.{does-then}
use Rattle.sound.proofs.Events.{Admitted}
use Rattle.sound.proofs.OwnPartLaws.{part_at}
use Rattle.sound.proofs.ConflictLaws.{left_of, nobody_over}
use Rattle.sound.proofs.FreedLaws.{own_freed, none_expired}
use Rattle.sound.proofs.OrderLaws.{InOrder, lapsed-order}
use Rattle.holds.specs.Sweep.{SameBefore}
use Rattle.finish.specs.From.{service_from}
use Rattle.finish.proofs.FromLaws.{service-idle, service-whole, from_none, service_from_lem, from_counts}

-- none is over: all wait on
pub none-closed : (m : Model) → length (close_waits m).records ≡ 0 → m ≡ (close_waits m).model
unfolding close_waits
none-closed m e =
    ap (λ ws. with_waits ws m) (sym (filter_pass (λ w. not (due w)) m.waits (λ w i. ap not (not_due w i))))
  where
    due : LookUp → Bool
    due w = is_over m w

    not_due : (w : LookUp) → Memᴰ w m.waits → due w ≡ false
    not_due w i =
        ⊎_elim (λ t. absurd (omega (arith, e, count_mem due i t, length-map (filterb due m.waits) nothing)))
        (λ t. t) (bool_cases (due w))

-- what a frame ends with, from what has ended and what service gave
abbrev closed_after : Ending → Done → Done → Done
closed_after e d v =
    let c = closed_by e v.model in
    record { model = c.model; records = d.records ++ v.records ++ c.records }

-- a frame that ends with nothing more does no more
pub quiet-ends : (k : ℕ) (m : Model) → length m.entries ≤ max_entries → finished_by Quiet k m ≡ quiet m
quiet-ends k m b = ap (closed_after Quiet (quiet m)) (from_none max_entries m b)

-- one that ends with service alone, or with nothings alone
pub service-ends : (k : ℕ) (m : Model) → finished_by Service k m ≡ service_from k m
service-ends k m =
    let d = service_from k m in
    ap (λ rs. record { model = d.model; records = rs }) (append-nil d.records)

pub nothings-end : (k : ℕ) (m : Model) → length m.entries ≤ max_entries → finished_by Nothings k m ≡ closed_in_vain m
nothings-end k m b = ap (closed_after Nothings (quiet m)) (from_none max_entries m b)

module _ (ws : List ℕ) (e : Ending) where
  -- at most 8 exceptions
  pub few-ended : length (ended_by e (view ws)).records ≤ max_txns
  few-ended =
      cond_cases (λ (d : Done). length d.records ≤ max_txns) (in_tick e)
      (λ t. omega (arith, exceptions (view ws), (view-bounded ws).txns_fit)) (λ t. omega arith)

-- a found for each look-up that waits no longer
pub few-served : (ws : List ℕ) (k : ℕ)
    → length (service_from k (view ws)).records + length (service_from k (view ws)).model.waits ≤ max_waits
few-served ws k = omega (arith, from_counts k (view ws), (view-bounded ws).waits_fit)

pub finish_parts : {ws₁ ws₂ ws₃ a a₁ a₂ a₃ : List ℕ} {c c₁ c₂ c₃ first : ℕ} (ws : List ℕ) (e : Ending) (k : ℕ)
    → record_size * c ≤ length a → Does (ended_by e (view ws)) ws₁ a a₁ c c₁ → first ≡ first_free e k (c₁ - c)
    → Does (service_from first (view ws₁)) ws₂ a₁ a₂ c₁ c₂
    → Does (closed_by e (view ws₂)) ws₃ a₂ a₃ c₂ c₃ → Does (finished_by e k (view ws)) ws₃ a a₃ c c₃
finish_parts {ws₂ = ws₂} {ws₃ = ws₃} {a₁ = a₁} {a₂ = a₂} {a₃ = a₃} {c} {c₁} {c₂} {c₃} ws e k room p i q r =
    let ended : c₁ - c ≡ length (ended_by e (view ws)).records = omega (arith, p.adds.counts) in
    let q' = subst₂ (λ j m. Does (service_from j m) ws₂ a₁ a₂ c₁ c₂) (i ∙ ap (first_free e k) ended) p.model q in
    let r' = subst (λ m. Does (closed_by e m) ws₃ a₂ a₃ c₂ c₃) q'.model r in
    does-then room (does-then room p q') r'

-- the parts are the rules' own: between ticks deadlines lie ahead, and most frames end no conflict
closed_same : (m : Model) → Ahead m → closed_in_vain m ≡ close_waits m
closed_same m a =
    ⊎_elim (λ t. rw t) (λ t. rw t (sym (none_existing m a t))) (bool_cases (some_if_exists m))

-- one part behind another
abbrev behind : Done → Done → Done
behind d x = record { model = x.model; records = d.records ++ x.records }

-- with the whole of service
abbrev served_by : Ending → Model → Done
served_by e m = cond (served e) (service m) (quiet m)

whole_same : (f : Frame) (e : Ending) (m : Model) → EndsAs f e → (is_tick f.op ≡ false → Ahead m)
    → (ends_conflicts f ≡ false → close_waits (left_of f m) ≡ quiet (left_of f m))
    → closed_after e (ended_by e m) (served_by e (ended_by e m).model) ≡ finish f m
unfolding finish
whole_same f e m k a h =
    ap₂ (λ t s. parts t s (closing e)) (sym k.tick) (sym k.service)
    ∙ ap (parts (is_tick f.op) (serves f)) (sym k.closes)
    ∙ same (is_tick f.op) (serves f) (ends_conflicts f) a h
  where
    -- a frame's end, by what holds of it and by the nothings it ends with: the code's, and the rules'
    ends : (Model → Done) → Bool → Bool → Done
    ends closes t s =
        let ended = cond t (lapsed m) (quiet m) in
        let served = cond s (service ended.model) (quiet ended.model) in
        let closed = closes served.model in
        record { model = closed.model; records = ended.records ++ served.records ++ closed.records }

    parts : Bool → Bool → Bool → Done
    parts t s c = ends (λ n. cond t (close_waits n) (cond c (closed_in_vain n) (quiet n))) t s

    same : (t s c : Bool) → (t ≡ false → Ahead m)
        → (c ≡ false → close_waits (cond s (service m).model m) ≡ quiet (cond s (service m).model m))
        → parts t s c ≡ ends close_waits t s
    same true s c a h = refl
    same false true true a h = ap (behind (service m)) (closed_same (service m).model (service-ahead m (a refl)))
    same false false true a h = ap (behind (quiet m)) (closed_same m (a refl))
    same false true false a h = ap (behind (service m)) (sym (h refl))
    same false false false a h = ap (behind (quiet m)) (sym (h refl))

-- a record for each who waits at most, and registrations stay, where no tick ends anything
few-closed : (m : Model) → length (closed_in_vain m).records ≤ length m.waits
unfolding close_waits
few-closed m =
    cond_cases (λ (d : Done). length d.records ≤ length m.waits) (some_if_exists m)
    (λ _. omega (arith, length-map (filterb (is_over m) m.waits) nothing, length-filter (is_over m) m.waits))
    (λ _. omega arith)

pub both-few : (k : ℕ) (m : Model) → length (finished_by Both k m).records ≤ length m.waits
both-few k m =
    let served = service_from k m in
    let closed = closed_in_vain served.model in
    omega (
      arith,
      from_counts k m,
      few-closed served.model,
      length-append served.records closed.records,
    )

pub both-registrations : (k : ℕ) (m : Model) → (finished_by Both k m).model.registrations ≡ m.registrations
unfolding service_from close_waits
both-registrations k m =
    cond_cases (λ (d : Done). d.model.registrations ≡ m.registrations) (some_if_exists (service_from k m).model)
    (λ _. refl) (λ _. refl)

-- in what a step looks at again nothing that stayed is available
mem_take : {A : Type 0} {x : A} (k : ℕ) (xs : List A) → Memᴰ x (take k xs) → Memᴰ x xs
mem_take k xs i = subst (Memᴰ _) (take-append-drop k xs) (Memᴰ.append_left (drop k xs) i)

pub none_of : {A : Type 0} (xs : List A) → length xs ≡ 0 → xs ≡ []
none_of [] e = refl
none_of (x ∷ xs) e = absurd (omega arith)

module _ (f : Frame) (m : Model) (s : Sound m) (a : Admitted f m) (o : is_operation f.op ≡ true) (k : ℕ) where
  abbrev own : Model
  own = (own_part m f).model

  freed : is_tick f.op ≡ false → serves f ≡ true → SameBefore k m own → service_from k own ≡ service own
  freed t v same =
      let r = own_freed m f s a o t v in
      service_from_lem k own r.order
      (λ w i e j. r.unreached w i e (mem_take k m.entries (subst (Memᴰ e) same j)))

  -- in a tick that ends no transaction nobody is served
  idle : is_tick f.op ≡ true → length (lapsed own).records ≡ 0 → NoneFor (lapsed own).model
  unfolding lapsed abort_all drop_ended tick unregistered
  idle t e =
      let ticks = ap (λ (c : Carried). c.model) (part_at m f (eqb-true f.op op_tick t)) in
      let none = none_of (ended_txns own) (sym (length-map (ended_txns own) exception) ∙ e) in
      subst⁻¹ (λ ts. NoneFor (drop_ended (abort_all ts own))) none
      (subst⁻¹ (λ n. NoneFor (drop_ended n)) ticks (none_expired m _ s))

  ticking : is_tick f.op ≡ true → InOrder own
  unfolding tick unregistered
  ticking t =
      let ticks = ap (λ (c : Carried). c.model) (part_at m f (eqb-true f.op op_tick t)) in
      subst⁻¹ InOrder ticks (s.consistent.ordered.entries, s.consistent.below)

  ticked : is_tick f.op ≡ true → Bounded own
      → let n = length (lapsed own).records in
      service_from (first_free Tick k n) (lapsed own).model ≡ service (lapsed own).model
  ticked t b =
      let n = length (lapsed own).records in
      let fit : length (lapsed own).model.entries ≤ max_entries =
      omega (arith, (lapsed_paid own).entries, b.entries_fit) in
      ⊎_elim (λ z. rw z (from_none max_entries (lapsed own).model fit
      ∙ sym (service-idle (lapsed own).model (idle t (eqb-true n 0 z)))))
      (λ z. rw z (service-whole (lapsed own).model (lapsed-order own (ticking t)))) (bool_cases (eqb n 0))

  -- service from the row on is the whole of it
  from_same : (e : Ending) → EndsAs f e → SameBefore k m own → Bounded own
      → let ended = ended_by e own in
      service_from (first_free e k (length ended.records)) ended.model ≡ served_by e ended.model
  from_same Quiet x same b = from_none max_entries own b.entries_fit
  from_same Nothings x same b = from_none max_entries own b.entries_fit
  from_same Service x same b = freed x.tick x.service same
  from_same Both x same b = freed x.tick x.service same
  from_same Tick x same b = ticked x.tick b

  -- the parts are the rules' own
  pub finish-same : (e : Ending) → EndsAs f e → SameBefore k m own → Bounded own → finished_by e k own ≡ finish f own
  finish-same e x same b =
      ap (closed_after e (ended_by e own)) (from_same e x same b)
      ∙ whole_same f e own x (λ t. own-ahead m f o t s.ahead) (nobody_over m f s o a)
