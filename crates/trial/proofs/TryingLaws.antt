-- A trial under way: how it begins, and how it goes on with a frame and with a tick.
use Prim.Native.Nat.{ℕ, zero, suc, ◌+◌, ◌*◌, ◌%◌, ◌≤◌, ◌<◌}
use mathlib.Core.Bool.{cond, ◌&&◌}
use mathlib.Core.Path.{◌≡◌, refl, sym, ap, ap₂, ◌∙◌, fun_ext, subst, subst⁻¹}
use mathlib.Core.List.{List, [], ◌∷◌, ◌++◌, map, map-map}
use native.Mathlib.Omega.{arith}
use lib.Dec.{eqb}
use lib.ListN.{length, drop, length-append}
use Rattle.rules.specs.declared.Record.{Record}
use Rattle.rules.specs.Lists.{joined}
use Rattle.rules.specs.Numbers.{record_size, step_records, step_area, kind_nothing, kind_committed, kind_exception}
use Rattle.rules.specs.State.{empty}
use Rattle.rules.specs.Words.{up_to, view}
use Rattle.rules.specs.Records.{area_after}
use Rattle.rules.specs.Sound.{Sound}
use Rattle.rules.specs.Step.{Outcome, step}
use Rattle.rules.specs.SerialRun.{Logged}
use Rattle.rules.specs.Log.{log_from, records_of}
use Rattle.rules.specs.Allowed.{Allowed, Stepped}
use Rattle.rules.proofs.ListLaws.{count, length-filter}
use Rattle.rules.proofs.Capacity.{step_fits}
use Rattle.rules.proofs.ViewLaws.{view-bounded}
use Rattle.sound.proofs.SoundProof.{sound_empty, sound-step}
use Rattle.hints.specs.declared.known.Hints.{Hints}
use Rattle.hints.specs.Hints.{Reliable}
use Rattle.step.specs.Carries.{StaysReliable}
use Rattle.tables.proofs.UpToLaws.{up_to_ext, length-up_to}
use Rattle.trial.specs.declared.Pane.{Pane}
use Rattle.trial.specs.declared.Progress.{Progress}
use Rattle.trial.specs.declared.rounds.Trial.{Trial}
use Rattle.trial.specs.declared.Stage.TheVariants.{Creates}
use Rattle.trial.specs.Setup.{pane_count, pane_at, panes_in}
use Rattle.trial.specs.Panes.{ticked}
use Rattle.trial.specs.Trial.{Trier, in_stage, Round, hears_all, send, triers, tally}
use Rattle.trial.specs.Trial.{trial, counts_of, counts_in}
use Rattle.trial.specs.Progress.{fresh, at, counts_at, Room, heard_by, follows, records_at, held_by, Each}
use Rattle.trial.specs.Trying.{in_words, trier_at, triers_at, Trying, Begun, Underway}
use Rattle.trial.specs.Trying.{most_frames, Goes}
use Rattle.trial.proofs.UpToMore.{as_up_to, map-up_to}
use Rattle.trial.proofs.WordLaws.{in_record, records_back, ticked-same}
use Rattle.trial.proofs.HeardLaws.{in_trier, heard-same, heard-trier, follows-adds}
use Rattle.trial.proofs.LogLaws.{logged, log-one, log_more, records_more, tally_more}

-- what is answered to a frame: the rules' records, at most 25
pub answered-few : {space bs area space' area' : List ℕ} {returned : ℕ} → Sound (view space)
    → Stepped space bs area space' returned area'
    → (returned % 65536 ≡ length (step (view space) bs (length area)).records) × (returned % 65536 ≤ step_records)
answered-few {space} {bs} {area} {returned = returned} sound s =
    let al = s.allowed in
    let same = ap (λ (l : List Record). length l) (al.records (λ _. sound)) in
    let few = (step_fits (view space) bs (length area) sound (view-bounded space)).1 in
    (omega (arith, s.returns, al.count, same, few), omega (arith, s.returns, al.count, same, few))

-- the panes become others of the same setup
panes_become : (f g : Trier → Trier) (ws : List ℕ) (xs ys : List Progress) (ts : List Trier)
    → ((x : Trier) → in_trier (f x) ≡ g (in_trier x))
    → ((i : ℕ) → i < pane_count ws → g (trier_at ws i (at xs i)) ≡ trier_at ws i (at ys i))
    → map in_trier ts ≡ triers_at ws xs → map in_trier (map f ts) ≡ triers_at ws ys
panes_become f g ws xs ys ts same each is =
    map-map in_trier f ts
    ∙ ap (λ h. map h ts) (fun_ext same)
    ∙ sym (map-map g in_trier ts)
    ∙ ap (map g) is
    ∙ map-up_to g (λ i. trier_at ws i (at xs i)) (pane_count ws)
    ∙ up_to_ext (λ i. g (trier_at ws i (at xs i))) (λ i. trier_at ws i (at ys i)) (pane_count ws) each

-- the records that stand in front of an area
back : (rs : List Record) (area : List ℕ) → records_at (area_after rs area) (length rs) ≡ map in_record rs
unfolding area_after
back rs area = records_back rs (drop (record_size * length rs) area)

-- what a record adds to each count
adds-commit : (p : Pane) (a : Record) (x : Progress)
    → (heard_by p a x).commits ≡ x.commits + cond (eqb a.kind kind_committed) 1 0
unfolding heard_by
adds-commit p a x = refl

adds-exception : (p : Pane) (a : Record) (x : Progress)
    → (heard_by p a x).exceptions ≡ x.exceptions + cond (eqb a.kind kind_exception) 1 0
unfolding heard_by
adds-exception p a x = refl

adds-nothing : (p : Pane) (a : Record) (x : Progress)
    → (heard_by p a x).nothings ≡ x.nothings + cond (eqb a.kind kind_nothing) 1 0
unfolding heard_by
adds-nothing p a x = refl

-- one frame more
pub trying-sent : {ws : List ℕ} {k : ℕ} {r : Round} {space : List ℕ} {hints : Hints} {xs : List Progress}
    {bs area space' area' : List ℕ} {hints' : Hints} {returned : ℕ} {ys : List Progress}
    → Trying ws k r space hints xs → length area ≡ step_area
    → Stepped space bs area space' returned area' → StaysReliable space space' hints'
    → Each ws (follows ws (records_at area' (returned % 65536))) xs ys
    → Trying ws (k + 1) (send bs r) space' hints' ys
unfolding send
trying-sent {ws} {k} {r} {space} {xs = xs} {bs} {area} {space'} {area' = area'} {returned = returned} {ys} t long
    s known each =
    record {
      model = space_is;
      sound = subst⁻¹ Sound (al.space (λ _. t.sound)) (sound-step (view space) bs (length area) t.sound);
      reliable = known t.sound;
      log = log_more r.sent r.model t.log bs;
      few = few;
      panes =
          panes_become (hears_all rs) (hears_all (map in_record rs)) ws xs ys r.panes (heard-same rs)
          (λ i h. heard-trier ws (map in_record rs) i (at xs i) ∙ ap (trier_at ws i) (sym (at_is i h))) t.panes;
      counts = λ i h.
          let before = t.counts i h in
          record {
            commits = one_more i h (λ x. x.commits) kind_committed adds-commit before.commits;
            exceptions = one_more i h (λ x. x.exceptions) kind_exception adds-exception before.exceptions;
            nothings = one_more i h (λ x. x.nothings) kind_nothing adds-nothing before.nothings;
          };
    }
  where
    al : Allowed space bs area space' s.answered
    al = s.allowed

    o : Outcome
    o = step r.model bs step_area

    rs : List Record
    rs = o.records

    same : step (view space) bs (length area) ≡ o
    same = ap₂ (λ m n. step m bs n) t.model long

    space_is : view space' ≡ o.model
    space_is = al.space (λ _. t.sound) ∙ ap (λ (x : Outcome). x.model) same

    records_are : s.answered.records ≡ rs
    records_are = al.records (λ _. t.sound) ∙ ap (λ (x : Outcome). x.records) same

    counted : returned % 65536 ≡ length s.answered.records
    counted =
        (answered-few t.sound s).0 ∙ ap (λ (l : List Record). length l) (sym (al.records (λ _. t.sound)))

    heard_are : records_at area' (returned % 65536) ≡ map in_record rs
    heard_are =
        ap₂ records_at (s.leaves ∙ al.bytes) counted ∙ back s.answered.records area ∙ ap (map in_record) records_are

    at_is : (i : ℕ) → i < pane_count ws → at ys i ≡ follows ws (map in_record rs) i (at xs i)
    at_is i h = each.each i h ∙ ap (λ l. follows ws l i (at xs i)) heard_are

    log : List Logged
    log = log_from empty r.sent

    log_is : log_from empty (r.sent ++ (bs ∷ [])) ≡ log ++ (logged r.model bs ∷ [])
    log_is = log-one r.sent r.model t.log bs

    few : length (records_of (log_from empty (r.sent ++ (bs ∷ [])))) ≤ step_records * (k + 1)
    few =
        let is =
        ap (λ (l : List Logged). length (records_of l)) log_is
        ∙ ap (λ (l : List Record). length l) (records_more log (logged r.model bs))
        ∙ length-append (records_of log) rs in
        let n = answered-few t.sound s in
        omega (arith, is, t.few, n.1, counted, ap (λ (l : List Record). length l) records_are)

    one_more : (i : ℕ) → i < pane_count ws → (get : Progress → ℕ) (kind : ℕ)
        → ((p : Pane) (a : Record) (x : Progress) → get (heard_by p a x) ≡ get x + cond (eqb a.kind kind) 1 0)
        → get (at xs i) ≡ tally kind (suc i) log
        → get (at ys i) ≡ tally kind (suc i) (log_from empty (r.sent ++ (bs ∷ [])))
    one_more i h get kind adds e =
        ap get (at_is i h)
        ∙ follows-adds get kind adds ws rs i (at xs i)
        ∙ ap (λ n. n + count (λ (a : Record). eqb a.kind kind && eqb a.party (suc i)) rs) e
        ∙ sym (tally_more kind (suc i) log (logged r.model bs))
        ∙ ap (tally kind (suc i)) (sym log_is)

-- more frames may have been sent
pub trying_more : {ws : List ℕ} {k j : ℕ} {r : Round} {space : List ℕ} {hints : Hints} {xs : List Progress}
    → Trying ws k r space hints xs → k ≤ j → Trying ws j r space hints xs
trying_more t h =
    record {
      model = t.model;
      sound = t.sound;
      reliable = t.reliable;
      log = t.log;
      few = omega (arith, t.few, h);
      panes = t.panes;
      counts = t.counts;
    }

-- there is room to count what a frame is answered
pub room_for : {ws : List ℕ} {k n : ℕ} {r : Round} {space : List ℕ} {hints : Hints} {xs : List Progress}
    → Trying ws k r space hints xs → k ≤ most_frames → n ≤ step_records → Room ws n xs
unfolding tally
room_for {r = r} t h few i l =
    let log = log_from empty r.sent in
    let c = t.counts i l in
    let most : (kind : ℕ) → tally kind (suc i) log ≤ length (records_of log) =
    λ kind. length-filter (λ (a : Record). eqb a.kind kind && eqb a.party (suc i)) (records_of log) in
    omega (
      arith,
      c.commits,
      c.exceptions,
      c.nothings,
      most kind_committed,
      most kind_exception,
      most kind_nothing,
      t.few,
      h,
      few,
    )

-- a tick comes, and is not yet sent
abbrev pub held : Round → Round
held r = record { model = r.model; panes = map (λ x. in_stage (ticked x.stage) x) r.panes; sent = r.sent }

pub trying-held : {ws : List ℕ} {k : ℕ} {r : Round} {space : List ℕ} {hints : Hints} {xs ys : List Progress}
    → Trying ws k r space hints xs → ((i : ℕ) → i < pane_count ws → at ys i ≡ held_by (at xs i))
    → Trying ws k (held r) space hints ys
unfolding held_by
trying-held {ws} {r = r} {xs = xs} {ys} t each =
    record {
      model = t.model;
      sound = t.sound;
      reliable = t.reliable;
      log = t.log;
      few = t.few;
      panes =
          panes_become (λ x. in_stage (ticked x.stage) x) (λ x. in_stage (ticked x.stage) x) ws xs ys
          r.panes
          (λ x. ap (λ s. in_stage s x) (ticked-same x.stage)) (λ i h. ap (trier_at ws i) (sym (each i h)))
          t.panes;
      counts = λ i h. let c = t.counts i h in
          record {
            commits = ap (λ (x : Progress). x.commits) (each i h) ∙ c.commits;
            exceptions = ap (λ (x : Progress). x.exceptions) (each i h) ∙ c.exceptions;
            nothings = ap (λ (x : Progress). x.nothings) (each i h) ∙ c.nothings;
          };
    }

-- panes are parties from 1 on
triers_more : (party : ℕ) (ps : List Pane) (p : Pane)
    → triers party (ps ++ (p ∷ []))
    ≡ triers party ps ++ (record { party = party + length ps; pane = p; stage = Creates } ∷ [])
unfolding triers
triers_more party [] p =
    ap (λ (n : ℕ). record { party = n; pane = p; stage = Creates } ∷ []) (omega arith)
triers_more party (q ∷ ps) p =
    let is : suc party + length ps ≡ party + suc (length ps) = omega arith in
    ap (λ (l : List Trier). record { party = party; pane = q; stage = Creates } ∷ l)
    (triers_more (suc party) ps p
    ∙ ap (λ (n : ℕ). triers (suc party) ps ++ (record { party = n; pane = p; stage = Creates } ∷ [])) is)

none_tried : triers 1 [] ≡ []
unfolding triers
none_tried = refl

triers-up_to : (f : ℕ → Pane) (n : ℕ)
    → triers 1 (up_to f n) ≡ up_to (λ i. record { party = suc i; pane = f i; stage = Creates }) n
triers-up_to f zero = none_tried
triers-up_to f (suc n) =
    triers_more 1 (up_to f n) (f n)
    ∙ ap₂ (λ (l : List Trier) (k : ℕ). l ++ (record { party = k; pane = f n; stage = Creates } ∷ []))
    (triers-up_to f n) (omega (arith, length-up_to f n))

-- before the first frame
abbrev pub first_round : List ℕ → Round
first_round ws = record { model = empty; panes = triers 1 (panes_in ws); sent = [] }

pub trying-none : {ws space : List ℕ} {hints : Hints} {xs : List Progress} → view space ≡ empty → Reliable hints empty
    → ((i : ℕ) → i < pane_count ws → at xs i ≡ fresh)
    → Trying ws 0 (first_round ws) space hints xs
unfolding log_from records_of tally in_words
trying-none {ws} {hints = hints} {xs} e h each =
    record {
      model = e;
      sound = subst⁻¹ Sound e sound_empty;
      reliable = subst⁻¹ (Reliable hints) e h;
      log = λ more. refl;
      few = omega arith;
      panes =
          ap (map in_trier) (ap (triers 1) (as_up_to (pane_at ws) (pane_count ws))
          ∙ triers-up_to (pane_at ws) (pane_count ws))
          ∙ map-up_to in_trier (λ i. record { party = suc i; pane = pane_at ws i; stage = Creates }) (pane_count ws)
          ∙ up_to_ext (λ i. in_trier (record { party = suc i; pane = pane_at ws i; stage = Creates }))
          (λ i. trier_at ws i (at xs i)) (pane_count ws) (λ i l. ap (trier_at ws i) (sym (each i l)));
      counts = λ i l. let is = each i l in
          record {
            commits = ap (λ (x : Progress). x.commits) is;
            exceptions = ap (λ (x : Progress). x.exceptions) is;
            nothings = ap (λ (x : Progress). x.nothings) is;
          };
    }

-- ---- under way
-- as long as nothing is sent
pub trying-begun : {ws : List ℕ} {t : Trial} → Begun ws t
    → Trying t.setup.words.now 0 (first_round ws) t.space t.hints t.panes
trying-begun {ws} {t} b =
    subst⁻¹ (λ l. Trying l 0 (first_round ws) t.space t.hints t.panes) b.setup
    (trying-none b.space b.hints (λ i h. b.panes i (omega (arith, t.setup.few, ap pane_count b.setup, h))))

pub underway-first : {ws : List ℕ} {t : Trial} {n : ℕ} → Begun ws t → n ≤ most_frames → Underway n t
underway-first {ws} b h =
    record {
      sent = 0;
      round = first_round ws;
      trying = trying-begun b;
      left = omega (arith, h);
    }

-- its setup stays
pub along : {ws ws' : List ℕ} {k : ℕ} {r : Round} {space : List ℕ} {hints : Hints} {xs : List Progress} → ws ≡ ws'
    → Trying ws k r space hints xs → Trying ws' k r space hints xs
along {k = k} {r} {space} {hints} {xs} e t = subst (λ ws. Trying ws k r space hints xs) e t

module _ {t t' : Trial} where
  -- it has gone on with m frames, and j more may be sent
  pub underway_on : {f : Round → Round} {n : ℕ} (m j : ℕ) → Underway n t → Goes m f t t' → m + j ≤ n → Underway j t'
  underway_on {f} m j u go h =
      record {
        sent = u.sent + m;
        round = f u.round;
        trying = along (sym go.setup) (go.trying u.sent u.round u.trying);
        left = omega (arith, u.left, h);
      }

  -- and goes on with n more
  pub goes_then : {f g : Round → Round} {t'' : Trial} (m n j : ℕ) → Goes m f t t' → Goes n g t' t'' → m + n ≤ j
      → Goes j (λ r. g (f r)) t t''
  goes_then {f} m n j a b h =
      record {
        setup = b.setup ∙ a.setup;
        trying = λ k r x.
            trying_more (along a.setup (b.trying (k + m) (f r) (along (sym a.setup) (a.trying k r x))))
            (omega (arith, h));
      }

  -- as another definition has it
  pub goes_as : {f g : Round → Round} (n : ℕ) → ((r : Round) → f r ≡ g r) → Goes n f t t' → Goes n g t t'
  goes_as n e go =
      record {
        setup = go.setup;
        trying = λ k r x.
            subst (λ y. Trying t.setup.words.now (k + n) y t'.space t'.hints t'.panes) (e r) (go.trying k r x);
      }

-- it has not gone on
pub goes_none : {t : Trial} (n : ℕ) → Goes n (λ r. r) t t
goes_none n = record { setup = refl; trying = λ k r x. trying_more x (omega arith) }

-- a tick has come
pub goes-held : {t t' : Trial} → t'.setup.words.now ≡ t.setup.words.now → t'.space ≡ t.space → t'.hints ≡ t.hints
    → ((i : ℕ) → i < 4 → at t'.panes i ≡ held_by (at t.panes i)) → Goes 0 held t t'
goes-held {t} {t'} e p q each =
    record {
      setup = e;
      trying = λ k r x.
          subst⁻¹ (λ l. Trying t.setup.words.now (k + 0) (held r) l t'.hints t'.panes) p
          (subst⁻¹ (λ l. Trying t.setup.words.now (k + 0) (held r) t.space l t'.panes) q
          (trying_more (trying-held x (λ i h. each i (omega (arith, t.setup.few, h)))) (omega arith)));
    }

-- the counts of a trial that is over
pub counts_are : {ws : List ℕ} {k : ℕ} {space : List ℕ} {hints : Hints} {xs : List Progress}
    → Trying ws k (trial ws) space hints xs → joined (up_to (λ i. counts_at (at xs i)) (pane_count ws)) ≡ counts_in ws
unfolding counts_in
counts_are {ws} {xs = xs} t =
    let log = log_from empty (trial ws).sent in
    ap joined
    (up_to_ext (λ i. counts_at (at xs i)) (λ i. counts_of log (suc i)) (pane_count ws)
    (λ i h. let c = t.counts i h in rw (c.commits, c.exceptions, c.nothings))
    ∙ sym (as_up_to (λ i. counts_of log (suc i)) (pane_count ws)))
