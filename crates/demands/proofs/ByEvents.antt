-- What each event keeps, of a consistent space and of what a reader of frames and records makes of them, holds of every
-- space that frames make of the empty one; and each such space is sound.
use mathlib.Core.Bool.{Bool, true, false, cond, not, ◌&&◌}
use mathlib.Core.Path.{◌≡◌, refl, sym, ap, ◌∙◌, subst⁻¹}
use mathlib.Core.List.{List, [], ◌∷◌, ◌++◌, map}
use Rattle.rules.specs.declared.Record.{Record}
use Rattle.rules.specs.State.{Model, empty}
use Rattle.rules.specs.Frame.{Frame, decode, is_look_up}
use Rattle.rules.specs.Step.{step}
use Rattle.rules.specs.SerialRun.{Logged, was_refused}
use Rattle.rules.specs.Sound.{Consistent, Sound, Lasting}
use Rattle.demands.specs.Machine.{Input}
use Rattle.demands.proofs.Runs.{runs, made, made_keep as keep-made}
use Rattle.sound.proofs.OrderLaws.{InOrder}
use Rattle.sound.proofs.Events.{Heard, asking, saying, heard, Event, Events, over, then}
use Rattle.sound.proofs.EventsProof.{step_events}
use Rattle.sound.proofs.ConsistentProof.{consistent_event}
use Rattle.sound.proofs.SoundProof.{sound-step, sound_empty}

-- who reads frames and records: what it makes of a look-up that arrives, and of a record
pub record Reader (R : Type 0) : Type 0 where
  pub asked : Frame → R → R
  pub reads : Frame → Record → R → R

abbrev pub hears : {R : Type 0} → Reader R → Frame → Heard → R → R
hears k f asking r = k.asked f r
hears k f (saying a) r = k.reads f a r

abbrev pub hears_all : {R : Type 0} → Reader R → Frame → List Heard → R → R
hears_all k f [] r = r
hears_all k f (h ∷ hs) r = hears_all k f hs (hears k f h r)

unfoldable pub reads_log : {R : Type 0} → Reader R → List Logged → R → R
reads_log k [] r = r
reads_log k (l ∷ ls) r = let f = decode l.frame in reads_log k ls (hears_all k f (heard f l.records) r)

hears-append : {R : Type 0} (k : Reader R) (f : Frame) (hs ks : List Heard) (r : R)
    → hears_all k f (hs ++ ks) r ≡ hears_all k f ks (hears_all k f hs r)
hears-append k f [] ks r = refl
hears-append k f (h ∷ hs) ks r = hears-append k f hs ks (hears k f h r)

-- a fold over frames and records reads them so
module _ {R : Type 0} (k : Reader R) (all : Frame → List Record → R → R) (log : List Logged → R → R)
    (all_nil : (f : Frame) (r : R) → all f [] r ≡ r)
    (all_more : (f : Frame) (a : Record) (rs : List Record) (r : R) → all f (a ∷ rs) r ≡ all f rs (k.reads f a r))
    (log-nil : (r : R) → log [] r ≡ r) (log_more : (l : Logged) (ls : List Logged) (r : R) → log (l ∷ ls) r
    ≡ log ls (all (decode l.frame) l.records
    (cond (is_look_up (decode l.frame).op && not (was_refused l.records)) (k.asked (decode l.frame) r) r)))
  where
    reads_all : (f : Frame) (rs : List Record) (r : R) → hears_all k f (map saying rs) r ≡ all f rs r
    reads_all f [] r = sym (all_nil f r)
    reads_all f (a ∷ rs) r = reads_all f rs (k.reads f a r) ∙ sym (all_more f a rs r)

    pub reads-log : (ls : List Logged) (r : R) → reads_log k ls r ≡ log ls r
    unfolding reads_log
    reads-log [] r = sym (log-nil r)
    reads-log (l ∷ ls) r =
        reads-log ls _ ∙ ap (log ls) (one (is_look_up (decode l.frame).op && not (was_refused l.records)))
        ∙ sym (log_more l ls r)
      where
        f : Frame
        f = decode l.frame

        one : (b : Bool) → hears_all k f (cond b (asking ∷ map saying l.records) (map saying l.records)) r
            ≡ all f l.records (cond b (k.asked f r) r)
        one true = reads_all f l.records (k.asked f r)
        one false = reads_all f l.records r

-- What each event keeps, every step keeps, and every list of frames.
abbrev pub Keeps : {R : Type 0} → Reader R → (Model → R → Type 0) → Type 0
Keeps {R} k Q = (f : Frame) (m n : Model) (hs : List Heard) (r : R) → Event f m hs n → Consistent m → Q m r
    → Q n (hears_all k f hs r)

module _ {R : Type 0} (k : Reader R) (Q : Model → R → Type 0) (keeps : Keeps k Q) where
  events_keep : {f : Frame} {m n : Model} {hs : List Heard} (r : R) → Events f m hs n → Consistent m → Q m r
      → Q n (hears_all k f hs r)
  events_keep r over s h = h
  events_keep {f} r (then {m} {n} {o} {hs} {ks} e t) s h =
      subst⁻¹ (Q o) (hears-append k f hs ks r)
      (events_keep (hears_all k f hs r) t (consistent_event e s) (keeps f m n hs r e s h))

  pub runs_keep : (m : Model) (r : R) (is : List Input) → Sound m → Q m r
      → Sound (runs m is).model × Q (runs m is).model (reads_log k (runs m is).log r)
  unfolding runs reads_log
  runs_keep m r [] s h = (s, h)
  runs_keep m r (i ∷ is) s h =
      let f = decode i.frame in
      let o = step m i.frame i.area in
      let e = step_events m i.frame i.area s in
      runs_keep o.model (hears_all k f (heard f o.records) r) is (sound-step m i.frame i.area s)
      (events_keep r e s.consistent h)

  pub made_keep : (r : R) → Q empty r → (is : List Input) → Q (made is) (reads_log k (runs empty is).log r)
  made_keep r h is = (runs_keep empty r is sound_empty h).1

-- of the space alone
no_reader : Reader (Unit {0})
no_reader = record { asked = λ f r. r; reads = λ f a r. r }

module _ (P : Model → Type 0)
    (keeps : (f : Frame) (m n : Model) (hs : List Heard) → Event f m hs n → Consistent m → P m → P n) where
  pub made_has : P empty → (is : List Input) → P (made is)
  made_has h is = made_keep no_reader (λ m r. P m) (λ f m n hs r. keeps f m n hs) tt h is

-- every space that frames make is sound
pub sound-kept : (i : Input) (m : Model) → Sound m → Sound (step m i.frame i.area).model
sound-kept i m s = sound-step m i.frame i.area s

pub sound : (is : List Input) → Sound (made is)
sound = keep-made Sound sound-kept sound_empty

pub consistent : (is : List Input) → Consistent (made is)
consistent is = (sound is).consistent

pub orderly : (is : List Input) → InOrder (made is)
orderly is = let s = consistent is in (s.ordered.entries, s.below)

pub lasting : (is : List Input) → Lasting (made is)
lasting is = (sound is).lasting
