-- The turns of a round, and the starting entries: one more of them.
use Prim.Native.Nat.{ℕ, zero, suc, ◌+◌, ◌<◌}
use Rattle.std.proofs.Common.{Some, None, is_some}
use mathlib.Core.Bool.{Bool, true}
use mathlib.Core.Path.{◌≡◌, refl, sym, ap, ◌∙◌, fun_ext}
use mathlib.Core.List.{List, [], ◌∷◌, ◌++◌, map, map-map}
use native.Mathlib.Omega.{arith}
use lib.ListN.{length, get_or}
use Rattle.rules.specs.declared.Request.{Request}
use Rattle.rules.specs.Frame.{frame_bytes}
use Rattle.rules.specs.Requests.{frame_of}
use Rattle.rules.specs.Words.{up_to}
use Rattle.tables.proofs.UpToLaws.{length-up_to, get_or-up_to}
use Rattle.hints.specs.declared.known.Hints.{Hints}
use Rattle.trial.specs.declared.Progress.{Progress}
use Rattle.trial.specs.Setup.{pane_count}
use Rattle.trial.specs.Panes.{sends}
use Rattle.trial.specs.Trial.{Trier, is_ready, Round, send, sends_now, next_of, turns, send_all}
use Rattle.trial.specs.Progress.{at, next_at}
use Rattle.trial.specs.Trying.{trier_at, Trying}
use Rattle.trial.proofs.UpToMore.{map-up_to}
use Rattle.trial.proofs.WordLaws.{sends-same, ready-same}
use Rattle.trial.proofs.HeardLaws.{in_trier}

-- what the pane at a place sends: nothing but its number tells its transaction
next-same : (ts : List Trier) (i : ℕ) (ready : Bool) (r : Round)
    → sends_now ready (next_of (map in_trier ts) i) r ≡ sends_now ready (next_of ts i) r
next-same [] i ready r = refl
next-same (x ∷ ts) zero ready r = sends-same x.pane x.party x.stage ready r
next-same (x ∷ ts) (suc i) ready r = next-same ts i ready r

next-get_or : (ts : List Trier) (i : ℕ) (d : Trier) → i < length ts
    → next_of ts i ≡ sends (get_or ts i d).pane (get_or ts i d).party (get_or ts i d).stage
next-get_or [] i d h = absurd (omega arith)
next-get_or (x ∷ ts) zero d h = refl
next-get_or (x ∷ ts) (suc i) d h = next-get_or ts i d (omega arith)

module _ {ws : List ℕ} {k : ℕ} {r : Round} {space : List ℕ} {hints : Hints} {xs : List Progress}
    (t : Trying ws k r space hints xs) where
  pub turn_is : (i : ℕ) (ready : Bool) → i < pane_count ws
      → sends_now ready (next_of r.panes i) r ≡ sends_now ready (next_at ws xs i) r
  turn_is i ready h =
      let f : ℕ → Trier = λ j. trier_at ws j (at xs j) in
      let long = length-up_to f (pane_count ws) in
      sym (next-same r.panes i ready r)
      ∙ ap (λ ts. sends_now ready (next_of ts i) r) t.panes
      ∙ ap (λ q. sends_now ready q r)
      (next-get_or (up_to f (pane_count ws)) i (f 0) (omega (arith, long, h))
      ∙ ap (λ (x : Trier). sends x.pane x.party x.stage) (get_or-up_to f (pane_count ws) i (f 0) h))

  -- who is ready
  pub ready_are : map is_ready r.panes ≡ up_to (λ i. is_some (next_at ws xs i)) (pane_count ws)
  ready_are =
      ap (λ f. map f r.panes) (fun_ext (λ (x : Trier). sym (ready-same x.pane x.party x.stage)))
      ∙ sym (map-map is_ready in_trier r.panes)
      ∙ ap (map is_ready) t.panes
      ∙ map-up_to is_ready (λ i. trier_at ws i (at xs i)) (pane_count ws)

  -- what is sent in a turn
  pub turn_sends : {q : Request} (i : ℕ) → i < pane_count ws → next_at ws xs i ≡ Some q
      → sends_now true (next_of r.panes i) r ≡ send (frame_bytes (frame_of q)) r
  turn_sends i h e = turn_is i true h ∙ ap (λ o. sends_now true o r) e

  pub turn_rests : (i : ℕ) → i < pane_count ws → next_at ws xs i ≡ None → sends_now true (next_of r.panes i) r ≡ r
  turn_rests i h e = turn_is i true h ∙ ap (λ o. sends_now true o r) e

-- one turn more
turns-append : (bs : List Bool) (b : Bool) (i : ℕ) (r : Round)
    → turns (bs ++ (b ∷ [])) i r
    ≡ sends_now b (next_of (turns bs i r).panes (i + length bs)) (turns bs i r)
unfolding turns
turns-append [] b i r = ap (λ j. sends_now b (next_of r.panes j) r) (omega arith)
turns-append (x ∷ bs) b i r =
    let n = sends_now x (next_of r.panes i) r in
    let e : suc i + length bs ≡ i + suc (length bs) = omega arith in
    turns-append bs b (suc i) n
    ∙ ap (λ j. sends_now b (next_of (turns bs (suc i) n).panes j) (turns bs (suc i) n)) e

pub turns_more : (f : ℕ → Bool) (n : ℕ) (r : Round)
    → turns (up_to f (n + 1)) 0 r
    ≡ sends_now (f n) (next_of (turns (up_to f n) 0 r).panes n) (turns (up_to f n) 0 r)
turns_more f n r =
    let m = turns (up_to f n) 0 r in
    let e : n + 1 ≡ suc n = omega arith in
    ap (λ k. turns (up_to f k) 0 r) e
    ∙ turns-append (up_to f n) (f n) 0 r
    ∙ ap (λ j. sends_now (f n) (next_of m.panes j) m) (omega (arith, length-up_to f n))

-- one frame more
sends-append : (fs : List (List ℕ)) (f : List ℕ) (r : Round) → send_all (fs ++ (f ∷ [])) r ≡ send f (send_all fs r)
unfolding send_all
sends-append [] f r = refl
sends-append (x ∷ fs) f r = sends-append fs f (send x r)

pub sends_more : (f : ℕ → List ℕ) (n : ℕ) (r : Round)
    → send_all (up_to f (n + 1)) r ≡ send (f n) (send_all (up_to f n) r)
sends_more f n r =
    let e : n + 1 ≡ suc n = omega arith in
    ap (λ k. send_all (up_to f k) r) e ∙ sends-append (up_to f n) (f n) r
