-- What a tray's run leaves in the answers area, as it is printed.
use Prim.Native.Nat.{ℕ, zero, suc, ◌+◌, ◌*◌, ◌/◌, ◌%◌, ◌≤◌, ◌<◌}
use mathlib.Core.Bool.{true}
use mathlib.Core.Logic.{⊎_elim}
use mathlib.Core.Path.{◌≡◌, refl, ap, ap₂, ◌∙◌, subst, subst⁻¹}
use mathlib.Core.List.Memᴰ
use mathlib.Core.List.{List, [], ◌∷◌, ◌++◌, map, Memᴰ}
use native.Mathlib.Omega.{arith}
use lib.Dec.{leb}
use lib.ListN.{length, get_or, take, drop}
use Rattle.rules.specs.Numbers.{record_size}
use Rattle.rules.specs.State.{Model, empty}
use Rattle.rules.specs.Records.{area_after}
use Rattle.rules.specs.Tray.{pairs, tray_refusal, frame_at, TrayOutcome, run_frames, run_pairs, run_tray}
use Rattle.rules.specs.Print.{done_line, printed}
use Rattle.rules.specs.Allowed.{TrayRan}
use Rattle.rules.proofs.BoolLaws.{cond_cases}
use Rattle.demands.specs.Machine.{the_rules}
use Rattle.rules.specs.SerialRun.{Logged}
use Rattle.demands.specs.Bounds.{AreBytes, AllInRange}
use Rattle.demands.specs.Trays.{HandedIn, none_left, one_more, TrayHistory, TraysAreHistories}
use Rattle.demands.specs.Trays.{NumbersAreReadBack}
use Rattle.demands.proofs.ByRule.{rules_follow}
use Rattle.demands.proofs.TraysProof.{trays_are_histories, numbers_are_read_back}
use Rattle.demands.proofs.Follows.{follows-bounds}
use Rattle.printer.specs.Text.{Prints, line_size, has_line}
use Rattle.viewer_lib.specs.Shows.{record_texts, Shows}
use Rattle.viewer_lib.proofs.PrintedLaws.{line_at, with_line, line_room, by_room, prints_then}
use Rattle.viewer_lib.proofs.RecordLines.{texts_are_lines}

-- the bytes of a slice, of a part of it, and of each frame of a tray
pub are_bytes : (bs : List ℕ) → ((i : ℕ) → get_or bs i 0 < 256) → AreBytes bs
are_bytes [] h b i = absurd (Memᴰ.not-nil i)
are_bytes (x ∷ bs) h b i =
    ⊎_elim (λ e. omega (arith, e, h 0)) (λ j. are_bytes bs (λ k. h (suc k)) b j) (Memᴰ.cases_cons i)

mem_take : {A : Type 0} {x : A} (n : ℕ) (xs : List A) → Memᴰ x (take n xs) → Memᴰ x xs
mem_take zero xs i = absurd (Memᴰ.not-nil i)
mem_take (suc n) [] i = i
mem_take (suc n) (y ∷ xs) i = ⊎_elim Memᴰ.head (λ j. Memᴰ.tail (mem_take n xs j)) (Memᴰ.cases_cons i)

mem_drop : {A : Type 0} {x : A} (n : ℕ) (xs : List A) → Memᴰ x (drop n xs) → Memᴰ x xs
mem_drop zero xs i = i
mem_drop (suc n) [] i = i
mem_drop (suc n) (y ∷ xs) i = Memᴰ.tail (mem_drop n xs i)

frame-bytes : (tray : List ℕ) → AreBytes tray → (f : List ℕ) → Memᴰ f (map (frame_at tray) (pairs tray))
    → AreBytes f
unfolding frame_at
frame-bytes tray h f i b j =
    let p = Memᴰ.of_map (frame_at tray) (pairs tray) i in
    h b (mem_drop p.0.offset tray (mem_take p.0.size (drop p.0.offset tray)
    (subst⁻¹ (Memᴰ b) p.2 j)))

handed_frame : {m n : Model} {area : List ℕ} {fs : List (List ℕ)} {log : List Logged}
    → HandedIn m area fs log n
    → (l : Logged) → Memᴰ l log → Memᴰ l.frame fs
handed_frame (none_left m area) l i = absurd (Memᴰ.not-nil i)
handed_frame (one_more a s h) l i =
    ⊎_elim (λ q. Memᴰ.head (ap (λ (x : Logged). x.frame) q)) (λ j. Memᴰ.tail (handed_frame h l j))
    (Memᴰ.cases_cons i)

-- what a run leaves: its records fit their bytes, and the area
record Left (area : ℕ) (o : TrayOutcome) : Type 0 where
  in_range : AllInRange o.records
  fit : record_size * length o.records ≤ area

left : (tray area : List ℕ) → AreBytes tray
    → Left (length area) (run_tray tray (length area))
unfolding run_tray run_pairs TraysAreHistories
left tray area h =
    cond_cases (Left (length area)) (leb (tray_refusal tray) 0) (λ _. run)
    (λ _. record { in_range = λ r i. absurd (Memᴰ.not-nil i); fit = omega arith })
  where
    fs : List (List ℕ)
    fs = map (frame_at tray) (pairs tray)

    t : TrayHistory fs area (run_frames empty (length area) fs)
    t = trays_are_histories fs area

    run : Left (length area) (run_frames empty (length area) fs)
    run =
        record {
          in_range = subst⁻¹ AllInRange t.records
              ((follows-bounds the_rules rules_follow).in_range t.log t.last (empty, refl, t.history)
              (λ l i. frame-bytes tray h l.frame
              (mem_take (run_frames empty (length area) fs).frames fs (handed_frame t.handed_in l i))));
          fit = t.fit;
        }

-- the parts of what the host gets, and the last line
abbrev frames_in : ℕ → ℕ
frames_in told = told % 65536

abbrev records_in : ℕ → ℕ
records_in told = told / 65536 % 65536

abbrev number_in : ℕ → ℕ
number_in told = told / 4294967296

abbrev last_line : ℕ → List ℕ
last_line told = done_line (frames_in told) (records_in told) (number_in told)

module _ (tray area area' : List ℕ) (told : ℕ) (r : TrayRan tray area told area') (bytes : AreBytes tray) where
  o : TrayOutcome
  o = run_tray tray (length area)

  back : (frames_in told ≡ o.frames) × (records_in told ≡ length o.records) × (number_in told ≡ o.number)
  unfolding NumbersAreReadBack o
  back =
      let b = numbers_are_read_back tray area in (
        ap frames_in r.returns ∙ b.frames,
        ap records_in r.returns ∙ b.records,
        ap number_in r.returns
            ∙ b.number,
      )

  pub records_fit : record_size * records_in told ≤ length area
  unfolding o
  records_fit = omega (arith, back.1, (left tray area bytes).fit)

  text : record_texts (records_in told) area' ++ last_line told ≡ printed o
  unfolding printed area_after o
  text =
      ap₂ (λ (x y : List ℕ). x ++ y)
      (ap₂ record_texts back.1 r.leaves
      ∙ texts_are_lines o.records (drop (record_size * length o.records) area) in_range)
      (ap (λ n. done_line n (records_in told) (number_in told)) back.0 ∙ ap₂ (done_line o.frames) back.1 back.2)
    where
      in_range : AllInRange o.records
      in_range = (left tray area bytes).in_range

  module _ (old out new : List ℕ) (at n : ℕ) (f : Prints true (record_texts (records_in told) area') old out at)
      (k : at + line_size ≤ length out) (p : Prints (has_line (line_at out at)) (last_line told) (line_at out at) new n)
      (same : length new ≡ length (line_at out at)) where
    last : Prints true (last_line told) (line_at out at) new n
    last = by_room (has_line (line_at out at)) (last_line told) (line_at out at) new n (line_room out at k) p

    pub shown : Shows tray area old (with_line out at new) (at + n)
    unfolding o
    shown =
        subst (λ l. Prints true l old (with_line out at new) (at + n)) text
        (prints_then (record_texts (records_in told) area') (last_line told) old out new at n f last same)
