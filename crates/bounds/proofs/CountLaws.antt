-- Frames counted one after another, and what the counts say of a tray.
use Prim.Native.Nat.{ℕ, ◌+◌, ◌*◌, ◌≤◌, ◌<◌, min}
use mathlib.Core.Bool.{Bool, true, false, ◌||◌}
use mathlib.Core.Path.{◌≡◌, refl, sym, ap, ap₂, ◌∙◌, subst⁻¹}
use mathlib.Core.List.{List, [], ◌∷◌, ◌++◌}
use native.Mathlib.Nat.{le_trans, min-le_left}
use native.Mathlib.Omega.{arith}
use lib.ListN.{length, take, length-append, length-take}
use lib.Seq.{take_all}
use Rattle.rules.specs.Numbers.{max_entries, max_registrations, max_frames, tray_refused, pairs_refused}
use Rattle.rules.specs.Frame.{is_write, is_look_up, is_create, is_commit, is_notify}
use Rattle.rules.specs.Tray.{frames_of, frame_count, bad_tray, tray_refusal, frame_at}
use Rattle.rules.proofs.BoolLaws.{cond_cases}
use Rattle.rules.proofs.ListLaws.{count-append, count_cons, length-filter}
use Rattle.rules.proofs.Growth.{one}
use Rattle.tray.specs.Pairs.{pair_at}
use Rattle.tray.proofs.PairLaws.{frames-length, frames-next}
use Rattle.tray.proofs.PairsJudged.{verdict}
use Rattle.bounds.specs.declared.Counts.{Counts}
use Rattle.bounds.specs.Bounds.{kind_of, many, entries_bound, bells_bound, records_bound, bounds_number}
use Rattle.bounds.specs.Counts.{rings, share, counts_of, counting, FewFrames}
use Rattle.bounds.proofs.Shares.{many_cons}

-- ---- one frame more
many_snoc : (p : ℕ → Bool) (fs : List (List ℕ)) (f : List ℕ)
    → many p (fs ++ (f ∷ [])) ≡ many p fs + one (p (kind_of f))
unfolding many
many_snoc p fs f =
    let test : List ℕ → Bool = λ g. p (kind_of g) in
    omega (arith, count-append test fs (f ∷ []), count_cons test f [])

bells_snoc : (ahead : ℕ) (fs : List (List ℕ)) (f : List ℕ) {n : ℕ} → ahead + many is_notify fs ≡ n
    → bells_bound ahead (fs ++ (f ∷ [])) ≡ bells_bound ahead fs + rings (kind_of f) (min max_registrations n)
unfolding bells_bound many
bells_snoc ahead [] f {n} q =
    let all : ahead ≡ n = omega (arith, q) in
    omega (arith, ap (λ k. rings (kind_of f) (min max_registrations k)) all)
bells_snoc ahead (g ∷ fs) f {n} q =
    let so_many : ahead + one (is_notify (kind_of g)) + many is_notify fs ≡ n =
    omega (arith, q, many_cons is_notify g fs) in
    omega (arith, bells_snoc (ahead + one (is_notify (kind_of g))) fs f so_many)

records_snoc : (fs : List (List ℕ)) (f : List ℕ)
    → records_bound (fs ++ (f ∷ [])) ≡ records_bound fs + share (kind_of f) (many is_notify fs)
unfolding records_bound
records_snoc fs f =
    omega (
      arith,
      length-append fs (f ∷ []),
      many_snoc is_look_up fs f,
      many_snoc is_create fs f,
      bells_snoc 0 fs f {n = many is_notify fs} (omega arith),
    )

pub counts_snoc : (fs : List (List ℕ)) (f : List ℕ) → counting (kind_of f) (counts_of fs) ≡ counts_of (fs ++ (f ∷ []))
counts_snoc fs f = rw (many_snoc is_write fs f, many_snoc is_notify fs f, records_snoc fs f) refl

-- ---- there are few
few-bells : (ahead : ℕ) (fs : List (List ℕ)) → bells_bound ahead fs ≤ max_registrations * length fs
unfolding bells_bound
few-bells ahead [] = omega arith
few-bells ahead (f ∷ fs) =
    let ring : rings (kind_of f) (min max_registrations ahead) ≤ max_registrations =
    cond_cases (λ n. n ≤ max_registrations) (is_write (kind_of f) || is_commit (kind_of f))
    (λ _. omega arith) (λ _. omega arith) in
    omega (arith, few-bells (ahead + one (is_notify (kind_of f))) fs, ring)

few_of : (p : ℕ → Bool) (fs : List (List ℕ)) → many p fs ≤ length fs
unfolding many
few_of p fs = length-filter (λ f. p (kind_of f)) fs

pub few-counts : (fs : List (List ℕ)) → length fs ≤ max_frames → FewFrames (counts_of fs)
unfolding records_bound
few-counts fs h =
    record {
      writes = omega (arith, few_of is_write fs);
      notifies = omega (arith, few_of is_notify fs);
      records = omega (arith, few_of is_look_up fs, few_of is_create fs, few-bells 0 fs);
    }

-- ---- what they say of a tray
module _ (tray : List ℕ) where
  pub by_15 : bad_tray tray ≡ true → 4294967296 * tray_refused ≡ bounds_number tray
  unfolding bounds_number tray_refusal
  by_15 e = rw e refl

  pub by_16 : bad_tray tray ≡ false → verdict tray ≡ true → 4294967296 * pairs_refused ≡ bounds_number tray
  unfolding bounds_number tray_refusal
  by_16 e v = rw (e, v) refl

  pub by_counts : bad_tray tray ≡ false → verdict tray ≡ false
      → let c = counts_of (frames_of tray) in
      min max_entries c.writes + 65536 * c.records ≡ bounds_number tray
  unfolding bounds_number tray_refusal entries_bound
  by_counts e v = rw (e, v) refl

-- ---- a tray's frames, counted so far
-- i of them
abbrev pub counted : List ℕ → ℕ → Counts
counted tray i = counts_of (take i (frames_of tray))

module _ (tray : List ℕ) {i : ℕ} (l : i < frame_count tray) where
  pub counted_more : {c : Counts} {op : ℕ} → c ≡ counted tray i → op ≡ kind_of (frame_at tray (pair_at tray i))
      → counting op c ≡ counted tray (i + 1)
  counted_more e q =
      ap₂ counting q e
      ∙ counts_snoc (take i (frames_of tray)) (frame_at tray (pair_at tray i))
      ∙ ap counts_of (sym (frames-next tray i l))

pub counted-all : (tray : List ℕ) (i : ℕ) → frame_count tray ≤ i → counted tray i ≡ counts_of (frames_of tray)
counted-all tray i l = ap counts_of (take_all i (frames_of tray) (omega (arith, frames-length tray)))

short : (i : ℕ) (l : List (List ℕ)) → length (take i l) ≤ i
short i l = rw (length-take i l) (min-le_left i (length l))

pub few-counted : (tray : List ℕ) (i : ℕ) {c : Counts} → c ≡ counted tray i → i ≤ max_frames → FewFrames c
few-counted tray i e h =
    subst⁻¹ FewFrames e (few-counts (take i (frames_of tray)) (le_trans (short i (frames_of tray)) h))
