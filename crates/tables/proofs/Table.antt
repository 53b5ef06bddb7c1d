-- A table of rows of words: what is read of it after a write, and what a write leaves of the others.
use Prim.Native.Nat.{ℕ, suc, ◌+◌, ◌-◌, ◌*◌, ◌≤◌, ◌<◌, min}
use mathlib.Core.Bool.{Bool, true, ◌&&◌, ◌||◌}
use mathlib.Core.Logic.{◌≢◌, ⊎_elim}
use mathlib.Core.Path.{◌≡◌, sym, ap, ap₂, ◌∙◌, subst}
use mathlib.Core.List.{List, [], ◌∷◌, ◌++◌}
use native.Mathlib.Omega.{arith}
use native.Mathlib.Decide.{dec_lt}
use native.Mathlib.Nat.{mul-add, mul-suc, mul-le-mul_left}
use native.Mathlib.Numerals.{add-one}
use borrow.Author.Tests.{ltb-true, leb-true}
use lib.Dec.{ltb, leb}
use lib.ListN.{length, length-drop, get_or, take, drop, set}
use lib.Seq.{get_or-set_same, sets, length-take-le, ext_get_or}
use Rattle.rules.proofs.BoolLaws.{and_left, and_right, or_cases}
use Rattle.rules.specs.Words.{row}
use Rattle.tables.specs.Rows.{move_words, without}
use Rattle.tables.specs.Table.{Table, at, cell, first, count, all, end, But, Turned}
use Rattle.tables.proofs.RowLaws.{row_within, length-row, row_put, but_then, but_set, but_sets, clear}
use Rattle.tables.proofs.RowLaws.{word_kept, row_same, row_word, moved_word}
use Rattle.tables.proofs.UpToLaws.{up_to_ext, length-up_to, drop-up_to, take-up_to, up_to-set, up_to_skip}

module _ {A : Type 0} (t : Table A) where
  -- ---- what a write elsewhere leaves: the test computes
  abbrev pub apart : ℕ → ℕ → ℕ → Bool
  apart c lo hi = clear c lo hi t.count_at && ltb c t.base && (leb (end t) lo || leb hi t.base)

  module _ {c lo hi : ℕ} {ws ws₀ : List ℕ} (b : But c lo hi ws ws₀) (a : apart c lo hi ≡ true) where
    below : c < t.base
    below =
        ltb-true c t.base (and_right (clear c lo hi t.count_at) (ltb c t.base)
        (and_left (clear c lo hi t.count_at && ltb c t.base) (leb (end t) lo || leb hi t.base) a))

    outside : (j : ℕ) → t.base ≤ j → j < (end t) → lo ≤ j → hi ≤ j
    outside j p q r =
        ⊎_elim (λ e. let u = leb-true (end t) lo e in omega arith) (λ e. let u = leb-true hi t.base e in omega arith)
        (or_cases (leb (end t) lo) (leb hi t.base)
        (and_right (clear c lo hi t.count_at && ltb c t.base) (leb (end t) lo || leb hi t.base) a))

    row_kept : (k : ℕ) → k < t.most → row t.base t.width ws k ≡ row t.base t.width ws₀ k
    row_kept k h =
        let r = row_within t.width t.base k t.most h in
        row_same b t.base t.width k below (λ j p q. outside j (omega arith) (omega arith))

    pub kept : all t ws ≡ all t ws₀
    kept =
        ap (λ n. first t (min n t.most) ws)
        (word_kept b t.count_at (and_left (clear c lo hi t.count_at) (ltb c t.base)
        (and_left (clear c lo hi t.count_at && ltb c t.base) (leb (end t) lo || leb hi t.base) a)))
        ∙ up_to_ext (cell t ws) (cell t ws₀) (count t ws₀) (λ k l. ap t.read (row_kept k (omega arith)))

  -- the count is set
  pub counted : (ws : List ℕ) (n : ℕ) → n ≤ t.most → t.base ≤ length ws → all t (set ws t.count_at n) ≡ first t n ws
  counted ws n h l =
      let a = t.ahead in
      let few : min n t.most ≡ n = omega arith in
      ap (λ k. first t (min k t.most) (set ws t.count_at n)) (get_or-set_same ws t.count_at n 0 (omega arith))
      ∙ ap (λ k. first t k (set ws t.count_at n)) few
      ∙ up_to_ext (cell t (set ws t.count_at n)) (cell t ws) n
      (λ k p. ap t.read (row_same (but_set t.count_at 0 0 ws n) t.base t.width k a
      (λ j q r s. omega arith)))

  pub closed : (ws : List ℕ) (n : ℕ) → n ≤ count t ws → t.base ≤ length ws
      → Turned t (set ws t.count_at n) ws (take n (all t ws))
  closed ws n h l =
      let now = counted ws n (omega arith) l ∙ sym (take-up_to (cell t ws) (count t ws) n h) in
      record { but = but_set t.count_at t.base (end t) ws n; now = now }

  -- a row is written
  module _ (ws : List ℕ) (n : ℕ) (r : List ℕ) (w : length r ≡ t.width) where
    abbrev ws' : List ℕ
    ws' = sets ws (at t n) r

    -- the others are as they were
    pub other_rows : (k : ℕ) → k ≢ n → cell t ws' k ≡ cell t ws k
    other_rows k d =
        ap t.read
        (row_same (but_sets t.count_at (at t n) (at t n + t.width) ws (at t n) r (omega arith) (omega arith))
        t.base t.width k t.ahead (λ j p q l. clear_of j p q l (dec_lt k n)))
      where
        clear_of : (j : ℕ) → at t k ≤ j → j < at t k + t.width → at t n ≤ j → Dec (k < n)
            → at t n + t.width ≤ j
        clear_of j p q l (yes b) = absurd (omega (arith, row_within t.width t.base k n b))
        clear_of j p q l (no b) = omega (arith, row_within t.width t.base n k (omega arith))

    module _ (h : n < t.most) (l : (end t) ≤ length ws) where
      within : at t n + t.width ≤ (end t)
      within = row_within t.width t.base n t.most h

      row_but : But t.count_at t.base (end t) ws' ws
      row_but = but_sets t.count_at t.base (end t) ws (at t n) r (omega arith) (omega (arith, within))

      back : cell t ws' n ≡ t.read r
      back = ap t.read (row_put t.base t.width n ws r w (omega (arith, within)))

      pub put : Turned t (sets ws (at t n) r) ws (set (all t ws) n (t.read r))
      put =
          let a = t.ahead in
          record {
            but = row_but;
            now =
                ap (λ k. first t (min k t.most) ws')
                ((but_sets (end t) t.base (end t) ws (at t n) r (omega arith) (omega (arith, within))).same t.count_at
                (λ e. omega (arith, within)) (λ e. omega arith))
                ∙ up_to-set (cell t ws) (cell t ws') n (count t ws) other_rows
                ∙ ap (λ x. set (all t ws) n x) back;
          }

      -- behind the others, and counted
      pub appended : {ws₁ ws₂ : List ℕ} {x : A} → n ≡ count t ws → t.read r ≡ x → ws₁ ≡ sets ws (at t n) r
          → ws₂ ≡ set ws₁ t.count_at (n + 1)
          → Turned t ws₂ ws (all t ws ++ (x ∷ []))
      appended {x = x} q e p p' =
          subst (λ v. Turned t v ws (all t ws ++ (x ∷ []))) (sym (p' ∙ ap (λ v. set v t.count_at (n + 1)) p))
          (record {
            but = but_then (but_set t.count_at t.base (end t) ws' (n + 1)) row_but;
            now =
                counted ws' (n + 1) (omega arith) (omega (arith, row_but.long))
                ∙ ap (λ k. first t k ws') (add-one n)
                ∙ ap₂ {C = List A} (λ xs y. xs ++ (y ∷ []))
                (up_to_ext (cell t ws') (cell t ws) n (λ k d. other_rows k (λ s. omega arith))
                ∙ ap (λ k. first t k ws) q) (back ∙ e);
          })

  -- row i also stands at row n
  pub moved : (ws : List ℕ) (i n : ℕ) → i < t.most → n < t.most → (end t) ≤ length ws
      → Turned t (move_words ws (at t i) (at t n) t.width) ws (set (all t ws) n (cell t ws i))
  unfolding row
  moved ws i n p q l =
      put ws n (row t.base t.width ws i)
      (length-row t.base t.width i ws (omega (arith, row_within t.width t.base i t.most p))) q l

  -- ---- a row goes, and those behind it move up by one
  module _ (ws : List ℕ) (i c : ℕ) (q : c ≡ count t ws) (h : i < c) (l : (end t) ≤ length ws) where
    -- the words behind it
    abbrev behind : ℕ
    behind = t.width * (c - suc i)

    abbrev up : List ℕ
    up = move_words ws (at t (suc i)) (at t i) behind

    spread : (k : ℕ) → i ≤ k → t.width * k ≡ t.width * i + t.width * (k - i)
    spread k p =
        let e : k ≡ i + (k - i) = omega arith in
        ap (λ j. t.width * j) e ∙ mul-add t.width i (k - i)

    there : at t (suc i) + behind ≤ (end t)
    there =
        omega (
          arith,
          mul-suc t.width i,
          mul-add t.width (suc i) (c - suc i),
          mul-le-mul_left {m = suc i + (c - suc i)} {n = t.most} t.width (omega arith),
        )

    up_but : (lo : ℕ) → lo ≤ at t i → But t.count_at lo (end t) up ws
    up_but lo p =
        but_sets t.count_at lo (end t) ws (at t i) (take behind (drop (at t (suc i)) ws)) p
        (omega (
          arith,
          there,
          mul-suc t.width i,
          length-take-le behind (drop (at t (suc i)) ws)
              (omega (arith, there, length-drop (at t (suc i)) ws)),
        ))

    ahead-same : (k : ℕ) → k < i → cell t up k ≡ cell t ws k
    ahead-same k p =
        ap t.read
        (row_same (up_but (at t i) (omega arith)) t.base t.width k t.ahead
        (λ j a b d. absurd (omega (arith, row_within t.width t.base k i p))))

    -- word j of row k
    word_up : (k j : ℕ) → i ≤ k → suc k < c → j < t.width
        → get_or (row t.base t.width up k) j 0 ≡ get_or (row t.base t.width ws (suc k)) j 0
    word_up k j p r b =
        let o = t.width * (k - i) + j in
        row_word t.base t.width k j up b
        ∙ ap (λ x. get_or up x 0) (omega (arith, spread k p))
        ∙ moved_word ws (at t (suc i)) (at t i) behind o (omega (arith, mul-suc t.width i)) (omega (arith, there))
        (omega (
          arith,
          mul-suc t.width (k - i),
          mul-le-mul_left {m = suc (k - i)} {n = c - suc i} t.width (omega arith),
        ))
        ∙ ap (λ x. get_or ws x 0) (omega (arith, spread k p, mul-suc t.width i, mul-suc t.width k))
        ∙ sym (row_word t.base t.width (suc k) j ws b)

    moved_up : (k : ℕ) → i ≤ k → suc k < c → cell t up k ≡ cell t ws (suc k)
    moved_up k p r =
        let long = (up_but (at t i) (omega arith)).long in
        let a = length-row t.base t.width k up
        (omega (arith, long, row_within t.width t.base k t.most (omega arith))) in
        let b = length-row t.base t.width (suc k) ws
        (omega (arith, row_within t.width t.base (suc k) t.most (omega arith))) in
        ap t.read (ext_get_or 0 _ _ (a ∙ sym b) (λ j d. word_up k j p r (omega arith)))

    pub removed : {ws₁ ws₂ : List ℕ} → ws₁ ≡ up → ws₂ ≡ set ws₁ t.count_at (c - 1)
        → Turned t ws₂ ws (without i (all t ws))
    removed e f =
        subst (λ v. Turned t v ws (without i (all t ws))) (sym (f ∙ ap (λ v. set v t.count_at (c - 1)) e))
        (record {
          but = but_then (but_set t.count_at t.base (end t) up (c - 1)) (up_but t.base (omega arith));
          now =
              let one_less : suc (c - 1) ≡ count t ws = omega arith in
              counted up (c - 1) (omega arith) (omega (arith, (up_but (at t i) (omega arith)).long))
              ∙ up_to_skip (cell t ws) (cell t up) i (c - 1) (omega arith) ahead-same
              (λ k p r. moved_up k p (omega arith))
              ∙ ap (λ n. without i (first t n ws)) one_less;
        })

  -- ---- the elements
  pub length-all : (ws : List ℕ) → length (all t ws) ≡ count t ws
  length-all ws = length-up_to (cell t ws) (count t ws)

  pub drop_all : (ws : List ℕ) (i : ℕ) (x : A) → i < count t ws → x ≡ cell t ws i
      → drop i (all t ws) ≡ x ∷ drop (suc i) (all t ws)
  drop_all ws i x h e = drop-up_to (cell t ws) (count t ws) i h ∙ ap (λ y. y ∷ drop (suc i) (all t ws)) (sym e)
