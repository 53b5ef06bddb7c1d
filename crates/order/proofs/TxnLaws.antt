-- Reading transactions from words.
use Prim.Native.Nat.{ℕ, zero, suc, ◌+◌, ◌≤◌, ◌<◌}
use mathlib.Core.Logic.{⊎_elim}
use mathlib.Core.Path.{◌≡◌, refl, sym, ap, ap₂, ◌∙◌, subst⁻¹}
use mathlib.Core.List.Memᴰ
use mathlib.Core.List.{List, [], ◌∷◌, ◌++◌, map, append_assoc, append-nil, Memᴰ}
use native.Mathlib.Omega.{arith}
use native.Mathlib.Decide.{ℕ_discrete}
use lib.ListN.{length, get_or, take, drop, set, replicate, length-append, length-set}
use lib.Seq.{take_all, take-append-le, get_or-set_same, get_or-set_other}
use Rattle.rules.specs.Lists.{All, joined}
use Rattle.order.specs.declared.action.Action.{Action}
use Rattle.order.specs.Export.{txn_words, words_of}
use Rattle.order.specs.Reading.{slots, max_txns, max_actions, TxnRead, NoTxn, Holds, ExportRead, NoExport}
use Rattle.order.proofs.ArrayLaws.{joined_more, joined_map_more, at_set, all_same}
use Rattle.order.proofs.ReadLaws.{same_actions}

-- the words of a transaction and what follows tell both
pub same_txn : (a b : List Action) (x y : List ℕ) → txn_words a ++ x ≡ txn_words b ++ y → (a ≡ b) × (x ≡ y)
unfolding txn_words
same_txn a b x y e = same_actions a b x y (ap (λ l. get_or l 0 0) e) (ap (drop 1) e)

-- transactions whose words begin those of others begin them
pub record Behind (done ts : List (List Action)) (words : List ℕ) : Type 0 where
  pub rest : List (List Action)
  pub are : ts ≡ done ++ rest
  pub stand_for : words ≡ joined (map txn_words rest)

pub behind : (done ts : List (List Action)) (words : List ℕ)
    → joined (map txn_words done) ++ words ≡ joined (map txn_words ts) → length done ≤ length ts → Behind done ts words
behind [] ts words e h = record { rest = ts; are = refl; stand_for = e }
behind (d ∷ done) [] words e h = absurd (omega arith)
behind (d ∷ done) (t ∷ ts) words e h =
    let both = same_txn d t (joined (map txn_words done) ++ words) (joined (map txn_words ts))
    (sym (append_assoc (txn_words d) (joined (map txn_words done)) words) ∙ e) in
    let b = behind done ts words both.1 (omega arith) in
    record {
      rest = b.rest;
      are = ap₂ {C = List (List Action)} (λ x l. x ∷ l) (sym both.0) b.are;
      stand_for = b.stand_for;
    }

-- t transactions are read, and `rest` is left of the words behind their count
pub record ReadingTxns (behind rest : List ℕ) (actions : List Action) (starts : List ℕ) (len t : ℕ) : Type 0 where
  pub done : List (List Action)
  pub as_many : length done ≡ t
  pub stand_for : behind ≡ joined (map txn_words done) ++ rest
  pub short : All (λ a. length a ≤ max_actions) done
  pub count : length (joined done) ≡ len
  pub long : length starts ≡ max_txns + 1
  pub holds : Holds done actions starts

pub no_txns_read : (words : List ℕ) (actions : List Action)
    → ReadingTxns words words actions (replicate (max_txns + 1) 0) 0 0
no_txns_read words actions =
    record {
      done = [];
      as_many = refl;
      stand_for = refl;
      short = λ x i. absurd (Memᴰ.not-nil i);
      count = refl;
      long = refl;
      holds = record {
        are = refl;
        begins = λ p h. all_same (max_txns + 1) 0 p ∙ sym (nothing p);
        within = λ p. subst⁻¹ (λ k. k ≤ slots) (all_same (max_txns + 1) 0 p) (omega arith);
      };
    }
  where
    nothing : (p : ℕ) → length (joined (take {A = List Action} p [])) ≡ 0
    nothing zero = refl
    nothing (suc p) = refl

-- one more is read
pub one_more_txn : {behind rest rest' starts : List ℕ} {actions actions' : List Action} {len end t : ℕ}
    → ReadingTxns behind rest actions starts len t → TxnRead rest len actions actions' end rest'
    → end ≤ slots → t < max_txns
    → ReadingTxns behind rest' actions' (set starts (t + 1) end) end (t + 1)
unfolding txn_words
one_more_txn {behind} {rest} {rest'} {starts} {actions} {actions'} {len} {end} {t} r x room few =
    record {
      done = r.done ++ (x.txn ∷ []);
      as_many = length-append r.done (x.txn ∷ []) ∙ omega (arith, r.as_many);
      stand_for = r.stand_for ∙ ap (λ l. joined (map txn_words r.done) ++ l) x.stand_for
          ∙ sym (append_assoc (joined (map txn_words r.done)) (txn_words x.txn) rest')
          ∙ ap (λ l. l ++ rest') (sym (joined_map_more txn_words r.done x.txn));
      short = λ y i. ⊎_elim (r.short y) (λ j. subst⁻¹ (λ z. length z ≤ max_actions) (Memᴰ.eq_of_singleton j)
          x.few) (Memᴰ.append_cases r.done i);
      count = counted;
      long = length-set starts (t + 1) end ∙ r.long;
      holds = record {
        are = ap (λ m. take m actions') counted ∙ x.are
            ∙ ap (λ l. l ++ x.txn) (ap (λ m. take m actions) (sym r.count) ∙ r.holds.are) ∙ sym flat;
        begins = begin;
        within = at_set (λ m. m ≤ slots) starts (t + 1) end 0 r.holds.within room;
      };
    }
  where
    flat : joined (r.done ++ (x.txn ∷ [])) ≡ joined r.done ++ x.txn
    flat = joined_more r.done x.txn

    counted : length (joined (r.done ++ (x.txn ∷ []))) ≡ end
    counted = ap length flat ∙ length-append (joined r.done) x.txn ∙ ap (λ m. m + length x.txn) r.count ∙ sym x.ends

    begin : (p : ℕ) → p ≤ length (r.done ++ (x.txn ∷ []))
        → get_or (set starts (t + 1) end) p 0 ≡ length (joined (take p (r.done ++ (x.txn ∷ []))))
    begin p h = go (ℕ_discrete p (t + 1))
      where
        l : length (r.done ++ (x.txn ∷ [])) ≡ length r.done + 1
        l = length-append r.done (x.txn ∷ [])

        go : Dec (p ≡ t + 1)
            → get_or (set starts (t + 1) end) p 0 ≡ length (joined (take p (r.done ++ (x.txn ∷ []))))
        go (yes q) =
            ap (λ m. get_or (set starts (t + 1) end) m 0) q
            ∙ get_or-set_same starts (t + 1) end 0 (omega (arith, r.long)) ∙ sym counted
            ∙ ap (λ (ts : List (List Action)). length (joined ts))
            (sym (take_all p (r.done ++ (x.txn ∷ [])) (omega (arith, l, r.as_many))))
        go (no q) =
            get_or-set_other starts (t + 1) p end 0 q ∙ r.holds.begins p (omega (arith, l, r.as_many))
            ∙ ap (λ (ts : List (List Action)). length (joined ts))
            (sym (take-append-le p r.done (x.txn ∷ []) (omega (arith, l, r.as_many))))

pub no_words : (words : List ℕ) → length words ≡ 0 → NoExport words
unfolding words_of
no_words words l ts e few = omega (arith, ap length e)

-- what is left if words that are read that far stand for transactions
module _ (words : List ℕ) (count n : ℕ) (words' : List ℕ) (begin : words ≡ count ∷ words') (is : n ≡ count) where
  count_is : (ts : List (List Action)) → words ≡ words_of ts → n ≡ length ts
  unfolding words_of
  count_is ts e = is ∙ ap (λ l. get_or l 0 0) (sym begin ∙ e)

  pub too_many : max_txns < n → NoExport words
  too_many h ts e few = omega (arith, few.transactions, count_is ts e)

  module _ {rest starts : List ℕ} {actions : List Action} {len t : ℕ}
      (r : ReadingTxns words' rest actions starts len t) where
    left : (ts : List (List Action)) → words ≡ words_of ts → t ≤ n → Behind r.done ts rest
    unfolding words_of
    left ts e h =
        behind r.done ts rest (sym r.stand_for ∙ ap (drop 1) (sym begin ∙ e)) (omega (arith, r.as_many, count_is ts e))

    left_count : (ts : List (List Action)) → words ≡ words_of ts → (b : Behind r.done ts rest) → t + length b.rest ≡ n
    left_count ts e b = omega (arith, r.as_many, count_is ts e, ap length b.are, length-append r.done b.rest)

    -- another transaction
    pub no_txn : t < n → NoTxn rest → NoExport words
    no_txn h wrong ts e few =
        let b = left ts e (omega arith) in
        go b.rest b.are b.stand_for (left_count ts e b)
      where
        go : (more : List (List Action)) → ts ≡ r.done ++ more → rest ≡ joined (map txn_words more)
            → t + length more ≡ n → ⊥
        go [] are stand c = omega arith
        go (txn ∷ more) are stand c =
            wrong txn (joined (map txn_words more)) stand
            (few.actions txn (subst⁻¹ (Memᴰ txn) are (Memᴰ.append_right r.done (Memᴰ.head refl))))

    -- no transaction
    pub left_over : t ≡ n → (length rest ≡ 0 → ⊥) → NoExport words
    unfolding txn_words
    left_over h l ts e few =
        let b = left ts e (omega arith) in
        go b.rest b.stand_for (left_count ts e b)
      where
        go : (more : List (List Action)) → rest ≡ joined (map txn_words more) → t + length more ≡ n → ⊥
        go [] stand c = l (ap length stand)
        go (txn ∷ more) stand c = omega arith

    -- all are read
    pub all_txns_read : t ≡ n → length rest ≡ 0 → n ≤ max_txns → ExportRead words n actions starts
    unfolding words_of
    all_txns_read all end few =
        record {
          ts = r.done;
          as_many = sym (r.as_many ∙ all);
          stand_for =
              begin ∙ ap₂ {C = List ℕ} (λ x l. x ∷ l) (sym (r.as_many ∙ all ∙ is))
              (r.stand_for ∙ ap (λ l. joined (map txn_words r.done) ++ l) (nothing rest end)
              ∙ append-nil (joined (map txn_words r.done)));
          few = record { transactions = omega (arith, r.as_many); actions = r.short };
          holds = r.holds;
        }
      where
        nothing : (rest : List ℕ) → length rest ≡ 0 → rest ≡ []
        nothing [] e = refl
        nothing (x ∷ xs) e = absurd (omega arith)

-- words stand for one list of transactions
pub same_words : (ts us : List (List Action)) → words_of ts ≡ words_of us → ts ≡ us
unfolding words_of
same_words ts us e =
    let b = behind ts us [] (append-nil (joined (map txn_words ts)) ∙ ap (drop 1) e)
    (omega (arith, ap (λ l. get_or l 0 0) e)) in
    sym (b.are ∙ go b.rest
    (omega (arith, ap (λ l. get_or l 0 0) e, ap length b.are, length-append ts b.rest)))
  where
    go : (rest : List (List Action)) → length rest ≡ 0 → ts ++ rest ≡ ts
    go [] n = append-nil ts
    go (t ∷ rest) n = absurd (omega arith)
