-- Reading a transaction from words.
use Prim.Native.Nat.{ℕ, ◌+◌, ◌*◌, ◌≤◌, ◌<◌}
use mathlib.Core.Path.{◌≡◌, refl, sym, ap, ap₂, ◌∙◌}
use mathlib.Core.List.{List, [], ◌∷◌, ◌++◌, map, append_assoc, append-nil}
use native.Mathlib.Omega.{arith}
use lib.ListN.{length, get_or, take, drop, set, length-append, take-append-drop}
use Rattle.std.specs.List.{IsSplitAt}
use Rattle.std.specs.Prelude.{Option, Some, None, Result, Ok, Err}
use Rattle.std.specs.Result.{result_ok}
use Rattle.std.proofs.lemmas.Option.{same_Some, none-some}
use Rattle.rules.specs.Lists.{joined}
use Rattle.order.specs.declared.action.Kind.{Kind}
use Rattle.order.specs.declared.action.Kind.TheVariants.{Write, Read, Take}
use Rattle.order.specs.declared.action.Action.{Action}
use Rattle.order.specs.Export.{kind_word, action_words, IsKindOf, txn_words}
use Rattle.order.specs.Reading.{max_actions, slots, TxnRead, NoTxn}
use Rattle.order.proofs.ArrayLaws.{joined_map_more, filled_more}

-- a kind's word tells the kind
same_kind : (k l : Kind) → kind_word k ≡ kind_word l → k ≡ l
same_kind Write Write e = refl
same_kind Write Read e = absurd (omega arith)
same_kind Write Take e = absurd (omega arith)
same_kind Read Write e = absurd (omega arith)
same_kind Read Read e = refl
same_kind Read Take e = absurd (omega arith)
same_kind Take Write e = absurd (omega arith)
same_kind Take Read e = absurd (omega arith)
same_kind Take Take e = refl

-- what a word tells, once a refusal is none
pub its_kind : (r : Result Kind (Unit {0})) {o : Option Kind} {word : ℕ} {k : Kind} → IsKindOf word r
    → o ≡ result_ok r → o ≡ Some k → kind_word k ≡ word
its_kind (Ok k) told e t = ap kind_word (same_Some _ _ (sym t ∙ e)) ∙ told
its_kind (Err x) told e t = absurd (none-some _ (sym e ∙ t))

pub none_kind : (r : Result Kind (Unit {0})) {o : Option Kind} {word : ℕ} → IsKindOf word r
    → o ≡ result_ok r → o ≡ None → (k : Kind) → kind_word k ≡ word → ⊥
none_kind (Ok k) told e t = absurd (none-some _ (sym t ∙ e))
none_kind (Err x) told e t = told

-- as many actions, with what follows, are told by their words
pub same_actions : (acts more : List Action) (x y : List ℕ) → length acts ≡ length more
    → joined (map action_words acts) ++ x ≡ joined (map action_words more) ++ y → (acts ≡ more) × (x ≡ y)
same_actions [] [] x y l e = (refl, e)
same_actions [] (b ∷ more) x y l e = absurd (omega arith)
same_actions (a ∷ acts) [] x y l e = absurd (omega arith)
same_actions (a ∷ acts) (b ∷ more) x y l e =
    let rest = same_actions acts more x y (omega arith) (ap (drop 2) e) in
    (ap₂ {C = List Action} (λ c cs. c ∷ cs) same rest.0, rest.1)
  where
    same : a ≡ b
    same =
        ap₂ {C = Action} (λ (k : Kind) (n : ℕ). record { kind = k; number = n })
        (same_kind a.kind b.kind (ap (λ l. get_or l 0 0) e)) (ap (λ l. get_or l 1 0) e)

pub words_length : (acts : List Action) → length (joined (map action_words acts)) ≡ 2 * length acts
words_length [] = refl
words_length (a ∷ acts) = let rest = words_length acts in omega arith

-- behind the words of some actions, those of more begin with a kind
pub kind_behind : (acts txn : List Action) (k n : ℕ) (left tail : List ℕ)
    → joined (map action_words txn) ++ tail ≡ joined (map action_words acts) ++ (k ∷ n ∷ left)
    → length acts < length txn → (kind : Kind) × (kind_word kind ≡ k)
kind_behind acts [] k n left tail e h = absurd (omega arith)
kind_behind [] (a ∷ txn) k n left tail e h = (a.kind, ap (λ l. get_or l 0 0) e)
kind_behind (b ∷ acts) (a ∷ txn) k n left tail e h =
    kind_behind acts txn k n left tail (ap (drop 2) e) (omega arith)

two_words : (pair : List ℕ) → length pair ≡ 2 → pair ≡ get_or pair 0 0 ∷ get_or pair 1 0 ∷ []
two_words [] l = absurd (omega arith)
two_words (x ∷ []) l = absurd (omega arith)
two_words (x ∷ y ∷ []) l = refl
two_words (x ∷ y ∷ z ∷ zs) l = absurd (omega arith)

-- actions are read: their words stand in front of `left`, and they stand in the array as far as `end`
pub record Reading (pairs left : List ℕ) (len : ℕ) (old actions : List Action) (end : ℕ) : Type 0 where
  pub acts : List Action
  pub stand_for : pairs ≡ joined (map action_words acts) ++ left
  pub ends : end ≡ len + length acts
  pub are : take end actions ≡ take len old ++ acts

-- how many words they have
pub reading_length : {pairs left : List ℕ} {len end : ℕ} {old actions : List Action}
    → (r : Reading pairs left len old actions end) → length pairs ≡ 2 * length r.acts + length left
reading_length {left = left} r =
    ap length r.stand_for ∙ length-append (joined (map action_words r.acts)) left
    ∙ ap (λ l. l + length left) (words_length r.acts)

-- one more
pub one_more : (pair left' : List ℕ) {pairs left : List ℕ} {len end : ℕ} {old actions : List Action}
    → Reading pairs left len old actions end → left ≡ pair ++ left' → length pair ≡ 2 → (kind : Kind)
    → kind_word kind ≡ get_or pair 0 0 → end < length actions → (place end' : ℕ) → place ≡ end → end' ≡ end + 1
    → Reading pairs left' len old (set actions place (record { kind = kind; number = get_or pair 1 0 })) end'
one_more pair left' {left = left} {len} {end} {old} {actions} r behind two kind is room place end' here then =
    record {
      acts = r.acts ++ (a ∷ []);
      stand_for = r.stand_for ∙ ap (λ l. joined (map action_words r.acts) ++ l) split
          ∙ sym (append_assoc (joined (map action_words r.acts)) (action_words a) left')
          ∙ ap (λ l. l ++ left') (sym (joined_map_more action_words r.acts a));
      ends = omega (arith, r.ends, length-append r.acts (a ∷ []));
      are = ap₂ (λ n i. take n (set actions i a)) then here
          ∙ filled_more (take len old) actions end r.acts a r.are room;
    }
  where
    a : Action
    a = record { kind = kind; number = get_or pair 1 0 }

    split : left ≡ action_words a ++ left'
    split =
        behind ∙ ap (λ l. l ++ left') (two_words pair two
        ∙ ap {B = List ℕ} (λ k. k ∷ get_or pair 1 0 ∷ []) (sym is))

pub no_count : (words : List ℕ) → length words ≡ 0 → NoTxn words
unfolding txn_words
no_count words l txn rest e few = omega (arith, ap length e)

module _ (words : List ℕ) (count k : ℕ) (behind : List ℕ) (begin : words ≡ count ∷ behind) (is : k ≡ count) where
  -- a transaction that the words begin with
  count_is : (txn : List Action) (rest : List ℕ) → words ≡ txn_words txn ++ rest → k ≡ length txn
  unfolding txn_words
  count_is txn rest e = is ∙ ap (λ l. get_or l 0 0) (sym begin ∙ e)

  behind_is : (txn : List Action) (rest : List ℕ) → words ≡ txn_words txn ++ rest
      → behind ≡ joined (map action_words txn) ++ rest
  unfolding txn_words
  behind_is txn rest e = ap (drop 1) (sym begin ∙ e)

  pub too_large : max_actions < k → NoTxn words
  too_large h txn rest e few = omega (arith, count_is txn rest e)

  pub too_short : length behind < 2 * k → NoTxn words
  too_short h txn rest e few =
      omega (
        arith,
        count_is txn rest e,
        ap length (behind_is txn rest e),
        length-append (joined (map action_words txn)) rest,
        words_length txn,
      )

  module _ {pairs words' rest : List ℕ} (s : IsSplitAt behind (2 * k) pairs rest) (same : words' ≡ pairs) where
    whole : behind ≡ words' ++ rest
    whole = sym (take-append-drop (2 * k) behind) ∙ ap₂ (λ (x y : List ℕ). x ++ y) (sym (same ∙ s.1)) (sym s.2)

    all : length words' ≡ 2 * k
    all = ap length same ∙ s.3

    -- there is room for one more
    pub room : {left : List ℕ} {len end : ℕ} {old actions : List Action} → Reading words' left len old actions end
        → k ≤ max_actions → 2 ≤ length left → len + max_actions ≤ slots → end < slots
    room r few more fits = let l = reading_length r in omega (arith, all, r.ends)

    -- a word that is no kind
    pub no_kind : (pair left' : List ℕ) {left : List ℕ} {len end : ℕ} {old actions : List Action}
        → Reading words' left len old actions end → left ≡ pair ++ left' → length pair ≡ 2
        → ((kind : Kind) → kind_word kind ≡ get_or pair 0 0 → ⊥) → NoTxn words
    no_kind pair left' r next two wrong txn more e few =
        let n = count_is txn more e in
        let l = reading_length r in
        let m = length-append pair left' in
        let k = kind_behind r.acts txn (get_or pair 0 0) (get_or pair 1 0) (left' ++ rest) more stand
        (omega (arith, all, ap length next)) in
        wrong k.0 k.1
      where
        stand : joined (map action_words txn) ++ more
            ≡ joined (map action_words r.acts) ++ (get_or pair 0 0 ∷ get_or pair 1 0 ∷ (left' ++ rest))
        stand =
            sym (behind_is txn more e) ∙ whole
            ∙ ap (λ l. l ++ rest) (r.stand_for
            ∙ ap (λ l. joined (map action_words r.acts) ++ l) (next ∙ ap (λ l. l ++ left') (two_words pair two)))
            ∙ append_assoc (joined (map action_words r.acts)) (get_or pair 0 0 ∷ get_or pair 1 0 ∷ left') rest

    -- all are read
    pub txn_read : {left : List ℕ} {len end : ℕ} {old actions : List Action} → Reading words' left len old actions end
        → length left < 2 → k ≤ max_actions → TxnRead words len old actions (len + k) rest
    unfolding txn_words
    txn_read {left} {len} {end} {old} {actions} r short few =
        let l = reading_length r in
        let here : len + k ≡ end = omega (arith, all, r.ends) in
        record {
          txn = r.acts;
          few = omega (arith, all);
          stand_for =
              begin
              ∙ ap₂ {C = List ℕ} (λ n ws. n ∷ ws) (omega (arith, all, is))
              (whole ∙ ap (λ ws. ws ++ rest) (r.stand_for ∙ ap (λ ws. joined (map action_words r.acts) ++ ws)
              (nothing left (omega (arith, all))) ∙ append-nil (joined (map action_words r.acts))));
          ends = omega (arith, all);
          are = ap (λ n. take n actions) here ∙ r.are;
        }
      where
        nothing : (left : List ℕ) → length left ≡ 0 → left ≡ []
        nothing [] e = refl
        nothing (x ∷ xs) e = absurd (omega arith)
