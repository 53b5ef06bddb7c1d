-- What of the refusals 4, 5 and 21 the first four bytes tell, and the rest as far as it is known.
use Rattle.std.specs.Prelude.{ℕ, Bool, not, cond, ◌||◌, List, eqb, ltb}
use Rattle.rules.specs.declared.Fields.{Fields}
use Rattle.rules.specs.Numbers.{max_party, form_refused, party_refused, place_refused}
use Rattle.rules.specs.Frame.{byte_at, is_tick}
use Rattle.rules.specs.Refusals.{bad_template, bad_arc}

-- 5, of an operation and a party
abbrev pub no_party : ℕ → ℕ → Bool
no_party op party = cond (is_tick op) (not (eqb party 0)) (eqb party 0 || ltb max_party party)

-- 4 or 5 or neither, where 4 finds `bad` besides byte 3
abbrev pub head_refusal : List ℕ → ℕ → Bool → ℕ
head_refusal bs op bad =
    cond (not (eqb (byte_at bs 3) 0) || bad) form_refused (cond (no_party op (byte_at bs 1)) party_refused 0)

-- 4, 5, 21 or none of a frame with a template, where 4 finds `bad` besides byte 3, the mask and the template
abbrev pub template_refusal : List ℕ → ℕ → Fields → Bool → ℕ
template_refusal bs op fields bad =
    let mask = byte_at bs 2 in
    let n = head_refusal bs op (ltb 23 mask || bad_template mask fields || bad) in
    cond (eqb n 0) (cond (bad_arc mask fields.place) place_refused 0) n
