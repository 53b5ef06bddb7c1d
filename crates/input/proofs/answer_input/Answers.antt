use Rattle.std.proofs.Common.{◌≡◌, ℕ, ◌≤◌, refl, List, length, take, length-take, arith}
use Rattle.input.proofs.answer_input.Goals as goal

front : (n : ℕ) (xs : List ℕ) → n ≤ length xs → n ≡ length (take n xs)
front n xs h = omega (arith, length-take n xs)

-- the text lies within its buffer
pub slice_bounds-write_all-end : goal.slice_bounds-write_all-end
slice_bounds-write_all-end g c =
    let few = length-take c.in-Ok.len c.read_input.new.buf in
    (c.requires _ _ (omega (arith, few, c.read_input.auto.buf)) refl).1 _ _ c.answer-end.ensures

pub slice_bounds-write_all-end-2 : goal.slice_bounds-write_all-end-2
slice_bounds-write_all-end-2 g c =
    front c.answer-end.result c.answer-end.new.arg3
    (let few = length-take c.in-Ok.len c.read_input.new.buf in
    (c.requires _ _ (omega (arith, few, c.read_input.auto.buf)) refl).1 _ _ c.answer-end.ensures)
