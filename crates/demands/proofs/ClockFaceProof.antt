-- Positions on the clock face: `ClockFace`, by arithmetic.
use Prim.Native.Nat.{ℕ, ◌+◌, ◌-◌, ◌*◌, ◌/◌, ◌%◌, ◌≤◌, ◌<◌}
use mathlib.Core.Bool.{Bool, true, false, not, cond, ◌&&◌, ◌||◌}
use mathlib.Core.Path.{◌≡◌, sym, ap, ap₂, ◌∙◌}
use native.Mathlib.Decide.{dec_lt}
use native.Mathlib.Omega.{arith}
use borrow.Author.Tests.{leb-true, le-leb, lt-leb, lt-ltb, le-ltb, not-true}
use lib.Dec.{leb, ltb}
use Rattle.rules.specs.declared.Fields.{Fields}
use Rattle.rules.specs.declared.Mark.{Mark}
use Rattle.rules.specs.Numbers.{places}
use Rattle.rules.specs.Places.{no_place, is_time, is_place, place_of, hour_of, minute_of, place_of_time, time_of_place}
use Rattle.rules.specs.Places.{mirror_of}
use Rattle.rules.specs.Places.{mirrored_place, in_arc, arc_of, start_of, length_of, mirror_arc}
use Rattle.rules.specs.Template.{bit, agrees, asked_equal, asks_arc, matches}
use Rattle.rules.proofs.BoolLaws.{and_left, and_right}
use Rattle.demands.specs.ClockFace.{mirror_template, mirror_mark, ClockFace}

-- ---- the converter
pub record Time (hour minute : ℕ) : Type 0 where
  pub first : 1 ≤ hour
  pub last : hour ≤ 12
  pub low : minute ≤ 59

time : (hour minute : ℕ) → is_time hour minute ≡ true → Time hour minute
time hour minute e =
    let hours = and_left (leb 1 hour && leb hour 12) (leb minute 59) e in
    record {
      first = leb-true _ _ (and_left (leb 1 hour) (leb hour 12) hours);
      last = leb-true _ _ (and_right (leb 1 hour) (leb hour 12) hours);
      low = leb-true _ _ (and_right (leb 1 hour && leb hour 12) (leb minute 59) e);
    }

on_face : (hour minute : ℕ) → is_time hour minute ≡ true → place_of_time hour minute < places
unfolding place_of_time place_of
on_face hour minute e = let t = time hour minute e in rw e (omega (arith, t.first, t.last, t.low))

back : (hour minute : ℕ) → is_time hour minute ≡ true → time_of_place (place_of_time hour minute) ≡ 256 * hour + minute
unfolding place_of_time place_of time_of_place hour_of minute_of
back hour minute e =
    let t = time hour minute e in
    let p = hour % 12 * 60 + minute in
    let on : p < places = omega (arith, t.first, t.last, t.low) in
    rw (e, lt-ltb p places on) (go (dec_lt p 60))
  where
    go : Dec (hour % 12 * 60 + minute < 60)
        → 256 * cond (ltb (hour % 12 * 60 + minute) 60) 12 ((hour % 12 * 60 + minute) / 60)
        + (hour % 12 * 60 + minute) % 60 ≡ 256 * hour + minute
    go (yes l) = let t = time hour minute e in rw (lt-ltb _ 60 l) (omega (arith, t.first, t.last, t.low))
    go (no l) =
        let t = time hour minute e in
        rw (le-ltb (hour % 12 * 60 + minute) 60 (omega arith)) (omega (arith, t.first, t.last, t.low))

hour_in : (p : ℕ) → p < places → (1 ≤ hour_of p) × (hour_of p ≤ 12) × (hour_of p % 12 ≡ p / 60)
unfolding hour_of
hour_in p l = go (dec_lt p 60)
  where
    go : Dec (p < 60)
        → (1 ≤ cond (ltb p 60) 12 (p / 60)) × (cond (ltb p 60) 12 (p / 60) ≤ 12)
        × (cond (ltb p 60) 12 (p / 60) % 12 ≡ p / 60)
    go (yes h) = rw (lt-ltb p 60 h) (omega arith, omega arith, omega arith)
    go (no h) = rw (le-ltb p 60 (omega arith)) (omega arith, omega arith, omega arith)

there : (p : ℕ) → p < places → place_of_time (time_of_place p / 256) (time_of_place p % 256) ≡ p
unfolding place_of_time place_of time_of_place minute_of
there p l =
    let h = hour_in p l in
    let t : time_of_place p ≡ 256 * hour_of p + p % 60 =
    ap (λ b. cond b (256 * hour_of p + p % 60) no_place) (lt-ltb p places l) in
    let hour : time_of_place p / 256 ≡ hour_of p = omega (arith, t, h.1) in
    let minute : time_of_place p % 256 ≡ p % 60 = omega (arith, t, h.1) in
    let good : is_time (hour_of p) (p % 60) ≡ true =
    rw (le-leb 1 (hour_of p) h.0, le-leb (hour_of p) 12 h.1, le-leb (p % 60) 59 (omega arith)) in
    ap₂ place_of_time hour minute
    ∙ ap (λ b. cond b (hour_of p % 12 * 60 + p % 60) no_place) good
    ∙ omega (arith, h.2)

-- ---- the mirror
on_mirror : (p : ℕ) → mirror_of p < places
unfolding mirror_of
on_mirror p = omega arith

twice : (p : ℕ) → p < places → mirrored_place (mirrored_place p) ≡ p
unfolding mirrored_place mirror_of
twice p l = rw (lt-ltb p places l, lt-ltb ((places - p) % places) places (omega arith)) (omega arith)

-- ---- arcs: where a distance and its mirror's add up to the length, but for whole turns, both are within it or neither
within : (r s long a b : ℕ) → r < places → s < places → long < places → s + r + places * a ≡ long + places * b
    → leb r long ≡ leb s long
within r s long a b x y z e = go (dec_lt long r)
  where
    go : Dec (long < r) → leb r long ≡ leb s long
    go (yes l) = lt-leb r long l ∙ sym (lt-leb s long (omega arith))
    go (no l) = le-leb r long (omega arith) ∙ sym (le-leb s long (omega arith))

mirror_arc_lem : (p start long : ℕ) → p < places → start < places → long < places
    → let q = (places - p) % places in
    let first = (2 * places - start - long) % places in
    leb ((p + places - start) % places) long ≡ leb ((q + places - first) % places) long
mirror_arc_lem p start long x y z =
    let q = (places - p) % places in
    let first = (2 * places - start - long) % places in
    within ((p + places - start) % places) ((q + places - first) % places) long
    ((p + places - start) / places + (places - p) / places + (q + places - first) / places)
    ((2 * places - start - long) / places + 1) (omega arith) (omega arith) z (omega arith)

-- an arc's two numbers
start_is : (start long : ℕ) → start < places → start_of (arc_of start long) ≡ start
start_is start long l = omega arith

length_is : (start long : ℕ) → start < places → length_of (arc_of start long) ≡ long
length_is start long l = omega arith

arc_mirrored : (arc p : ℕ) → p < places → start_of arc < places → length_of arc < places
    → in_arc arc p ≡ in_arc (mirror_arc arc) (mirror_of p)
unfolding in_arc mirror_arc mirror_of
arc_mirrored arc p x y z =
    let q = (places - p) % places in
    let first = (2 * places - start_of arc - length_of arc) % places in
    let f : first < places = omega arith in
    rw (
      lt-ltb p places x,
      lt-ltb q places (omega arith),
      start_is first (length_of arc) f,
      length_is first (length_of arc) f,
    )
    (mirror_arc_lem p (start_of arc) (length_of arc) x y z)

by_numbers : (p start long : ℕ) → p < places → start < places → long < places
    → in_arc (arc_of start long) p ≡ in_arc (mirror_arc (arc_of start long)) (mirrored_place p)
unfolding mirrored_place
by_numbers p start long x y z =
    arc_mirrored (arc_of start long) p x (omega (arith, start_is start long y)) (omega (arith, length_is start long y))
    ∙ ap (λ b. in_arc (mirror_arc (arc_of start long)) (cond b (mirror_of p) no_place)) (sym (lt-ltb p places x))

within_is : (p start long : ℕ) → p < places → start < places → (p + places - start) % places ≤ long
    → in_arc (arc_of start long) p ≡ true
unfolding in_arc
within_is p start long x y l =
    rw (lt-ltb p places x, start_is start long y, length_is start long y, le-leb ((p + places - start) % places) long l)

-- ---- over the space
-- no place off the face
off : (arc p : ℕ) → places ≤ p → in_arc arc p ≡ false
unfolding in_arc
off arc p l = rw (le-ltb p places l)

place_mirrored : (arc : ℕ) (blank : Bool) (p : ℕ) → start_of arc < places → length_of arc < places
    → (not blank && in_arc arc p) ≡ (not blank && in_arc (mirror_arc arc) (cond (is_place p) (mirror_of p) p))
place_mirrored arc blank p y z = ap (λ b. not blank && b) (go (dec_lt p places))
  where
    go : Dec (p < places) → in_arc arc p ≡ in_arc (mirror_arc arc) (cond (is_place p) (mirror_of p) p)
    go (yes l) =
        arc_mirrored arc p l y z
        ∙ ap (λ b. in_arc (mirror_arc arc) (cond b (mirror_of p) p)) (sym (lt-ltb p places l))
    go (no l) =
        off arc p (omega arith)
        ∙ sym (ap (λ b. in_arc (mirror_arc arc) (cond b (mirror_of p) p)) (le-ltb p places (omega arith))
        ∙ off (mirror_arc arc) p (omega arith))

match_mirrored : (mask : ℕ) (want : Fields) (have : Mark) → asks_arc mask ≡ true
    → start_of want.place < places → length_of want.place < places
    → matches mask want have ≡ matches mask (mirror_template want) (mirror_mark have)
unfolding matches asked_equal
match_mirrored mask want have e y z =
    let none : bit 3 mask ≡ false = not-true (bit 3 mask) (and_right (bit 4 mask) (not (bit 3 mask)) e) in
    rw (none)
    (ap (λ r. agrees (bit 0 mask) (bit 0 have.blanks) want.kind have.kind
    && agrees (bit 1 mask) (bit 1 have.blanks) want.side have.side
    && agrees (bit 2 mask) (bit 2 have.blanks) want.image have.image
    && true && (not (bit 4 mask && true) || r))
    (place_mirrored want.place (bit 3 have.blanks) have.place y z))

pub clock-face-holds : ClockFace
clock-face-holds =
    record {
      on_the_face = on_face;
      there_and_back = back;
      back_and_there = there;
      mirror_twice = twice;
      mirrored_arc = by_numbers;
      begins = λ start long l. within_is start start long l l (omega arith);
      ends = λ start long l m. within_is ((start + long) % places) start long (omega arith) l (omega arith);
      whole = λ p start l m. within_is p start (places - 1) l m (omega arith);
      mirrored_match = match_mirrored;
    }
