-- Positions on the clock face (document 02, T-09): what is wanted of the converter, the mirror and the arcs.
use Rattle.std.specs.Prelude.{ℕ, ◌+◌, ◌-◌, ◌*◌, ◌/◌, ◌%◌, ◌<◌, true, cond, ◌≡◌}
use Rattle.rules.specs.declared.Fields.{Fields}
use Rattle.rules.specs.declared.Mark.{Mark}
use Rattle.rules.specs.Numbers.{places}
use Rattle.rules.specs.Places.{is_time, is_place, place_of_time, time_of_place, mirror_of, mirrored_place, in_arc}
use Rattle.rules.specs.Places.{arc_of}
use Rattle.rules.specs.Places.{start_of, length_of, mirror_arc}
use Rattle.rules.specs.Template.{four_fields, mark_of, asks_arc, matches}

-- the mirrored template, whose place is an arc; and the mirrored entry. A place off the face has no mirror
abbrev pub mirror_template : Fields → Fields
mirror_template want = four_fields want.kind want.side want.image (mirror_arc want.place)

abbrev pub mirror_mark : Mark → Mark
mirror_mark have =
    mark_of have.blanks
    (four_fields have.kind have.side have.image
    (cond (is_place have.place) (mirror_of have.place) have.place))

pub record ClockFace : Type 0 where
  -- "a converter turns hour 1-12 and minute 0-59 into 0 to 719 .. and back": every time and every place
  pub on_the_face : (hour minute : ℕ) → is_time hour minute ≡ true → place_of_time hour minute < places
  pub there_and_back : (hour minute : ℕ) → is_time hour minute ≡ true
      → time_of_place (place_of_time hour minute) ≡ 256 * hour + minute
  pub back_and_there : (p : ℕ) → p < places → place_of_time (time_of_place p / 256) (time_of_place p % 256) ≡ p
  -- "mirroring twice gives p"
  pub mirror_twice : (p : ℕ) → p < places → mirrored_place (mirrored_place p) ≡ p
  -- "p lies in an arc exactly when its mirror lies in the arc of the same length starting at (720 - start - length)
  -- modulo 720"
  pub mirrored_arc : (p start long : ℕ) → p < places → start < places → long < places
      → in_arc (arc_of start long) p ≡ in_arc (mirror_arc (arc_of start long)) (mirrored_place p)
  -- both ends belong to it, and the longest is the whole face
  pub begins : (start long : ℕ) → start < places → in_arc (arc_of start long) start ≡ true
  pub ends : (start long : ℕ) → start < places → long < places
      → in_arc (arc_of start long) ((start + long) % places) ≡ true
  pub whole : (p start : ℕ) → p < places → start < places → in_arc (arc_of start (places - 1)) p ≡ true
  -- a look-up by an arc finds an entry exactly when the mirrored look-up finds the mirrored entry
  pub mirrored_match : (mask : ℕ) (want : Fields) (have : Mark) → asks_arc mask ≡ true
      → start_of want.place < places → length_of want.place < places
      → matches mask want have ≡ matches mask (mirror_template want) (mirror_mark have)
