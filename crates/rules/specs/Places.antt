-- Positions on the clock face: places as hour and minute, their mirror, and arcs (document 02, T-09).
use Rattle.std.specs.Prelude.{ℕ, ◌+◌, ◌-◌, ◌*◌, ◌/◌, ◌%◌, Bool, cond, ◌&&◌, leb, ltb}
use Rattle.rules.specs.Numbers.{places, place_refused}

-- "hour 1-12 and minute 0-59"
abbrev pub is_time : ℕ → ℕ → Bool
is_time hour minute = leb 1 hour && leb hour 12 && leb minute 59

abbrev pub is_place : ℕ → Bool
is_place p = ltb p places

-- "A converter turns hour 1-12 and minute 0-59 into 0 to 719, with 12:00 as 0, and back"
unfoldable pub place_of : ℕ → ℕ → ℕ
place_of hour minute = hour % 12 * 60 + minute

unfoldable pub hour_of : ℕ → ℕ
hour_of p = cond (ltb p 60) 12 (p / 60)

unfoldable pub minute_of : ℕ → ℕ
minute_of p = p % 60

-- "its mirror is (720 - p) modulo 720"
unfoldable pub mirror_of : ℕ → ℕ
mirror_of p = (places - p) % places

-- what the host gets: 256 × hour + minute in one number; and 65,536 × the refusal's number where "a position to convert
-- or mirror exceeds 719, or an hour or minute is out of range"
abbrev pub no_place : ℕ
no_place = 65536 * place_refused

unfoldable pub place_of_time : ℕ → ℕ → ℕ
place_of_time hour minute = cond (is_time hour minute) (place_of hour minute) no_place

unfoldable pub time_of_place : ℕ → ℕ
time_of_place p = cond (is_place p) (256 * hour_of p + minute_of p) no_place

unfoldable pub mirrored_place : ℕ → ℕ
mirrored_place p = cond (is_place p) (mirror_of p) no_place

-- ---- arcs
-- "low 16 bits start, high 16 bits length"
abbrev pub start_of : ℕ → ℕ
start_of arc = arc % 65536

abbrev pub length_of : ℕ → ℕ
length_of arc = arc / 65536

abbrev pub arc_of : ℕ → ℕ → ℕ
arc_of start long = start + 65536 * long

-- "It matches p from 0 to 719 exactly if (p - start) modulo 720 is at most the length"
unfoldable pub in_arc : ℕ → ℕ → Bool
in_arc arc p = is_place p && leb ((p + places - start_of arc) % places) (length_of arc)

-- "the arc of the same length starting at (720 - start - length) modulo 720"
unfoldable pub mirror_arc : ℕ → ℕ
mirror_arc arc = arc_of ((2 * places - start_of arc - length_of arc) % places) (length_of arc)
