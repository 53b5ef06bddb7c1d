-- "From the tray alone, without running it, give two bounds" (document 02, T-10).
use Rattle.std.specs.Prelude.{ℕ, ◌+◌, ◌*◌, min, Bool, cond, ◌||◌, List, [], ◌∷◌, leb, length}
use Rattle.rules.specs.Lists.{filterb}
use Rattle.rules.specs.Numbers.{max_entries, max_registrations}
use Rattle.rules.specs.Frame.{byte_at, is_write, is_look_up, is_create, is_commit, is_notify}
use Rattle.rules.specs.Tray.{frames_of, tray_refusal}

-- "Frames are told apart by byte 0 alone, garbled ones too; an empty one is none of these kinds": its byte 0 is read as
-- 0, which is no operation
abbrev pub kind_of : List ℕ → ℕ
kind_of f = byte_at f 0

-- how many frames are of a kind
unfoldable pub many : (ℕ → Bool) → List (List ℕ) → ℕ
many p fs = length (filterb (λ f. p (kind_of f)) fs)

-- "entries stored together at most, the lesser of 64 and the writes"
unfoldable pub entries_bound : List (List ℕ) → ℕ
entries_bound fs = min max_entries (many is_write fs)

-- "for each write or commit the lesser of 8 and the notify frames ahead of it", where some are ahead of all
unfoldable pub bells_bound : ℕ → List (List ℕ) → ℕ
bells_bound ahead [] = 0
bells_bound ahead (f ∷ fs) =
    cond (is_write (kind_of f) || is_commit (kind_of f)) (min max_registrations ahead) 0
    + bells_bound (ahead + cond (is_notify (kind_of f)) 1 0) fs

-- "records, at most frames + look-ups + creates + .."
unfoldable pub records_bound : List (List ℕ) → ℕ
records_bound fs = length fs + many is_look_up fs + many is_create fs + bells_bound 0 fs

-- entries + 65,536 × records + 4,294,967,296 × number; "A tray that 15 or 16 refuses gives that number and no bounds"
unfoldable pub bounds_number : List ℕ → ℕ
bounds_number tray =
    let n = tray_refusal tray in
    let bounds = entries_bound (frames_of tray) + 65536 * records_bound (frames_of tray) in
    cond (leb n 0) bounds (4294967296 * n)
