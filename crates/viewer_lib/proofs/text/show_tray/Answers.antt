use Rattle.std.proofs.Common.{ℕ, ◌+◌, ◌*◌, ◌/◌, ◌%◌, ◌≤◌, List, length, get_or, Fits, w8, arith}
use Rattle.demands.specs.Bounds.{AreBytes}
use Rattle.printer.specs.Text.{line_size}
use Rattle.rules.specs.Allowed.{TrayRan}
use Rattle.rules.specs.Numbers.{record_size}
use Rattle.viewer_lib.proofs.ShownLaws.{are_bytes, records_fit, shown}
use Rattle.viewer_lib.proofs.text.show_tray.Goals as goal

bytes : (bs : List ℕ) → ((i : ℕ) → Fits w8 (get_or bs i 0)) → AreBytes bs
bytes bs h = are_bytes bs (λ i. let b = h i in omega arith)

-- the records fit the area
fit : {tray area area' : List ℕ} {told : ℕ} → TrayRan tray area told area' → ((i : ℕ) → Fits w8 (get_or tray i 0))
    → record_size * (told / 65536 % 65536) ≤ length area
fit {tray} r h = records_fit _ _ _ _ r (bytes tray h)

pub put_records-at-requires : goal.put_records-at-requires
put_records-at-requires c =
    let f = fit c.run_tray-told.ensures c.type_inv.tray in
    (omega (arith, f), omega (arith, f))

-- there is room for the last line behind the records' lines
pub slice_bounds-done_line-end : goal.slice_bounds-done_line-end
slice_bounds-done_line-end c =
    omega (arith, c.put_records-at.ensures.1, fit c.run_tray-told.ensures c.type_inv.tray)

pub returns : goal.returns
returns c =
    let t = c.run_tray-told in
    let p = c.put_records-at in
    let room : p.result + line_size ≤ length p.new.out = omega (arith, p.ensures.1, fit t.ensures c.type_inv.tray) in
    shown _ _ _ _ t.ensures (bytes _ c.type_inv.tray) _ _ _ _ _ p.ensures.0 room c.done_line.ensures
    c.done_line.auto.out
