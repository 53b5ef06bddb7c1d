use Rattle.std.proofs.Common.{◌≡◌, ◌<◌, ℕ, List, arith}
use mathlib.Core.Path.{subst⁻¹}
use Rattle.rules.specs.declared.Txn.{Txn}
use Rattle.rules.specs.Words.{row, txns_at, txn_width}
use Rattle.tables.specs.Rows.{txn_row}
use Rattle.tables.proofs.Tables.{txns-read}
use Rattle.available.specs.Live.{no_slot}
use Rattle.holds.proofs.SlotLaws.{used_none, used_more, used_all, slot-low}
use Rattle.holds.proofs.txns.used_slots.Goals as goal

low : {t : Txn} (ws : List ℕ) (i : ℕ) → t ≡ txn_row ws i → t.slot < no_slot
low ws i e = subst⁻¹ (λ (x : Txn). x.slot < no_slot) e (slot-low (row txns_at txn_width ws i))

pub loop-i-init : goal.loop-i-init
loop-i-init c = used_none

pub add_reader-used-requires : goal.add_reader-used-requires
add_reader-used-requires c =
    let fits = low c.args.space.now c.loop-i.i c.row_at-t.ensures in
    omega arith

pub loop-i-preserved : goal.loop-i-preserved
loop-i-preserved c =
    let t = c.row_at-t.ensures in
    used_more c.loop-i.invariant t (low c.args.space.now c.loop-i.i t) c.add_reader-used.ensures

pub returns : goal.returns
returns c = used_all (txns-read c.args.space.now) c.loop-i.invariant (omega arith)
