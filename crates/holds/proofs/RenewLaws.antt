-- A renewal by the row is one by the number, where no two entries have one.
use Prim.Native.Nat.{ℕ, ◌<◌}
use mathlib.Core.Bool.{cond}
use mathlib.Core.Path.{◌≡◌, sym, ap, ap₂, ◌∙◌}
use mathlib.Core.List.{List, map}
use lib.Dec.{eqb}
use lib.ListN.{length, get_or}
use Rattle.rules.specs.declared.Entry.{Entry}
use Rattle.rules.specs.Time.{until}
use Rattle.rules.specs.State.{Model, with_entries}
use Rattle.rules.specs.Frame.{Frame, entry_named}
use Rattle.rules.specs.Renew.{ending_at, without_entry, renewed_to, renew_entries, renew}
use Rattle.rules.specs.Sound.{Ascending}
use Rattle.holds.specs.Renew.{renewed_at}
use Rattle.holds.proofs.HandLaws.{alone}

pub by_row : (m : Model) (f : Frame) (e : Entry) (i : ℕ) → i < length m.entries → get_or m.entries i e ≡ e
    → Ascending (map (λ (x : Entry). x.id.0) m.entries) → e.id.0 ≡ entry_named f
    → renewed_at f.lease_or_timeout e i m ≡ (renew m f).model
unfolding renewed_at renew renew_entries
by_row m f e i h q a n =
    let r = alone e m.entries i h q a in
    let end = until m.clock f.lease_or_timeout in
    ap (λ (es : List Entry). with_entries es m)
    (ap₂ (cond (eqb f.lease_or_timeout 0)) (sym r.0) (sym (r.1 (ending_at end))))
    ∙ ap (λ k. with_entries (cond (eqb f.lease_or_timeout 0) (without_entry k m.entries)
    (renewed_to k end m.entries)) m) n
