-- Where another transaction has an entry, it is not available.
use mathlib.Core.Bool.{Bool, true, false, not, ◌&&◌, ◌||◌}
use mathlib.Core.Path.{◌≡◌, refl}
use mathlib.Core.List.{List}
use lib.Dec.{eqb}
use Rattle.rules.specs.declared.Entry.{Entry}
use Rattle.rules.specs.declared.LookUp.{LookUp}
use Rattle.rules.specs.declared.Txn.{Txn}
use Rattle.rules.specs.Template.{matches}
use Rattle.rules.specs.Holds.{read_by_other, visible, available, others_if, conflicts}

-- m: it matches; a, b: it is committed, or private to the look-up's transaction; c, d: it has no take hold, or that
-- transaction's;
-- k: a read hold of another bars the look-up
another : (m a b c d k : Bool)
    → (m && not (m && (c && (a || b)) && not k) && (not a && not b || not c && not d || k))
    ≡ (m && (not a && not b || not c && not d || k))
another false a b c d k = refl
another true true b true d true = refl
another true true b true d false = refl
another true true b false d k = refl
another true false true true d true = refl
another true false true true d false = refl
another true false true false d k = refl
another true false false true d k = refl
another true false false false d k = refl

pub others_conflict : (ts : List Txn) (w : LookUp) (e : Entry)
    → conflicts ts w e ≡ (matches w.mask w.fields e.fields && others_if (read_by_other ts w.txn.0 e) w e)
unfolding conflicts available visible
others_conflict ts w e =
    another (matches w.mask w.fields e.fields) (eqb e.private_to.0 0)
    (eqb e.private_to.0 w.txn.0)
    (eqb e.taken_by.0 0) (eqb e.taken_by.0 w.txn.0) (w.takes && read_by_other ts w.txn.0 e)
