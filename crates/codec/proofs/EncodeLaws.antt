-- A frame's bytes: the first of all 28.
use Prim.Native.Nat.{ℕ, ◌≤◌, ◌<◌}
use mathlib.Core.Path.{◌≡◌, sym, ap, ◌∙◌}
use mathlib.Core.List.{List, [], ◌∷◌, ◌++◌}
use native.Mathlib.Omega.{arith}
use lib.ListN.{length, take}
use borrow.Author.Tests.{le-leb, lt-leb}
use Rattle.std.proofs.lemmas.List.{length-take}
use Rattle.rules.specs.Frame.{Frame, four_bytes, frame_length, frame_bytes}
use Rattle.codec.specs.Area.{over, fields_bytes, FramePut}
use Rattle.codec.proofs.FrontLaws.{front-none, front-all}
use Rattle.codec.proofs.LengthLaws.{at_most_28}

abbrev pub all_bytes : Frame → List ℕ
all_bytes f =
    (f.op ∷ f.party ∷ f.mask ∷ f.byte3 ∷ [])
    ++ four_bytes f.txn
    ++ four_bytes f.lease_or_timeout
    ++ fields_bytes f.fields

module _ (f : Frame) (old : List ℕ) (n : ℕ) (e : n ≡ frame_length f.op) where
  long : length (frame_bytes f) ≡ n
  unfolding frame_bytes
  long = simp length-take (omega (arith, e, at_most_28 f.op))

  pub frame-none : length old < n → FramePut f old old 0
  frame-none o = front-none _ _ _ (lt-leb (length (frame_bytes f)) (length old) (omega (arith, long)))

  pub frame-all : (new : List ℕ) → n ≤ length old → new ≡ over old 0 (take n (all_bytes f)) → FramePut f old new n
  unfolding frame_bytes
  frame-all new r p =
      front-all _ _ _ _ _ (le-leb (length (frame_bytes f)) (length old) (omega (arith, long)))
      (p ∙ ap (λ k. over old 0 (take k (all_bytes f))) e) (sym long) r
