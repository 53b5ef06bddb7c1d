-- A setup that is not refused.
use Prim.Native.Nat.{ℕ, ◌+◌, ◌*◌, ◌≤◌}
use mathlib.Core.Bool.{false, not, ◌||◌}
use mathlib.Core.Path.{◌≡◌}
use mathlib.Core.List.{List}
use borrow.Author.Tests.{ltb-false, eqb-true, not-false}
use lib.Dec.{eqb, ltb}
use lib.ListN.{length}
use Rattle.rules.proofs.BoolLaws.{or_left, or_right}
use Rattle.trial.specs.Setup.{pane_count, starting_count, bad_setup}

pub record Fair (ws : List ℕ) (room : ℕ) : Type 0 where
  pub long : 3 ≤ length ws
  pub few : pane_count ws ≤ 4
  pub starting : starting_count ws ≤ 8
  pub size : length ws ≡ 3 + 6 * pane_count ws + 5 * starting_count ws
  pub counts : 3 * pane_count ws ≤ room

-- 23 does not apply
pub fair : (ws : List ℕ) (room : ℕ) → bad_setup ws room ≡ false → Fair ws room
unfolding bad_setup
fair ws room e =
    let short = ltb (length ws) 3 in
    let none = short || eqb (pane_count ws) 0 in
    let many = none || ltb 4 (pane_count ws) in
    let more = many || ltb 8 (starting_count ws) in
    let words = eqb (length ws) (3 + 6 * pane_count ws + 5 * starting_count ws) in
    let narrow = ltb room (3 * pane_count ws) in
    let e5 = or_left (more || not words) narrow e in
    let e4 = or_left more (not words) e5 in
    let e3 = or_left many (ltb 8 (starting_count ws)) e4 in
    let e2 = or_left none (ltb 4 (pane_count ws)) e3 in
    record {
      long = ltb-false _ _ (or_left short (eqb (pane_count ws) 0) e2);
      few = ltb-false _ _ (or_right none (ltb 4 (pane_count ws)) e3);
      starting = ltb-false _ _ (or_right many (ltb 8 (starting_count ws)) e4);
      size = eqb-true _ _ (not-false words (or_right more (not words) e5));
      counts = ltb-false _ _ (or_right (more || not words) narrow e);
    }
