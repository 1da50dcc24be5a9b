-- A whole life, made in one call.
--   Made    the moments of the calls are written down, in their order, and the law holds of each; what is beyond stays
--   Lives   the answer: a life was made where the rack held no shot and there was room for a moment of each call, and the
--           rack holds what the accepted calls left; else none was, and nothing is written
-- Assumes nothing.
use Rattle.std.specs.Prelude.{◌≡◌, ℕ, ◌<◌, ◌≤◌, List, [], reverse, length, take, drop, ℤ, Some, None, Option}
use Rattle.shots.specs.declared.shot.Shot.{Shot}
use Rattle.law.specs.declared.kinds.Call.{Call}
use Rattle.law.specs.declared.kinds.Moment.{Moment}
use Rattle.law.specs.Lives.{held_by, Transcript}

pub record Made (tariff : ℤ → ℕ × ℕ) (cap : ℕ) (calls : List Call) (before after : List Moment) (held : List Shot) : Type 0 where
  pub transcript : Transcript tariff cap calls (take (length calls) after)
  pub beyond : drop (length calls) after ≡ drop (length calls) before
  pub holds : held ≡ held_by (reverse (take (length calls) after))

-- xs are the shots in the rack at first, and ys those at last
abbrev pub Lives : (ℤ → ℕ × ℕ) → ℕ → List Shot → List Call → List Moment → Option ℕ → List Moment → List Shot → Type 0
Lives tariff cap xs calls before (Some n) after ys =
    (xs ≡ []) × (length calls ≤ length before) × (n ≡ length calls) × Made tariff cap calls before after ys
Lives tariff cap xs calls before None after ys = (xs ≡ [] → length before < length calls) × (after ≡ before) × (ys ≡ xs)
