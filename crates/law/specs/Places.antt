-- Points with a cheaper line through them.
--   beaten           1 where a line through the point and one of another speed is cheaper than l; else 0
--   cheaper_places   how many places of the list have such a point
-- Assumes nothing.
use Rattle.std.specs.Prelude.{ℕ, min, List}
use Rattle.lines.specs.Lines.{AnyLine}
use Rattle.theory.specs.Points.{Point}
use Rattle.theory.specs.Pairs.{sum_n, beats}

unfoldable pub beaten : AnyLine → List Point → Point → ℕ
beaten l xs x = min 1 (sum_n (beats l xs x) xs)

unfoldable pub cheaper_places : AnyLine → List Point → ℕ
cheaper_places l xs = sum_n (beaten l xs) xs
