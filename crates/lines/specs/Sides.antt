-- On which side of a line a shot lies.
--   side_of   late for a miss above 0, early for one below 0, else on the line
-- Assumes nothing.
use Rattle.std.specs.Prelude.{cond, ℤ, pos, int_lt}
use Rattle.lines.specs.declared.miss.Side.{Side}
use Rattle.lines.specs.declared.miss.Side.TheVariants.{Late, Early, On}

abbrev pub side_of : ℤ → Side
side_of e = cond (int_lt (pos 0) e) Late (cond (int_lt e (pos 0)) Early On)
