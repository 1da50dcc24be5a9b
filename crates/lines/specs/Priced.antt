-- Which of two lines is cheaper.
--   Cheaper   its total over its A is the smaller, by cross products, since a miss counts A times
-- Assumes nothing.
use Rattle.std.specs.Prelude.{◌*ℤ◌, ◌<ℤ◌}
use Rattle.lines.specs.declared.priced.PricedLine.{PricedLine}

abbrev pub Cheaper : PricedLine → PricedLine → Type 0
Cheaper x y = (x.total *ℤ y.line.a) <ℤ (y.total *ℤ x.line.a)
