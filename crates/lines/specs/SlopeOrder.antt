-- The order of slopes by their values: cross products, since both runs are above 0.
--   slope_cmp   how one slope compares with another
--   slope_le    one slope is at most another, as a test
-- Assumes nothing.
use Rattle.std.specs.Prelude.{Bool, ◌*ℤ◌, int_le}
use Rattle.std.specs.Ordering.{int_cmp}
use Rattle.std.specs.declared.cmp.Ordering.{Ordering}
use Rattle.lines.specs.declared.slope.Slope.{Slope}

abbrev pub slope_cmp : Slope → Slope → Ordering
slope_cmp x y = int_cmp (x.rise *ℤ y.run) (y.rise *ℤ x.run)

abbrev pub slope_le : Slope → Slope → Bool
slope_le x y = int_le (x.rise *ℤ y.run) (y.rise *ℤ x.run)
