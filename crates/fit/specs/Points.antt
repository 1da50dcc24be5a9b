-- Shots as weighted points.
--   point_at   a shot at a pair of prices: its speed and lead, and its weight times the late and times the early price
--   point      a shot at the prices of its stuff
--   points     a list of shots, one by one
-- Assumes nothing.
use Rattle.std.specs.Prelude.{ℕ, ◌*◌, List, map, ℤ, pos}
use Rattle.shots.specs.declared.shot.Shot.{Shot}
use Rattle.theory.specs.Points.{Point}

abbrev pub point_at : Shot → ℕ × ℕ → Point
point_at z p = record { s = pos z.speed; h = z.lead; u = z.weight * p.0; v = z.weight * p.1 }

abbrev pub point : (ℤ → ℕ × ℕ) → Shot → Point
point tariff z = point_at z (tariff (pos z.stuff))

abbrev pub points : (ℤ → ℕ × ℕ) → List Shot → List Point
points tariff xs = map (point tariff) xs
