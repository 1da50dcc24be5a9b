-- The turn of a line about a held shot z.
--   PullFrom      the pull of two shots, the slower one first: its key is the slope from one to the other, its prices are the weight times either price times the difference in speed
--   PullAt        the pull of a shot about z at a pair of prices: late under and early over if it is the faster, early under and late over if it is the slower
--   Pulls         the pulls about z of a list of shots, in their order, without those of z's own speed
--   TurnedAbout   the answer: the line through z with the balance slope, or none where all shots have the speed of z
--   TurnedAt      the same about the shot at a place; none too where no shot is held there
--   Descends      if the shot at that place is on a line and has a rate below 0, then the answer is a line, it is cheaper, and it is the lowest of the cheapest lines through the shot
--   LowestAt      each line through the shot at that place of a lower slope than the answer is dearer
-- Assumes nothing.
use Rattle.std.specs.Prelude.{◌≡◌, ℕ, ◌*◌, ◌<◌, ◌⊎◌, List, [], ◌∷◌, ℤ, pos, ◌*ℤ◌, Some, None, Option, slice_index_or, unsigned_abs}
use Rattle.shots.specs.declared.shot.Shot.{Shot}
use Rattle.lines.specs.Lines.{any, On}
use Rattle.lines.specs.Slopes.{Reduced}
use Rattle.lines.specs.Through.{run_of, rise_of}
use Rattle.lines.specs.declared.line.Line.{Line}
use Rattle.lines.specs.declared.slope.Slope.{Slope}
use Rattle.racks.specs.Racks.{Holds}
use Rattle.theory.specs.Points.{In, Cheaper}
use Rattle.theory.specs.Rates.{Failing}
use Rattle.theory.specs.Turning.{Balanced, Turned, LowestThrough}
use Rattle.balance.specs.declared.pull.Pull.{Pull}
use Rattle.fit.specs.Points.{point, points}

pub record PullFrom (slow fast : Shot) (w u v : ℕ) (p : Pull Slope) : Type 0 where
  pub key : Reduced (rise_of slow fast) (run_of slow fast) p.key
  pub under : pos p.under ≡ pos (w * u) *ℤ run_of slow fast
  pub over : pos p.over ≡ pos (w * v) *ℤ run_of slow fast

abbrev pub PullAt : Shot → Shot → ℕ × ℕ → Pull Slope → Type 0
PullAt z y prices p =
    ((z.speed < y.speed) × PullFrom z y y.weight prices.0 prices.1 p)
    ⊎ ((y.speed < z.speed) × PullFrom y z y.weight prices.1 prices.0 p)

abbrev pub Pulls : (ℤ → ℕ × ℕ) → Shot → List Shot → List (Pull Slope) → Type 0
Pulls tariff z [] ps = ps ≡ []
Pulls tariff z (y ∷ ys) ps =
    ((y.speed ≡ z.speed) × Pulls tariff z ys ps)
    ⊎ ((p : Pull Slope) × (qs : List (Pull Slope)) × (ps ≡ p ∷ qs) × PullAt z y (tariff (pos y.stuff)) p × Pulls tariff z ys qs)

abbrev pub TurnedAbout : (ℤ → ℕ × ℕ) → List Shot → Shot → Option Line → Type 0
TurnedAbout tariff xs z (Some m) = Balanced (points tariff xs) (point tariff z) (any m)
TurnedAbout tariff xs z None = (y : Shot) → In y xs → y.speed ≡ z.speed

abbrev pub TurnedAt : (ℤ → ℕ × ℕ) → List Shot → ℤ → Option Line → Type 0
TurnedAt tariff xs p (Some m) = (z : Shot) × Holds xs p × (z ≡ slice_index_or xs (unsigned_abs p) z) × Balanced (points tariff xs) (point tariff z) (any m)
TurnedAt tariff xs p None = (z : Shot) → Holds xs p → z ≡ slice_index_or xs (unsigned_abs p) z → (y : Shot) → In y xs → y.speed ≡ z.speed

abbrev pub Descends : (ℤ → ℕ × ℕ) → List Shot → ℤ → Option Line → Type 0
Descends tariff xs p r =
    (z : Shot) → Holds xs p → z ≡ slice_index_or xs (unsigned_abs p) z → (l : Line) → On l z → Failing (any l) (points tariff xs) (point tariff z)
    → (m : Line)
    × (r ≡ Some m)
    × Cheaper (any m) (any l) (points tariff xs)
    × Turned (points tariff xs) (point tariff z) (any m)

abbrev pub LowestAt : (ℤ → ℕ × ℕ) → List Shot → ℤ → Option Line → Type 0
LowestAt tariff xs p r =
    (z : Shot) → Holds xs p → z ≡ slice_index_or xs (unsigned_abs p) z → (m : Line) → r ≡ Some m
    → LowestThrough (point tariff z) (any m) (points tariff xs)
