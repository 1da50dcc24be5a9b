-- The test of a line over a list of shots.
--   Fails    the shot is on the line and has a rate below 0
--   First    the first place whose shot fails
--   Tested   what the test says: no on-line shot has a rate below 0, or the first place that has one
--   Best     for a line with two speeds on it: it passes, and no line is cheaper, or it fails, and some line is
-- Assumes nothing.
use Rattle.std.specs.Prelude.{◌≡◌, ℕ, ◌<◌, List, length, ℤ, slice_index_or, Some, None, Option}
use Rattle.shots.specs.declared.shot.Shot.{Shot}
use Rattle.lines.specs.Lines.{any, On}
use Rattle.lines.specs.declared.line.Line.{Line}
use Rattle.theory.specs.Points.{Cheapest, Spans}
use Rattle.theory.specs.Rates.{Failing, Passes as TestPasses}
use Rattle.fit.specs.Points.{point, points}

abbrev pub Fails : (ℤ → ℕ × ℕ) → Line → List Shot → Shot → Type 0
Fails tariff l xs z = On l z × Failing (any l) (points tariff xs) (point tariff z)

pub record First (tariff : ℤ → ℕ × ℕ) (l : Line) (xs : List Shot) (k : ℕ) : Type 0 where
  pub inside : k < length xs
  pub shot : Shot
  pub is : shot ≡ slice_index_or xs k shot
  pub fails : Fails tariff l xs shot
  pub before : (j : ℕ) (y : Shot) → j < k → y ≡ slice_index_or xs j y → Fails tariff l xs y → ⊥

abbrev pub Tested : (ℤ → ℕ × ℕ) → Line → List Shot → Option ℕ → Type 0
Tested tariff l xs None = TestPasses (any l) (points tariff xs)
Tested tariff l xs (Some k) = First tariff l xs k

abbrev pub Best : (ℤ → ℕ × ℕ) → Line → List Shot → Option ℕ → Type 0
Best tariff l xs None = Spans (any l) (points tariff xs) → Cheapest (any l) (points tariff xs)
Best tariff l xs (Some k) = Spans (any l) (points tariff xs) → Cheapest (any l) (points tariff xs) → ⊥
