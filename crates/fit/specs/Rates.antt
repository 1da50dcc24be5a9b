-- The rates of a held shot, and the test.
--   rise_at, fall_at   the rise and the fall rate of a shot z against all held shots
--   rate_of            the same, for either way: the sum of what each held shot adds
--   OnAt               the answer to a look for the shot at a place: it, where one is held there and lies on the line
--   Rate               the answer to a question for a rate: that of the shot at the place, where it lies on the line
-- Assumes nothing.
use Rattle.std.specs.Prelude.{◌≡◌, ℕ, List, ℤ, Some, None, Option, slice_index_or, unsigned_abs}
use Rattle.shots.specs.declared.shot.Shot.{Shot}
use Rattle.lines.specs.Lines.{AnyLine, any, On}
use Rattle.lines.specs.Sums.{sum_z}
use Rattle.lines.specs.declared.line.Line.{Line}
use Rattle.racks.specs.Racks.{Holds}
use Rattle.theory.specs.Points.{Point}
use Rattle.theory.specs.Rates.{rise_of, fall_of}
use Rattle.fit.specs.Points.{point, points}

abbrev pub rise_at : (ℤ → ℕ × ℕ) → Line → List Shot → Shot → ℤ
rise_at tariff l xs z = rise_of (any l) (points tariff xs) (point tariff z)

abbrev pub fall_at : (ℤ → ℕ × ℕ) → Line → List Shot → Shot → ℤ
fall_at tariff l xs z = fall_of (any l) (points tariff xs) (point tariff z)

-- the parts of the rate of z, as rise_part and fall_part are
abbrev pub rate_of : (AnyLine → Point → Point → ℤ) → (ℤ → ℕ × ℕ) → Line → List Shot → Shot → ℤ
rate_of part tariff l xs z = sum_z (part (any l) (point tariff z)) (points tariff xs)

abbrev pub OnAt : Line → List Shot → ℤ → Option Shot → Type 0
OnAt l xs p (Some z) = Holds xs p × (z ≡ slice_index_or xs (unsigned_abs p) z) × On l z
OnAt l xs p None = (z : Shot) → Holds xs p → z ≡ slice_index_or xs (unsigned_abs p) z → On l z → ⊥

abbrev pub Rate : (Shot → ℤ) → Line → List Shot → ℤ → Option ℤ → Type 0
Rate rate l xs p (Some r) = (z : Shot) × OnAt l xs p (Some z) × (r ≡ rate z)
Rate rate l xs p None = OnAt l xs p None
