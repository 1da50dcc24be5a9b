-- What a line costs over a list of shots.
--   paid       the share of a shot in a line's price, by the prices of its stuff
--   total_of   T: the sum of the shares (A times the price)
--   Bounded    T is at most 131,039,232,000,000 for a line with one of the shots on it
--   Even       where late and early both cost 1, T is the sum of the weighted misses without their sign: A times the
--              sum of w × |h − (B·s + C)/A|, the weighted sum of absolute deviations
-- Assumes nothing.
use Rattle.std.specs.Prelude.{◌≡◌, ℕ, List, ℤ, pos, ◌*ℤ◌, ◌≤ℤ◌, unsigned_abs}
use Rattle.shots.specs.declared.shot.Shot.{Shot}
use Rattle.lines.specs.Lines.{miss_of, On}
use Rattle.lines.specs.Costs.{share_of}
use Rattle.lines.specs.Sums.{sum_z}
use Rattle.lines.specs.declared.line.Line.{Line}
use Rattle.theory.specs.Points.{In}

unfoldable pub paid : (ℤ → ℕ × ℕ) → Line → Shot → ℤ
paid tariff l z = share_of l z (tariff (pos z.stuff)).0 (tariff (pos z.stuff)).1

abbrev pub total_of : (ℤ → ℕ × ℕ) → Line → List Shot → ℤ
total_of tariff l xs = sum_z (paid tariff l) xs

abbrev pub Bounded : Line → List Shot → ℤ → Type 0
Bounded l xs t = (z : Shot) → In z xs → On l z → t ≤ℤ pos 131039232000000

abbrev pub Even : (ℤ → ℕ × ℕ) → Line → List Shot → ℤ → Type 0
Even tariff l xs t =
    ((m : ℤ) → tariff m ≡ (1, 1)) → t ≡ sum_z (λ z. pos z.weight *ℤ pos (unsigned_abs (miss_of l z))) xs
