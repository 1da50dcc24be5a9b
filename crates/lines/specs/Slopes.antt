-- Fractions and their lowest terms.
--   Worth     the slope has the value of the fraction rise / run, by cross products
--   Reduced   the slope is the fraction with the greatest common divisor taken out of both its terms
--   Each      what holds of an answer, where there is one
-- Assumes nothing.
use Rattle.std.specs.Prelude.{◌≡◌, ℕ, ℤ, pos, ◌*ℤ◌, ◌<ℤ◌, Some, None, Option, unsigned_abs}
use Rattle.lines.specs.Divisors.{Gcd}
use Rattle.lines.specs.declared.slope.Slope.{Slope}

abbrev pub Worth : Slope → ℤ → ℤ → Type 0
Worth s rise run = rise *ℤ s.run ≡ s.rise *ℤ run

pub record Reduced (up along : ℤ) (s : Slope) : Type 0 where
  pub forward : pos 0 <ℤ along
  pub divisor : ℕ
  pub common : Gcd (unsigned_abs up) (unsigned_abs along) divisor
  pub rise : pos divisor *ℤ s.rise ≡ up
  pub run : pos divisor *ℤ s.run ≡ along
  pub worth : Worth s up along

abbrev pub Each : {T : Type 0} → Option T → (T → Type 0) → Type 0
Each None P = Unit {0}
Each (Some x) P = P x
