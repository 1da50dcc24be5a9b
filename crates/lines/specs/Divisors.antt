-- Divisors of whole numbers.
--   Gcd       the greatest common divisor: it divides both numbers, and every common divisor divides it
--   Coprime   no number above 1 divides both, so that a fraction of the two is in lowest terms
-- Assumes nothing.
use Rattle.std.specs.Prelude.{◌≡◌, ℕ}
use Rattle.std.specs.Int.{◌∣◌}

pub record Gcd (a b g : ℕ) : Type 0 where
  pub left : g ∣ a
  pub right : g ∣ b
  pub greatest : (d : ℕ) → d ∣ a → d ∣ b → d ∣ g

abbrev pub Coprime : ℕ → ℕ → Type 0
Coprime a b = (d : ℕ) → d ∣ a → d ∣ b → d ≡ 1
