-- Lowest terms: the greatest common divisor leads to them.
use Rattle.std.proofs.Common.{◌≡◌, ℕ, ◌*◌, ◌/◌, ◌<◌, sym, subst, mul-one}
use Prim.Native.Nat.{◌∣◌}
use native.Mathlib.Nat.{mul-div_cancel', mul-dvd-mul_left, dvd_of_mul-dvd-mul_left, eq-one_of_dvd-one}
use Rattle.lines.specs.Divisors.{Gcd, Coprime}
pub use Rattle.lines.specs.LowestTerms.{same_slope}

-- ---- coprime is to have the greatest common divisor 1
pub coprime_swap : {a b : ℕ} → Coprime a b → Coprime b a
coprime_swap k d p q = k d q p

pub gcd_coprime : {a b g : ℕ} → Gcd a b g → g ≡ 1 → Coprime a b
gcd_coprime k e d p q = eq-one_of_dvd-one (subst (λ n. d ∣ n) e (k.greatest d p q))

pub coprime_gcd : {a b g : ℕ} → Gcd a b g → Coprime a b → g ≡ 1
coprime_gcd {g = g} k h = h g k.left k.right

-- divided by the greatest common divisor, both are in lowest terms
pub lowest_quot : (a b g : ℕ) → 0 < g → Gcd a b g → Coprime (a / g) (b / g)
lowest_quot a b g h k d p q =
    let u = subst (λ z. g * d ∣ z) (mul-div_cancel' g k.left) (mul-dvd-mul_left d g p) in
    let v = subst (λ z. g * d ∣ z) (mul-div_cancel' g k.right) (mul-dvd-mul_left d g q) in
    eq-one_of_dvd-one (dvd_of_mul-dvd-mul_left d h (subst (λ z. g * d ∣ z) (sym (mul-one g)) (k.greatest (g * d) u v)))
