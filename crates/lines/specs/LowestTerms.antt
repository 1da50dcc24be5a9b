-- Lowest terms: a fraction has but one such form. (Lemmas that stand here because ghost members rest on them.)
-- Assumes nothing.
use Rattle.std.proofs.Common.{◌≡◌, ℕ, zero, suc, ◌+◌, ◌-◌, ◌*◌, ◌<◌, ◌≤◌, ℤ, pos, negsuc, ◌*ℤ◌, nat_abs, ◌<ℤ◌, sym, ap, ◌∙◌, subst, ⊎_elim, mul-le-mul_right, mul_comm, add-mul, mul-le-mul_left, mul-pos, mul-add, arith}
use Prim.Native.Nat.{◌∣◌}
use native.Mathlib.Nat.{dvd_refl, dvd-zero, dvd-add}
use Rattle.std.proofs.lemmas.Int.{ints}
use Rattle.std.proofs.lemmas.Bool.{cases_lt}
use Rattle.lines.specs.Divisors.{Coprime}

-- ---- one of Euclid's steps, on two equal fractions at once
over_over : (a b c d : ℕ) → 0 < b → a * d ≡ b * c → b ≤ a → d ≤ c
over_over a b c d hb e h =
    ⊎_elim (λ s. absurd (omega (arith, mul-le-mul_left b s, mul-le-mul_right d h, mul-add b c 1))) (λ s. s) (cases_lt c d)

under_under : (a b c d : ℕ) → 0 < d → a * d ≡ b * c → a < b → c < d
under_under a b c d hd e h =
    ⊎_elim (λ s. s) (λ s. absurd (omega (arith, mul-le-mul_left b s, mul-le-mul_right d h, add-mul a 1 d))) (cases_lt c d)

over_step : (a b c d : ℕ) → b ≤ a → d ≤ c → a * d ≡ b * c → (a - b) * d ≡ b * (c - d)
over_step a b c d h k e =
    let u : a ≡ (a - b) + b = omega arith in
    let v : c ≡ (c - d) + d = omega arith in
    omega (arith, ap (λ z. z * d) u, ap (λ z. b * z) v, add-mul (a - b) b d, mul-add b (c - d) d)

under_step : (a b c d : ℕ) → a ≤ b → c ≤ d → a * d ≡ b * c → a * (d - c) ≡ (b - a) * c
under_step a b c d h k e =
    let u : b ≡ (b - a) + a = omega arith in
    let v : d ≡ (d - c) + c = omega arith in
    omega (arith, ap (λ z. z * c) u, ap (λ z. a * z) v, add-mul (b - a) a c, mul-add a (d - c) c)

over_coprime : (a b : ℕ) → b ≤ a → Coprime a b → Coprime (a - b) b
over_coprime a b h k d p q = k d (subst (λ z. d ∣ z) (omega arith) (dvd-add d p q)) q

under_coprime : (a b : ℕ) → a ≤ b → Coprime a b → Coprime a (b - a)
under_coprime a b h k d p q = k d p (subst (λ z. d ∣ z) (omega arith) (dvd-add d q p))

-- two equal fractions in lowest terms are the same; n bounds the steps
lowest : (n a b c d : ℕ) → a + b ≤ n → 0 < b → 0 < d → a * d ≡ b * c → Coprime a b → Coprime c d → (a ≡ c) × (b ≡ d)
lowest zero a b c d l hb hd e p q = absurd (omega arith)
lowest (suc n) zero b c d l hb hd e p q =
    let z : c ≡ 0 = ⊎_elim (λ h. absurd (omega (arith, mul-le-mul_left b h))) (λ h. omega arith) (cases_lt 0 c) in
    let f = p b (dvd-zero b) (dvd_refl b) in
    let g = q d (subst (λ v. d ∣ v) (sym z) (dvd-zero d)) (dvd_refl d) in
    (sym z, f ∙ sym g)
lowest (suc n) (suc a) b c d l hb hd e p q =
    ⊎_elim
    (λ h.
    let m = under_under (suc a) b c d hd e h in
    let r = lowest n (suc a) (b - suc a) c (d - c) (omega arith) (omega arith) (omega arith) (under_step (suc a) b c d (omega arith) (omega arith) e) (under_coprime (suc a) b (omega arith) p) (under_coprime c d (omega arith) q) in
    (r.0, omega (arith, r.0, r.1)))
    (λ h.
    let m = over_over (suc a) b c d hb e h in
    let r = lowest n (suc a - b) b (c - d) d (omega arith) hb hd (over_step (suc a) b c d h m e) (over_coprime (suc a) b h p) (over_coprime c d m q) in
    (omega (arith, r.0, r.1), r.1))
    (cases_lt (suc a) b)

pub same_lowest : (a b c d : ℕ) → 0 < b → 0 < d → a * d ≡ b * c → Coprime a b → Coprime c d → (a ≡ c) × (b ≡ d)
same_lowest a b c d = lowest (a + b) a b c d (omega arith)

-- ---- the same for fractions of either sign
pub same_slope : (a b c d : ℤ) → pos 0 <ℤ b → pos 0 <ℤ d → a *ℤ d ≡ c *ℤ b → Coprime (nat_abs a) (nat_abs b) → Coprime (nat_abs c) (nat_abs d) → (a ≡ c) × (b ≡ d)
same_slope (pos a) (pos b) (pos c) (pos d) hb hd e p q =
    let r = same_lowest a b c d (omega (arith, ints)) (omega (arith, ints)) (omega (arith, ints, mul_comm c b)) p q in (ap pos r.0, ap pos r.1)
same_slope (negsuc a) (pos b) (negsuc c) (pos d) hb hd e p q =
    let r = same_lowest (suc a) b (suc c) d (omega (arith, ints)) (omega (arith, ints)) (omega (arith, ints, mul_comm (suc c) b)) p q in (omega (arith, ints, r.0), ap pos r.1)
same_slope (pos a) (pos b) (negsuc c) (pos d) hb hd e p q =
    let k : 0 < suc c * b = mul-pos (omega arith) (omega (arith, ints)) in absurd (omega (arith, ints))
same_slope (negsuc a) (pos b) (pos c) (pos d) hb hd e p q =
    let k : 0 < suc a * d = mul-pos (omega arith) (omega (arith, ints)) in absurd (omega (arith, ints))
same_slope a (negsuc b) c d hb hd e p q = absurd hb.lt
same_slope a (pos b) c (negsuc d) hb hd e p q = absurd hd.lt
