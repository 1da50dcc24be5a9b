-- A fraction with the greatest common divisor taken out of both terms, in 32 bits, is its slope.
use Rattle.std.proofs.Common.{◌≡◌, ℕ, zero, suc, ◌/◌, ◌<◌, false, ℤ, pos, negsuc, ◌*ℤ◌, neg_ℤ, nat_abs, ◌<ℤ◌, sym, refl, ap, ◌∙◌, subst, subst₂, ⊎_elim, mul-le-mul_left, div-le_self, arith, w32, SFits, to_z}
use Prim.Native.Nat.{◌∣◌}
use native.Mathlib.Nat.{mul-div_cancel', pos_of_dvd_of_pos, le_of_dvd}
use lib.Signed.{le_z, quot_z}
use Rattle.std.proofs.lemmas.Int.{ints, to_z-of_z, to_z_pos}
use Rattle.std.proofs.lemmas.Bool.{cases_lt}
use Rattle.lines.specs.Divisors.{Gcd, Coprime}
use Rattle.lines.specs.Slopes.{Reduced}
use Rattle.lines.specs.declared.slope.Slope.{Slope}
use Rattle.lines.proofs.Lowest.{lowest_quot}
use Rattle.lines.proofs.Ring.{poly, mul_neg}
use Rattle.lines.proofs.Sizes.{back}

-- the arguments of `gcd` as `unsigned_abs` and a cast leave them
pub gcd_back : (rise run : ℤ) (u g : ℕ) → SFits w32 rise → SFits w32 run → u ≡ nat_abs (back w32 rise) → Gcd u (nat_abs (back w32 run)) g → Gcd (nat_abs rise) (nat_abs run) g
gcd_back rise run u g f k e c =
    subst (λ z. Gcd (nat_abs rise) (nat_abs z) g) (to_z-of_z w32 run k)
    (subst (λ n. Gcd n (nat_abs (back w32 run)) g) (e ∙ ap nat_abs (to_z-of_z w32 rise f)) c)

-- what the divisor of `reduced` is
pub record Found (rise run : ℤ) (g : ℕ) : Type 0 where
  pub top : SFits w32 rise
  pub bottom : SFits w32 run
  pub ahead : pos 0 <ℤ run
  pub common : Gcd (nat_abs rise) (nat_abs run) g
  pub above : 0 < g
  pub small : g < 2147483648

pub found : (rise run : ℤ) (u g : ℕ) → SFits w32 rise → SFits w32 run → le_z (back w32 run) (pos 0) ≡ false → u ≡ nat_abs (back w32 rise) → Gcd u (nat_abs (back w32 run)) g → Found rise run g
found rise run u g f k h e c =
    let a : pos 0 <ℤ run = grind (arith, ints) in
    let d = gcd_back rise run u g f k e c in
    let p : 0 < nat_abs run = omega (arith, ints) in
    let l = le_of_dvd p d.right in
    record { top = f; bottom = k; ahead = a; common = d; above = pos_of_dvd_of_pos d.right p; small = omega (arith, ints) }

pub quot_fits : {z : ℤ} {g : ℕ} → SFits w32 z → g < 2147483648 → SFits w32 (quot_z (back w32 z) (to_z w32 g))
quot_fits {z} {g} f s =
    subst (SFits w32) (sym (ap (λ y. quot_z y (to_z w32 g)) (to_z-of_z w32 z f) ∙ ap (quot_z z) (to_z_pos w32 g s))) (fits z f)
  where
    fits : (z : ℤ) → SFits w32 z → SFits w32 (quot_z z (pos g))
    fits (pos n) f = omega (arith, ints, div-le_self n g)
    fits (negsuc n) f = omega (arith, ints, div-le_self (suc n) g)

pub quot_back : {z : ℤ} {g : ℕ} → SFits w32 z → g < 2147483648 → back w32 (quot_z (back w32 z) (to_z w32 g)) ≡ quot_z z (pos g)
quot_back {z} {g} f s =
    to_z-of_z w32 (quot_z (back w32 z) (to_z w32 g)) (quot_fits f s) ∙ ap (λ y. quot_z y (to_z w32 g)) (to_z-of_z w32 z f) ∙ ap (quot_z z) (to_z_pos w32 g s)

abs_neg : (n : ℕ) → nat_abs (neg_ℤ (pos n)) ≡ n
abs_neg zero = refl
abs_neg (suc n) = refl

abs_quot : (z : ℤ) (g : ℕ) → nat_abs (quot_z z (pos g)) ≡ nat_abs z / g
abs_quot (pos n) g = refl
abs_quot (negsuc n) g = abs_neg (suc n / g)

scaled : (z : ℤ) (g : ℕ) → g ∣ nat_abs z → pos g *ℤ quot_z z (pos g) ≡ z
scaled (pos n) g h = ap pos (mul-div_cancel' g h)
scaled (negsuc n) g h = mul_neg (pos g) (pos (suc n / g)) ∙ ap (λ m. neg_ℤ (pos m)) (mul-div_cancel' g h)

turned : (a b c : ℤ) → (a *ℤ b) *ℤ c ≡ b *ℤ (a *ℤ c)
turned a b c = simp poly

module _ {rise run : ℤ} {g : ℕ} (k : Found rise run g) where
  pub quot_ahead : pos 0 <ℤ quot_z run (pos g)
  quot_ahead = go run k.ahead k.common.right
    where
      go : (z : ℤ) → pos 0 <ℤ z → g ∣ nat_abs z → pos 0 <ℤ quot_z z (pos g)
      go (pos n) h d =
          ⊎_elim (λ s. omega (arith, ints)) (λ s. absurd (omega (arith, ints, mul-le-mul_left g s, mul-div_cancel' g d))) (cases_lt 0 (n / g))
      go (negsuc n) h d = absurd h.lt

  pub quot_lowest : Coprime (nat_abs (quot_z rise (pos g))) (nat_abs (quot_z run (pos g)))
  quot_lowest =
      subst₂ Coprime (sym (abs_quot rise g)) (sym (abs_quot run g)) (lowest_quot (nat_abs rise) (nat_abs run) g k.above k.common)

  pub quot_reduced : (s : Slope) → s.rise ≡ quot_z rise (pos g) → s.run ≡ quot_z run (pos g) → Reduced rise run s
  quot_reduced s e f =
      let p : pos g *ℤ s.rise ≡ rise = ap (λ z. pos g *ℤ z) e ∙ scaled rise g k.common.left in
      let q : pos g *ℤ s.run ≡ run = ap (λ z. pos g *ℤ z) f ∙ scaled run g k.common.right in
      record {
        forward = k.ahead;
        divisor = g;
        common = k.common;
        rise = p;
        run = q;
        worth = ap (λ z. z *ℤ s.run) (sym p) ∙ turned (pos g) s.rise s.run ∙ ap (λ z. s.rise *ℤ z) q;
      }
