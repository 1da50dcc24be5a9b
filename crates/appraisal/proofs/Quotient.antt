-- A total divided by A and cut to thousandths.
use Rattle.std.proofs.Common.{◌≡◌, ℕ, ◌+◌, ◌*◌, ◌/◌, ◌<◌, ◌≤◌, ℤ, pos, negsuc, ◌*ℤ◌, nat_abs, ◌≤ℤ◌, ◌<ℤ◌, sym, subst, mod-lt, mul_comm, add-mul, one-mul, arith}
use native.Mathlib.Nat.{div-add-mod}
use Rattle.std.proofs.lemmas.Int.{ints}

cut : (n d : ℕ) → 0 < d → (n / d * d ≤ n) × (n < (n / d + 1) * d)
cut n d h =
    let e = div-add-mod n d in
    let r = mod-lt n h in
    let s : n / d * d ≡ d * (n / d) = mul_comm (n / d) d in
    let t : (n / d + 1) * d ≡ n / d * d + 1 * d = add-mul (n / d) 1 d in
    (omega arith, omega (arith, one-mul d))

-- the quotient q in thousandths, rounded down
abbrev Cut : ℤ → ℤ → ℕ → Type 0
Cut t a q = ((pos q *ℤ a) ≤ℤ (pos 1000 *ℤ t)) × ((pos 1000 *ℤ t) <ℤ (pos (q + 1) *ℤ a))

cut_whole : (t a : ℤ) → pos 0 ≤ℤ t → pos 1 ≤ℤ a → Cut t a (nat_abs t * 1000 / nat_abs a)
cut_whole (pos n) (pos d) h k =
    let c = cut (n * 1000) d (omega (arith, ints)) in
    let m = mul_comm n 1000 in
    (omega (arith, ints, c), omega (arith, ints, c))
cut_whole (negsuc n) a h k = absurd h.le
cut_whole (pos n) (negsuc d) h k = absurd k.le

-- with the divisor as it reaches the division
pub cut_price : (t a b : ℤ) → pos 0 ≤ℤ t → pos 1 ≤ℤ a → b ≡ a → Cut t a (nat_abs t * 1000 / nat_abs b)
cut_price t a b h k e = subst (λ x. Cut t a (nat_abs t * 1000 / nat_abs x)) (sym e) (cut_whole t a h k)
