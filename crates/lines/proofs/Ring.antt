-- The ring ℤ: its laws, and rulesets by which `simp` and `omega` prove equations and orders between polynomials.
--   simp poly                                          an identity of polynomials, with no numerals to collect
--   simp ring (simp flat (omega lin))                  an `≡`, `≤ℤ` or `<ℤ` that follows linearly, with products as unknowns
--   from (p & q) (simp ring (simp flat (omega lin)))   the same from facts p and q too, which are multiplied out with the goal
--   omega lin                                          where no product has to be multiplied out or sorted
-- `ring` multiplies out, sorts the factors of each product, takes what is subtracted to the other side, and keeps a factor `pos k` as `times k`.
-- `flat` makes one statement on naturals of each.
-- `omega` takes 64 unknowns, two for each product: up to some 30 different products in a step.
use Rattle.std.proofs.Common.{◌≡◌, ℕ, ◌+◌, ◌*◌, ◌<◌, ◌≤◌, ◌↔◌, ℤ, pos, ◌+ℤ◌, ◌*ℤ◌, neg_ℤ, ◌≤ℤ◌, ◌<ℤ◌, refl, ap, arith}
use borrow.Author.Differences.{up, down, sum_is_lem, neg_is, product_is, same_in, same_out, lt_out, le_out, below_in, at_most_in}
use lib.IntN.{*ℤ_comm, +ℤ_assoc, +ℤ_comm, +ℤ_idl, +ℤ_idr}

-- what `omega` needs for sums and differences; products are unknowns
pub ruleset plain = (same_out, same_in, lt_out, le_out, below_in, at_most_in, sum_is_lem, neg_is)

-- ---- the laws that the library lacks
pub mul-add : (a b c : ℤ) → a *ℤ (b +ℤ c) ≡ a *ℤ b +ℤ a *ℤ c
mul-add a b c = omega (arith, plain, product_is, ap (λ n. up a * n) (sum_is_lem b c), ap (λ n. down a * n) (sum_is_lem b c))

pub add-mul : (a b c : ℤ) → (a +ℤ b) *ℤ c ≡ a *ℤ c +ℤ b *ℤ c
add-mul a b c = omega (arith, plain, product_is, ap (λ n. up c * n) (sum_is_lem a b), ap (λ n. down c * n) (sum_is_lem a b))

pub neg_mul : (a b : ℤ) → neg_ℤ a *ℤ b ≡ neg_ℤ (a *ℤ b)
neg_mul a b = omega (arith, plain, product_is, ap (λ n. n * up b) (neg_is a).0, ap (λ n. n * down b) (neg_is a).0, ap (λ n. n * up b) (neg_is a).1, ap (λ n. n * down b) (neg_is a).1)

pub mul_neg : (a b : ℤ) → a *ℤ neg_ℤ b ≡ neg_ℤ (a *ℤ b)
mul_neg a b = omega (arith, plain, *ℤ_comm a (neg_ℤ b), neg_mul b a, *ℤ_comm b a)

pub mul_assoc : (a b c : ℤ) → (a *ℤ b) *ℤ c ≡ a *ℤ (b *ℤ c)
mul_assoc a b c = omega (arith, plain, product_is, ap (λ n. n * up c) (product_is a b).0, ap (λ n. n * up c) (product_is a b).1, ap (λ n. n * down c) (product_is a b).0, ap (λ n. n * down c) (product_is a b).1, ap (λ n. up a * n) (product_is b c).0, ap (λ n. up a * n) (product_is b c).1, ap (λ n. down a * n) (product_is b c).0, ap (λ n. down a * n) (product_is b c).1)

pub mul_left : (a b c : ℤ) → a *ℤ (b *ℤ c) ≡ b *ℤ (a *ℤ c)
mul_left a b c = omega (arith, plain, mul_assoc a b c, mul_assoc b a c, ap (λ z. z *ℤ c) (*ℤ_comm a b))

pub add_left : (a b c : ℤ) → a +ℤ (b +ℤ c) ≡ b +ℤ (a +ℤ c)
add_left a b c = omega (arith, plain)

-- ---- a factor that is a natural
unfoldable pub times : ℕ → ℤ → ℤ
times k x = pos k *ℤ x

module _ (k : ℕ) where
  pub times_l : (x : ℤ) → pos k *ℤ x ≡ times k x
  unfolding times
  times_l x = refl

  pub times_r : (x : ℤ) → x *ℤ pos k ≡ times k x
  unfolding times
  times_r x = *ℤ_comm x (pos k)

  pub times_is : (x : ℤ) → (up (times k x) ≡ k * up x) × (down (times k x) ≡ k * down x)
  unfolding times
  times_is x = omega (arith, product_is (pos k) x)

  pub times_mul : (a b : ℤ) → times k a *ℤ b ≡ times k (a *ℤ b)
  unfolding times
  times_mul a b = mul_assoc (pos k) a b

  pub mul_times : (a b : ℤ) → a *ℤ times k b ≡ times k (a *ℤ b)
  unfolding times
  mul_times a b = mul_left a (pos k) b

  pub times_add : (a b : ℤ) → times k (a +ℤ b) ≡ times k a +ℤ times k b
  unfolding times
  times_add a b = mul-add (pos k) a b

  pub times_neg : (a : ℤ) → times k (neg_ℤ a) ≡ neg_ℤ (times k a)
  unfolding times
  times_neg a = mul_neg (pos k) a

  pub times_times : (j : ℕ) (a : ℤ) → times k (times j a) ≡ times (k * j) a
  unfolding times
  times_times j a = omega (arith, plain, mul_assoc (pos k) (pos j) a)

pub times_zero : (a : ℤ) → times 0 a ≡ pos 0
unfolding times
times_zero a = omega (arith, plain, product_is (pos 0) a)

pub times_one : (a : ℤ) → times 1 a ≡ a
unfolding times
times_one a = omega (arith, plain, product_is (pos 1) a)

pub times_pos : (k j : ℕ) → times k (pos j) ≡ pos (k * j)
unfolding times
times_pos k j = refl

-- ---- a difference that `simp` does not open
infixl 6 ◌⊖◌
unfoldable pub ◌⊖◌ : ℤ → ℤ → ℤ
a ⊖ b = a +ℤ neg_ℤ b

pub neg_out : (a : ℤ) → neg_ℤ a ≡ pos 0 ⊖ a
unfolding ◌⊖◌
neg_out a = omega (arith, plain)

pub diff_l : (a b c : ℤ) → (a ⊖ b) +ℤ c ≡ (a +ℤ c) ⊖ b
unfolding ◌⊖◌
diff_l a b c = omega (arith, plain)

pub diff_r : (a b c : ℤ) → a +ℤ (b ⊖ c) ≡ (a +ℤ b) ⊖ c
unfolding ◌⊖◌
diff_r a b c = omega (arith, plain)

pub diff_diff_l : (a b c : ℤ) → (a ⊖ b) ⊖ c ≡ a ⊖ (b +ℤ c)
unfolding ◌⊖◌
diff_diff_l a b c = omega (arith, plain)

pub diff_diff_r : (a b c : ℤ) → a ⊖ (b ⊖ c) ≡ (a +ℤ c) ⊖ b
unfolding ◌⊖◌
diff_diff_r a b c = omega (arith, plain)

pub mul_diff : (a b c : ℤ) → a *ℤ (b ⊖ c) ≡ (a *ℤ b) ⊖ (a *ℤ c)
unfolding ◌⊖◌
mul_diff a b c = simp (mul-add, mul_neg)

pub diff_mul : (a b c : ℤ) → (a ⊖ b) *ℤ c ≡ (a *ℤ c) ⊖ (b *ℤ c)
unfolding ◌⊖◌
diff_mul a b c = simp (add-mul, neg_mul)

pub times_diff : (k : ℕ) (a b : ℤ) → times k (a ⊖ b) ≡ times k a ⊖ times k b
unfolding ◌⊖◌
times_diff k a b = simp (times_add, times_neg)

pub same_both : (a b c d : ℤ) → (a ⊖ b ≡ c ⊖ d) ↔ (a +ℤ d ≡ c +ℤ b)
unfolding ◌⊖◌
same_both a b c d = omega (arith, plain)

pub same_first : (a b c : ℤ) → (a ⊖ b ≡ c) ↔ (a ≡ c +ℤ b)
unfolding ◌⊖◌
same_first a b c = omega (arith, plain)

pub same_second : (a b c : ℤ) → (a ≡ b ⊖ c) ↔ (a +ℤ c ≡ b)
unfolding ◌⊖◌
same_second a b c = omega (arith, plain)

-- terms: multiplied out and sorted
pub ruleset terms = (times_zero, times_one, times_pos, times_l, times_r, times_mul, mul_times, times_add, times_diff, times_times, mul_diff, diff_mul, mul-add, add-mul, mul_assoc, *ℤ_comm, mul_left, neg_out, diff_diff_l, diff_diff_r, diff_l, diff_r, +ℤ_idl, +ℤ_idr, +ℤ_assoc)

-- an identity: `simp poly` (25 products to a side pass, 36 do not)
pub ruleset poly = (terms, +ℤ_comm, add_left, same_both, same_first, same_second)

-- ---- statements, in a form that `ring` always has something to do at, and that `omega` reads by its field
pub record Le (x y : ℤ) : Type 0 where
  pub le : up x + down y ≤ up y + down x

pub record Lt (x y : ℤ) : Type 0 where
  pub lt : up x + down y < up y + down x

pub record Eq (x y : ℤ) : Type 0 where
  pub eq : up x + down y ≡ up y + down x

pub to-Le : (x y : ℤ) → (x ≤ℤ y) ↔ Le x y
to-Le x y = omega (arith, plain)

pub Le-both : (a b c d : ℤ) → Le (a ⊖ b) (c ⊖ d) ↔ Le (a +ℤ d) (c +ℤ b)
unfolding ◌⊖◌
Le-both a b c d = omega (arith, plain)

pub Le-first : (a b c : ℤ) → Le (a ⊖ b) c ↔ Le a (c +ℤ b)
unfolding ◌⊖◌
Le-first a b c = omega (arith, plain)

pub Le-second : (a b c : ℤ) → Le a (b ⊖ c) ↔ Le (a +ℤ c) b
unfolding ◌⊖◌
Le-second a b c = omega (arith, plain)

pub to-Lt : (x y : ℤ) → (x <ℤ y) ↔ Lt x y
to-Lt x y = omega (arith, plain)

pub Lt-both : (a b c d : ℤ) → Lt (a ⊖ b) (c ⊖ d) ↔ Lt (a +ℤ d) (c +ℤ b)
unfolding ◌⊖◌
Lt-both a b c d = omega (arith, plain)

pub Lt-first : (a b c : ℤ) → Lt (a ⊖ b) c ↔ Lt a (c +ℤ b)
unfolding ◌⊖◌
Lt-first a b c = omega (arith, plain)

pub Lt-second : (a b c : ℤ) → Lt a (b ⊖ c) ↔ Lt (a +ℤ c) b
unfolding ◌⊖◌
Lt-second a b c = omega (arith, plain)

pub to-Eq : (x y : ℤ) → (x ≡ y) ↔ Eq x y
to-Eq x y = omega (arith, plain)

pub Eq-both : (a b c d : ℤ) → Eq (a ⊖ b) (c ⊖ d) ↔ Eq (a +ℤ d) (c +ℤ b)
unfolding ◌⊖◌
Eq-both a b c d = omega (arith, plain)

pub Eq-first : (a b c : ℤ) → Eq (a ⊖ b) c ↔ Eq a (c +ℤ b)
unfolding ◌⊖◌
Eq-first a b c = omega (arith, plain)

pub Eq-second : (a b c : ℤ) → Eq a (b ⊖ c) ↔ Eq (a +ℤ c) b
unfolding ◌⊖◌
Eq-second a b c = omega (arith, plain)

pub ruleset ring = (terms, to-Le, Le-both, Le-first, Le-second, to-Lt, Lt-both, Lt-first, Lt-second, to-Eq, Eq-both, Eq-first, Eq-second)

pub ruleset lin = (arith, plain, times_is)

-- ---- `flat`, after `ring`: one statement on naturals, in which no part of a sum is an unknown of its own
pub record Under (c d : ℕ) (x y : ℤ) : Type 0 where
  pub under : up x + down y + c ≤ up y + down x + d

pub record Even (c d : ℕ) (x y : ℤ) : Type 0 where
  pub even : up x + down y + c ≡ up y + down x + d

pub le_under : (x y : ℤ) → Le x y ↔ Under 0 0 x y
le_under x y = omega (arith, plain)

pub lt_under : (x y : ℤ) → Lt x y ↔ Under 1 0 x y
lt_under x y = omega (arith, plain)

pub eq_even : (x y : ℤ) → Eq x y ↔ Even 0 0 x y
eq_even x y = omega (arith, plain)

pub under_l : (c d : ℕ) (a x y : ℤ) → Under c d (a +ℤ x) y ↔ Under (c + up a) (d + down a) x y
under_l c d a x y = omega (arith, plain)

pub under_r : (c d : ℕ) (a x y : ℤ) → Under c d x (a +ℤ y) ↔ Under (c + down a) (d + up a) x y
under_r c d a x y = omega (arith, plain)

pub even_l : (c d : ℕ) (a x y : ℤ) → Even c d (a +ℤ x) y ↔ Even (c + up a) (d + down a) x y
even_l c d a x y = omega (arith, plain)

pub even_r : (c d : ℕ) (a x y : ℤ) → Even c d x (a +ℤ y) ↔ Even (c + down a) (d + up a) x y
even_r c d a x y = omega (arith, plain)

pub ruleset flat = (le_under, lt_under, eq_even, under_l, under_r, even_l, even_r)

-- facts that are multiplied out together with the goal: `from (p & q & r) (simp ring (simp flat (omega lin)))`
infixr 5 ◌&◌
pub ◌&◌ : {P Q : Type 0} → P → Q → P × Q
p & q = (p, q)

pub from : {P G : Type 0} → P → (P → G) → G
from p f = f p
