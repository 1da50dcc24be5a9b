-- Total orders.
--   at_most   one value is at most another, as a test, in the order that a comparison gives
--   Only      only identical values are equal in order
--   Order     the test is a total order, in which only equal values are equal in order
-- Assumes nothing.
use Rattle.std.specs.Prelude.{◌≡◌, Bool, true, false}
use Rattle.std.specs.Ordering.{is_le}
use Rattle.std.specs.declared.cmp.Ordering.{Ordering}
use Rattle.std.specs.declared.cmp.Ordering.TheVariants.{Equal}

abbrev pub at_most : {K : Type 0} → (K → K → Ordering) → K → K → Bool
at_most cmp x y = is_le (cmp x y)

abbrev pub Only : {K : Type 0} → (K → K → Ordering) → Type 0
Only {K} cmp = (x y : K) → cmp x y ≡ Equal → x ≡ y

pub record Order {K : Type 0} (le : K → K → Bool) : Type 0 where
  pub reflexive : (x : K) → le x x ≡ true
  pub transitive : (x y z : K) → le x y ≡ true → le y z ≡ true → le x z ≡ true
  pub antisymmetric : (x y : K) → le x y ≡ true → le y x ≡ true → x ≡ y
  pub total : (x y : K) → le x y ≡ false → le y x ≡ true
