-- Orders as tests: the one that a comparison gives is total, and at whole numbers and slopes it is the test on the numbers.
use Rattle.std.proofs.Common.{◌≡◌, true, false, ℤ, ◌*ℤ◌, ◌≤ℤ◌, ◌<ℤ◌, int_le, Option, sym, refl, ap, ◌∙◌, arith, List, subst}
use borrow.Author.Differences.{true_is_le, false_is_le}
use Rattle.std.specs.Cmp.{IsTotalOrder, upto, tied_itself, int_ranks, int_cmp_total}
use Rattle.std.specs.Ordering.{is_le, is_gt, ordering_reverse, MatchOrdering, int_cmp}
use Rattle.std.specs.declared.cmp.Ordering.{Ordering}
use Rattle.std.specs.declared.cmp.Ordering.TheVariants.{Less, Equal, Greater}
use Rattle.std.proofs.lemmas.Int.{ints}
use Rattle.std.proofs.lemmas.Bool.{both_ways}
use Rattle.lines.specs.SlopeLaws.{slope_total, slope_only}
use Rattle.lines.specs.SlopeOrder.{slope_cmp, slope_le}
use Rattle.lines.specs.declared.slope.Slope.{Slope}
use Rattle.balance.specs.Balances.{Answer}
use Rattle.balance.specs.declared.balance.Balance.{Balance}
use Rattle.balance.specs.declared.pull.Pull.{Pull}
use Rattle.balance.specs.Orders.{at_most, Only, Order}
use Rattle.balance.specs.OrderLaws.{whole_only}

-- what an answer is, by its tests
not_above : (r : Ordering) → is_le r ≡ true → is_gt r ≡ false
not_above Less h = refl
not_above Equal h = refl
not_above Greater h = absurd (both_ways false refl h)

pub at_most_from : (r : Ordering) → is_gt r ≡ false → is_le r ≡ true
at_most_from Less h = refl
at_most_from Equal h = refl
at_most_from Greater h = absurd (both_ways true h refl)

turned : (r : Ordering) → is_le r ≡ false → is_le (ordering_reverse r) ≡ true
turned Less h = absurd (both_ways true h refl)
turned Equal h = refl
turned Greater h = refl

level : (r : Ordering) → is_le r ≡ true → is_le (ordering_reverse r) ≡ true → r ≡ Equal
level Less h k = absurd (both_ways false refl k)
level Equal h k = refl
level Greater h k = absurd (both_ways false refl h)

module _ {K : Type 0} {cmp : K → K → Ordering} (o : IsTotalOrder cmp) where
  pub cmp_order : Only cmp → Order (at_most cmp)
  cmp_order only = record {
    reflexive = λ x. ap is_le (tied_itself o x);
    transitive = λ x y z h k. at_most_from (cmp x z) (upto o x y z (not_above (cmp x y) h) (not_above (cmp y z) k));
    antisymmetric = λ x y h k. only x y (level (cmp x y) h (ap is_le (sym (o.antisymm y x)) ∙ k));
    total = λ x y h. ap is_le (o.antisymm y x) ∙ turned (cmp x y) h;
  }

-- ---- the test on numbers
pub le_to : (x y : ℤ) → int_le x y ≡ true → x ≤ℤ y
le_to x y h = omega (arith, ints)

pub lt_to : (x y : ℤ) → int_le x y ≡ false → y <ℤ x
lt_to x y h = omega (arith, ints)

le_is : (x y : ℤ) (o : Ordering) → MatchOrdering o (x <ℤ y) (x ≡ y) (y <ℤ x) → is_le o ≡ int_le x y
le_is x y Less h = true_is_le x y (omega (arith, ints))
le_is x y Equal h = true_is_le x y (omega (arith, ints))
le_is x y Greater h = false_is_le x y (omega (arith, ints))

test_is : (x y : ℤ) → is_le (int_cmp x y) ≡ int_le x y
test_is x y = le_is x y (int_cmp x y) (int_ranks x y)

pub whole_is : at_most int_cmp ≡ int_le
whole_is = λ i x y. test_is x y i

pub slope_is : at_most slope_cmp ≡ slope_le
slope_is = λ i x y. test_is (x.rise *ℤ y.run) (y.rise *ℤ x.run) i

pub whole_order : Order int_le
whole_order = subst Order whole_is (cmp_order int_cmp_total whole_only)

pub slope_order : Order slope_le
slope_order = subst Order slope_is (cmp_order slope_total slope_only)

-- what `balance_point` answers at slopes, by the test on their values
pub slope_answer : (ps : List (Pull Slope)) (r : Option (Balance Slope)) → Answer (at_most slope_cmp) ps r → Answer slope_le ps r
slope_answer ps r a = subst (λ le. Answer le ps r) slope_is a
