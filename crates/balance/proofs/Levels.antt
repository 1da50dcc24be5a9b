-- The balance point of whole keys is the least of the cheapest levels.
-- By the subgradient inequality: priced at c / k is at least priced at t plus (c - k·t)·G, where G is what the keys at or below some s pull over less what the others pull under, for s = t and for s = t - 1.
use Rattle.std.proofs.Common.{◌≡◌, ℕ, true, false, cond, List, [], ◌∷◌, ℤ, pos, ◌+ℤ◌, ◌-ℤ◌, ◌*ℤ◌, neg_ℤ, ◌≤ℤ◌, ◌<ℤ◌, Some, None, sum_by, Option, refl, ap, ⊎_elim, arith}
use lib.Signed.{le_z}
use Rattle.std.proofs.lemmas.Int.{by_lt_z, ints}
use Rattle.std.proofs.lemmas.List.Sums.{sum_by-cons}
use Rattle.std.proofs.lemmas.Bool.{leb-true, leb-false, cases_Bool}
use Rattle.lines.specs.Costs.{cost}
use Rattle.lines.specs.Slopes.{Each}
use Rattle.lines.specs.Sums.{sum_z}
use Rattle.lines.proofs.Cost.{cost_up, cost_down, cost_late, cost_early}
use Rattle.lines.proofs.Order.{mul_nn, prod, prod_lt, scale, weaken}
use Rattle.lines.proofs.Ring.{lin, ring, flat, from, ◌&◌}
use Rattle.lines.proofs.Sums.{sum_add, sum_scale, sum_le}
use Rattle.balance.specs.Balances.{above, upto, holds, Point, Answer}
use Rattle.balance.specs.Levels.{priced, Cheapest}
use Rattle.balance.proofs.Orders.{le_to, lt_to}
use Rattle.balance.specs.declared.balance.Balance.{Balance}
use Rattle.balance.specs.declared.pull.Pull.{Pull}

-- ---- one pull: the cost of e - d lies above both of its tangents
over_tangent : (u v : ℕ) (e f d : ℤ) → e ≤ℤ pos 0 → f ≡ e -ℤ d → (cost u v e +ℤ d *ℤ pos v) ≤ℤ cost u v f
over_tangent u v e f d h q = rw (cost_down u v e h) (from (cost_early u v f & scale (pos v) q) (simp ring (simp flat (omega lin))))

under_tangent : (u v : ℕ) (e f d : ℤ) → pos 0 ≤ℤ e → f ≡ e -ℤ d → (cost u v e +ℤ d *ℤ neg_ℤ (pos u)) ≤ℤ cost u v f
under_tangent u v e f d h q = rw (cost_up u v e h) (from (cost_late u v f & scale (pos u) q) (simp ring (simp flat (omega lin))))

-- what a pull adds to G
unfoldable gradient : ℤ → Pull ℤ → ℤ
gradient s p = pos (upto le_z s p) -ℤ pos (above le_z s p)

gradient_over : (s : ℤ) (p : Pull ℤ) → le_z p.key s ≡ true → gradient s p ≡ pos p.over
unfolding gradient
gradient_over s p h = omega (lin, ap (λ b. cond b p.over 0) h, ap (λ b. cond b 0 p.under) h)

gradient_under : (s : ℤ) (p : Pull ℤ) → le_z p.key s ≡ false → gradient s p ≡ neg_ℤ (pos p.under)
unfolding gradient
gradient_under s p h = omega (lin, ap (λ b. cond b p.over 0) h, ap (λ b. cond b 0 p.under) h)

-- G over the list is one side less the other
gradients : (s : ℤ) (ps : List (Pull ℤ)) → sum_z (gradient s) ps ≡ pos (sum_by (upto le_z s) ps) -ℤ pos (sum_by (above le_z s) ps)
unfolding gradient
gradients s [] = refl
gradients s (p ∷ ps) = omega (lin, sum_by-cons (upto le_z s) p ps, sum_by-cons (above le_z s) p ps, gradients s ps)

-- s parts the keys at t: those at most s are at most t, and the others at least
pub record Parts (s t : ℤ) : Type 0 where
  pub below : (y : ℤ) → y ≤ℤ s → y ≤ℤ t
  pub beyond : (y : ℤ) → s <ℤ y → t ≤ℤ y

module _ (t c k s : ℤ) (hk : pos 1 ≤ℤ k) (parts : Parts s t) where
  tangent : (p : Pull ℤ) → (cost p.under p.over (k *ℤ p.key -ℤ k *ℤ t) +ℤ (c -ℤ k *ℤ t) *ℤ gradient s p) ≤ℤ cost p.under p.over (k *ℤ p.key -ℤ c)
  tangent p =
      ⊎_elim
      (λ h. rw (gradient_over s p h) (over_tangent p.under p.over (k *ℤ p.key -ℤ k *ℤ t) (k *ℤ p.key -ℤ c) (c -ℤ k *ℤ t) (from (prod hk (parts.below p.key (le_to p.key s h)) & parts.below p.key (le_to p.key s h)) (simp ring (simp flat (omega lin)))) (omega lin)))
      (λ h. rw (gradient_under s p h) (under_tangent p.under p.over (k *ℤ p.key -ℤ k *ℤ t) (k *ℤ p.key -ℤ c) (c -ℤ k *ℤ t) (from (prod hk (parts.beyond p.key (lt_to p.key s h)) & parts.beyond p.key (lt_to p.key s h)) (simp ring (simp flat (omega lin)))) (omega lin)))
      (cases_Bool (le_z p.key s))

  subgradient : (ps : List (Pull ℤ)) → (priced ps (k *ℤ t) k +ℤ (c -ℤ k *ℤ t) *ℤ sum_z (gradient s) ps) ≤ℤ priced ps c k
  subgradient ps =
      let now = λ (p : Pull ℤ). cost p.under p.over (k *ℤ p.key -ℤ k *ℤ t) in
      let add = λ (p : Pull ℤ). (c -ℤ k *ℤ t) *ℤ gradient s p in
      omega (lin, sum_le (λ p. now p +ℤ add p) (λ p. cost p.under p.over (k *ℤ p.key -ℤ c)) ps tangent, sum_add now add ps, sum_scale (c -ℤ k *ℤ t) (gradient s) ps)

-- ---- where the sides balance, G is at least 0; where they don't, it is below
rising : (ps : List (Pull ℤ)) (s : ℤ) → holds le_z ps s ≡ true → pos 0 ≤ℤ sum_z (gradient s) ps
rising ps s h = omega (lin, gradients s ps, leb-true (sum_by (above le_z s) ps) (sum_by (upto le_z s) ps) h)

falling : (ps : List (Pull ℤ)) (s : ℤ) → holds le_z ps s ≡ false → sum_z (gradient s) ps <ℤ pos 0
falling ps s h = omega (lin, gradients s ps, leb-false (sum_by (above le_z s) ps) (sum_by (upto le_z s) ps) h)

-- ---- over plain numbers: x at t, y at c / k, with the step d and the gradient g
step_up : (x y d g : ℤ) → (x +ℤ d *ℤ g) ≤ℤ y → pos 0 ≤ℤ d → pos 0 ≤ℤ g → x ≤ℤ y
step_up x y d g h hd hg = omega (lin, mul_nn hd hg)

step_down : (x y d g : ℤ) → (x +ℤ d *ℤ g) ≤ℤ y → d <ℤ pos 0 → g <ℤ pos 0 → x <ℤ y
step_down x y d g h hd hg = from (h & prod_lt hd hg) (simp ring (simp flat (omega lin)))

just_below : (t : ℤ) → le_z t (t -ℤ pos 1) ≡ false
just_below t = grind (arith, ints)

module _ (ps : List (Pull ℤ)) (t : ℤ) (point : Point le_z ps t) where
  dearer : (c k : ℤ) → pos 1 ≤ℤ k → c <ℤ (k *ℤ t) → priced ps (k *ℤ t) k <ℤ priced ps c k
  dearer c k hk h =
      step_down (priced ps (k *ℤ t) k) (priced ps c k) (c -ℤ k *ℤ t) (sum_z (gradient (t -ℤ pos 1)) ps) (subgradient t c k (t -ℤ pos 1) hk (record { below = λ y l. omega lin; beyond = λ y l. omega lin }) ps) (omega lin) (falling ps (t -ℤ pos 1) (point.lowest (t -ℤ pos 1) (just_below t)))

  pub cheapest : Cheapest ps t
  cheapest = record {
    least = λ c k hk.
        by_lt_z c (k *ℤ t) (λ h. weaken (dearer c k hk h))
        (λ h. step_up (priced ps (k *ℤ t) k) (priced ps c k) (c -ℤ k *ℤ t) (sum_z (gradient t) ps) (subgradient t c k t hk (record { below = λ y l. l; beyond = λ y l. weaken l }) ps) (omega lin) (rising ps t point.here));
    lowest = dearer;
  }

pub answer_cheapest : (ps : List (Pull ℤ)) (r : Option (Balance ℤ)) → Answer le_z ps r → Each r (λ b. Cheapest ps b.lowest)
answer_cheapest ps None a = tt
answer_cheapest ps (Some b) a = cheapest ps b.lowest a.1
