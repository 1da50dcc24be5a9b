-- The laws of `cost`: it is the greater of two lines through 0, so it is never below 0, and it is scaled with the miss.
use Rattle.std.proofs.Common.{◌≡◌, ℕ, ℤ, pos, ◌+ℤ◌, ◌*ℤ◌, neg_ℤ, ◌≤ℤ◌, arith}
use borrow.Author.Differences.{ints}
use Rattle.std.proofs.lemmas.Int.{by_lt_z}
use Rattle.lines.specs.Costs.{cost}
use Rattle.lines.proofs.Ring.{lin, ring, flat, poly, from, ◌&◌}
use Rattle.lines.proofs.Order.{mul_nn, prod, weaken}

pub cost_up : (u v : ℕ) (e : ℤ) → pos 0 ≤ℤ e → cost u v e ≡ pos u *ℤ e
unfolding cost
cost_up u v e h = grind (arith, ints)

pub cost_down : (u v : ℕ) (e : ℤ) → e ≤ℤ pos 0 → cost u v e ≡ neg_ℤ (pos v *ℤ e)
unfolding cost
cost_down u v e h = grind (arith, ints)

pub cost_late : (u v : ℕ) (e : ℤ) → (pos u *ℤ e) ≤ℤ cost u v e
unfolding cost
cost_late u v e = grind (arith, ints)

pub cost_early : (u v : ℕ) (e : ℤ) → neg_ℤ (pos v *ℤ e) ≤ℤ cost u v e
unfolding cost
cost_early u v e = grind (arith, ints)

pub cost_nn : (u v : ℕ) (e : ℤ) → pos 0 ≤ℤ cost u v e
unfolding cost
cost_nn u v e = grind (arith, ints)

pub cost_times : (u v : ℕ) (k e : ℤ) → pos 0 ≤ℤ k → cost u v (k *ℤ e) ≡ k *ℤ cost u v e
cost_times u v k e h =
    by_lt_z (pos 0) e
    (λ g. rw (cost_up u v e (weaken g), cost_up u v (k *ℤ e) (mul_nn h (weaken g))) (simp poly))
    (λ g. rw (cost_down u v e g, cost_down u v (k *ℤ e) (from (prod h g) (simp ring (simp flat (omega lin))))) (simp poly))

-- a line through 0 whose slope lies between -v and u is nowhere above
pub cost_slope : (u v : ℕ) (g e : ℤ) → neg_ℤ (pos v) ≤ℤ g → g ≤ℤ pos u → (g *ℤ e) ≤ℤ cost u v e
cost_slope u v g e h k =
    by_lt_z (pos 0) e
    (λ p. from (prod k (weaken p) & cost_late u v e) (simp ring (simp flat (omega lin))))
    (λ p. from (prod h p & cost_early u v e) (simp ring (simp flat (omega lin))))

pub cost_add : (u v : ℕ) (e f : ℤ) → cost u v (e +ℤ f) ≤ℤ (cost u v e +ℤ cost u v f)
cost_add u v e f =
    by_lt_z (pos 0) (e +ℤ f)
    (λ p. rw (cost_up u v (e +ℤ f) (weaken p)) (from (cost_late u v e & cost_late u v f) (simp ring (simp flat (omega lin)))))
    (λ p. rw (cost_down u v (e +ℤ f) p) (from (cost_early u v e & cost_early u v f) (simp ring (simp flat (omega lin)))))
