-- From any line to any other, the cost grows at least by the directional derivative of the cost at the first, and exactly by it where no point changes sides.
--   a·T' ≥ a'·T + Σ turn (U·s + V),   with U = a·b' - a'·b and V = a·c' - a'·c
use Rattle.std.proofs.Common.{◌≡◌, ℕ, cond, List, [], ◌∷◌, ℤ, pos, ◌+ℤ◌, ◌-ℤ◌, ◌*ℤ◌, neg_ℤ, ◌≤ℤ◌, ◌<ℤ◌, refl, inl, inr, arith}
use borrow.Author.Differences.{ints}
use lib.Signed.{lt_z}
use Rattle.lines.specs.Lines.{AnyLine, miss}
use Rattle.lines.specs.Costs.{cost}
use Rattle.lines.specs.Sums.{sum_z}
use Rattle.lines.proofs.Ring.{lin, ring, flat, poly, from, ◌&◌}
use Rattle.lines.proofs.Order.{weaken, scale}
use Rattle.lines.proofs.Cost.{cost_up, cost_down, cost_late, cost_early, cost_times}
use Rattle.theory.specs.Points.{Point, miss_at, paid, total, In}
use Rattle.theory.specs.Slopes.{lean}
use Rattle.theory.proofs.Least.{by_sign}

-- what a step by d costs a point whose miss is e, per step
unfoldable pub turn : ℕ → ℕ → ℤ → ℤ → ℤ
turn u v e d = cond (lt_z (pos 0) e) (neg_ℤ (pos u *ℤ d)) (cond (lt_z e (pos 0)) (pos v *ℤ d) (cost u v (neg_ℤ d)))

-- the step at a point, in the direction (U, V)
unfoldable pub at : ℤ → ℤ → Point → ℤ
at U V z = U *ℤ z.s +ℤ V

unfoldable pub turned : AnyLine → ℤ → ℤ → Point → ℤ
turned l U V z = turn z.u z.v (miss_at l z) (at U V z)

-- the directional derivative
abbrev pub along : AnyLine → List Point → ℤ → ℤ → ℤ
along l xs U V = sum_z (turned l U V) xs

-- ---- turn, by the sign of the miss
pub turn_over : (u v : ℕ) (e d : ℤ) → pos 0 <ℤ e → turn u v e d ≡ neg_ℤ (pos u *ℤ d)
unfolding turn
turn_over u v e d p = grind (arith, ints)

pub turn_under : (u v : ℕ) (e d : ℤ) → e <ℤ pos 0 → turn u v e d ≡ pos v *ℤ d
unfolding turn
turn_under u v e d p = grind (arith, ints)

pub turn_on : (u v : ℕ) (e d : ℤ) → e ≡ pos 0 → turn u v e d ≡ cost u v (neg_ℤ d)
unfolding turn
turn_on u v e d p = grind (arith, ints)

-- ---- the direction from one line to another is (lean, shift)
unfoldable pub shift : AnyLine → AnyLine → ℤ
shift l m = l.a *ℤ m.c -ℤ m.a *ℤ l.c

pub cross : (l m : AnyLine) (z : Point) → l.a *ℤ miss_at m z ≡ m.a *ℤ miss_at l z -ℤ at (lean l m) (shift l m) z
unfolding miss at lean shift
cross l m z = simp poly

-- ---- the inequality
one : (u v : ℕ) (A A' e e' d : ℤ) → pos 0 ≤ℤ A → A *ℤ e' ≡ A' *ℤ e -ℤ d → (A' *ℤ cost u v e +ℤ turn u v e d) ≤ℤ (A *ℤ cost u v e')
one u v A A' e e' d p q = rw (← cost_times u v A e' p) (by_sign e
    (λ g. rw (turn_over u v e d g, cost_up u v e (weaken g)) (from (cost_late u v (A *ℤ e') & scale (pos u) q) (simp ring (simp flat (omega lin)))))
    (λ g. rw (turn_under u v e d g, cost_down u v e (weaken g)) (from (cost_early u v (A *ℤ e') & scale (pos v) q) (simp ring (simp flat (omega lin)))))
    (λ g. rw (turn_on u v e d g, cost_up u v e (omega lin)) (let k : A *ℤ e' ≡ neg_ℤ d = from (q & scale A' g) (simp ring (simp flat (omega lin))) in
    rw (k, g) (simp ring (simp flat (omega lin))))))

one_point : (l m : AnyLine) (z : Point) → pos 0 ≤ℤ l.a → (m.a *ℤ paid l z +ℤ turned l (lean l m) (shift l m) z) ≤ℤ (l.a *ℤ paid m z)
unfolding paid turned
one_point l m z p = one z.u z.v l.a m.a (miss_at l z) (miss_at m z) (at (lean l m) (shift l m) z) p (cross l m z)

pub subgradient : (l m : AnyLine) (xs : List Point) → pos 0 ≤ℤ l.a → (m.a *ℤ total l xs +ℤ along l xs (lean l m) (shift l m)) ≤ℤ (l.a *ℤ total m xs)
subgradient l m [] p = simp ring (simp flat (omega lin))
subgradient l m (z ∷ xs) p = from (one_point l m z p & subgradient l m xs p) (simp ring (simp flat (omega lin)))

-- ---- the equation, where no point changes sides
pub record Keeps (e e' : ℤ) : Type 0 where
  pub late : pos 0 <ℤ e → pos 0 ≤ℤ e'
  pub early : e <ℤ pos 0 → e' ≤ℤ pos 0

one_exact : (u v : ℕ) (A A' e e' d : ℤ) → pos 0 ≤ℤ A → A *ℤ e' ≡ A' *ℤ e -ℤ d → Keeps e e' → A *ℤ cost u v e' ≡ A' *ℤ cost u v e +ℤ turn u v e d
one_exact u v A A' e e' d p q k = by_sign e
    (λ g. rw (turn_over u v e d g, cost_up u v e (weaken g), cost_up u v e' (k.late g)) (from (scale (pos u) q) (simp ring (simp flat (omega lin)))))
    (λ g. rw (turn_under u v e d g, cost_down u v e (weaken g), cost_down u v e' (k.early g)) (from (scale (pos v) q) (simp ring (simp flat (omega lin)))))
    (λ g. let j : A *ℤ e' ≡ neg_ℤ d = from (q & scale A' g) (simp ring (simp flat (omega lin))) in
    rw (turn_on u v e d g, cost_up u v e (omega lin), ← cost_times u v A e' p) (rw (j, g) (simp ring (simp flat (omega lin)))))

exact_point : (l m : AnyLine) (z : Point) → pos 0 ≤ℤ l.a → Keeps (miss_at l z) (miss_at m z) → l.a *ℤ paid m z ≡ m.a *ℤ paid l z +ℤ turned l (lean l m) (shift l m) z
unfolding paid turned
exact_point l m z p k = one_exact z.u z.v l.a m.a (miss_at l z) (miss_at m z) (at (lean l m) (shift l m) z) p (cross l m z) k

pub exact : (l m : AnyLine) (xs : List Point) → pos 0 ≤ℤ l.a → ((z : Point) → In z xs → Keeps (miss_at l z) (miss_at m z)) → l.a *ℤ total m xs ≡ m.a *ℤ total l xs +ℤ along l xs (lean l m) (shift l m)
exact l m [] p k = simp ring (simp flat (omega lin))
exact l m (z ∷ xs) p k = from (exact_point l m z p (k z (inl refl)) & exact l m xs p (λ y i. k y (inr i))) (simp ring (simp flat (omega lin)))
