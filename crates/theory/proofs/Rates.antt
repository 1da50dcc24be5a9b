-- The rates of a point are the directional derivatives along the two turns about it, and their sum is the spread of the points on the line.
--   rise of z = along (1, -sz),   fall of z = along (-1, sz),  rise + fall = Σ (u + v)·|s - sz| over the points on the line
use Rattle.std.proofs.Common.{◌≡◌, ℕ, ◌+◌, List, [], ◌∷◌, ℤ, pos, ◌+ℤ◌, ◌-ℤ◌, ◌*ℤ◌, neg_ℤ, ◌≤ℤ◌, ◌<ℤ◌, refl, ap, ◌∙◌, arith}
use borrow.Author.Differences.{ints, product_is}
use Rattle.std.proofs.lemmas.Int.{by_lt_z}
use Rattle.lines.specs.Lines.{AnyLine}
use Rattle.lines.proofs.Ring.{lin, ring, flat}
use Rattle.lines.proofs.Cost.{cost_up, cost_down}
use Rattle.theory.specs.Points.{Point, miss_at}
use Rattle.theory.specs.Rates.{rise_part, fall_part, rise_of, fall_of, spread}
use Rattle.theory.specs.Theorems.{RatesAddUp}
use Rattle.theory.proofs.Least.{by_sign}
use Rattle.theory.proofs.Members.{sum_same}
use Rattle.theory.proofs.Subgradient.{at, turned, along, turn_over, turn_under, turn_on}

-- ---- the terms, by sides
pub record Terms (l : AnyLine) (z y : Point) (d : ℤ) : Type 0 where
  pub rise_late : pos 0 <ℤ miss_at l y → rise_part l z y ≡ neg_ℤ (pos y.u *ℤ d)
  pub rise_early : miss_at l y <ℤ pos 0 → rise_part l z y ≡ pos y.v *ℤ d
  pub rise_ahead : miss_at l y ≡ pos 0 → pos 0 <ℤ d → rise_part l z y ≡ pos y.v *ℤ d
  pub rise_behind : miss_at l y ≡ pos 0 → d ≤ℤ pos 0 → rise_part l z y ≡ pos y.u *ℤ neg_ℤ d
  pub fall_late : pos 0 <ℤ miss_at l y → fall_part l z y ≡ pos y.u *ℤ d
  pub fall_early : miss_at l y <ℤ pos 0 → fall_part l z y ≡ neg_ℤ (pos y.v *ℤ d)
  pub fall_ahead : miss_at l y ≡ pos 0 → pos 0 <ℤ d → fall_part l z y ≡ pos y.u *ℤ d
  pub fall_behind : miss_at l y ≡ pos 0 → d ≤ℤ pos 0 → fall_part l z y ≡ pos y.v *ℤ neg_ℤ d
  pub spread_late : pos 0 <ℤ miss_at l y → spread l z y ≡ pos 0
  pub spread_early : miss_at l y <ℤ pos 0 → spread l z y ≡ pos 0
  pub spread_ahead : miss_at l y ≡ pos 0 → pos 0 <ℤ d → spread l z y ≡ pos (y.u + y.v) *ℤ d
  pub spread_behind : miss_at l y ≡ pos 0 → d ≤ℤ pos 0 → spread l z y ≡ pos (y.u + y.v) *ℤ neg_ℤ d

pub terms : (l : AnyLine) (z y : Point) → Terms l z y (y.s -ℤ z.s)
unfolding rise_part fall_part spread
terms l z y =
    record {
      rise_late = λ g. grind (arith, ints);
      rise_early = λ g. grind (arith, ints);
      rise_ahead = λ g k. grind (arith, ints);
      rise_behind = λ g k. grind (arith, ints);
      fall_late = λ g. grind (arith, ints);
      fall_early = λ g. grind (arith, ints);
      fall_ahead = λ g k. grind (arith, ints);
      fall_behind = λ g k. grind (arith, ints);
      spread_late = λ g. grind (arith, ints);
      spread_early = λ g. grind (arith, ints);
      spread_ahead = λ g k. grind (arith, ints);
      spread_behind = λ g k. grind (arith, ints);
    }

-- ---- the rates as directional derivatives
pub one_l : (x : ℤ) → pos 1 *ℤ x ≡ x
one_l x = simp ring (simp flat (omega lin))

pub minus_l : (x : ℤ) → neg_ℤ (pos 1) *ℤ x ≡ neg_ℤ x
minus_l x = simp ring (simp flat (omega lin))

pub right_at : (k : ℤ) (z : Point) → at (pos 1) k z ≡ z.s +ℤ k
unfolding at
right_at k z = ap (λ x. x +ℤ k) (one_l z.s)

pub left_at : (k : ℤ) (z : Point) → at (neg_ℤ (pos 1)) k z ≡ neg_ℤ z.s +ℤ k
unfolding at
left_at k z = ap (λ x. x +ℤ k) (minus_l z.s)

pub flat_at : (k : ℤ) (z : Point) → at (pos 0) k z ≡ k
unfolding at
flat_at k z = simp ring (simp flat (omega lin))

rise_term : (l : AnyLine) (z y : Point) → rise_part l z y ≡ turned l (pos 1) (neg_ℤ z.s) y
unfolding turned
rise_term l z y =
    let t = terms l z y in
    let u = y.u in
    let v = y.v in
    let e = miss_at l y in
    let d = y.s -ℤ z.s in
    rw (right_at (neg_ℤ z.s) y) (by_sign e
    (λ g. rw (t.rise_late g, turn_over u v e d g) refl)
    (λ g. rw (t.rise_early g, turn_under u v e d g) refl)
    (λ g. rw (turn_on u v e d g) (by_lt_z (pos 0) d
    (λ k. rw (t.rise_ahead g k, cost_down u v (neg_ℤ d) (omega lin)) (simp ring (simp flat (omega lin))))
    (λ k. rw (t.rise_behind g k, cost_up u v (neg_ℤ d) (omega lin)) refl))))

fall_term : (l : AnyLine) (z y : Point) → fall_part l z y ≡ turned l (neg_ℤ (pos 1)) z.s y
unfolding turned
fall_term l z y =
    let t = terms l z y in
    let u = y.u in
    let v = y.v in
    let e = miss_at l y in
    let d = y.s -ℤ z.s in
    let c = neg_ℤ y.s +ℤ z.s in
    rw (left_at z.s y) (by_sign e
    (λ g. rw (t.fall_late g, turn_over u v e c g) (simp ring (simp flat (omega lin))))
    (λ g. rw (t.fall_early g, turn_under u v e c g) (simp ring (simp flat (omega lin))))
    (λ g. rw (turn_on u v e c g) (by_lt_z (pos 0) d
    (λ k. rw (t.fall_ahead g k, cost_up u v (neg_ℤ c) (omega lin)) (simp ring (simp flat (omega lin))))
    (λ k. rw (t.fall_behind g k, cost_down u v (neg_ℤ c) (omega lin)) (simp ring (simp flat (omega lin)))))))

pub rise_along : (l : AnyLine) (xs : List Point) (z : Point) → rise_of l xs z ≡ along l xs (pos 1) (neg_ℤ z.s)
rise_along l xs z = sum_same (rise_part l z) (turned l (pos 1) (neg_ℤ z.s)) xs (λ y i. rise_term l z y)

pub fall_along : (l : AnyLine) (xs : List Point) (z : Point) → fall_of l xs z ≡ along l xs (neg_ℤ (pos 1)) z.s
fall_along l xs z = sum_same (fall_part l z) (turned l (neg_ℤ (pos 1)) z.s) xs (λ y i. fall_term l z y)

-- ---- the sum of the rates
add_term : (l : AnyLine) (z y : Point) → rise_part l z y +ℤ fall_part l z y ≡ spread l z y
add_term l z y =
    let t = terms l z y in
    let d = y.s -ℤ z.s in
    by_sign (miss_at l y)
    (λ g. rw (t.rise_late g, t.fall_late g, t.spread_late g) (simp ring (simp flat (omega lin))))
    (λ g. rw (t.rise_early g, t.fall_early g, t.spread_early g) (simp ring (simp flat (omega lin))))
    (λ g. by_lt_z (pos 0) d
    (λ k. rw (t.rise_ahead g k, t.fall_ahead g k, t.spread_ahead g k) (split y.u y.v d))
    (λ k. rw (t.rise_behind g k, t.fall_behind g k, t.spread_behind g k) (split y.v y.u (neg_ℤ d) ∙ ap (λ n. pos n *ℤ neg_ℤ d) (omega arith))))
  where
    split : (u v : ℕ) (x : ℤ) → pos v *ℤ x +ℤ pos u *ℤ x ≡ pos (u + v) *ℤ x
    split u v x = omega (lin, product_is)

pub rates_add_up_lem : RatesAddUp
rates_add_up_lem l [] z = refl
rates_add_up_lem l (y ∷ ys) z = omega (lin, add_term l z y, rates_add_up_lem l ys z)
