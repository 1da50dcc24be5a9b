-- A line that runs through two speeds and passes the test is the cheapest of all.
--   rise, fall ≥ 0 at each point on l, two of them of different speeds   ⇒  along (U, V) ≥ 0 for all U, V  ⇒  a'·T ≤ a·T' for all lines
use Rattle.std.proofs.Common.{◌≡◌, List, ℤ, pos, ◌+ℤ◌, ◌-ℤ◌, ◌*ℤ◌, neg_ℤ, ◌≤ℤ◌, ◌<ℤ◌, sym, refl, ap, ◌∙◌, inl, inr}
use Rattle.std.proofs.lemmas.Int.{by_lt_z}
use Rattle.lines.specs.Lines.{AnyLine}
use Rattle.lines.proofs.Ring.{lin, ring, flat, poly, from, ◌&◌}
use Rattle.lines.proofs.Order.{cancel_lt, weaken}
use Rattle.theory.specs.Points.{Point, miss_at, In, On, IsRival, Cheapest, Spans}
use Rattle.theory.specs.Rates.{Passing, Passes}
use Rattle.theory.specs.Slopes.{lean}
use Rattle.theory.proofs.Least.{Least, least_by, at_eq, by_sign, test_le, test_lt, test_zero, test_both}
use Rattle.theory.proofs.Subgradient.{at, along, shift, subgradient}
use Rattle.theory.proofs.Cone.{cone_nn}
use Rattle.theory.proofs.Rates.{one_l, minus_l, right_at, left_at, flat_at, rise_along, fall_along}

-- the rate of z to the side o: 1 for the rise, -1 for the fall
abbrev rate : AnyLine → List Point → ℤ → Point → ℤ
rate l xs o z = along l xs o (neg_ℤ (o *ℤ z.s))

rise_nn : (l : AnyLine) (xs : List Point) (z : Point) → Passing l xs z → pos 0 ≤ℤ along l xs (pos 1) (neg_ℤ z.s)
rise_nn l xs z p = at_eq (λ x. pos 0 ≤ℤ x) (rise_along l xs z) p.rise

fall_nn : (l : AnyLine) (xs : List Point) (z : Point) → Passing l xs z → pos 0 ≤ℤ along l xs (neg_ℤ (pos 1)) z.s
fall_nn l xs z p = at_eq (λ x. pos 0 ≤ℤ x) (fall_along l xs z) p.fall

neg_neg : (x : ℤ) → neg_ℤ (neg_ℤ x) ≡ x
neg_neg x = omega lin

flip : (x : ℤ) → neg_ℤ (neg_ℤ (pos 1) *ℤ x) ≡ x
flip x = ap neg_ℤ (minus_l x) ∙ neg_neg x

unflip : (x : ℤ) → neg_ℤ (pos 1) *ℤ neg_ℤ x ≡ x
unflip x = minus_l (neg_ℤ x) ∙ neg_neg x

-- ---- straight up and straight down, from the slowest and the fastest point on the line
flat_up : (l : AnyLine) (xs : List Point) → Spans l xs → Passes l xs → pos 0 ≤ℤ along l xs (pos 0) (pos 1)
flat_up l xs t h =
    let m = least_by (On l) (λ z. z.s) (λ z. test_zero (miss_at l z)) xs t.slow t.slow_in t.slow_on in
    let n = least_by (On l) (λ z. neg_ℤ z.s) (λ z. test_zero (miss_at l z)) xs t.fast t.fast_in t.fast_on in
    let f1 = m.least t.slow t.slow_in t.slow_on in
    let f2 = n.least t.fast t.fast_in t.fast_on in
    let f3 = t.apart in
    cone_nn l xs (n.it.s -ℤ m.it.s) (pos 1) (pos 1) (pos 0) (pos 1) (pos 1) (neg_ℤ m.it.s) (neg_ℤ (pos 1)) n.it.s (omega lin)
    (record { k0 = omega lin; i0 = omega lin; j0 = omega lin; us = simp ring (simp flat (omega lin)); vs = simp ring (simp flat (omega lin)) })
    (λ z i o. let g1 = m.least z i o in let g2 = n.least z i o in
    rw (right_at (neg_ℤ m.it.s) z, left_at n.it.s z) (inl (omega lin, omega lin)))
    (rise_nn l xs m.it (h m.it m.inside m.good)) (fall_nn l xs n.it (h n.it n.inside n.good))

flat_down : (l : AnyLine) (xs : List Point) → Spans l xs → Passes l xs → pos 0 ≤ℤ along l xs (pos 0) (neg_ℤ (pos 1))
flat_down l xs t h =
    let m = least_by (On l) (λ z. z.s) (λ z. test_zero (miss_at l z)) xs t.slow t.slow_in t.slow_on in
    let n = least_by (On l) (λ z. neg_ℤ z.s) (λ z. test_zero (miss_at l z)) xs t.fast t.fast_in t.fast_on in
    let f1 = m.least t.slow t.slow_in t.slow_on in
    let f2 = n.least t.fast t.fast_in t.fast_on in
    let f3 = t.apart in
    cone_nn l xs (n.it.s -ℤ m.it.s) (pos 1) (pos 1) (pos 0) (neg_ℤ (pos 1)) (neg_ℤ (pos 1)) m.it.s (pos 1) (neg_ℤ n.it.s) (omega lin)
    (record { k0 = omega lin; i0 = omega lin; j0 = omega lin; us = simp ring (simp flat (omega lin)); vs = simp ring (simp flat (omega lin)) })
    (λ z i o. let g1 = m.least z i o in let g2 = n.least z i o in
    rw (left_at m.it.s z, right_at (neg_ℤ n.it.s) z) (inr (omega lin, omega lin)))
    (fall_nn l xs m.it (h m.it m.inside m.good)) (rise_nn l xs n.it (h n.it n.inside n.good))

-- ---- a direction that leans to the side o (1 or -1) by W > 0
module _ (l : AnyLine) (xs : List Point) (o W V : ℤ) (w : pos 0 <ℤ W) (R : (z : Point) → In z xs → On l z → pos 0 ≤ℤ rate l xs o z) where
  d : Point → ℤ
  d z = at (o *ℤ W) V z

  abbrev key : Point → ℤ
  key z = o *ℤ z.s

  d_is : (z : Point) → d z ≡ W *ℤ (o *ℤ z.s) +ℤ V
  unfolding d at
  d_is z = simp poly

  rate_at : (y z : Point) → at o (neg_ℤ (o *ℤ y.s)) z ≡ o *ℤ z.s -ℤ o *ℤ y.s
  unfolding at
  rate_at y z = refl

  over : (p : Least (On l) (λ x y. key x ≤ℤ key y) xs) → pos 0 <ℤ d p.it → pos 0 ≤ℤ along l xs (pos 0) (pos 1) → pos 0 ≤ℤ along l xs (o *ℤ W) V
  over p g f = cone_nn l xs (pos 1) W (d p.it) (o *ℤ W) V o (neg_ℤ (o *ℤ p.it.s)) (pos 0) (pos 1) (omega lin)
      (record { k0 = omega lin; i0 = weaken w; j0 = weaken g; us = simp ring (simp flat (omega lin)); vs = from (d_is p.it) (simp ring (simp flat (omega lin))) })
      (λ z i m. let g1 = p.least z i m in rw (rate_at p.it z, flat_at (pos 1) z) (inl (omega lin, omega lin)))
      (R p.it p.inside p.good) f

  under : (p : Least (On l) (λ x y. neg_ℤ (key x) ≤ℤ neg_ℤ (key y)) xs) → d p.it ≤ℤ pos 0 → pos 0 ≤ℤ along l xs (pos 0) (neg_ℤ (pos 1)) → pos 0 ≤ℤ along l xs (o *ℤ W) V
  under p g f = cone_nn l xs (pos 1) W (neg_ℤ (d p.it)) (o *ℤ W) V o (neg_ℤ (o *ℤ p.it.s)) (pos 0) (neg_ℤ (pos 1)) (omega lin)
      (record { k0 = omega lin; i0 = weaken w; j0 = omega lin; us = simp ring (simp flat (omega lin)); vs = from (d_is p.it) (simp ring (simp flat (omega lin))) })
      (λ z i m. let g1 = p.least z i m in rw (rate_at p.it z, flat_at (neg_ℤ (pos 1)) z) (inr (omega lin, omega lin)))
      (R p.it p.inside p.good) f

  across : (p : Least (λ z. On l z × (d z ≤ℤ pos 0)) (λ x y. neg_ℤ (key x) ≤ℤ neg_ℤ (key y)) xs) → (q : Least (λ z. On l z × (pos 0 <ℤ d z)) (λ x y. key x ≤ℤ key y) xs) → pos 0 ≤ℤ along l xs (o *ℤ W) V
  across p q =
      let p1 = p.good.1 in
      let q1 = q.good.1 in
      let e1 = d_is p.it in
      let e2 = d_is q.it in
      let k : key p.it <ℤ key q.it = cancel_lt W (key p.it) (key q.it) w (from (p1 & q1 & e1 & e2) (simp ring (simp flat (omega lin)))) in
      cone_nn l xs (key q.it -ℤ key p.it) (d q.it) (neg_ℤ (d p.it)) (o *ℤ W) V o (neg_ℤ (o *ℤ p.it.s)) o (neg_ℤ (o *ℤ q.it.s)) (omega lin)
      (record {
        k0 = omega lin;
        i0 = weaken q1;
        j0 = omega lin;
        us = from (ap (λ z. o *ℤ z) e1 & ap (λ z. o *ℤ z) e2) (simp ring (simp flat (omega lin)));
        vs = from (ap (λ z. o *ℤ q.it.s *ℤ z) e1 & ap (λ z. o *ℤ p.it.s *ℤ z) e2) (simp ring (simp flat (omega lin)));
      })
      (λ z i m. rw (rate_at p.it z, rate_at q.it z) (by_lt_z (pos 0) (d z)
      (λ g. let g1 = q.least z i (m, g) in inl (omega lin, omega lin))
      (λ g. let g1 = p.least z i (m, g) in inr (omega lin, omega lin))))
      (R p.it p.inside p.good.0) (R q.it q.inside q.good.0)

  leaning : (z : Point) → In z xs → On l z → pos 0 ≤ℤ along l xs (pos 0) (pos 1) → pos 0 ≤ℤ along l xs (pos 0) (neg_ℤ (pos 1)) → pos 0 ≤ℤ along l xs (o *ℤ W) V
  leaning z i m f1 f2 =
      let a = least_by (On l) (λ x. key x) (λ x. test_zero (miss_at l x)) xs z i m in
      let b = least_by (On l) (λ x. neg_ℤ (key x)) (λ x. test_zero (miss_at l x)) xs z i m in
      by_lt_z (pos 0) (d a.it) (λ g. over a g f1)
      (λ g. by_lt_z (pos 0) (d b.it)
      (λ g'. across
      (least_by (λ x. On l x × (d x ≤ℤ pos 0)) (λ x. neg_ℤ (key x)) (λ x. test_both (test_zero (miss_at l x)) (test_le (d x) (pos 0))) xs a.it a.inside (a.good, g))
      (least_by (λ x. On l x × (pos 0 <ℤ d x)) (λ x. key x) (λ x. test_both (test_zero (miss_at l x)) (test_lt (pos 0) (d x))) xs b.it b.inside (b.good, g')))
      (λ g'. under b g' f2))

flat_any : (l : AnyLine) (xs : List Point) (k V : ℤ) → pos 0 ≤ℤ k → pos 0 ≤ℤ along l xs (pos 0) V → pos 0 ≤ℤ along l xs (pos 0) (k *ℤ V)
flat_any l xs k V p g = cone_nn l xs (pos 1) k (pos 0) (pos 0) (k *ℤ V) (pos 0) V (pos 0) V (omega lin)
    (record { k0 = omega lin; i0 = p; j0 = omega lin; us = simp ring (simp flat (omega lin)); vs = simp ring (simp flat (omega lin)) })
    (λ z i o. by_lt_z (at (pos 0) V z) (pos 0) (λ h. inr (weaken h, weaken h)) (λ h. inl (h, h))) g g

-- ---- every direction
turns : (l : AnyLine) (xs : List Point) → Spans l xs → Passes l xs → (U V : ℤ) → pos 0 ≤ℤ along l xs U V
turns l xs t h U V =
    let f1 = flat_up l xs t h in
    let f2 = flat_down l xs t h in
    by_sign U
    (λ g. rw (one_l U) at (leaning l xs (pos 1) U V g (λ z i o. rw one_l (rise_nn l xs z (h z i o))) t.slow t.slow_in t.slow_on f1 f2))
    (λ g. at_eq (λ x. pos 0 ≤ℤ along l xs x V) (unflip U) (leaning l xs (neg_ℤ (pos 1)) (neg_ℤ U) V (omega lin) (λ z i o. at_eq (λ x. pos 0 ≤ℤ along l xs (neg_ℤ (pos 1)) x) (sym (flip z.s)) (fall_nn l xs z (h z i o))) t.slow t.slow_in t.slow_on f1 f2))
    (λ g. rw g (by_lt_z (pos 0) V
    (λ k. let r = flat_any l xs V (pos 1) (weaken k) f1 in rw ((let e : V *ℤ pos 1 ≡ V = simp ring (simp flat (omega lin)) in e)) at r)
    (λ k. let r = flat_any l xs (neg_ℤ V) (neg_ℤ (pos 1)) (omega lin) f2 in rw ((let e : neg_ℤ V *ℤ neg_ℤ (pos 1) ≡ V = simp ring (simp flat (omega lin)) in e)) at r)))

pub passes_cheapest : (l : AnyLine) (xs : List Point) → IsRival l → Spans l xs → Passes l xs → Cheapest l xs
passes_cheapest l xs a t h m b = from (subgradient l m xs (omega lin) & turns l xs t h (lean l m) (shift l m)) (simp ring (simp flat (omega lin)))
