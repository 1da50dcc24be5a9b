-- The directional derivative is linear on each cone of directions that disagree in sign on no point of the line.
--   k·(U, V) = i·(U1, V1) + j·(U2, V2) with k, i, j ≥ 0   ⇒  k·along (U, V) = i·along (U1, V1) + j·along (U2, V2)
use Rattle.std.proofs.Common.{◌≡◌, ℕ, ◌⊎◌, List, [], ◌∷◌, ℤ, pos, ◌+ℤ◌, ◌*ℤ◌, neg_ℤ, ◌≤ℤ◌, ◌<ℤ◌, refl, ap, inl, inr}
use Rattle.std.proofs.lemmas.Int.{by_lt_z}
use Rattle.lines.specs.Lines.{AnyLine}
use Rattle.lines.specs.Costs.{cost}
use Rattle.lines.proofs.Ring.{lin, ring, flat, poly, from, ◌&◌}
use Rattle.lines.proofs.Order.{prod, mul_nn, cancel_le, weaken}
use Rattle.lines.proofs.Cost.{cost_up, cost_down, cost_times}
use Rattle.theory.specs.Points.{Point, miss_at, In, On}
use Rattle.theory.proofs.Least.{by_sign}
use Rattle.theory.proofs.Subgradient.{turn, at, turned, along, turn_over, turn_under, turn_on}

-- no opposite signs
abbrev pub Agree : ℤ → ℤ → Type 0
Agree x y = ((pos 0 ≤ℤ x) × (pos 0 ≤ℤ y)) ⊎ ((x ≤ℤ pos 0) × (y ≤ℤ pos 0))

turn_times : (u v : ℕ) (e d k : ℤ) → pos 0 ≤ℤ k → turn u v e (k *ℤ d) ≡ k *ℤ turn u v e d
turn_times u v e d k p = by_sign e
    (λ g. rw (turn_over u v e d g, turn_over u v e (k *ℤ d) g) (simp poly))
    (λ g. rw (turn_under u v e d g, turn_under u v e (k *ℤ d) g) (simp poly))
    (λ g. rw (turn_on u v e d g, turn_on u v e (k *ℤ d) g, ← cost_times u v k (neg_ℤ d) p) (ap (cost u v) (simp poly)))

turn_plus : (u v : ℕ) (e x y : ℤ) → (e ≡ pos 0 → Agree x y) → turn u v e (x +ℤ y) ≡ turn u v e x +ℤ turn u v e y
turn_plus u v e x y a = by_sign e
    (λ g. rw (turn_over u v e x g, turn_over u v e y g, turn_over u v e (x +ℤ y) g) (simp poly))
    (λ g. rw (turn_under u v e x g, turn_under u v e y g, turn_under u v e (x +ℤ y) g) (simp poly))
    (λ g. rw (turn_on u v e x g, turn_on u v e y g, turn_on u v e (x +ℤ y) g) (elim (a g) [
      | inl w ↦ let p = w.0 in let q = w.1 in rw (cost_down u v (neg_ℤ x) (omega lin), cost_down u v (neg_ℤ y) (omega lin), cost_down u v (neg_ℤ (x +ℤ y)) (omega lin)) (simp ring (simp flat (omega lin)))
      | inr w ↦ let p = w.0 in let q = w.1 in rw (cost_up u v (neg_ℤ x) (omega lin), cost_up u v (neg_ℤ y) (omega lin), cost_up u v (neg_ℤ (x +ℤ y)) (omega lin)) (simp ring (simp flat (omega lin)))
    ]))

agree_times : (j k x y : ℤ) → pos 0 ≤ℤ j → pos 0 ≤ℤ k → Agree x y → Agree (j *ℤ x) (k *ℤ y)
agree_times j k x y p q a = elim a [
  | inl w ↦ inl (mul_nn p w.0, mul_nn q w.1)
  | inr w ↦ inr (from (prod p w.0) (simp ring (simp flat (omega lin))), from (prod q w.1) (simp ring (simp flat (omega lin))))
]

turn_cone : (u v : ℕ) (e d x y k i j : ℤ) → pos 0 ≤ℤ k → pos 0 ≤ℤ i → pos 0 ≤ℤ j → k *ℤ d ≡ i *ℤ x +ℤ j *ℤ y → (e ≡ pos 0 → Agree x y)
    → k *ℤ turn u v e d ≡ i *ℤ turn u v e x +ℤ j *ℤ turn u v e y
turn_cone u v e d x y k i j p q r q' a =
    rw (← turn_times u v e d k p, ← turn_times u v e x i q, ← turn_times u v e y j r, q') (turn_plus u v e (i *ℤ x) (j *ℤ y) (λ g. agree_times i j x y q r (a g)))

-- k·(U,V) = i·(U1,V1) + j·(U2,V2)
pub record Mix (k i j U V U1 V1 U2 V2 : ℤ) : Type 0 where
  pub k0 : pos 0 ≤ℤ k
  pub i0 : pos 0 ≤ℤ i
  pub j0 : pos 0 ≤ℤ j
  pub us : k *ℤ U ≡ i *ℤ U1 +ℤ j *ℤ U2
  pub vs : k *ℤ V ≡ i *ℤ V1 +ℤ j *ℤ V2

mixed : (z : Point) (k i j U V U1 V1 U2 V2 : ℤ) → Mix k i j U V U1 V1 U2 V2 → k *ℤ at U V z ≡ i *ℤ at U1 V1 z +ℤ j *ℤ at U2 V2 z
unfolding at
mixed z k i j U V U1 V1 U2 V2 m = from (ap (λ x. x *ℤ z.s) m.us & m.vs) (simp ring (simp flat (omega lin)))

cone_point : (l : AnyLine) (z : Point) (k i j U V U1 V1 U2 V2 : ℤ) → Mix k i j U V U1 V1 U2 V2 → (On l z → Agree (at U1 V1 z) (at U2 V2 z))
    → k *ℤ turned l U V z ≡ i *ℤ turned l U1 V1 z +ℤ j *ℤ turned l U2 V2 z
unfolding turned
cone_point l z k i j U V U1 V1 U2 V2 m a = turn_cone z.u z.v (miss_at l z) (at U V z) (at U1 V1 z) (at U2 V2 z) k i j m.k0 m.i0 m.j0 (mixed z k i j U V U1 V1 U2 V2 m) a

pub cone : (l : AnyLine) (xs : List Point) (k i j U V U1 V1 U2 V2 : ℤ) → Mix k i j U V U1 V1 U2 V2 → ((z : Point) → In z xs → On l z → Agree (at U1 V1 z) (at U2 V2 z))
    → k *ℤ along l xs U V ≡ i *ℤ along l xs U1 V1 +ℤ j *ℤ along l xs U2 V2
cone l [] k i j U V U1 V1 U2 V2 m a = simp ring (simp flat (omega lin))
cone l (z ∷ xs) k i j U V U1 V1 U2 V2 m a =
    from (cone_point l z k i j U V U1 V1 U2 V2 m (a z (inl refl)) & cone l xs k i j U V U1 V1 U2 V2 m (λ y p. a y (inr p))) (simp ring (simp flat (omega lin)))

-- so a direction mixed of two that are not below 0 is not below 0
pub cone_nn : (l : AnyLine) (xs : List Point) (k i j U V U1 V1 U2 V2 : ℤ) → pos 0 <ℤ k → Mix k i j U V U1 V1 U2 V2 → ((z : Point) → In z xs → On l z → Agree (at U1 V1 z) (at U2 V2 z))
    → pos 0 ≤ℤ along l xs U1 V1 → pos 0 ≤ℤ along l xs U2 V2 → pos 0 ≤ℤ along l xs U V
cone_nn l xs k i j U V U1 V1 U2 V2 k1 m a p q = cancel_le k (pos 0) (along l xs U V) k1
    (from (cone l xs k i j U V U1 V1 U2 V2 m a & prod m.i0 p & prod m.j0 q) (simp ring (simp flat (omega lin))))

-- ---- a direction, k times
pub along_times : (l : AnyLine) (xs : List Point) (k U V : ℤ) → pos 0 ≤ℤ k → along l xs (k *ℤ U) (k *ℤ V) ≡ k *ℤ along l xs U V
along_times l xs k U V p =
    from (cone l xs (pos 1) k (pos 0) (k *ℤ U) (k *ℤ V) U V U V
    (record { k0 = omega lin; i0 = p; j0 = omega lin; us = simp ring (simp flat (omega lin)); vs = simp ring (simp flat (omega lin)) })
    (λ z i o. by_lt_z (at U V z) (pos 0) (λ h. inr (weaken h, weaken h)) (λ h. inl (h, h)))) (simp ring (simp flat (omega lin)))
