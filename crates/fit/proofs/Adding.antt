-- What one shot adds to the price of a line, and what all of them do.
use Rattle.std.proofs.Common.{◌≡◌, ℕ, ◌*◌, ◌≤◌, List, [], ◌∷◌, length, ℤ, pos, negsuc, ◌+ℤ◌, ◌-ℤ◌, ◌*ℤ◌, neg_ℤ, nat_abs, ◌≤ℤ◌, sym, refl, ap, ◌∙◌, mul-le-mul, mul-one, arith}
use borrow.Author.Differences.{ints}
use Rattle.std.proofs.lemmas.Int.{by_lt_z}
use Rattle.shots.specs.Prices.{Fair}
use Rattle.shots.specs.declared.shot.Shot.{Shot}
use Rattle.lines.specs.Costs.{cost, share_of}
use Rattle.lines.specs.Lines.{any, miss, miss_of, On}
use Rattle.lines.specs.Sums.{sum_z}
use Rattle.lines.specs.declared.line.Line.{Line}
use Rattle.lines.proofs.Cost.{cost_up, cost_down, cost_nn}
use Rattle.lines.proofs.Order.{prod, weaken}
use Rattle.lines.proofs.Ring.{lin, ring, flat, from, ◌&◌, mul_neg}
use Rattle.lines.proofs.Sizes.{Sized, sized_mul}
use Rattle.theory.specs.Points.{total, paid as paid-at}
use Rattle.fit.specs.Points.{point, points}
use Rattle.fit.specs.Totals.{paid, total_of, Bounded, Even}

-- ---- one shot
pub paid_nn : (tariff : ℤ → ℕ × ℕ) (l : Line) (z : Shot) → pos 0 ≤ℤ paid tariff l z
unfolding paid
paid_nn tariff l z = cost_nn _ _ (miss_of l z)

-- a cost is at most the dearer price times the miss
cost_most : (u v p m : ℕ) (e : ℤ) → u ≤ p → v ≤ p → Sized m e → cost u v e ≤ℤ pos (p * m)
cost_most u v p m e hu hv s =
    let s1 = s.low in
    let s2 = s.high in
    by_lt_z (pos 0) e
    (λ g. rw (cost_up u v e (weaken g)) (from (prod {a = pos u} {b = pos p} {c = pos 0} {d = e} (omega (arith, ints)) (weaken g) & prod {a = pos 0} {b = pos p} {c = e} {d = pos m} (omega (arith, ints)) s2) (simp ring (simp flat (omega lin)))))
    (λ g. rw (cost_down u v e g) (from (prod {a = pos v} {b = pos p} {c = e} {d = pos 0} (omega (arith, ints)) g & prod {a = pos 0} {b = pos p} {c = neg_ℤ (pos m)} {d = e} (omega (arith, ints)) s1) (simp ring (simp flat (omega lin)))))

-- a line with a shot on it passes near every other
apart : (a b c h s k r : ℤ) → a *ℤ k -ℤ b *ℤ r -ℤ c ≡ pos 0 → Sized 63984000 (a *ℤ (h -ℤ k)) → Sized 63984000 (b *ℤ (s -ℤ r)) → Sized 127968000 (a *ℤ h -ℤ b *ℤ s -ℤ c)
apart a b c h s k r on p q = record {
  low = from (on & p.low & q.high) (simp ring (simp flat (omega lin)));
  high = from (on & p.high & q.low) (simp ring (simp flat (omega lin)));
}

pub near : (l : Line) (y z : Shot) → On l y → Sized 127968000 (miss_of l z)
unfolding miss
near l y z on =
    let a : Sized 3999 l.a = record { low = omega (arith, ints); high = l.fine } in
    let b : Sized 16000 l.b = record { low = l.fall; high = l.rise } in
    let h : Sized 16000 (z.lead -ℤ y.lead) = record { low = omega (arith, ints); high = omega (arith, ints) } in
    let s : Sized 3999 (pos z.speed -ℤ pos y.speed) = record { low = omega (arith, ints); high = omega (arith, ints) } in
    apart l.a l.b l.c z.lead (pos z.speed) y.lead (pos y.speed) on (sized_mul a h) (sized_mul b s)

pub paid_near : (tariff : ℤ → ℕ × ℕ) (l : Line) (y z : Shot) → Fair tariff → On l y → paid tariff l z ≤ℤ pos 255936000000
unfolding paid
paid_near tariff l y z fair on =
    let late = (fair.late (pos z.stuff)).1 in
    let early = (fair.early (pos z.stuff)).1 in
    cost_most _ _ 2000 127968000 (miss_of l z) (mul-le-mul z.light late) (mul-le-mul z.light early) (near l y z on)

-- equal prices
cost_even : (w : ℕ) (e : ℤ) → cost w w e ≡ pos w *ℤ pos (nat_abs e)
cost_even w (pos n) = cost_up w w (pos n) (omega (arith, ints))
cost_even w (negsuc n) = cost_down w w (negsuc n) (omega (arith, ints)) ∙ sym (mul_neg (pos w) (negsuc n))

paid_even : (tariff : ℤ → ℕ × ℕ) (l : Line) (z : Shot) → ((m : ℤ) → tariff m ≡ (1, 1)) → paid tariff l z ≡ pos z.weight *ℤ pos (nat_abs (miss_of l z))
unfolding paid
paid_even tariff l z h =
    let w = z.weight in
    let e = miss_of l z in
    ap (λ p. cost (w * p.0) (w * p.1) e) (h (pos z.stuff)) ∙ ap (λ n. cost n n e) (mul-one w) ∙ cost_even w e

-- ---- all shots
sum_most : {T : Type 0} (f : T → ℤ) (m : ℕ) (xs : List T) → ((x : T) → f x ≤ℤ pos m) → sum_z f xs ≤ℤ pos (m * length xs)
sum_most f m [] h = omega (arith, ints)
sum_most f m (x ∷ xs) h = omega (arith, ints, sum_most f m xs h, h x)

pub total_bounded : (tariff : ℤ → ℕ × ℕ) (l : Line) (xs : List Shot) → Fair tariff → length xs ≤ 512 → Bounded l xs (total_of tariff l xs)
total_bounded tariff l xs fair n y i on =
    let k = sum_most (paid tariff l) 255936000000 xs (λ z. paid_near tariff l y z fair on) in omega (arith, ints)

pub total_even : (tariff : ℤ → ℕ × ℕ) (l : Line) (xs : List Shot) → Even tariff l xs (total_of tariff l xs)
total_even tariff l [] h = refl
total_even tariff l (z ∷ xs) h = omega (lin, paid_even tariff l z h, total_even tariff l xs h)

-- what `share` promises of a shot whose prices were asked of the rule
pub record Shared (tariff : ℤ → ℕ × ℕ) (l : Line) (z : Shot) (r : ℤ) : Type 0 where
  pub is : r ≡ paid tariff l z
  pub size : Sized 383984000000 r

pub shared : (tariff : ℤ → ℕ × ℕ) (l : Line) (z : Shot) (p : ℕ × ℕ) (r : ℤ) → p ≡ tariff (pos z.stuff) → (p.0 ≤ 20) × (p.1 ≤ 20) → r ≡ share_of l z p.0 p.1 → (pos 0 ≤ℤ r) × (p.0 ≤ 20 → p.1 ≤ 20 → r ≤ℤ pos 383984000000) → Shared tariff l z r
unfolding paid
shared tariff l z p r ep low er b = record {
  is = er ∙ ap (λ x. share_of l z x.0 x.1) ep;
  size = record { low = omega (arith, ints, b.0); high = b.1 low.0 low.1 };
}

-- T of shots is the total of their points
paid_point : (tariff : ℤ → ℕ × ℕ) (l : Line) (z : Shot) → paid tariff l z ≡ paid-at (any l) (point tariff z)
unfolding paid paid-at
paid_point tariff l z = refl

pub total_points : (tariff : ℤ → ℕ × ℕ) (l : Line) (xs : List Shot) → total_of tariff l xs ≡ total (any l) (points tariff xs)
total_points tariff l [] = refl
total_points tariff l (z ∷ xs) = λ i. paid_point tariff l z i +ℤ total_points tariff l xs i
