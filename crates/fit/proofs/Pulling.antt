-- The pulls of shots about a shot z: their list as it grows, where each comes from, and that their prices are in range.
use Rattle.std.proofs.Common.{◌≡◌, ℕ, zero, suc, ◌*◌, ◌<◌, ◌≤◌, List, [], ◌∷◌, ◌++◌, length, get_or, ℤ, pos, ◌*ℤ◌, ◌≤ℤ◌, sym, refl, ap, ◌∙◌, subst, inl, inr, mul-le-mul, arith}
use Rattle.std.proofs.lemmas.Int.{ints}
use Rattle.shots.specs.Prices.{Fair as FairPrices}
use Rattle.shots.specs.declared.shot.Shot.{Shot}
use Rattle.lines.specs.About.{Fits}
use Rattle.lines.specs.Through.{run_of}
use Rattle.lines.specs.declared.slope.Slope.{Slope}
use Rattle.lines.proofs.Laying.{run_size, rise_size}
use Rattle.lines.proofs.Order.{prod}
use Rattle.lines.proofs.Ring.{lin, ring, flat, from, ◌&◌}
use Rattle.theory.specs.Points.{Point, In}
use Rattle.theory.specs.Turning.{run, num, Other, pull_p, pull_q}
use Rattle.theory.proofs.Keys.{ahead, behind}
use Rattle.balance.specs.Balances.{Every, Fair}
use Rattle.balance.specs.declared.pull.Pull.{Pull}
use Rattle.fit.specs.Points.{point_at, point, points}
use Rattle.fit.specs.Turning.{PullFrom, PullAt, Pulls}

-- ---- the list grows
module _ (tariff : ℤ → ℕ × ℕ) (z : Shot) where
  pub pulls_skip : (xs : List Shot) (ps : List (Pull Slope)) (y : Shot) → y.speed ≡ z.speed → Pulls tariff z xs ps → Pulls tariff z (xs ++ y ∷ []) ps
  pulls_skip [] ps y e h = inl (e, h)
  pulls_skip (x ∷ xs) ps y e (inl h) = inl (h.0, pulls_skip xs ps y e h.1)
  pulls_skip (x ∷ xs) ps y e (inr (p, qs, eq, a, r)) = inr (p, qs, eq, a, pulls_skip xs qs y e r)

  pub pulls_push : (xs : List Shot) (ps : List (Pull Slope)) (y : Shot) (q : Pull Slope) → PullAt z y (tariff (pos y.stuff)) q → Pulls tariff z xs ps → Pulls tariff z (xs ++ y ∷ []) (ps ++ q ∷ [])
  pulls_push [] ps y q g h = inr (q, [], ap (λ l. l ++ q ∷ []) h, g, refl)
  pulls_push (x ∷ xs) ps y q g (inl h) = inl (h.0, pulls_push xs ps y q g h.1)
  pulls_push (x ∷ xs) ps y q g (inr (p, qs, eq, a, r)) =
      inr (p, qs ++ q ∷ [], ap (λ l. l ++ q ∷ []) eq, a, pulls_push xs qs y q g r)

  -- no more pulls than shots
  pub pulls_few : (xs : List Shot) (ps : List (Pull Slope)) → Pulls tariff z xs ps → length ps ≤ length xs
  pulls_few [] ps h = let l = ap length h in omega arith
  pulls_few (x ∷ xs) ps (inl h) = let r = pulls_few xs ps h.1 in omega arith
  pulls_few (x ∷ xs) ps (inr (p, qs, eq, a, h)) = let r = pulls_few xs qs h in let l = ap length eq in omega arith

-- ---- what a pull is worth
pub record Pulled (z y : Point) (p : Pull Slope) : Type 0 where
  pub other : Other z y
  pub key : num z y *ℤ p.key.run ≡ p.key.rise *ℤ run z y
  pub under : pos p.under ≡ pull_p z y
  pub over : pos p.over ≡ pull_q z y

pub fits : (z y : Shot) (prices : ℕ × ℕ) (p : Pull Slope) → PullAt z y prices p → Fits p.key
fits z y prices p (inl (g, f)) = record { fine = (run_size z y p.key f.key).high; fall = (rise_size z y p.key f.key).low; rise = (rise_size z y p.key f.key).high }
fits z y prices p (inr (g, f)) = record { fine = (run_size y z p.key f.key).high; fall = (rise_size y z p.key f.key).low; rise = (rise_size y z p.key f.key).high }

pub pulled : (z y : Shot) (at prices : ℕ × ℕ) (p : Pull Slope) → PullAt z y prices p → Pulled (point_at z at) (point_at y prices) p
pulled z y at prices p (inl (g, f)) =
    let w = ahead (point_at z at) (point_at y prices) (omega (arith, ints)) in
    record {
      other = rw w.run_is (omega (arith, ints));
      key = rw (w.run_is, w.num_is) f.key.worth;
      under = f.under ∙ sym w.p_is;
      over = f.over ∙ sym w.q_is;
    }
pulled z y at prices p (inr (g, f)) =
    let w = behind (point_at z at) (point_at y prices) (omega (arith, ints)) in
    record {
      other = rw w.run_is (omega (arith, ints));
      key = rw (w.run_is, w.num_is) f.key.worth;
      under = f.under ∙ sym w.p_is;
      over = f.over ∙ sym w.q_is;
    }

-- ---- prices in range
price_range : (w p : ℕ) (n : ℕ) (d : ℤ) → 1 ≤ w → w ≤ 100 → 1 ≤ p → p ≤ 20 → pos 1 ≤ℤ d → d ≤ℤ pos 3999 → pos n ≡ pos (w * p) *ℤ d → (1 ≤ n) × (n ≤ 8000000)
price_range w p n d w1 w2 p1 p2 d1 d2 e =
    let m1 : 1 * 1 ≤ w * p = mul-le-mul w1 p1 in
    let m2 : w * p ≤ 100 * 20 = mul-le-mul w2 p2 in
    let a : pos 1 ≤ℤ pos (w * p) = omega (arith, ints) in
    let b : pos (w * p) ≤ℤ pos 2000 = omega (arith, ints) in
    ranged (pos (w * p)) d n a b d1 d2 e
  where
    ranged : (k d : ℤ) (n : ℕ) → pos 1 ≤ℤ k → k ≤ℤ pos 2000 → pos 1 ≤ℤ d → d ≤ℤ pos 3999 → pos n ≡ k *ℤ d → (1 ≤ n) × (n ≤ 8000000)
    ranged k d n a b c f e =
        let low : pos 1 ≤ℤ pos n = from (e & prod a c & a & c) (simp ring (simp flat (omega lin))) in
        let high : pos n ≤ℤ pos 7998000 = from (e & prod {a = k} {b = pos 2000} {c = pos 1} {d = d} b c & f) (simp ring (simp flat (omega lin))) in
        (omega (arith, ints), omega (arith, ints))

module _ (slow fast y : Shot) (u v : ℕ) (p : Pull Slope) (u1 : 1 ≤ u) (u2 : u ≤ 20) (v1 : 1 ≤ v) (v2 : v ≤ 20) where
  fair_from : slow.speed < fast.speed → PullFrom slow fast y.weight u v p → Fair p
  fair_from g f =
      let a = price_range y.weight u p.under (run_of slow fast) y.counted y.light u1 u2 (omega (arith, ints)) (omega (arith, ints)) f.under in
      let b = price_range y.weight v p.over (run_of slow fast) y.counted y.light v1 v2 (omega (arith, ints)) (omega (arith, ints)) f.over in
      record { under_low = a.0; under_high = a.1; over_low = b.0; over_high = b.1 }

pub fair_pull : (tariff : ℤ → ℕ × ℕ) (z y : Shot) (p : Pull Slope) → FairPrices tariff → PullAt z y (tariff (pos y.stuff)) p → Fair p
fair_pull tariff z y p fair (inl (g, f)) =
    let m = pos y.stuff in
    fair_from z y y (tariff m).0 (tariff m).1 p (fair.late m).0 (fair.late m).1 (fair.early m).0 (fair.early m).1 g f
fair_pull tariff z y p fair (inr (g, f)) =
    let m = pos y.stuff in
    fair_from y z y (tariff m).1 (tariff m).0 p (fair.early m).0 (fair.early m).1 (fair.late m).0 (fair.late m).1 g f

-- ---- each pull comes from a shot of another speed, and each such shot has a pull
pub record Origin (tariff : ℤ → ℕ × ℕ) (z : Shot) (xs : List Shot) (p : Pull Slope) : Type 0 where
  pub it : Shot
  pub inside : In (point tariff it) (points tariff xs)
  pub at : PullAt z it (tariff (pos it.stuff)) p

module _ (tariff : ℤ → ℕ × ℕ) (z : Shot) where
  later : (x : Shot) (xs : List Shot) (p : Pull Slope) → Origin tariff z xs p → Origin tariff z (x ∷ xs) p
  later x xs p o = record { it = o.it; inside = inr o.inside; at = o.at }

  first : (x : Shot) (xs : List Shot) (qs : List (Pull Slope)) (q p : Pull Slope) (i : ℕ) → PullAt z x (tariff (pos x.stuff)) q → ((j : ℕ) → j < length qs → p ≡ get_or qs j p → Origin tariff z xs p) → i < length (q ∷ qs) → p ≡ get_or (q ∷ qs) i p → Origin tariff z (x ∷ xs) p
  first x xs qs q p zero a r h e = record { it = x; inside = inl refl; at = subst (PullAt z x (tariff (pos x.stuff))) (sym e) a }
  first x xs qs q p (suc i) a r h e = later x xs p (r i (omega arith) e)

  pub origin : (xs : List Shot) (ps : List (Pull Slope)) → Pulls tariff z xs ps → (i : ℕ) (p : Pull Slope) → i < length ps → p ≡ get_or ps i p → Origin tariff z xs p
  origin [] ps k i p h e = let l = ap length k in absurd (omega arith)
  origin (x ∷ xs) ps (inl k) i p h e = later x xs p (origin xs ps k.1 i p h e)
  origin (x ∷ xs) ps (inr (q, qs, eq, a, r)) i p h e =
      first x xs qs q p i a (λ j. origin xs qs r j p) (subst (λ l. i < length l) eq h) (subst (λ l. p ≡ get_or l i p) eq e)

  pub pull_of : (xs : List Shot) (ps : List (Pull Slope)) → Pulls tariff z xs ps → (y : Point) → In y (points tariff xs) → Other (point tariff z) y → (p : Pull Slope) × Pulled (point tariff z) y p
  pull_of [] ps k y i o = absurd i
  pull_of (x ∷ xs) ps (inl k) y (inl e) o =
      let b = behind (point tariff z) (point tariff x) (omega (arith, ints, k.0)) in
      let r : run (point tariff z) (point tariff x) ≡ run (point tariff z) y = ap (run (point tariff z)) e in
      let s = k.0 in
      absurd (omega (arith, ints, b.run_is))
  pull_of (x ∷ xs) ps (inl k) y (inr i) o = pull_of xs ps k.1 y i o
  pull_of (x ∷ xs) ps (inr (q, qs, eq, a, r)) y (inl e) o =
      (q, subst (λ t. Pulled (point tariff z) t q) e (pulled z x (tariff (pos z.stuff)) (tariff (pos x.stuff)) q a))
  pull_of (x ∷ xs) ps (inr (q, qs, eq, a, r)) y (inr i) o = pull_of xs qs r y i o

  pub all_fair : (xs : List Shot) (ps : List (Pull Slope)) → FairPrices tariff → Pulls tariff z xs ps → Every Fair ps
  all_fair xs ps fair k i p h e = let o = origin xs ps k i p h e in fair_pull tariff z o.it p fair o.at

  -- no pulls, so no shot of another speed
  pub no_pulls : (xs : List Shot) (ps : List (Pull Slope)) → length ps ≡ 0 → Pulls tariff z xs ps → (y : Shot) → In y xs → y.speed ≡ z.speed
  no_pulls [] ps n k y i = absurd i
  no_pulls (x ∷ xs) ps n (inl k) y (inl e) = subst (λ t. t.speed ≡ z.speed) e k.0
  no_pulls (x ∷ xs) ps n (inl k) y (inr i) = no_pulls xs ps n k.1 y i
  no_pulls (x ∷ xs) ps n (inr (q, qs, eq, a, r)) y i = let l = ap length eq in absurd (omega arith)

-- ---- a price as it is computed
