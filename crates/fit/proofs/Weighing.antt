-- Pulls weighed about a shot z are the points' pulls about its point: where the ones balance, the others do.
--   Σ{key > b/a} p = Σ{key > t} under,   Σ{key ≤ b/a} q = Σ{key ≤ t} over,   where t is the slope b / a
use Rattle.std.proofs.Common.{◌≡◌, ℕ, ◌≤◌, Bool, true, false, cond, List, [], ◌∷◌, length, ℤ, pos, ◌*ℤ◌, ◌≤ℤ◌, ◌<ℤ◌, sum_by, sym, refl, ap, ◌∙◌, subst, inl, inr, ⊎_elim, arith}
use lib.Signed.{lt_z}
use Rattle.std.proofs.lemmas.Int.{ints, by_lt_z}
use Rattle.std.proofs.lemmas.List.Sums.{sum_by-cons}
use Rattle.std.proofs.lemmas.Bool.{leb-true, le-leb, cases_Bool}
use Rattle.shots.specs.Prices.{Fair as FairPrices}
use Rattle.shots.specs.declared.shot.Shot.{Shot}
use Rattle.lines.specs.SlopeOrder.{slope_le}
use Rattle.lines.specs.About.{Fits}
use Rattle.lines.specs.Lines.{any, On}
use Rattle.lines.specs.Sums.{sum_z}
use Rattle.lines.specs.declared.line.Line.{Line}
use Rattle.lines.specs.declared.slope.Slope.{Slope}
use Rattle.lines.proofs.Order.{mul_le, mul_lt, cancel_le, cancel_lt, prod_lt, scale, weaken}
use Rattle.lines.proofs.Ring.{lin, ring, flat, from, ◌&◌}
use Rattle.theory.specs.Points.{Point, In}
use Rattle.theory.specs.Turning.{run, num, Other, pull_p, pull_q, KeyBelow, p_above, q_up_to, Holds, Balanced}
use Rattle.theory.proofs.Keys.{behind, p_zero, q_zero}
use Rattle.balance.specs.Balances.{Usable, above, upto, holds, Point as BalancePoint}
use Rattle.balance.proofs.Orders.{le_to, lt_to}
use Rattle.balance.specs.declared.pull.Pull.{Pull}
use Rattle.fit.specs.Points.{point, points}
use Rattle.fit.specs.Turning.{Pulls}
use Rattle.fit.proofs.Pulling.{Pulled, pulled, fits, Origin, origin, pull_of, all_fair, no_pulls}
use Rattle.fit.proofs.Held.{not_both}
use Rattle.fit.proofs.Tests.{}
use Rattle.fit.proofs.Lifting.{is_lt, not_lt}

-- ---- keys against a slope: k is the key m / n, and t is the slope b / a
positive : {a b : ℤ} → pos 0 <ℤ a → pos 0 <ℤ b → pos 0 <ℤ (a *ℤ b)
positive {a} {b} h k = from (prod_lt h k) (simp ring (simp flat (omega lin)))

module _ (a b m n : ℤ) (k t : Slope) (ha : pos 0 <ℤ a) (hn : pos 0 <ℤ n) (ek : m *ℤ k.run ≡ k.rise *ℤ n) (et : b *ℤ t.run ≡ t.rise *ℤ a) where
  pub key_upto : (k.rise *ℤ t.run) ≤ℤ (t.rise *ℤ k.run) → (a *ℤ m) ≤ℤ (b *ℤ n)
  key_upto h =
      cancel_le (k.run *ℤ t.run) (a *ℤ m) (b *ℤ n) (positive k.ahead t.ahead)
      (from (scale (a *ℤ t.run) ek & scale (n *ℤ k.run) et & mul_le (a *ℤ n) (k.rise *ℤ t.run) (t.rise *ℤ k.run) (weaken (positive ha hn)) h) (simp ring (simp flat (omega lin))))

  pub key_from : (t.rise *ℤ k.run) ≤ℤ (k.rise *ℤ t.run) → (b *ℤ n) ≤ℤ (a *ℤ m)
  key_from h =
      cancel_le (k.run *ℤ t.run) (b *ℤ n) (a *ℤ m) (positive k.ahead t.ahead)
      (from (scale (a *ℤ t.run) ek & scale (n *ℤ k.run) et & mul_le (a *ℤ n) (t.rise *ℤ k.run) (k.rise *ℤ t.run) (weaken (positive ha hn)) h) (simp ring (simp flat (omega lin))))

  pub key_above : (t.rise *ℤ k.run) <ℤ (k.rise *ℤ t.run) → (b *ℤ n) <ℤ (a *ℤ m)
  key_above h =
      cancel_lt (k.run *ℤ t.run) (b *ℤ n) (a *ℤ m) (positive k.ahead t.ahead)
      (from (scale (a *ℤ t.run) ek & scale (n *ℤ k.run) et & mul_lt (a *ℤ n) (t.rise *ℤ k.run) (k.rise *ℤ t.run) (positive ha hn) h) (simp ring (simp flat (omega lin))))

-- ---- one shot
cond_same : {T : Type 0} (c : Bool) (x : T) → cond c x x ≡ x
cond_same true x = refl
cond_same false x = refl

module _ (a b : ℤ) (z y : Point) where
  pub no_pull : run z y ≤ℤ pos 0 → (p_above a b z y ≡ pos 0) × (q_up_to a b z y ≡ pos 0)
  unfolding p_above q_up_to
  no_pull h =
      let c = lt_z (b *ℤ run z y) (a *ℤ num z y) in (
        ap (λ x. cond c x (pos 0)) (p_zero z y h) ∙ cond_same c (pos 0),
        ap (λ x. cond c (pos 0) x) (q_zero z y h) ∙ cond_same c (pos 0),
      )

  up_to : (a *ℤ num z y) ≤ℤ (b *ℤ run z y) → (p_above a b z y ≡ pos 0) × (q_up_to a b z y ≡ pull_q z y)
  unfolding p_above q_up_to
  up_to h =
      let e = not_lt (b *ℤ run z y) (a *ℤ num z y) h in (
        ap (λ c. cond c (pull_p z y) (pos 0)) e,
        ap (λ c. cond c (pos 0) (pull_q z y)) e,
      )

  over : (b *ℤ run z y) <ℤ (a *ℤ num z y) → (p_above a b z y ≡ pull_p z y) × (q_up_to a b z y ≡ pos 0)
  unfolding p_above q_up_to
  over h =
      let e = is_lt (b *ℤ run z y) (a *ℤ num z y) h in (
        ap (λ c. cond c (pull_p z y) (pos 0)) e,
        ap (λ c. cond c (pos 0) (pull_q z y)) e,
      )

  pub weighed : (t : Slope) (p : Pull Slope) → pos 0 <ℤ a → b *ℤ t.run ≡ t.rise *ℤ a → Pulled z y p → (p_above a b z y ≡ pos (above slope_le t p)) × (q_up_to a b z y ≡ pos (upto slope_le t p))
  weighed t p ha et w =
      let k = p.key in
      ⊎_elim
      (λ c.
      let s = up_to (key_upto a b (num z y) (run z y) k t ha w.other w.key et (le_to (k.rise *ℤ t.run) (t.rise *ℤ k.run) c)) in
      (s.0 ∙ sym (ap (λ v. pos (cond v 0 p.under)) c), s.1 ∙ sym w.over ∙ sym (ap (λ v. pos (cond v p.over 0)) c)))
      (λ c.
      let s = over (key_above a b (num z y) (run z y) k t ha w.other w.key et (lt_to (k.rise *ℤ t.run) (t.rise *ℤ k.run) c)) in
      (s.0 ∙ sym w.under ∙ sym (ap (λ v. pos (cond v 0 p.under)) c), s.1 ∙ sym (ap (λ v. pos (cond v p.over 0)) c)))
      (cases_Bool (slope_le k t))

-- ---- all shots
pub same_run : (tariff : ℤ → ℕ × ℕ) (z y : Shot) → y.speed ≡ z.speed → run (point tariff z) (point tariff y) ≤ℤ pos 0
same_run tariff z y e =
    let b = behind (point tariff z) (point tariff y) (omega (arith, ints)) in omega (arith, ints, b.run_is)

module _ (tariff : ℤ → ℕ × ℕ) (z : Shot) (a b : ℤ) (t : Slope) (ha : pos 0 <ℤ a) (et : b *ℤ t.run ≡ t.rise *ℤ a) where
  abbrev pub Weighs : List Shot → List (Pull Slope) → Type 0
  Weighs xs ps =
      (sum_z (p_above a b (point tariff z)) (points tariff xs) ≡ pos (sum_by (above slope_le t) ps))
      × (sum_z (q_up_to a b (point tariff z)) (points tariff xs) ≡ pos (sum_by (upto slope_le t) ps))

  pub weighs : (xs : List Shot) (ps : List (Pull Slope)) → Pulls tariff z xs ps → Weighs xs ps
  weighs [] ps k = subst (Weighs []) (sym k) (refl, refl)
  weighs (y ∷ xs) ps (inl (e, k)) =
      let n = no_pull a b (point tariff z) (point tariff y) (same_run tariff z y e) in
      let r = weighs xs ps k in
      (omega (lin, n.0, r.0), omega (lin, n.1, r.1))
  weighs (y ∷ xs) ps (inr (p, qs, eq, g, k)) =
      let w = weighed a b (point tariff z) (point tariff y) t p ha et (pulled z y (tariff (pos z.stuff)) (tariff (pos y.stuff)) p g) in
      let r = weighs xs qs k in
      subst (Weighs (y ∷ xs)) (sym eq) (
        omega (lin, w.0, r.0, sum_by-cons (above slope_le t) p qs),
        omega (lin, w.1, r.1, sum_by-cons (upto slope_le t) p qs),
      )

  pub holds_there : (xs : List Shot) (ps : List (Pull Slope)) → Pulls tariff z xs ps → holds slope_le ps t ≡ true → Holds (points tariff xs) (point tariff z) a b
  holds_there xs ps k h =
      let w = weighs xs ps k in
      omega (lin, w.0, w.1, leb-true (sum_by (above slope_le t) ps) (sum_by (upto slope_le t) ps) h)

  pub holds_here : (xs : List Shot) (ps : List (Pull Slope)) → Pulls tariff z xs ps → Holds (points tariff xs) (point tariff z) a b → holds slope_le ps t ≡ true
  holds_here xs ps k h =
      let w = weighs xs ps k in
      le-leb (sum_by (above slope_le t) ps) (sum_by (upto slope_le t) ps) (omega (lin, w.0, w.1))

-- ---- the balance slope
module _ (tariff : ℤ → ℕ × ℕ) (z : Shot) (xs : List Shot) (ps : List (Pull Slope)) (k : Pulls tariff z xs ps) (t : Slope) (c : BalancePoint slope_le ps t) where
  source : Origin tariff z xs c.among.1
  source = origin tariff z xs ps k c.among.0 c.among.1 c.among.2 c.among.3

  pub slope_fits : Fits t
  slope_fits =
      let o = source in subst Fits c.among.4 (fits z o.it (tariff (pos o.it.stuff)) c.among.1 o.at)

  key_of : num (point tariff z) (point tariff source.it) *ℤ t.run ≡ t.rise *ℤ run (point tariff z) (point tariff source.it)
  key_of =
      let o = source in
      subst (λ (u : Slope). num (point tariff z) (point tariff o.it) *ℤ u.run ≡ u.rise *ℤ run (point tariff z) (point tariff o.it)) c.among.4 (pulled z o.it (tariff (pos z.stuff)) (tariff (pos o.it.stuff)) c.among.1 o.at).key

  lower_fails : (a b : ℤ) → pos 0 <ℤ a → b *ℤ t.run ≡ t.rise *ℤ a → (y : Point) → In y (points tariff xs) → Other (point tariff z) y → KeyBelow a b (point tariff z) y → Holds (points tariff xs) (point tariff z) (run (point tariff z) y) (num (point tariff z) y) → ⊥
  lower_fails a b ha et y i o g h =
      let f = pull_of tariff z xs ps k y i o in
      let u = f.0.key in
      let w = f.1 in
      let here = holds_here tariff z (run (point tariff z) y) (num (point tariff z) y) u o w.key xs ps k h in
      ⊎_elim
      (λ e. let q = key_from a b (num (point tariff z) y) (run (point tariff z) y) u t ha o w.key et (le_to (t.rise *ℤ u.run) (u.rise *ℤ t.run) e) in omega (lin, q, g))
      (λ e. not_both (holds slope_le ps u) here (c.lowest u e))
      (cases_Bool (slope_le t u))

  pub balanced : (l : Line) → l.a ≡ t.run → l.b ≡ t.rise → On l z → Balanced (points tariff xs) (point tariff z) (any l)
  balanced l ea eb on =
      let o = source in
      let ha : pos 0 <ℤ l.a = omega (arith, ints, l.ahead) in
      let et : l.b *ℤ t.run ≡ t.rise *ℤ l.a = ap (λ x. x *ℤ t.run) eb ∙ ap (λ x. t.rise *ℤ x) (sym ea) in
      let e = key_of in
      record {
        rival = l.ahead;
        on = on;
        it = point tariff o.it;
        inside = o.inside;
        other = (pulled z o.it (tariff (pos z.stuff)) (tariff (pos o.it.stuff)) c.among.1 o.at).other;
        key = rw (ea, eb) (from e (simp ring (simp flat (omega lin))));
        holds = holds_there tariff z l.a l.b t ha et xs ps k c.here;
        lowest = lower_fails l.a l.b ha et;
      }

-- no balance slope, so no shot of another speed
pub unbalanced : (tariff : ℤ → ℕ × ℕ) (z : Shot) (xs : List Shot) (ps : List (Pull Slope)) → FairPrices tariff → length ps ≤ 512 → Pulls tariff z xs ps → (Usable ps → ⊥) → (y : Shot) → In y xs → y.speed ≡ z.speed
unbalanced tariff z xs ps fair few k h =
    by_lt_z (pos 0) (pos (length ps))
    (λ g. absurd (h (record { some = omega (arith, ints); few = few; fair = all_fair tariff z xs ps fair k })))
    (λ g. no_pulls tariff z xs ps (omega (arith, ints)) k)
