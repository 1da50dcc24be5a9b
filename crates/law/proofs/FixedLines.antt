-- Over the same shots there is one line laid first, one first place that fails, one line turned about a place, and one
-- offset of a slope.
--   Balanced xs z l and Balanced xs z m   ⇒  l.b·m.a = m.b·l.a  ⇒  l = m, as both are in lowest terms and run through z
use Rattle.std.proofs.Common.{◌≡◌, ℕ, ◌<◌, cond, List, get_or, ℤ, pos, ◌*ℤ◌, ◌<ℤ◌, Some, sym, ap, ◌∙◌, subst, inl, inr, ⊎_elim, arith}
use borrow.Author.Differences.{ints}
use lib.IntN.{*ℤ_comm}
use lib.Signed.{lt_z}
use Rattle.std.proofs.lemmas.Int.{by_lt_z}
use Rattle.std.proofs.lemmas.Bool.{cases_lt}
use Rattle.shots.specs.declared.shot.Shot.{Shot}
use Rattle.lines.specs.Lines.{any, miss}
use Rattle.lines.specs.Through.{Laid}
use Rattle.lines.specs.declared.line.Line.{Line}
use Rattle.lines.proofs.Ghosts.{same_lines}
use Rattle.lines.proofs.Laying.{on_slow, on_fast, only_line}
use Rattle.lines.proofs.Lowest.{coprime_swap, same_slope}
use Rattle.lines.proofs.Order.{cancel_lt, mul_lt, scale}
use Rattle.lines.proofs.Ring.{lin, ring, flat, from, ◌&◌}
use Rattle.theory.specs.Points.{Point}
use Rattle.theory.specs.Rates.{Passing, Passes}
use Rattle.theory.specs.Turning.{run, num, pull_p, pull_q, p_above, q_up_to, Holds, Balanced}
use Rattle.theory.specs.Offsets.{HoldsAt, BalancedOffset}
use Rattle.theory.proofs.Members.{sum_same}
use Rattle.fit.specs.Points.{point, points}
use Rattle.fit.specs.First.{LaidFirst}
use Rattle.fit.specs.Testing.{First}
use Rattle.fit.specs.Turning.{TurnedAt}
use Rattle.fit.proofs.Held.{one_at, held_below}
use Rattle.fit.proofs.Tests.{in_image}

-- ---- two lines that cannot differ are the same
not_apart : (x y : ℤ) → ((x ≡ y → ⊥) → ⊥) → x ≡ y
not_apart x y h = by_lt_z x y (λ g. absurd (h (λ e. omega lin))) (λ g. by_lt_z y x (λ k. absurd (h (λ e. omega lin))) (λ k. omega lin))

pub line_not_apart : (l m : Line) → ((l ≡ m → ⊥) → ⊥) → l ≡ m
line_not_apart l m h =
    same_lines l m
    (not_apart l.a m.a (λ n. h (λ e. n (ap (λ k. k.a) e))))
    (not_apart l.b m.b (λ n. h (λ e. n (ap (λ k. k.b) e))))
    (not_apart l.c m.c (λ n. h (λ e. n (ap (λ k. k.c) e))))

-- two numbers are the same where neither is below the other
no_less : (j k : ℕ) → (j < k → ⊥) → (k < j → ⊥) → j ≡ k
no_less j k p q = ⊎_elim (λ h. absurd (p h)) (λ h. ⊎_elim (λ g. absurd (q g)) (λ g. omega arith) (cases_lt k j)) (cases_lt j k)

-- ---- the line laid first
laid_apart : (p q : Shot) (l : Line) → Laid p q l → q.speed ≡ p.speed → ⊥
laid_apart p q l (inl k) e = let s = k.slower in omega arith
laid_apart p q l (inr k) e = let s = k.slower in omega arith

laid_one : (p q : Shot) (l m : Line) → Laid p q l → Laid p q m → l ≡ m
laid_one p q l m (inl k) (inl j) = only_line p q m j l (on_slow p q l k) (on_fast p q l k)
laid_one p q l m (inl k) (inr j) = only_line q p m j l (on_fast p q l k) (on_slow p q l k)
laid_one p q l m (inr k) (inl j) = only_line p q m j l (on_fast q p l k) (on_slow q p l k)
laid_one p q l m (inr k) (inr j) = only_line q p m j l (on_slow q p l k) (on_fast q p l k)

module _ (xs : List Shot) where
  firsts : (l m : Line) (f : LaidFirst xs l) (g : LaidFirst xs m) → f.first ≡ g.first
  firsts l m f g = one_at xs 0 f.first g.first (let h = f.inside in omega arith) f.first_is g.first_is

  no_sooner : (l m : Line) (f : LaidFirst xs l) (g : LaidFirst xs m) → f.place < g.place → ⊥
  no_sooner l m f g h =
      laid_apart f.first f.other l f.laid (g.before f.place f.other h f.other_is ∙ ap (λ z. z.speed) (sym (firsts l m f g)))

  pub laid_first_one : (l m : Line) → LaidFirst xs l → LaidFirst xs m → l ≡ m
  laid_first_one l m f g =
      let at : g.place ≡ f.place = no_less g.place f.place (no_sooner m l g f) (no_sooner l m f g) in
      let others : g.other ≡ f.other = one_at xs f.place g.other f.other f.inside (subst (λ k. g.other ≡ get_or xs k g.other) at g.other_is) f.other_is in
      let there : Laid f.first f.other m = subst (λ z. Laid f.first z m) others (subst (λ z. Laid z g.other m) (firsts m l g f) g.laid) in
      laid_one f.first f.other l m f.laid there

-- ---- the first place that fails
module _ (tariff : ℤ → ℕ × ℕ) (xs : List Shot) (l : Line) where
  pub first_one : (j k : ℕ) → First tariff l xs j → First tariff l xs k → j ≡ k
  first_one j k f g = no_less j k (λ h. g.before j f.shot h f.is f.fails) (λ h. f.before k g.shot h g.is g.fails)

  pub first_fails : (k : ℕ) → First tariff l xs k → Passes (any l) (points tariff xs) → ⊥
  first_fails k f p =
      let z = point tariff f.shot in
      let q : Passing (any l) (points tariff xs) z = p z (in_image (point tariff) xs k f.shot f.inside f.is) f.fails.0 in
      let up = q.rise in
      let down = q.fall in
      ⊎_elim (λ g. omega lin) (λ g. omega lin) f.fails.1

-- ---- equal fractions b / a and d / c have the same keys above them, so the pulls balance at both or at neither
above_both : (a b c d : ℤ) → pos 0 <ℤ a → pos 0 <ℤ c → a *ℤ d ≡ c *ℤ b → (r n : ℤ) → (b *ℤ r) <ℤ (a *ℤ n) → (d *ℤ r) <ℤ (c *ℤ n)
above_both a b c d p q e r n g = cancel_lt a (d *ℤ r) (c *ℤ n) p (from (mul_lt c (b *ℤ r) (a *ℤ n) q g & scale r e) (simp ring (simp flat (omega lin))))

same_test : (a b c d : ℤ) → pos 0 <ℤ a → pos 0 <ℤ c → a *ℤ d ≡ c *ℤ b → (r n : ℤ) → lt_z (b *ℤ r) (a *ℤ n) ≡ lt_z (d *ℤ r) (c *ℤ n)
same_test a b c d p q e r n =
    by_lt_z (b *ℤ r) (a *ℤ n)
    (λ g. let h = above_both a b c d p q e r n g in grind (arith, ints))
    (λ g. by_lt_z (d *ℤ r) (c *ℤ n) (λ h. let k = above_both c d a b q p (sym e) r n h in absurd (omega lin)) (λ h. grind (arith, ints)))

same_above : (a b c d : ℤ) → pos 0 <ℤ a → pos 0 <ℤ c → a *ℤ d ≡ c *ℤ b → (z y : Point) → p_above a b z y ≡ p_above c d z y
unfolding p_above
same_above a b c d p q e z y = ap (λ t. cond t (pull_p z y) (pos 0)) (same_test a b c d p q e (run z y) (num z y))

same_upto : (a b c d : ℤ) → pos 0 <ℤ a → pos 0 <ℤ c → a *ℤ d ≡ c *ℤ b → (z y : Point) → q_up_to a b z y ≡ q_up_to c d z y
unfolding q_up_to
same_upto a b c d p q e z y = ap (λ t. cond t (pos 0) (pull_q z y)) (same_test a b c d p q e (run z y) (num z y))

holds_both : (a b c d : ℤ) → pos 0 <ℤ a → pos 0 <ℤ c → a *ℤ d ≡ c *ℤ b → (xs : List Point) (z : Point) → Holds xs z a b → Holds xs z c d
holds_both a b c d p q e xs z h =
    let f = sum_same (p_above a b z) (p_above c d z) xs (λ y i. same_above a b c d p q e z y) in
    let g = sum_same (q_up_to a b z) (q_up_to c d z) xs (λ y i. same_upto a b c d p q e z y) in
    omega lin

-- ---- the line turned about a shot
module _ (xs : List Point) (z : Point) where
  no_lower : (l m : Line) → Balanced xs z (any l) → Balanced xs z (any m) → (l.b *ℤ m.a) <ℤ (m.b *ℤ l.a) → ⊥
  no_lower l m f g h =
      let a : pos 0 <ℤ l.a = omega (lin, l.ahead) in
      let r = run z f.it in
      let n = num z f.it in
      let key : l.a *ℤ n ≡ l.b *ℤ r = f.key in
      let below : (m.a *ℤ n) <ℤ (m.b *ℤ r) = cancel_lt l.a (m.a *ℤ n) (m.b *ℤ r) a (from (mul_lt r (l.b *ℤ m.a) (m.b *ℤ l.a) f.other h & scale m.a key) (simp ring (simp flat (omega lin)))) in
      g.lowest f.it f.inside f.other below (holds_both l.a l.b r n a f.other (key ∙ *ℤ_comm l.b r) xs z f.holds)

  pub balanced_one : (l m : Line) → Balanced xs z (any l) → Balanced xs z (any m) → l ≡ m
  unfolding miss
  balanced_one l m f g =
      let a : pos 0 <ℤ l.a = omega (lin, l.ahead) in
      let b : pos 0 <ℤ m.a = omega (lin, m.ahead) in
      let e : l.b *ℤ m.a ≡ m.b *ℤ l.a = by_lt_z (l.b *ℤ m.a) (m.b *ℤ l.a) (λ h. absurd (no_lower l m f g h)) (λ h. by_lt_z (m.b *ℤ l.a) (l.b *ℤ m.a) (λ k. absurd (no_lower m l g f k)) (λ k. omega lin)) in
      let r = same_slope l.b l.a m.b m.a a b e (coprime_swap l.lowest) (coprime_swap m.lowest) in
      let u = ap (λ x. x *ℤ z.h) r.1 in
      let v = ap (λ x. x *ℤ z.s) r.0 in
      same_lines l m r.1 r.0 (omega (lin, f.on, g.on))

pub turned_one : (tariff : ℤ → ℕ × ℕ) (xs : List Shot) (p : ℤ) (l m : Line) → TurnedAt tariff xs p (Some l) → TurnedAt tariff xs p (Some m) → l ≡ m
turned_one tariff xs p l m f g =
    let at : g.0 ≡ f.0 = one_at xs _ g.0 f.0 (held_below xs p f.1) g.2 f.2 in
    balanced_one (points tariff xs) (point tariff f.0) l m f.3 (subst (λ z. Balanced (points tariff xs) (point tariff z) (any m)) at g.3)

-- ---- the offset of a slope
module _ (a b : ℤ) (xs : List Point) where
  no_lower_offset : (c d : ℤ) → BalancedOffset a b xs c → BalancedOffset a b xs d → c <ℤ d → ⊥
  no_lower_offset c d f g h = g.lowest f.it f.inside (subst (λ k. k <ℤ d) (sym f.key) h) (subst (HoldsAt a b xs) (sym f.key) f.holds)

  pub offset_one : (c d : ℤ) → BalancedOffset a b xs c → BalancedOffset a b xs d → c ≡ d
  offset_one c d f g = by_lt_z c d (λ h. absurd (no_lower_offset c d f g h)) (λ h. by_lt_z d c (λ k. absurd (no_lower_offset d c g f k)) (λ k. omega lin))
