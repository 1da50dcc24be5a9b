-- The line laid from a shot to a faster one: its numbers are in range, both shots lie on it, and on no other line.
use Rattle.std.proofs.Common.{◌≡◌, ℕ, suc, ◌<◌, ◌≤◌, ℤ, pos, negsuc, ◌-ℤ◌, ◌*ℤ◌, ◌≤ℤ◌, ◌<ℤ◌, Some, None, Option, ap, ◌∙◌, subst₂, mul-le-mul_right, arith, MatchOption, w16, w32}
use native.Mathlib.Nat.{pos_of_dvd_of_pos}
use Rattle.std.proofs.lemmas.Int.{ints}
use Rattle.shots.specs.declared.shot.Shot.{Shot}
use Rattle.lines.specs.About.{Fits, About}
use Rattle.lines.specs.Lines.{miss, On}
use Rattle.lines.specs.Slopes.{Reduced, Each}
use Rattle.lines.specs.Through.{run_of, rise_of, LaidFrom}
use Rattle.lines.specs.declared.line.Line.{Line}
use Rattle.lines.specs.declared.slope.Slope.{Slope}
use Rattle.lines.specs.LowestTerms.{same_slope}
use Rattle.lines.proofs.Lowest.{coprime_swap}
use Rattle.lines.proofs.Order.{cancel, scale}
use Rattle.lines.proofs.Ring.{lin, ring, flat, from, ◌&◌}
use Rattle.lines.proofs.Ghosts.{same_lines}
use Rattle.lines.proofs.Sizes.{Sized, back}

-- ---- in range
-- a number times one of 1 or more is no smaller than the number
part : (g : ℕ) (z y : ℤ) (m : ℕ) → 0 < g → pos g *ℤ z ≡ y → Sized m y → Sized m z
part g (pos n) y m h e k = let l = mul-le-mul_right n h in record { low = omega (arith, ints); high = omega (arith, ints) }
part g (negsuc n) y m h e k = let l = mul-le-mul_right (suc n) h in record { low = omega (arith, ints); high = omega (arith, ints) }

module _ (p q : Shot) (s : Slope) (r : Reduced (rise_of p q) (run_of p q) s) where
  above : 0 < r.divisor
  above = let f = r.forward in pos_of_dvd_of_pos r.common.right (omega (arith, ints))

  pub run_size : Sized 3999 s.run
  run_size =
      let k : Sized 3999 (run_of p q) = record { low = omega (arith, ints); high = omega (arith, ints) } in
      part r.divisor s.run (run_of p q) 3999 above r.run k

  pub rise_size : Sized 16000 s.rise
  rise_size =
      let k : Sized 16000 (rise_of p q) = record { low = omega (arith, ints); high = omega (arith, ints) } in
      part r.divisor s.rise (rise_of p q) 16000 above r.rise k

  pub laid_fits : Fits s
  laid_fits = record { fine = run_size.high; fall = rise_size.low; rise = rise_size.high }

  -- the line of that slope through the first shot
  pub laid : (o : Option Line) → About p s o → MatchOption o (q.speed ≤ p.speed) (λ l. LaidFrom p q l)
  unfolding miss
  laid None h = absurd (h laid_fits)
  laid (Some l) h = record {
    slower = let f = r.forward in omega (arith, ints);
    divisor = r.divisor;
    common = r.common;
    a = ap (λ z. pos r.divisor *ℤ z) h.0 ∙ r.run;
    b = ap (λ z. pos r.divisor *ℤ z) h.1 ∙ r.rise;
    c = omega (lin, h.2);
  }

-- ---- the slope of two shots
-- the differences as they are computed in 32 bits from `i32::from`
pub differences : (p q : Shot) {u v x y : ℤ} (s : Slope) → u ≡ pos q.speed → v ≡ pos p.speed → x ≡ back w16 q.lead → y ≡ back w16 p.lead → Reduced (back w32 (back w32 x -ℤ back w32 y)) (back w32 (back w32 u -ℤ back w32 v)) s → Reduced (rise_of p q) (run_of p q) s
differences p q {u} {v} {x} {y} s eu ev ex ey r =
    let e : back w32 (back w32 x -ℤ back w32 y) ≡ rise_of p q = omega (arith, ints) in
    let f : back w32 (back w32 u -ℤ back w32 v) ≡ run_of p q = omega (arith, ints) in
    subst₂ (λ a b. Reduced a b s) e f r

pub sloped : (p q : Shot) {u v x y : ℤ} (o : Option Slope) → u ≡ pos q.speed → v ≡ pos p.speed → x ≡ back w16 q.lead → y ≡ back w16 p.lead → MatchOption o (back w32 (back w32 u -ℤ back w32 v) ≤ℤ pos 0) (λ s. Reduced (back w32 (back w32 x -ℤ back w32 y)) (back w32 (back w32 u -ℤ back w32 v)) s) → MatchOption o (q.speed ≤ p.speed) (λ s. Reduced (rise_of p q) (run_of p q) s)
sloped p q None eu ev ex ey h = omega (arith, ints)
sloped p q (Some s) eu ev ex ey h = differences p q s eu ev ex ey h

pub sloped_fits : (p q : Shot) (r : Option Slope) → MatchOption r (q.speed ≤ p.speed) (λ s. Reduced (rise_of p q) (run_of p q) s) → Each r Fits
sloped_fits p q None h = tt
sloped_fits p q (Some s) h = laid_fits p q s h

-- ---- both shots lie on it
off : (g a b c h i s t : ℤ) → g *ℤ a ≡ t -ℤ s → g *ℤ b ≡ i -ℤ h → c ≡ a *ℤ h -ℤ b *ℤ s → a *ℤ i -ℤ b *ℤ t -ℤ c ≡ pos 0
off g a b c h i s t ea eb ec = from (scale a eb & scale b ea & ec) (simp ring (simp flat (omega lin)))

pub on_slow : (p q : Shot) (l : Line) → LaidFrom p q l → On l p
unfolding miss
on_slow p q l k = omega (lin, k.c)

pub on_fast : (p q : Shot) (l : Line) → LaidFrom p q l → On l q
unfolding miss
on_fast p q l k = off (pos k.divisor) l.a l.b l.c p.lead q.lead (pos p.speed) (pos q.speed) k.a k.b k.c

-- ---- and on no other line
-- two lines through two points of different places have one slope
one_rise : (g a b x y z h i s t : ℤ) → pos 0 <ℤ g → g *ℤ a ≡ t -ℤ s → g *ℤ b ≡ i -ℤ h → x *ℤ h -ℤ y *ℤ s -ℤ z ≡ pos 0 → x *ℤ i -ℤ y *ℤ t -ℤ z ≡ pos 0 → y *ℤ a ≡ b *ℤ x
one_rise g a b x y z h i s t k ea eb ep eq =
    cancel g (y *ℤ a) (b *ℤ x) k (from (scale y ea & scale x eb & ep & eq) (simp ring (simp flat (omega lin))))

pub only_line : (p q : Shot) (l : Line) → LaidFrom p q l → (m : Line) → On m p → On m q → m ≡ l
unfolding miss
only_line p q l k m onp onq =
    let a : pos 0 <ℤ m.a = omega (arith, ints, m.ahead) in
    let b : pos 0 <ℤ l.a = omega (arith, ints, l.ahead) in
    let w = k.slower in
    let d : 0 < k.divisor = pos_of_dvd_of_pos k.common.right (omega (arith, ints)) in
    let g : pos 0 <ℤ pos k.divisor = omega (arith, ints) in
    let e = one_rise (pos k.divisor) l.a l.b m.a m.b m.c p.lead q.lead (pos p.speed) (pos q.speed) g k.a k.b onp onq in
    let r = same_slope m.b m.a l.b l.a a b e (coprime_swap m.lowest) (coprime_swap l.lowest) in
    let u = ap (λ z. z *ℤ p.lead) r.1 in
    let v = ap (λ z. z *ℤ pos p.speed) r.0 in
    same_lines m l r.1 r.0 (omega (lin, k.c))

-- ---- what `Line::through` answers, where the first shot is the slower
pub record Drawn (p q : Shot) (r : Option Line) : Type 0 where
  pub both : Each r (λ l. On l p × On l q)
  pub only : Each r (λ l. (m : Line) → On m p → On m q → m ≡ l)
  pub both_swapped : Each r (λ l. On l q × On l p)
  pub only_swapped : Each r (λ l. (m : Line) → On m q → On m p → m ≡ l)

pub drawn : (p q : Shot) (r : Option Line) → MatchOption r (q.speed ≤ p.speed) (λ l. LaidFrom p q l) → Drawn p q r
drawn p q None k = record { both = tt; only = tt; both_swapped = tt; only_swapped = tt }
drawn p q (Some l) k = record {
  both = (on_slow p q l k, on_fast p q l k);
  only = only_line p q l k;
  both_swapped = (on_fast p q l k, on_slow p q l k);
  only_swapped = λ m x y. only_line p q l k m y x;
}
