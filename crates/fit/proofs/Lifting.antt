-- What a shot adds to a rate when the line is lifted at its speed: by its side, and that it is small; and that a rate depends on
-- the shot that the line is turned about by its speed alone.
use Rattle.std.proofs.Common.{◌≡◌, ℕ, ◌*◌, ◌≤◌, true, false, ℤ, pos, negsuc, ◌*ℤ◌, neg_ℤ, ◌≤ℤ◌, ◌<ℤ◌, sym, refl, ap, ◌∙◌, subst, mul-le-mul, arith, w32, w64, SFits, to_z, of_z}
use borrow.Author.Differences.{ints}
use lib.Signed.{lt_z}
use Rattle.std.proofs.lemmas.Int.{to_z-of_z, by_lt_z}
use Rattle.shots.specs.declared.shot.Shot.{Shot}
use Rattle.lines.specs.Lines.{AnyLine, any, miss_of}
use Rattle.lines.specs.declared.line.Line.{Line}
use Rattle.lines.proofs.Sizes.{Sized, sized_mul}
use Rattle.theory.specs.Points.{Point}
use Rattle.theory.specs.Rates.{rise_part, fall_part}
use Rattle.fit.specs.Points.{point_at, point}
use Rattle.fit.specs.Lifts.{lift_part}

pub is_lt : (x y : ℤ) → x <ℤ y → lt_z x y ≡ true
is_lt x y h = grind (arith, ints)

pub not_lt : (x y : ℤ) → y ≤ℤ x → lt_z x y ≡ false
not_lt x y h = grind (arith, ints)

-- what `charge` answers, as it is passed on
pub charged : (k : ℕ) (x d r : ℤ) → SFits w64 r → r ≡ pos k *ℤ x → x ≡ d → to_z w64 (of_z w64 r) ≡ pos k *ℤ d
charged k x d r f h e = to_z-of_z w64 r f ∙ h ∙ ap (λ y. pos k *ℤ y) e

module _ (l : Line) (y : Shot) (p : ℕ × ℕ) (d : ℤ) where
  pub lift_late : pos 0 <ℤ miss_of l y → lift_part l y p d ≡ pos (y.weight * p.0) *ℤ neg_ℤ d
  unfolding lift_part
  lift_late h = rw (is_lt (pos 0) (miss_of l y) h)

  pub lift_early : miss_of l y <ℤ pos 0 → lift_part l y p d ≡ pos (y.weight * p.1) *ℤ d
  unfolding lift_part
  lift_early h = rw (not_lt (pos 0) (miss_of l y) (omega (arith, ints)), is_lt (miss_of l y) (pos 0) h)

  pub lift_on_up : miss_of l y ≡ pos 0 → pos 0 <ℤ d → lift_part l y p d ≡ pos (y.weight * p.1) *ℤ d
  unfolding lift_part
  lift_on_up h a =
      rw (not_lt (pos 0) (miss_of l y) (omega (arith, ints)), not_lt (miss_of l y) (pos 0) (omega (arith, ints)), is_lt (pos 0) d a)

  pub lift_on_down : miss_of l y ≡ pos 0 → d ≤ℤ pos 0 → lift_part l y p d ≡ pos (y.weight * p.0) *ℤ neg_ℤ d
  unfolding lift_part
  lift_on_down h a =
      rw (not_lt (pos 0) (miss_of l y) (omega (arith, ints)), not_lt (miss_of l y) (pos 0) (omega (arith, ints)), not_lt (pos 0) d a)

-- ---- sizes
charge_size : (w p : ℕ) (d : ℤ) → w ≤ 100 → p ≤ 20 → Sized 3999 d → Sized 8000000 (pos (w * p) *ℤ d)
charge_size w p d hw hp s =
    let m = mul-le-mul hw hp in
    let k : Sized 2000 (pos (w * p)) = record { low = omega (arith, ints); high = omega (arith, ints) } in
    let r = sized_mul k s in
    record { low = omega (arith, ints, r.low); high = omega (arith, ints, r.high) }

pub lift_size : (l : Line) (y : Shot) (p : ℕ × ℕ) (d : ℤ) → (p.0 ≤ 20) × (p.1 ≤ 20) → (negsuc 3998 ≤ℤ d) × (d ≤ℤ pos 3999) → Sized 8000000 (lift_part l y p d)
lift_size l y p d low s =
    let e = miss_of l y in
    let up : Sized 3999 d = record { low = omega (arith, ints, s.0); high = omega (arith, ints, s.1) } in
    let down : Sized 3999 (neg_ℤ d) = record { low = omega (arith, ints, s.1); high = omega (arith, ints, s.0) } in
    let early = charge_size y.weight p.1 d y.light low.1 up in
    let late = charge_size y.weight p.0 (neg_ℤ d) y.light low.0 down in
    by_lt_z (pos 0) e (λ g. subst (Sized 8000000) (sym (lift_late l y p d g)) late)
    (λ g. by_lt_z e (pos 0) (λ k. subst (Sized 8000000) (sym (lift_early l y p d k)) early)
    (λ k. let on : e ≡ pos 0 = omega (arith, ints) in
    by_lt_z (pos 0) d (λ f. subst (Sized 8000000) (sym (lift_on_up l y p d on f)) early) (λ f. subst (Sized 8000000) (sym (lift_on_down l y p d on f)) late)))

-- ---- what a shot adds, as it is told: at the prices that were asked of the rule for its stuff
pub record Told (f : Point → ℤ) (y : Point) (r : ℤ) : Type 0 where
  pub is : r ≡ f y
  pub size : Sized 8000000 r

pub told : (part : AnyLine → Point → Point → ℤ) (lift : Shot → Shot → ℤ) (lifts : (l : Line) (z y : Shot) (q p : ℕ × ℕ) → part (any l) (point_at z q) (point_at y p) ≡ lift_part l y p (lift z y)) (tariff : ℤ → ℕ × ℕ) (l : Line) (z y : Shot) (p : ℕ × ℕ) (d r : ℤ) → p ≡ tariff (pos y.stuff) → (p.0 ≤ 20) × (p.1 ≤ 20) → d ≡ lift z y → (negsuc 3998 ≤ℤ d) × (d ≤ℤ pos 3999) → r ≡ lift_part l y p (to_z w32 (of_z w32 d)) → Told (part (any l) (point tariff z)) (point tariff y) r
told part lift lifts tariff l z y p d r ep low ed small er =
    let k : to_z w32 (of_z w32 d) ≡ d = omega (arith, ints, small.0, small.1) in
    let e : r ≡ lift_part l y p d = er ∙ ap (lift_part l y p) k in
    record {
      is = e ∙ ap (λ x. lift_part l y x d) ep ∙ ap (lift_part l y (tariff (pos y.stuff))) ed ∙ sym (lifts l z y (tariff (pos z.stuff)) (tariff (pos y.stuff)));
      size = subst (Sized 8000000) (sym e) (lift_size l y p d low small);
    }

-- ---- a rate depends on z by its speed alone
pub rise_about : (l : AnyLine) (z : Shot) (p q : ℕ × ℕ) (y : Point) → rise_part l (point_at z p) y ≡ rise_part l (point_at z q) y
unfolding rise_part
rise_about l z p q y = refl

pub fall_about : (l : AnyLine) (z : Shot) (p q : ℕ × ℕ) (y : Point) → fall_part l (point_at z p) y ≡ fall_part l (point_at z q) y
unfolding fall_part
fall_about l z p q y = refl
