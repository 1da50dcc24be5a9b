-- What a shot adds to a rate, by how far the line is lifted at its speed.
--   lift_part                 what it costs at first to lift the line at a shot's speed: late, early, else on the line
--   rise_lifts, fall_lifts    it is what the shot adds to the rise and to the fall rate of another. (Lemmas that stand here
--                             because the ghost members of the two ways to turn cite them.)
-- Assumes nothing.
use Rattle.std.specs.Prelude.{◌≡◌, ℕ, ◌*◌, true, false, cond, ℤ, pos, ◌*ℤ◌, neg_ℤ, ◌≤ℤ◌, ◌<ℤ◌, int_lt}
use Rattle.std.proofs.Common.{sym, ap, ◌∙◌, arith}
use Rattle.std.proofs.lemmas.Int.{ints, by_lt_z}
use Rattle.lines.proofs.Ring.{mul_neg}
use Rattle.shots.specs.declared.shot.Shot.{Shot}
use Rattle.lines.specs.Lines.{any, miss_of}
use Rattle.lines.specs.Through.{run_of}
use Rattle.lines.specs.declared.line.Line.{Line}
use Rattle.theory.specs.Rates.{rise_part, fall_part}
use Rattle.fit.specs.Points.{point_at}

unfoldable pub lift_part : Line → Shot → ℕ × ℕ → ℤ → ℤ
lift_part l y p d =
    cond
    (int_lt (pos 0) (miss_of l y))
    (pos (y.weight * p.0) *ℤ neg_ℤ d)
    (cond (int_lt (miss_of l y) (pos 0)) (pos (y.weight * p.1) *ℤ d) (cond (int_lt (pos 0) d) (pos (y.weight * p.1) *ℤ d) (pos (y.weight * p.0) *ℤ neg_ℤ d)))

lt : (x y : ℤ) → x <ℤ y → int_lt x y ≡ true
lt x y h = grind (arith, ints)

ge : (x y : ℤ) → y ≤ℤ x → int_lt x y ≡ false
ge x y h = grind (arith, ints)

pub rise_lifts : (l : Line) (z y : Shot) (q p : ℕ × ℕ) → rise_part (any l) (point_at z q) (point_at y p) ≡ lift_part l y p (run_of z y)
unfolding rise_part lift_part
rise_lifts l z y q p = simp mul_neg

-- a shot on the line: to turn about another lifts it by d, or lowers it by d
on_line : (u v : ℕ) (d e : ℤ) → neg_ℤ d ≡ e → neg_ℤ e ≡ d → cond (int_lt (pos 0) d) (pos u *ℤ d) (pos v *ℤ neg_ℤ d) ≡ cond (int_lt (pos 0) e) (pos v *ℤ e) (pos u *ℤ neg_ℤ e)
on_line u v d e f g =
    by_lt_z (pos 0) d (λ h. rw (lt (pos 0) d h, ge (pos 0) e (omega (arith, ints))) (ap (λ x. pos u *ℤ x) (sym g)))
    (λ h. by_lt_z (pos 0) e (λ k. rw (ge (pos 0) d h, lt (pos 0) e k) (ap (λ x. pos v *ℤ x) f))
    (λ k. let none : d ≡ pos 0 = omega (arith, ints) in
    let same : e ≡ pos 0 = omega (arith, ints) in
    rw (none, same) (omega (arith, ints))))

pub fall_lifts : (l : Line) (z y : Shot) (q p : ℕ × ℕ) → fall_part (any l) (point_at z q) (point_at y p) ≡ lift_part l y p (run_of y z)
unfolding fall_part lift_part
fall_lifts l z y q p =
    let e = miss_of l y in
    let back : neg_ℤ (run_of y z) ≡ run_of z y = omega (arith, ints) in
    let there : neg_ℤ (run_of z y) ≡ run_of y z = omega (arith, ints) in
    by_lt_z (pos 0) e (λ h. rw (lt (pos 0) e h) (ap (λ d. pos (y.weight * p.0) *ℤ d) (sym back)))
    (λ h. by_lt_z e (pos 0)
    (λ k. rw (ge (pos 0) e h, lt e (pos 0) k) (sym (mul_neg (pos (y.weight * p.1)) (run_of z y)) ∙ ap (λ d. pos (y.weight * p.1) *ℤ d) there))
    (λ k. rw (ge (pos 0) e h, ge e (pos 0) k) (on_line (y.weight * p.0) (y.weight * p.1) (run_of z y) (run_of y z) there back)))
