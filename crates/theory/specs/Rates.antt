-- The two rates of a point, and the test.
--   rise_part, fall_part   what a point y adds to the rise rate and to the fall rate of z
--   rise_of, fall_of       the rise and the fall rate of z: what it costs at first to turn the line about z, up or down (one-sided directional derivatives)
--   Passing                neither rate of z is below 0
--   Failing                a rate of z is below 0
--   Passes                 the test: each point of the list that lies on the line is passing
--   spread                 for a point on the line, its u and v together, times how far its speed is from that of z; else 0
-- Assumes nothing.
use Rattle.std.specs.Prelude.{◌+◌, cond, ◌⊎◌, List, ℤ, pos, ◌-ℤ◌, ◌*ℤ◌, neg_ℤ, ◌≤ℤ◌, ◌<ℤ◌, int_lt}
use Rattle.lines.specs.Lines.{AnyLine}
use Rattle.lines.specs.Sums.{sum_z}
use Rattle.theory.specs.Points.{Point, miss_at, In, On}

-- late, early, else on the line
unfoldable pub rise_part : AnyLine → Point → Point → ℤ
rise_part l z y =
    let d = y.s -ℤ z.s in
    cond
    (int_lt (pos 0) (miss_at l y))
    (neg_ℤ (pos y.u *ℤ d))
    (cond (int_lt (miss_at l y) (pos 0)) (pos y.v *ℤ d) (cond (int_lt (pos 0) d) (pos y.v *ℤ d) (pos y.u *ℤ neg_ℤ d)))

unfoldable pub fall_part : AnyLine → Point → Point → ℤ
fall_part l z y =
    let d = y.s -ℤ z.s in
    cond
    (int_lt (pos 0) (miss_at l y))
    (pos y.u *ℤ d)
    (cond (int_lt (miss_at l y) (pos 0)) (neg_ℤ (pos y.v *ℤ d)) (cond (int_lt (pos 0) d) (pos y.u *ℤ d) (pos y.v *ℤ neg_ℤ d)))

abbrev pub rise_of : AnyLine → List Point → Point → ℤ
rise_of l xs z = sum_z (rise_part l z) xs

abbrev pub fall_of : AnyLine → List Point → Point → ℤ
fall_of l xs z = sum_z (fall_part l z) xs

pub record Passing (l : AnyLine) (xs : List Point) (z : Point) : Type 0 where
  pub rise : pos 0 ≤ℤ rise_of l xs z
  pub fall : pos 0 ≤ℤ fall_of l xs z

abbrev pub Failing : AnyLine → List Point → Point → Type 0
Failing l xs z = (rise_of l xs z <ℤ pos 0) ⊎ (fall_of l xs z <ℤ pos 0)

abbrev pub Passes : AnyLine → List Point → Type 0
Passes l xs = (z : Point) → In z xs → On l z → Passing l xs z

unfoldable pub spread : AnyLine → Point → Point → ℤ
spread l z y =
    let d = y.s -ℤ z.s in
    cond
    (int_lt (pos 0) (miss_at l y))
    (pos 0)
    (cond (int_lt (miss_at l y) (pos 0)) (pos 0) (pos (y.u + y.v) *ℤ cond (int_lt (pos 0) d) d (neg_ℤ d)))
