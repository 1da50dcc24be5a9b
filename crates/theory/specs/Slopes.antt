-- The rates of a point as slopes: what the total over a does as the line turns about the point.
--   lean           how much steeper m is than l, times the a of both
--   KeyBetween     the key of y about z is strictly between the slopes of l and m
--   NoKeyBetween   no point of the list has its key there
--   OneSided       from l to m, both through z, the cost grows at least at the rate of z on that side, and exactly so where no key is in between
-- Assumes nothing.
use Rattle.std.specs.Prelude.{◌≡◌, ◌⊎◌, List, ℤ, pos, ◌+ℤ◌, ◌-ℤ◌, ◌*ℤ◌, neg_ℤ, ◌≤ℤ◌}
use Rattle.lines.specs.Lines.{AnyLine}
use Rattle.theory.specs.Points.{Point, In, total}
use Rattle.theory.specs.Rates.{rise_of, fall_of}
use Rattle.theory.specs.Turning.{Other, KeyAbove, KeyBelow}

unfoldable pub lean : AnyLine → AnyLine → ℤ
lean l m = l.a *ℤ m.b -ℤ m.a *ℤ l.b

abbrev pub KeyBetween : AnyLine → AnyLine → Point → Point → Type 0
KeyBetween l m z y =
    (KeyAbove l.a l.b z y × KeyBelow m.a m.b z y) ⊎ (KeyBelow l.a l.b z y × KeyAbove m.a m.b z y)

abbrev pub NoKeyBetween : AnyLine → AnyLine → List Point → Point → Type 0
NoKeyBetween l m xs z = (y : Point) → In y xs → Other z y → KeyBetween l m z y → ⊥

pub record OneSided (l m : AnyLine) (xs : List Point) (z : Point) : Type 0 where
  pub up : pos 0 ≤ℤ lean l m → (m.a *ℤ total l xs +ℤ lean l m *ℤ rise_of l xs z) ≤ℤ (l.a *ℤ total m xs)
  pub down : lean l m ≤ℤ pos 0 → (m.a *ℤ total l xs +ℤ neg_ℤ (lean l m) *ℤ fall_of l xs z) ≤ℤ (l.a *ℤ total m xs)
  pub up_exact : pos 0 ≤ℤ lean l m → NoKeyBetween l m xs z → l.a *ℤ total m xs ≡ m.a *ℤ total l xs +ℤ lean l m *ℤ rise_of l xs z
  pub down_exact : lean l m ≤ℤ pos 0 → NoKeyBetween l m xs z → l.a *ℤ total m xs ≡ m.a *ℤ total l xs +ℤ neg_ℤ (lean l m) *ℤ fall_of l xs z
