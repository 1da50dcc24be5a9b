-- Weighted points, and what a line costs over a list of them.
--   Point      a speed s, a lead h, what one unit late costs (u), what one unit early costs (v)
--   miss_at    how far a point lies above a line, times the line's a (residual)
--   paid       what a point costs a line
--   total      what a list of points costs a line
--   In         the element is in the list
--   On         the point lies on the line
--   Weighty    each point of the list costs at least 1 for a unit late, and for a unit early
--   IsRival    the line's a is at least 1
--   Cheaper    the first line costs strictly less than the second: its total over its a is the smaller, by cross products
--   AtMost     the first line costs at most what the second costs
--   Cheapest   no line is cheaper, of all rivals with whole numbers of any size
--   Spans      the line runs through two points of the list that differ in speed
-- Assumes nothing.
use Rattle.std.specs.Prelude.{◌≡◌, ℕ, ◌≤◌, ◌⊎◌, List, [], ◌∷◌, ℤ, pos, ◌*ℤ◌, ◌≤ℤ◌, ◌<ℤ◌}
use Rattle.lines.specs.Lines.{AnyLine, miss}
use Rattle.lines.specs.Costs.{cost}
use Rattle.lines.specs.Sums.{sum_z}

pub record Point : Type 0 where
  pub s : ℤ
  pub h : ℤ
  pub u : ℕ
  pub v : ℕ

abbrev pub miss_at : AnyLine → Point → ℤ
miss_at l z = miss l z.s z.h

unfoldable pub paid : AnyLine → Point → ℤ
paid l z = cost z.u z.v (miss_at l z)

abbrev pub total : AnyLine → List Point → ℤ
total l xs = sum_z (paid l) xs

abbrev pub In : {T : Type 0} → T → List T → Type 0
In x [] = ⊥
In x (y ∷ ys) = (y ≡ x) ⊎ In x ys

abbrev pub On : AnyLine → Point → Type 0
On l z = miss_at l z ≡ pos 0

abbrev pub Weighty : List Point → Type 0
Weighty xs = (y : Point) → In y xs → (1 ≤ y.u) × (1 ≤ y.v)

abbrev pub IsRival : AnyLine → Type 0
IsRival m = pos 1 ≤ℤ m.a

abbrev pub Cheaper : AnyLine → AnyLine → List Point → Type 0
Cheaper m l xs = (l.a *ℤ total m xs) <ℤ (m.a *ℤ total l xs)

abbrev pub AtMost : AnyLine → AnyLine → List Point → Type 0
AtMost l m xs = (m.a *ℤ total l xs) ≤ℤ (l.a *ℤ total m xs)

abbrev pub Cheapest : AnyLine → List Point → Type 0
Cheapest l xs = (m : AnyLine) → IsRival m → AtMost l m xs

pub record Spans (l : AnyLine) (xs : List Point) : Type 0 where
  pub slow : Point
  pub fast : Point
  pub slow_in : In slow xs
  pub fast_in : In fast xs
  pub slow_on : On l slow
  pub fast_on : On l fast
  pub apart : slow.s <ℤ fast.s
