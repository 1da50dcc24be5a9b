-- Lines of one known slope b / a: keys, pulls, and the offset at which they balance.
--   offset           the key of a point: the c of the line of that slope through it
--   sloped           the line of that slope with offset c
--   u_above          a point's u, where its key is above c; else 0
--   v_up_to          a point's v, where its key is at or below c; else 0
--   HoldsAt          the u above c add up to at most the v at or below it
--   BalancedOffset   c is the lowest key at which this holds (weighted quantile)
-- Assumes nothing.
use Rattle.std.specs.Prelude.{◌≡◌, cond, List, ℤ, pos, ◌-ℤ◌, ◌*ℤ◌, ◌≤ℤ◌, ◌<ℤ◌, int_lt}
use Rattle.lines.specs.Lines.{AnyLine}
use Rattle.lines.specs.Sums.{sum_z}
use Rattle.theory.specs.Points.{Point, In}

unfoldable pub offset : ℤ → ℤ → Point → ℤ
offset a b y = a *ℤ y.h -ℤ b *ℤ y.s

unfoldable pub sloped : ℤ → ℤ → ℤ → AnyLine
sloped a b c = record { a = a; b = b; c = c }

unfoldable pub u_above : ℤ → ℤ → ℤ → Point → ℤ
u_above a b c y = cond (int_lt c (offset a b y)) (pos y.u) (pos 0)

unfoldable pub v_up_to : ℤ → ℤ → ℤ → Point → ℤ
v_up_to a b c y = cond (int_lt c (offset a b y)) (pos 0) (pos y.v)

abbrev pub HoldsAt : ℤ → ℤ → List Point → ℤ → Type 0
HoldsAt a b xs c = sum_z (u_above a b c) xs ≤ℤ sum_z (v_up_to a b c) xs

pub record BalancedOffset (a b : ℤ) (xs : List Point) (c : ℤ) : Type 0 where
  pub it : Point
  pub inside : In it xs
  pub key : offset a b it ≡ c
  pub holds : HoldsAt a b xs c
  pub lowest : (y : Point) → In y xs → offset a b y <ℤ c → HoldsAt a b xs (offset a b y) → ⊥
