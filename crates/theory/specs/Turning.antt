-- The turn of a line about a point z: keys, pulls, and the slope at which they balance.
--   run, num             the key of y about z, the slope of the line through both, is the fraction num / run; run is at least 0, and 0 at z's own speed
--   Other                y has another speed than z, so that it has a key
--   pull_p, pull_q       how hard y pulls from above, and from at or below; 0 at z's own speed
--   KeyAbove, KeyBelow   the key of y is above, or below, the slope b / a
--   p_above              y's pull p, where its key is above the slope b / a; else 0
--   q_up_to              y's pull q, where its key is at or below the slope b / a; else 0
--   Holds                the p above the slope add up to at most the q at or below it
--   Balanced             the line m through z has the balance slope: the lowest key at which this holds (weighted quantile)
--   SpansFrom            the line runs through z and a point of the list of another speed
--   CheapestThrough      no line through z is cheaper
--   LowestThrough        each line through z of lower slope is dearer
--   Turned               what the turned line is: it runs through z and another speed, and is the lowest of the cheapest lines through z
-- Assumes nothing.
use Rattle.std.specs.Prelude.{◌≡◌, cond, List, ℤ, pos, ◌-ℤ◌, ◌*ℤ◌, ◌≤ℤ◌, ◌<ℤ◌, int_lt}
use Rattle.lines.specs.Lines.{AnyLine}
use Rattle.lines.specs.Sums.{sum_z}
use Rattle.theory.specs.Points.{Point, In, On, Weighty, IsRival, Cheaper, AtMost, Spans}

unfoldable pub run : Point → Point → ℤ
run z y = cond (int_lt z.s y.s) (y.s -ℤ z.s) (z.s -ℤ y.s)

unfoldable pub num : Point → Point → ℤ
num z y = cond (int_lt z.s y.s) (y.h -ℤ z.h) (z.h -ℤ y.h)

abbrev pub Other : Point → Point → Type 0
Other z y = pos 0 <ℤ run z y

unfoldable pub pull_p : Point → Point → ℤ
pull_p z y = cond (int_lt z.s y.s) (pos y.u *ℤ (y.s -ℤ z.s)) (pos y.v *ℤ (z.s -ℤ y.s))

unfoldable pub pull_q : Point → Point → ℤ
pull_q z y = cond (int_lt z.s y.s) (pos y.v *ℤ (y.s -ℤ z.s)) (pos y.u *ℤ (z.s -ℤ y.s))

abbrev pub KeyAbove : ℤ → ℤ → Point → Point → Type 0
KeyAbove a b z y = (b *ℤ run z y) <ℤ (a *ℤ num z y)

abbrev pub KeyBelow : ℤ → ℤ → Point → Point → Type 0
KeyBelow a b z y = (a *ℤ num z y) <ℤ (b *ℤ run z y)

unfoldable pub p_above : ℤ → ℤ → Point → Point → ℤ
p_above a b z y = cond (int_lt (b *ℤ run z y) (a *ℤ num z y)) (pull_p z y) (pos 0)

unfoldable pub q_up_to : ℤ → ℤ → Point → Point → ℤ
q_up_to a b z y = cond (int_lt (b *ℤ run z y) (a *ℤ num z y)) (pos 0) (pull_q z y)

abbrev pub Holds : List Point → Point → ℤ → ℤ → Type 0
Holds xs z a b = sum_z (p_above a b z) xs ≤ℤ sum_z (q_up_to a b z) xs

pub record Balanced (xs : List Point) (z : Point) (m : AnyLine) : Type 0 where
  pub rival : IsRival m
  pub on : On m z
  pub it : Point
  pub inside : In it xs
  pub other : Other z it
  pub key : m.a *ℤ num z it ≡ m.b *ℤ run z it
  pub holds : Holds xs z m.a m.b
  pub lowest : (y : Point) → In y xs → Other z y → KeyBelow m.a m.b z y → Holds xs z (run z y) (num z y) → ⊥

pub record SpansFrom (l : AnyLine) (xs : List Point) (z : Point) : Type 0 where
  pub on : On l z
  pub it : Point
  pub inside : In it xs
  pub it_on : On l it
  pub other : Other z it

abbrev pub CheapestThrough : Point → AnyLine → List Point → Type 0
CheapestThrough z m xs = (n : AnyLine) → IsRival n → On n z → AtMost m n xs

abbrev pub LowestThrough : Point → AnyLine → List Point → Type 0
LowestThrough z m xs = (n : AnyLine) → IsRival n → On n z → (n.b *ℤ m.a) <ℤ (m.b *ℤ n.a) → Cheaper m n xs

pub record Turned (xs : List Point) (z : Point) (m : AnyLine) : Type 0 where
  pub spans_from : SpansFrom m xs z
  pub spans : In z xs → Spans m xs
  pub cheapest : CheapestThrough z m xs
  pub lowest : Weighty xs → LowestThrough z m xs
