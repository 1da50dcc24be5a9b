-- The theorems, over every list of points and all rivals. Each is what one function of the crate promises.
-- Assumes nothing.
use Rattle.std.specs.Prelude.{◌≡◌, ◌-◌, ◌*◌, ◌/◌, ◌<◌, List, length, ℤ, pos, ◌+ℤ◌, ◌*ℤ◌, ◌≤ℤ◌, ◌<ℤ◌}
use Rattle.lines.specs.Lines.{AnyLine}
use Rattle.lines.specs.Sums.{sum_z}
use Rattle.theory.specs.Points.{Point, total, In, On, Weighty, IsRival, Cheaper, Cheapest, Spans}
use Rattle.theory.specs.Rates.{rise_of, fall_of, Failing, Passes, spread}
use Rattle.theory.specs.Turning.{Other, Balanced, Turned}
use Rattle.theory.specs.Slopes.{OneSided}
use Rattle.theory.specs.Pairs.{cheaper_pairs}
use Rattle.theory.specs.Offsets.{sloped, BalancedOffset}

-- a line through two speeds passes the test exactly when no line is cheaper
abbrev pub TestPassesExactlyWhenCheapest : Type 0
TestPassesExactlyWhenCheapest =
    (l : AnyLine) (xs : List Point) → IsRival l → Spans l xs → (Passes l xs → Cheapest l xs) × (Cheapest l xs → Passes l xs)

-- the turned line about a point that fails is strictly cheaper than the line before
abbrev pub TurnIsStrictlyCheaper : Type 0
TurnIsStrictlyCheaper =
    (l m : AnyLine) (xs : List Point) (z : Point) → IsRival l → On l z → Failing l xs z → Balanced xs z m → Cheaper m l xs

-- the turned line runs through its point and one of another speed, and of all lines through its point none is cheaper, and each of lower slope is dearer
abbrev pub TurnIsTheLowestCheapest : Type 0
TurnIsTheLowestCheapest = (m : AnyLine) (xs : List Point) (z : Point) → Balanced xs z m → Turned xs z m

-- a point can be turned about where the list has another speed
abbrev pub TurnExists : Type 0
TurnExists = (xs : List Point) (z y : Point) → In y xs → Other z y → (m : AnyLine) × Balanced xs z m

-- a turn about a failing point leaves fewer pairs whose line is cheaper
abbrev pub TurnLowersTheCount : Type 0
TurnLowersTheCount =
    (l m : AnyLine) (xs : List Point) (z : Point) → IsRival l → In z xs → On l z → Failing l xs z → Balanced xs z m
    → cheaper_pairs m xs < cheaper_pairs l xs

-- a line through two speeds has fewer cheaper pairs than there are pairs
abbrev pub CountIsBounded : Type 0
CountIsBounded = (l : AnyLine) (xs : List Point) → IsRival l → Spans l xs → cheaper_pairs l xs < length xs * (length xs - 1) / 2

-- the rates of a point are the one-sided slopes of the cost of the lines through it
abbrev pub RatesAreOneSidedSlopes : Type 0
RatesAreOneSidedSlopes = (l m : AnyLine) (xs : List Point) (z : Point) → IsRival l → IsRival m → On l z → On m z → OneSided l m xs z

-- rise and fall of a point add up to the spread of the points on the line
abbrev pub RatesAddUp : Type 0
RatesAddUp = (l : AnyLine) (xs : List Point) (z : Point) → rise_of l xs z +ℤ fall_of l xs z ≡ sum_z (spread l z) xs

-- of all lines of one slope, over all rational offsets d / k, none is cheaper than the line at the balanced offset, and each of lower offset is dearer
abbrev pub BalancedOffsetIsLowestCheapest : Type 0
BalancedOffsetIsLowestCheapest =
    (a b c : ℤ) (xs : List Point) → pos 1 ≤ℤ a → BalancedOffset a b xs c → (k d : ℤ) → pos 1 ≤ℤ k
    → ((k *ℤ total (sloped a b c) xs) ≤ℤ total (sloped (k *ℤ a) (k *ℤ b) d) xs)
    × (Weighty xs → d <ℤ (k *ℤ c) → (k *ℤ total (sloped a b c) xs) <ℤ total (sloped (k *ℤ a) (k *ℤ b) d) xs)
