-- Pairs of points, and how many of their lines are cheaper than a line.
--   through         the line through z and y, its numbers not reduced
--   beats           1 where the two points differ in speed and the line through them is cheaper than l; else 0
--   sum_n           the sum of f over a list
--   tally           the sum of f over the pairs of places i < j of a list
--   cheaper_pairs   the number of pairs of places with different speeds whose line is cheaper than l
-- Assumes nothing.
use Rattle.std.specs.Prelude.{ℕ, ◌+◌, cond, List, [], ◌∷◌, pos, ◌-ℤ◌, ◌*ℤ◌, int_lt}
use Rattle.lines.specs.Lines.{AnyLine}
use Rattle.theory.specs.Points.{Point, total}
use Rattle.theory.specs.Turning.{run, num}

unfoldable pub through : Point → Point → AnyLine
through z y = record { a = run z y; b = num z y; c = run z y *ℤ z.h -ℤ num z y *ℤ z.s }

abbrev pub sum_n : {T : Type 0} → (T → ℕ) → List T → ℕ
sum_n f [] = 0
sum_n f (x ∷ xs) = f x + sum_n f xs

abbrev pub tally : {T : Type 0} → (T → T → ℕ) → List T → ℕ
tally f [] = 0
tally f (x ∷ xs) = sum_n (f x) xs + tally f xs

unfoldable pub beats : AnyLine → List Point → Point → Point → ℕ
beats l xs x y = cond (int_lt (pos 0) (run x y)) (cond (int_lt (l.a *ℤ total (through x y) xs) (run x y *ℤ total l xs)) 1 0) 0

unfoldable pub cheaper_pairs : AnyLine → List Point → ℕ
cheaper_pairs l xs = tally (beats l xs) xs
