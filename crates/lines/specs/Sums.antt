-- Sums of whole numbers.
--   sum_z   the sum of f over a list
-- Assumes nothing.
use Rattle.std.specs.Prelude.{List, [], ◌∷◌, ℤ, pos, ◌+ℤ◌}

abbrev pub sum_z : {T : Type 0} → (T → ℤ) → List T → ℤ
sum_z f [] = pos 0
sum_z f (x ∷ xs) = f x +ℤ sum_z f xs
