-- The rows of the shots on a line.
--   on_line     how many shots of a list are on the line
--   row_for     the row of a shot z at place i: its place, and its rise and fall rate against all shots xs
--   rows_from   the rows of the shots ys that stand from place i on, without those off the line
--   rows_of     the rows of a list of shots, in order of place: one for each shot on the line
--   RowAt       the answer to a question for the row of the shot at a place: none where it is off the line
--   Written     the answer, and the table after it: as many rows as there are shots on the line, then the table as it
--               was beyond them; or none, and the table as it was, where it is too short
-- Assumes nothing.
use Rattle.std.specs.Prelude.{◌≡◌, ℕ, suc, ◌+◌, ◌<◌, ◌≤◌, cond, List, [], ◌∷◌, ◌++◌, length, drop, ℤ, pos, Some, None, Option, int_lt, slice_index_or}
use Rattle.shots.specs.declared.shot.Shot.{Shot}
use Rattle.lines.specs.Lines.{miss_of, On}
use Rattle.lines.specs.declared.line.Line.{Line}
use Rattle.fit.specs.Rates.{rise_at, fall_at}
use Rattle.slips.specs.declared.row.Row.{Row}

abbrev pub on_line : Line → List Shot → ℕ
on_line l [] = 0
on_line l (z ∷ xs) = cond (int_lt (pos 0) (miss_of l z)) (on_line l xs) (cond (int_lt (miss_of l z) (pos 0)) (on_line l xs) (suc (on_line l xs)))

abbrev pub row_for : (ℤ → ℕ × ℕ) → Line → List Shot → ℕ → Shot → Row
row_for tariff l xs i z = record { place = i; rise = rise_at tariff l xs z; fall = fall_at tariff l xs z }

abbrev pub rows_from : (ℤ → ℕ × ℕ) → Line → List Shot → ℕ → List Shot → List Row
rows_from tariff l xs i [] = []
rows_from tariff l xs i (z ∷ ys) = cond (int_lt (pos 0) (miss_of l z)) (rows_from tariff l xs (i + 1) ys) (cond (int_lt (miss_of l z) (pos 0)) (rows_from tariff l xs (i + 1) ys) (row_for tariff l xs i z ∷ rows_from tariff l xs (i + 1) ys))

abbrev pub rows_of : (ℤ → ℕ × ℕ) → Line → List Shot → List Row
rows_of tariff l xs = rows_from tariff l xs 0 xs

abbrev pub RowAt : (ℤ → ℕ × ℕ) → Line → List Shot → ℕ → Option Row → Type 0
RowAt tariff l xs i (Some r) = (z : Shot) × (z ≡ slice_index_or xs i z) × On l z × (r ≡ row_for tariff l xs i z)
RowAt tariff l xs i None = (z : Shot) → z ≡ slice_index_or xs i z → On l z → ⊥

abbrev pub Written : (ℤ → ℕ × ℕ) → Line → List Shot → List Row → Option ℕ → List Row → Type 0
Written tariff l xs before (Some k) after = (k ≡ on_line l xs) × (k ≤ length before) × (after ≡ rows_of tariff l xs ++ drop k before)
Written tariff l xs before None after = (length before < on_line l xs) × (after ≡ before)
