-- The line to begin with.
--   OneSpeed    all shots have the speed of the first
--   LaidFirst   the line through the shot at place 0 and the first shot of another speed
--   FirstLine   the answer: that line, or none where there is but one speed, or no shot
-- Assumes nothing.
use Rattle.std.specs.Prelude.{◌≡◌, ℕ, ◌<◌, List, length, Some, None, Option, slice_index_or}
use Rattle.shots.specs.declared.shot.Shot.{Shot}
use Rattle.lines.specs.Through.{Laid}
use Rattle.lines.specs.declared.line.Line.{Line}

-- each of the first k shots has the speed of x
abbrev pub SameSpeed : List Shot → Shot → ℕ → Type 0
SameSpeed xs x k = (j : ℕ) (y : Shot) → j < k → y ≡ slice_index_or xs j y → y.speed ≡ x.speed

abbrev pub OneSpeed : List Shot → Type 0
OneSpeed xs = (x : Shot) → 0 < length xs → x ≡ slice_index_or xs 0 x → SameSpeed xs x (length xs)

pub record LaidFirst (xs : List Shot) (l : Line) : Type 0 where
  pub first : Shot
  pub first_is : first ≡ slice_index_or xs 0 first
  pub place : ℕ
  pub inside : place < length xs
  pub other : Shot
  pub other_is : other ≡ slice_index_or xs place other
  pub before : SameSpeed xs first place
  pub laid : Laid first other l

abbrev pub FirstLine : List Shot → Option Line → Type 0
FirstLine xs (Some l) = LaidFirst xs l
FirstLine xs None = OneSpeed xs
