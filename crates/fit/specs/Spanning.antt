-- Lines through two speeds.
--   NoneOn      no shot of the list is on the line
--   SpeedOn     a shot of this speed is on the line
--   OnOther     a shot of another speed than this is on the line
--   TwoSpeeds   two shots of different speeds are on the line
--   SpansAll    the same of the shots as points, whatever the prices
-- Assumes nothing.
use Rattle.std.specs.Prelude.{◌≡◌, ℕ, ◌<◌, Bool, List, length, ℤ, Decides, slice_index_or}
use Rattle.shots.specs.declared.shot.Shot.{Shot}
use Rattle.lines.specs.Lines.{any, On}
use Rattle.lines.specs.declared.line.Line.{Line}
use Rattle.theory.specs.Points.{Spans}
use Rattle.fit.specs.Points.{points}

-- a shot of the list, at a place
pub record Member (xs : List Shot) (z : Shot) : Type 0 where
  pub place : ℕ
  pub inside : place < length xs
  pub is : z ≡ slice_index_or xs place z

abbrev pub NoneOn : Line → List Shot → Type 0
NoneOn l xs = (z : Shot) → Member xs z → On l z → ⊥

pub record SpeedOn (l : Line) (xs : List Shot) (v : ℕ) : Type 0 where
  pub shot : Shot
  pub member : Member xs shot
  pub on : On l shot
  pub speed : shot.speed ≡ v

pub record OnOther (l : Line) (xs : List Shot) (v : ℕ) : Type 0 where
  pub shot : Shot
  pub member : Member xs shot
  pub on : On l shot
  pub other : shot.speed ≡ v → ⊥

pub record TwoSpeeds (l : Line) (xs : List Shot) : Type 0 where
  pub one : Shot
  pub two : Shot
  pub one_in : Member xs one
  pub two_in : Member xs two
  pub one_on : On l one
  pub two_on : On l two
  pub apart : one.speed ≡ two.speed → ⊥

abbrev pub SpansAll : Line → List Shot → Bool → Type 0
SpansAll l xs r = (tariff : ℤ → ℕ × ℕ) → Decides r (Spans (any l) (points tariff xs))
