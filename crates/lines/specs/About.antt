-- The line of a given slope through a shot.
--   Fits    the slope's terms are in the ranges of a line's A and B
--   About   the answer: the line of that slope with the shot on it, or none where the slope does not fit
-- Assumes nothing.
use Rattle.std.specs.Prelude.{◌≡◌, pos, negsuc, ◌≤ℤ◌, Some, None, Option}
use Rattle.shots.specs.declared.shot.Shot.{Shot}
use Rattle.lines.specs.Lines.{On}
use Rattle.lines.specs.declared.line.Line.{Line}
use Rattle.lines.specs.declared.slope.Slope.{Slope}

pub record Fits (t : Slope) : Type 0 where
  pub fine : t.run ≤ℤ pos 3999
  pub fall : negsuc 15999 ≤ℤ t.rise
  pub rise : t.rise ≤ℤ pos 16000

abbrev pub About : Shot → Slope → Option Line → Type 0
About z t (Some l) = (l.a ≡ t.run) × (l.b ≡ t.rise) × On l z
About z t None = Fits t → ⊥
