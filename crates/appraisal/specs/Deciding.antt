-- The verdict on a card, at even prices.
--   Shown     the place is the first that fails, with its two rates, and the line through it is cheaper, with its T
--   Verdict   cheapest, where two speeds are on the line and no line is cheaper; else such a place and line; untested where the test does not apply
-- Assumes nothing.
use Rattle.std.specs.Prelude.{◌≡◌, ℕ, List}
use Rattle.shots.specs.Prices.{even}
use Rattle.shots.specs.declared.shot.Shot.{Shot}
use Rattle.lines.specs.Lines.{any, Reads}
use Rattle.lines.specs.declared.line.Line.{Line}
use Rattle.theory.specs.Points.{Cheapest as IsCheapest, Cheaper as IsCheaper}
use Rattle.theory.specs.Turning.{Turned}
use Rattle.fit.specs.Points.{point, points}
use Rattle.fit.specs.Rates.{rise_at, fall_at}
use Rattle.fit.specs.Spanning.{TwoSpeeds}
use Rattle.fit.specs.Testing.{First}
use Rattle.fit.specs.Totals.{total_of}
use Rattle.slips.specs.declared.row.Row.{Row}
use Rattle.appraisal.specs.declared.answer.CheaperLine.{CheaperLine}
use Rattle.appraisal.specs.declared.answer.Answer.{Answer}
use Rattle.appraisal.specs.declared.answer.Answer.TheVariants.{Refused, Judged, Total, Cheapest, NotCheapest, Untested}

pub record Shown (xs : List Shot) (l : Line) (k : ℕ) (at : Row) (by : CheaperLine) : Type 0 where
  pub first : First even l xs k
  pub rise_is : at.rise ≡ rise_at even l xs first.shot
  pub fall_is : at.fall ≡ fall_at even l xs first.shot
  pub line : Line
  pub numbers : Reads line by.a by.b by.c
  pub turned : Turned (points even xs) (point even first.shot) (any line)
  pub cheaper : IsCheaper (any line) (any l) (points even xs)
  pub total : by.total ≡ total_of even line xs

abbrev pub Verdict : List Shot → Line → Answer → Type 0
Verdict xs l (Refused e n) = ⊥
Verdict xs l (Judged place side miss) = ⊥
Verdict xs l (Total t a q) = ⊥
Verdict xs l Cheapest = TwoSpeeds l xs × IsCheapest (any l) (points even xs)
Verdict xs l (NotCheapest at by) = TwoSpeeds l xs × Shown xs l at.place at by
Verdict xs l Untested = TwoSpeeds l xs → ⊥
