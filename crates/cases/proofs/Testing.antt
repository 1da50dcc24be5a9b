-- The test of a line over shots that are written out, from each shot, one by one.
--   OnPasses   if this point is on the line, neither of its rates is below 0
--   passes     the line passes the test where this holds of each shot
--   fine       it holds where neither rate is below 0
use Rattle.std.proofs.Common.{List, pos, ◌≤ℤ◌}
use Rattle.shots.specs.Prices.{even}
use Rattle.shots.specs.declared.shot.Shot.{Shot}
use Rattle.lines.specs.Lines.{AnyLine, any}
use Rattle.lines.specs.declared.line.Line.{Line}
use Rattle.theory.specs.Points.{Point, On}
use Rattle.theory.specs.Rates.{rise_of, fall_of, Passing, Passes}
use Rattle.fit.specs.Points.{points}
use Rattle.cases.proofs.Each.{Each, each}

abbrev OnPasses : AnyLine → List Point → Point → Type 0
OnPasses l xs z = On l z → Passing l xs z

pub passes : (l : Line) (xs : List Shot) → Each (OnPasses (any l) (points even xs)) (points even xs) → Passes (any l) (points even xs)
passes l xs all = each (OnPasses (any l) (points even xs)) (points even xs) all

pub fine : {l : AnyLine} {xs : List Point} {z : Point} → pos 0 ≤ℤ rise_of l xs z → pos 0 ≤ℤ fall_of l xs z → OnPasses l xs z
fine r f on = record { rise = r; fall = f }
