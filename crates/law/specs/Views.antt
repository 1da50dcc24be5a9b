-- A sheet, as its calls see it.
--   View       the held shots, how many there is room for, the prices of each stuff, and the stage
--   in_force   the line that a stage has in force, if any
-- Assumes nothing.
use Rattle.std.specs.Prelude.{ℕ, List, ℤ, Some, None, Option}
use Rattle.shots.specs.declared.shot.Shot.{Shot}
use Rattle.lines.specs.declared.line.Line.{Line}
use Rattle.law.specs.declared.stage.Stage.{Stage}
use Rattle.law.specs.declared.stage.Stage.TheVariants.{Bare, Trying, InForce}

pub record View : Type 0 where
  pub held : List Shot
  pub capacity : ℕ
  pub tariff : ℤ → ℕ × ℕ
  pub stage : Stage

abbrev pub in_force : Stage → Option Line
in_force Bare = None
in_force (Trying l) = None
in_force (InForce l) = Some l
