-- How a sheet stands to the life that led to it.
--   Sound             the stage's line runs through two held speeds; in force, it also passes the test
--   Last              the stage's line is the one last answered
--   hand_of           the stage's line
--   left              how many pivots that settle are left
--   left_moves        how many pivots that move are left
--   Tied              how a view is tied to its past
--   Life              the promises of the past, and the tie
--   at                the moment that a call with its answer makes of a view
--   Called            what a call did, and that it carries every life on
--   TurnsCarryLives   a bare sheet with no shot begins a life, and each call carries every life on
-- Assumes nothing.
use Rattle.std.specs.Prelude.{◌≡◌, ℕ, suc, ◌+◌, ◌-◌, ◌≤◌, List, [], ◌∷◌, length, ℤ, Some, None, Option}
use Rattle.shots.specs.declared.shot.Shot.{Shot}
use Rattle.lines.specs.Lines.{any}
use Rattle.lines.specs.declared.line.Line.{Line}
use Rattle.theory.specs.Pairs.{cheaper_pairs}
use Rattle.theory.specs.Rates.{Passes}
use Rattle.fit.specs.Points.{points}
use Rattle.fit.specs.Spanning.{TwoSpeeds}
use Rattle.law.specs.declared.stage.Stage.{Stage}
use Rattle.law.specs.declared.stage.Stage.TheVariants.{Bare, Trying, InForce}
use Rattle.law.specs.declared.kinds.Call.{Call}
use Rattle.law.specs.declared.kinds.Reply.{Reply}
use Rattle.law.specs.declared.kinds.Moment.{Moment}
use Rattle.law.specs.Views.{View, in_force}
use Rattle.law.specs.Turns.{Turn}
use Rattle.law.specs.Lives.{held_by, in_force_by, last_by, AtHand, settling, moving, count_by, pairs, Promises}
use Rattle.law.specs.Places.{cheaper_places}

abbrev pub Sound : (ℤ → ℕ × ℕ) → List Shot → Stage → Type 0
Sound tariff xs Bare = Unit {0}
Sound tariff xs (Trying l) = TwoSpeeds l xs
Sound tariff xs (InForce l) = TwoSpeeds l xs × Passes (any l) (points tariff xs)

abbrev pub Last : Stage → Option Line → Type 0
Last Bare o = Unit {0}
Last (Trying l) o = o ≡ Some l
Last (InForce l) o = o ≡ Some l

abbrev pub hand_of : Stage → Option Line
hand_of Bare = None
hand_of (Trying l) = Some l
hand_of (InForce l) = Some l

abbrev pub left : (ℤ → ℕ × ℕ) → List Shot → Stage → ℕ
left tariff xs Bare = suc (pairs (length xs))
left tariff xs (Trying l) = suc (cheaper_pairs (any l) (points tariff xs))
left tariff xs (InForce l) = 0

abbrev pub left_moves : (ℤ → ℕ × ℕ) → List Shot → Stage → ℕ
left_moves tariff xs Bare = length xs - 1
left_moves tariff xs (Trying l) = cheaper_places (any l) (points tariff xs) - 1
left_moves tariff xs (InForce l) = 0

pub record Tied (past : List Moment) (v : View) : Type 0 where
  pub held : v.held ≡ held_by past
  pub sound : Sound v.tariff v.held v.stage
  pub pass : in_force_by past ≡ in_force v.stage
  pub last : Last v.stage (last_by past)
  pub hand : AtHand past (hand_of v.stage)
  pub few : (count_by settling past + left v.tariff v.held v.stage) ≤ suc (pairs (length v.held))
  pub fewer : (count_by moving past + left_moves v.tariff v.held v.stage) ≤ (length v.held - 1)

pub record Life (past : List Moment) (v : View) : Type 0 where
  pub kept : Promises v.tariff v.capacity past
  pub tied : Tied past v

abbrev pub at : Call → Reply → View → Moment
at c r w = record { call = c; reply = r; pass = in_force w.stage }

pub record Called (c : Call) (r : Reply) (v w : View) : Type 0 where
  pub turn : Turn c r v w
  pub life : (past : List Moment) → Life past v → Life (at c r w ∷ past) w

pub record TurnsCarryLives : Type 0 where
  pub begins : (v : View) → v.held ≡ [] → v.stage ≡ Bare → Life [] v
  pub carries : (past : List Moment) (c : Call) (r : Reply) (v w : View) → Turn c r v w → Life past v → Life (at c r w ∷ past) w
