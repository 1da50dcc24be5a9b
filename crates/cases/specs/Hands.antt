-- A life that a caller makes by its own calls.
--   OwnLife   there is a past of these calls, newest first, that keeps the law, and the answer to its last call, an issue, is its newest
-- Assumes nothing.
use Rattle.std.specs.Prelude.{◌≡◌, ℕ, List, map, ℤ, Result}
use Rattle.shots.specs.declared.refusal.Refusal.{Refusal}
use Rattle.law.specs.declared.kinds.Call.{Call}
use Rattle.law.specs.declared.kinds.Moment.{Moment}
use Rattle.law.specs.Lives.{in_force_by, Promises}
use Rattle.sheet.specs.Sheets.{line_on}
use Rattle.sheet.specs.declared.pass.Pass.{Pass}

pub record OwnLife (tariff : ℤ → ℕ × ℕ) (cap : ℕ) (calls : List Call) (r : Result Pass Refusal) : Type 0 where
  pub past : List Moment
  pub called : map (λ m. m.call) past ≡ calls
  pub kept : Promises tariff cap past
  pub last : line_on r ≡ in_force_by past
