-- A life that led to a sheet gives the law at the prices and the capacity that it began with.
use Rattle.std.proofs.Common.{◌≡◌, ℕ, List, map, ℤ, Result, subst₂}
use Rattle.shots.specs.declared.refusal.Refusal.{Refusal}
use Rattle.law.specs.declared.kinds.Call.{Call}
use Rattle.law.specs.declared.kinds.Moment.{Moment}
use Rattle.law.specs.Lives.{in_force_by, Promises}
use Rattle.law.specs.Ties.{Life}
use Rattle.law.specs.Views.{View}
use Rattle.sheet.specs.Sheets.{line_on}
use Rattle.sheet.specs.declared.pass.Pass.{Pass}
use Rattle.cases.specs.Hands.{OwnLife}

-- the past is read off the life, so that no answer has to write it
pub gives : {past : List Moment} {v : View} {tariff : ℤ → ℕ × ℕ} {cap : ℕ} {calls : List Call} {r : Result Pass Refusal} → Life past v → v.tariff ≡ tariff → v.capacity ≡ cap → map (λ m. m.call) past ≡ calls → line_on r ≡ in_force_by past → OwnLife tariff cap calls r
gives {past} life prices room called last = record {
  past = past;
  called = called;
  kept = subst₂ (λ (f : ℤ → ℕ × ℕ) (k : ℕ). Promises f k past) prices room life.kept;
  last = last;
}
